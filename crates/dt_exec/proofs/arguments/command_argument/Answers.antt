use Rattle.dt_exec.specs.Arguments.{list_argument, command_argument}
use Rattle.dt_exec.proofs.Collected.{is_listed, args-too_big}
use Rattle.dt_exec.proofs.arguments.command_argument.Goals as goal

pub returns-in_default : goal.returns-in_default
unfolding command_argument
returns-in_default c =
    args-too_big (list_argument c.args.space.now c.args.argv) (list_argument c.args.space.now c.args.envp)
    (rw (c.in-Ok.is, c.in_default.is) at c.in_ok-args.ensures) (is_listed _ c.in-Ok-2.env (rw c.in-Ok-2.is at c.in_ok-env.ensures))
