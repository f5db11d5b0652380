use Rattle.std.proofs.Common.{rules, ◌≡◌, subst}
use Rattle.dt_base.specs.Abi.{exit_code}
use Rattle.dt_base.specs.declared.abi.TheConstants.{A0}
use Rattle.dt_base.specs.declared.event.End.TheVariants.{Code}
use Rattle.dt_rv64.specs.Effects.{register}
use Rattle.dt_calls.specs.declared.container.Served.TheVariants.{Done}
use Rattle.dt_calls.specs.Call.{exit_call}
use Rattle.dt_calls.specs.Effect.{quiet_effect}
use Rattle.dt_calls.specs.Ends.{with_end}
use Rattle.dt_calls.specs.InCode.{shared_of}
use Rattle.dt_calls.specs.Sound.{HasEffect, left}
use Rattle.dt_calls.proofs.call.exit.exit.Goals as goal

pub returns : goal.returns
unfolding exit_call
returns g c =
    let shared = c.args.shared.now in
    let p = c.args.vpid in
    let m = c.args.machine.now in
    let before = shared_of shared (g.H.Host.view c.args.host.now) in
    let code : c.exit_code-code.result ≡ exit_code (register m A0) = search rules in
    subst (λ k. HasEffect p (with_end p (Code k) (quiet_effect before m Done)) shared (left c.ended.new.shared (g.H.Host.view c.ended.new.host) m) c.ended.result (g.H.Host.count c.args.host.now) (g.H.Host.count c.ended.new.host)) code
    (c.ended.ensures m)
