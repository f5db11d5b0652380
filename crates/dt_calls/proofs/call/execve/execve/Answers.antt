use Rattle.std.proofs.Common.{sym, subst}
use Rattle.dt_host.specs.World.{IsDir}
use Rattle.dt_tree.specs.Table.{shape_of}
use Rattle.dt_calls.proofs.Held.{own-dir}
use Rattle.dt_calls.proofs.call.execve.execve.Goals as goal

pub execve_program-requires-clause-directory : goal.execve_program-requires-clause-directory
execve_program-requires-clause-directory g c =
    let shared = c.args.shared.now in
    let world = g.H.Host.view c.args.host.now in
    subst (IsDir (shape_of shared.fs.tree world.forest)) (sym c.cwd-cwd.ensures) (own-dir shared c.args.vpid world c.requires.sound c.requires.lives)
