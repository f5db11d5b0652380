use Rattle.std.proofs.Common.{refl, sym, ap, arith}
use Rattle.dt_callbase.specs.Scene.{value_reply}
use Rattle.dt_callbase.specs.Sound.{stage, scene}
use Rattle.dt_callbase.proofs.Kept.{reaches_kept}
use Rattle.dt_fcalls.proofs.nodes.set_mode.Goals as goal

pub returns : goal.returns
returns g c =
    let w = g.H.Host.view c.args.host.now in
    let s = scene (stage c.args.fs.now w c.args.caller.now c.args.space.now) in
    reaches_kept _ c.args.fs.now c.set_mode.new.self c.args.fs.now.clock w w c.args.caller.now c.args.space.now _ _ _
    c.requires.sound c.set_mode.ensures.stands c.set_mode.ensures.held
    (record { pipes = refl; pids = refl }) (omega arith)
    (ap (λ t. value_reply (record s { tree = t }) 0) (sym c.set_mode.ensures.tree))
