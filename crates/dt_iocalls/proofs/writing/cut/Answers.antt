use Rattle.std.proofs.Common.{ap, sym, ◌∙◌, arith}
use Rattle.dt_tree.specs.Calls.{cut_of}
use Rattle.dt_tree.specs.Table.{tree_of}
use Rattle.dt_callbase.specs.Scene.{stamp}
use Rattle.dt_callbase.specs.Sound.{stage, scene}
use Rattle.dt_callbase.proofs.Kept.{reaches_done}
use Rattle.dt_iocalls.proofs.writing.cut.Goals as goal

pub returns-in-Ok : goal.returns-in-Ok
returns-in-Ok g c =
    let w = g.H.Host.view c.args.host.now in
    let call = cut_of (tree_of c.args.fs.now.tree w.forest) c.args.n c.args.len in
    reaches_done (call (stamp (scene (stage c.args.fs.now w c.args.caller.now c.args.space.now)))) c.args.fs.now c.cut.new.self c.stamp.new.self w (g.H.Host.view c.cut.new.host) c.args.caller.now c.args.space.now c.in-Ok.field-0 (g.H.Host.count c.args.host.now) (g.H.Host.count c.cut.new.host)
    c.requires.sound c.in-Ok.ensures.stands c.in-Ok.ensures.held c.cut.ensures.rest (omega (arith, c.cut.ensures.cause.later)) c.stamp.ensures.rest
    (ap call (sym c.next_stamp-stamp.ensures) ∙ c.in-Ok.ensures.done)
