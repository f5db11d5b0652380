use Rattle.std.proofs.Common.{sym}
use Rattle.dt_callbase.specs.Scene.{tree_call_reply}
use Rattle.dt_callbase.specs.Sound.{stage, scene}
use Rattle.dt_callbase.proofs.Kept.{reaches_done, reaches_same}
use Rattle.dt_tree.specs.Calls.{drop_name_of}
use Rattle.dt_namecalls.proofs.unlink.drop_name.Goals as goal

pub returns-in-Ok : goal.returns-in-Ok
returns-in-Ok g c =
    let w = g.H.Host.view c.args.host.now in
    let s = scene (stage c.args.fs.now w c.args.caller.now c.args.space.now) in
    reaches_same _ _ _ _ _ _ _ (λ i. tree_call_reply s (drop_name_of s.tree c.args.place.now.parent (sym c.as_slice.ensures i) (sym c.next_stamp-stamp.ensures i)))
    (reaches_done _ c.args.fs.now c.drop_name.new.self c.stamp.new.self w (g.H.Host.view c.drop_name.new.host) c.args.caller.now c.args.space.now _ _ _
    c.requires.sound c.in-Ok.ensures.stands c.in-Ok.ensures.held c.drop_name.ensures.rest c.drop_name.ensures.cause.later c.stamp.ensures.rest c.in-Ok.ensures.done)
