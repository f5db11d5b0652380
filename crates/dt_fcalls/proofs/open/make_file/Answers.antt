use Rattle.std.proofs.Common.{sym, ◌∙◌}
use Rattle.dt_base.specs.declared.image.What.TheVariants.{File}
use Rattle.dt_callbase.specs.Sound.{stage, scene}
use Rattle.dt_tree.specs.Calls.{make_node_of}
use Rattle.dt_fcalls.proofs.Opening.{steps_done, file_made}
use Rattle.dt_fcalls.specs.Open.{file_creation}
use Rattle.dt_fcalls.proofs.open.make_file.Goals as goal

pub returns-in-Ok-clause-step : goal.returns-in-Ok-clause-step
returns-in-Ok-clause-step g c =
    let w = g.H.Host.view c.args.host.now in
    let s = scene (stage c.args.fs.now w c.args.caller.now c.args.space.now) in
    steps_done (file_creation c.args.mode c.args.place.now) c.args.fs.now c.make_node.new.self c.stamp.new.self w (g.H.Host.view c.make_node.new.host) c.args.caller.now c.args.space.now c.in-Ok.n _ _
    c.requires.sound c.in-Ok.ensures.stands c.in-Ok.ensures.held c.make_node.ensures.rest c.make_node.ensures.cause.later c.stamp.ensures.rest
    ((λ i. make_node_of s.tree c.args.place.now.parent (sym c.as_slice.ensures i) (File (sym (c.new-2.ensures ∙ c.new.ensures.items) i)) c.args.mode (sym c.next_stamp-stamp.ensures i)) ∙ c.in-Ok.ensures.done)

pub returns-in-Ok-clause-file : goal.returns-in-Ok-clause-file
returns-in-Ok-clause-file g c =
    let w = g.H.Host.view c.args.host.now in
    let s = scene (stage c.args.fs.now w c.args.caller.now c.args.space.now) in
    file_made _ _ c.args.place.now.parent c.as_slice.result.now c.args.mode c.next_stamp-stamp.result c.in-Ok.n c.requires.sound.stands.tree c.requires.new.is_dir
    ((λ i. make_node_of s.tree c.args.place.now.parent c.as_slice.result.now (File (sym (c.new-2.ensures ∙ c.new.ensures.items) i)) c.args.mode c.next_stamp-stamp.result) ∙ c.in-Ok.ensures.done)
