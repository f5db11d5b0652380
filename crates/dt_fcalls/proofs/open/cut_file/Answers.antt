use Rattle.std.proofs.Common.{sym, ◌∙◌}
use Rattle.dt_callbase.specs.Sound.{stage, scene}
use Rattle.dt_tree.specs.Calls.{cut_of}
use Rattle.dt_fcalls.proofs.Opening.{steps_done, file_cut}
use Rattle.dt_fcalls.specs.Open.{file_truncation}
use Rattle.dt_fcalls.proofs.open.cut_file.Goals as goal

pub returns-in-Ok-clause-step : goal.returns-in-Ok-clause-step
returns-in-Ok-clause-step g c =
    let w = g.H.Host.view c.args.host.now in
    let s = scene (stage c.args.fs.now w c.args.caller.now c.args.space.now) in
    steps_done (file_truncation c.args.n) c.args.fs.now c.cut.new.self c.stamp.new.self w (g.H.Host.view c.cut.new.host) c.args.caller.now c.args.space.now tt _ _
    c.requires.sound c.in-Ok.ensures.stands c.in-Ok.ensures.held c.cut.ensures.rest c.cut.ensures.cause.later c.stamp.ensures.rest
    ((λ i. cut_of s.tree c.args.n 0 (sym c.next_stamp-stamp.ensures i)) ∙ c.in-Ok.ensures.done)

pub returns-in-Ok-clause-file : goal.returns-in-Ok-clause-file
returns-in-Ok-clause-file g c = file_cut _ _ c.args.n 0 _ c.in-Ok.ensures.done
