use Rattle.std.proofs.Common.{◌∙◌}
use Rattle.dt_calls.proofs.Held.{keeps-clock}
use Rattle.dt_calls.proofs.shared.Shared.jump.Goals as goal

pub returns-clause-kept : goal.returns-clause-kept
returns-clause-kept c = λ w sound.
    let first = keeps-clock c.args.self.now w sound c.reach.new.self in
    let then = c.fire.ensures.kept.kept w first.sound in
    record { sound = then.sound; tasks = λ q some. then.tasks q (first.tasks q some); next = then.next ∙ first.next }
