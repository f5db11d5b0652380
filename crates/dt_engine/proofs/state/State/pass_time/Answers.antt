use Rattle.std.proofs.Common.{refl, sym, ap, ◌∙◌}
use Rattle.dt_procs.specs.Table.{Table}
use Rattle.dt_sched.specs.Core.{CoreView}
use Rattle.dt_calls.specs.InCode.{ContainerView}
use Rattle.dt_engine.specs.declared.state.State.{State as StateInCode}
use Rattle.dt_engine.specs.InPlay.{steps_left}
use Rattle.dt_engine.proofs.Waited.{turn-wakes, turn-dies, same-kept, same-good, awake-woken, awake-dead}
use Rattle.dt_engine.proofs.state.State.pass_time.Goals as goal

-- a process waits for a point of time
pub returns-in-Some-clause-turned : goal.returns-in-Some-clause-turned
returns-in-Some-clause-turned c = λ w events.
    let s = c.args.self.now in
    let new : StateInCode = record { container = c.jump.new.self; core = c.resume.new.self; stops = s.stops } in
    turn-wakes s new w events _ c.requires.waits (sym c.earliest.ensures ∙ c.in-Some.is) (c.jump.ensures.jumped w) c.resume.ensures refl

pub returns-in-Some-clause-kept : goal.returns-in-Some-clause-kept
returns-in-Some-clause-kept c = λ kept.
    let s = c.args.self.now in
    let new : StateInCode = record { container = c.jump.new.self; core = c.resume.new.self; stops = s.stops } in
    same-kept s new (ap (λ (x : ContainerView). x.places) c.jump.ensures.rest) (ap (λ (t : Table). t.next) c.jump.ensures.pids)
    (ap (λ (x : CoreView). x.queue) c.resume.ensures) refl kept

pub returns-in-Some-clause-good : goal.returns-in-Some-clause-good
returns-in-Some-clause-good c = λ good.
    let s = c.args.self.now in
    let new : StateInCode = record { container = c.jump.new.self; core = c.resume.new.self; stops = s.stops } in
    same-good s new (ap (λ (x : ContainerView). x.places) c.jump.ensures.rest) (ap (λ (t : Table). t.next) c.jump.ensures.pids)
    (ap (λ (x : CoreView). x.queue) c.resume.ensures) refl good

pub returns-in-Some-clause-awake : goal.returns-in-Some-clause-awake
returns-in-Some-clause-awake c = awake-woken c.args.self.now.core c.resume.new.self c.requires.core c.requires.waits c.resume.ensures

pub returns-in-Some-clause-steps : goal.returns-in-Some-clause-steps
returns-in-Some-clause-steps c = ap steps_left c.resume.ensures

-- none does
pub returns-in-None-clause-turned : goal.returns-in-None-clause-turned
returns-in-None-clause-turned c = λ w events.
    turn-dies c.args.self.now w events c.requires.waits (sym c.earliest.ensures ∙ c.in-None.is) c.dead.new.self c.dead.ensures

pub returns-in-None-clause-kept : goal.returns-in-None-clause-kept
returns-in-None-clause-kept c = λ kept.
    let s = c.args.self.now in
    same-kept s (record s { core = c.dead.new.self }) refl refl (ap (λ (x : CoreView). x.queue) c.dead.ensures) refl kept

pub returns-in-None-clause-good : goal.returns-in-None-clause-good
returns-in-None-clause-good c = λ good.
    let s = c.args.self.now in
    same-good s (record s { core = c.dead.new.self }) refl refl (ap (λ (x : CoreView). x.queue) c.dead.ensures) refl good

pub returns-in-None-clause-awake : goal.returns-in-None-clause-awake
returns-in-None-clause-awake c = awake-dead c.args.self.now.core c.dead.new.self c.dead.ensures

pub returns-in-None-clause-steps : goal.returns-in-None-clause-steps
returns-in-None-clause-steps c = ap steps_left c.dead.ensures
