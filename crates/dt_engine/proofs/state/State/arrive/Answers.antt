use Rattle.std.proofs.Common.{sym, ap, subst, ◌∙◌}
use Rattle.std.specs.Prelude.{IsSome}
use Rattle.std.specs.FinMap.{get, insert}
use Rattle.dt_engine.specs.declared.state.State.{State as StateInCode}
use Rattle.dt_engine.proofs.Arriving.{run-counts, owed, has_arrived, was_there, arrive-ran, arrive-good, arrive-sound, arrive-smaller}
use Rattle.dt_engine.proofs.Waited.{awake-arrived}
use Rattle.dt_engine.proofs.state.State.arrive.Goals as goal

pub run_segment-requires : goal.run_segment-requires
run_segment-requires c =
    let h = owed c.args.self.now c.args.vpid c.requires.good c.requires.core.each_once c.requires.owing in h.home

pub set-requires : goal.set-requires
set-requires c =
    let h = owed c.args.self.now c.args.vpid c.requires.good c.requires.core.each_once c.requires.owing in
    subst (λ n. IsSome (get c.args.self.now.stops n)) (sym c.from.ensures) h.noted

pub arrived-requires-clause-count : goal.arrived-requires-clause-count
arrived-requires-clause-count c = let run = c.in_ok-seg.ensures.run in run-counts run.was run.now c.in_ok-seg.seg run.run

pub returns-clause-ran : goal.returns-clause-ran
returns-clause-ran c = λ w.
    let s = c.args.self.now in
    let seg = c.in_ok-seg.seg in
    let new : StateInCode = record { container = c.run_segment.new.self; core = c.arrived.new.self; stops = c.set.new.self } in
    let h = owed s c.args.vpid c.requires.good c.requires.core.each_once c.requires.owing in
    let run = c.in_ok-seg.ensures.run in
    arrive-ran s w c.args.vpid run.was run.now seg new (was_there s c.args.vpid seg _ run) h.owes h.queued run.run
    (has_arrived s c.args.vpid seg new run c.in_ok-seg.ensures.rest c.arrived.ensures (c.set.ensures ∙ ap (λ n. insert s.stops n seg.stop) c.from.ensures))

pub returns-clause-good : goal.returns-clause-good
returns-clause-good c =
    let s = c.args.self.now in
    let seg = c.in_ok-seg.seg in
    let new : StateInCode = record { container = c.run_segment.new.self; core = c.arrived.new.self; stops = c.set.new.self } in
    let h = owed s c.args.vpid c.requires.good c.requires.core.each_once c.requires.owing in
    let run = c.in_ok-seg.ensures.run in
    arrive-good s c.args.vpid run.now seg new c.requires.good h.given
    (has_arrived s c.args.vpid seg new run c.in_ok-seg.ensures.rest c.arrived.ensures (c.set.ensures ∙ ap (λ n. insert s.stops n seg.stop) c.from.ensures))

pub returns-clause-sound : goal.returns-clause-sound
returns-clause-sound c = λ w sound.
    let s = c.args.self.now in
    let seg = c.in_ok-seg.seg in
    let new : StateInCode = record { container = c.run_segment.new.self; core = c.arrived.new.self; stops = c.set.new.self } in
    let h = owed s c.args.vpid c.requires.good c.requires.core.each_once c.requires.owing in
    let run = c.in_ok-seg.ensures.run in
    arrive-sound s w c.args.vpid run.now seg new h.home
    (has_arrived s c.args.vpid seg new run c.in_ok-seg.ensures.rest c.arrived.ensures (c.set.ensures ∙ ap (λ n. insert s.stops n seg.stop) c.from.ensures)) sound

pub returns-clause-smaller : goal.returns-clause-smaller
returns-clause-smaller c =
    arrive-smaller c.args.self.now.core c.arrived.new.self c.args.vpid c.in_ok-seg.seg.count c.requires.owing c.arrived.ensures

pub returns-clause-awake : goal.returns-clause-awake
returns-clause-awake c = λ awake.
    awake-arrived c.args.self.now.core c.arrived.new.self c.args.vpid c.in_ok-seg.seg.count c.arrived.ensures awake
