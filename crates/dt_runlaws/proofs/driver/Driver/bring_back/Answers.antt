use Rattle.std.proofs.Common.{◌≡◌, ◌<◌, ◌≤◌, [], length, Some, ◌∙◌, arith}
use Rattle.std.specs.Prelude.{slice_get}
use Rattle.std.proofs.lemmas.List.{length-map}
use Rattle.dt_runlaws.specs.declared.driver.LentMachine.{LentMachine}
use Rattle.dt_engine.specs.InPlay.{playing_of}
use Rattle.dt_engine.proofs.Arriving.{run-counts}
use Rattle.dt_runlaws.specs.Driver.{lent_of}
use Rattle.dt_runlaws.proofs.Carries.{lent-is-away}
use Rattle.dt_runlaws.proofs.Points.{entry-past, return-not, return-at}
use Rattle.dt_runlaws.proofs.Steps.{nowhere, none-shown, return-shown, lent-item}
use Rattle.dt_runlaws.proofs.driver.Driver.bring_back.Goals as goal

pub ran-requires-clause-away : goal.ran-requires-clause-away
ran-requires-clause-away c =
    let f = c.args.self.now in
    let l = c.remove-lent.result in
    let within : c.args.index < length f.lent.items = omega (arith, c.if-len-index.false, c.len.ensures) in
    lent-is-away (playing_of f.engine nowhere) (lent_of f.lent.items) c.args.index l.vpid l.machine (c.requires.machines nowhere)
    (lent-item f.lent.items c.args.index l within c.remove-lent.ensures.value)

pub ran-requires-clause-count : goal.ran-requires-clause-count
ran-requires-clause-count c = run-counts _ _ c.in_ok-seg.seg c.in_ok-seg.ensures.run

pub returns-clause-driving : goal.returns-clause-driving
returns-clause-driving c =
    let f = c.args.self.now in
    let l = c.remove-lent.result in
    let within : c.args.index < length f.lent.items = omega (arith, c.if-len-index.false, c.len.ensures) in
    record {
      whole = c.ran.ensures.whole;
      machines = λ w.
          let shows = return-shown _ [] f.engine c.ran.new.self w f.lent.items _ c.args.index l _ c.in_ok-seg.seg
          (none-shown (playing_of f.engine w) (lent_of f.lent.items) (c.requires.machines w)) (lent-item f.lent.items c.args.index l within c.remove-lent.ensures.value)
          c.in_ok-seg.ensures.run (c.ran.ensures.run w) c.remove-lent.ensures.items in
          shows.machines;
      unfinished = c.ran.ensures.open ∙ c.requires.unfinished;
    }

pub returns-clause-shows : goal.returns-clause-shows
returns-clause-shows c = λ w all shown h.
    let f = c.args.self.now in
    let l = c.remove-lent.result in
    let within : c.args.index < length f.lent.items = omega (arith, c.if-len-index.false, c.len.ensures) in
    return-shown all shown f.engine c.ran.new.self w f.lent.items _ c.args.index l _ c.in_ok-seg.seg h
    (lent-item f.lent.items c.args.index l within c.remove-lent.ensures.value) c.in_ok-seg.ensures.run (c.ran.ensures.run w) c.remove-lent.ensures.items

pub returns-then-len-index-clause-at : goal.returns-then-len-index-clause-at
returns-then-len-index-clause-at c = λ w shown.
    let f = c.args.self.now in
    let same : length (lent_of f.lent.items) ≡ length f.lent.items = length-map f.lent.items (λ (l : LentMachine). (l.vpid, l.machine)) in
    let past : length (lent_of f.lent.items) ≤ c.args.index = omega (arith, c.if-len-index.true, c.len.ensures) in
    return-not f w shown c.args.index (entry-past (lent_of f.lent.items) c.args.index past)

pub returns-clause-at : goal.returns-clause-at
returns-clause-at c = λ w shown.
    let f = c.args.self.now in
    let l = c.remove-lent.result in
    let within : c.args.index < length f.lent.items = omega (arith, c.if-len-index.false, c.len.ensures) in
    let found : slice_get (lent_of f.lent.items) c.args.index ≡ Some (l.vpid, l.machine) =
    lent-item f.lent.items c.args.index l within c.remove-lent.ensures.value in
    return-at f c.ran.new.self _ w shown c.args.index l _ c.in_ok-seg.seg found c.in_ok-seg.ensures.run (c.ran.ensures.run w) c.remove-lent.ensures.items
