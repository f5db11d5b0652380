use Rattle.std.proofs.Common.{◌≡◌, get_or, Err, refl, sym, ap, subst, ◌∙◌, arith}
use Rattle.std.specs.Prelude.{is_some, IfOk}
use Rattle.dt_host.proofs.Asking.{cause-from, passed_on}
use Rattle.dt_engine.specs.Run.{run_of}
use Rattle.dt_runlaws.specs.Shown.{HasWritten}
use Rattle.dt_runlaws.specs.Driver.{Point, first_point, point_of, point_after, point_after_all, point_after_admission, IsAt, HasReported}
use Rattle.dt_runlaws.proofs.Writes.{prefix-is-part}
use Rattle.dt_runlaws.proofs.Points.{next-rest, no-rest}
use Rattle.dt_runlaws.proofs.driver.drive.Goals as goal

pub loop-action-init : goal.loop-action-init
loop-action-init g c = record {
  point = first_point c.args.image.now c.args.command.now c.args.seed c.args.budget;
  driving = c.in_ok-driver.ensures.driving;
  at = c.in_ok-driver.ensures.at;
  reported = c.in_ok-driver.ensures.reported;
  rest = refl;
  host_later = omega (arith, c.begin.ensures.host.later);
  sink_later = omega (arith, c.begin.ensures.sink.later);
}

pub loop-action-preserved : goal.loop-action-preserved
loop-action-preserved g c =
    let l = c.loop-action in
    let w = g.H.Host.view l.host in
    let d = l.invariant.point in
    let action = get_or c.args.actions.now l.action-index _ in
    let before = point_of l.driver w d.shown in
    let is : before ≡ d = l.invariant.at in
    record {
      point = point_after action d;
      driving = c.in_ok-step.ensures.driving;
      at = subst (λ d. IsAt (point_after action d) c.step.new.self (g.H.Host.view c.step.new.host)) is (c.in_ok-step.ensures.at d.shown);
      reported = subst (λ d. let after = point_after action d in
          HasReported c.args.image.now.version (run_of c.args.image.now c.args.command.now c.args.seed c.args.budget) after.shown
          (g.O.Sink.told c.args.out.now) c.step.new.self (g.H.Host.view c.step.new.host) (g.O.Sink.told c.step.new.out)) is
          (c.in_ok-step.ensures.reported _ _ d.shown _ l.invariant.reported);
      rest = sym (next-rest c.args.actions.now l.action-index d _ c.loop-action-test.true) ∙ l.invariant.rest;
      host_later = omega (arith, l.invariant.host_later, c.step.ensures.host.later);
      sink_later = omega (arith, l.invariant.sink_later, c.step.ensures.sink.later);
    }

pub returns-in_err-step-clause-part : goal.returns-in_err-step-clause-part
returns-in_err-step-clause-part g c =
    let h = c.loop-action.invariant in
    let d = h.point in
    prefix-is-part _ _ d.shown _ _ (c.step.ensures.part _ _ d.shown _ h.reported)

pub returns-clause-completed : goal.returns-clause-completed
returns-clause-completed g c =
    let h = c.loop-action.invariant in let d = h.point in c.end.ensures.completed _ _ d.shown _ h.reported

pub returns-clause-shown : goal.returns-clause-shown
returns-clause-shown g c = λ none.
    let l = c.loop-action in
    let d = l.invariant.point in
    let last : d ≡ point_after_all c.args.actions.now (first_point c.args.image.now c.args.command.now c.args.seed c.args.budget) =
    sym (no-rest c.args.actions.now l.action-index d c.loop-action-test.false) ∙ l.invariant.rest in
    subst (λ d. let after = point_after_admission d in
    HasWritten c.args.image.now.version after.shown (g.O.Sink.told c.args.out.now) (g.O.Sink.told c.end.new.out)) (l.invariant.at ∙ last)
    (let done = c.end.ensures.reported _ _ d.shown _ l.invariant.reported none in done.wrote)

pub returns-clause-over : goal.returns-clause-over
returns-clause-over g c =
    let l = c.loop-action in
    let d = l.invariant.point in
    let last : d ≡ point_after_all c.args.actions.now (first_point c.args.image.now c.args.command.now c.args.seed c.args.budget) =
    sym (no-rest c.args.actions.now l.action-index d c.loop-action-test.false) ∙ l.invariant.rest in
    subst (λ (d : Point). IfOk c.end.result (λ ended. let after = point_after_admission d in is_some ended ≡ is_some after.playing.verdict))
    (l.invariant.at ∙ last) c.end.ensures.over

pub returns-clause-part : goal.returns-clause-part
returns-clause-part g c =
    let h = c.loop-action.invariant in
    let d = h.point in
    prefix-is-part _ _ d.shown _ _ (c.end.ensures.part _ _ d.shown _ h.reported)

pub returns-clause-host : goal.returns-clause-host
returns-clause-host g c = cause-from _ _ _ c.loop-action.invariant.host_later c.end.ensures.host

pub returns-clause-sink : goal.returns-clause-sink
returns-clause-sink g c = cause-from _ _ _ c.loop-action.invariant.sink_later c.end.ensures.sink

pub returns-in_err-step-clause-host : goal.returns-in_err-step-clause-host
returns-in_err-step-clause-host g c =
    cause-from _ _ _ c.loop-action.invariant.host_later (record {
      later = c.step.ensures.host.later;
      rose = λ failed. c.in_err-step.ensures.host.rose (ap Err (passed_on _ _ _ c.from_residual-in_err-step.ensures.1 failed));
    })

pub returns-in_err-step-clause-sink : goal.returns-in_err-step-clause-sink
returns-in_err-step-clause-sink g c =
    cause-from _ _ _ c.loop-action.invariant.sink_later (record {
      later = c.step.ensures.sink.later;
      rose = λ failed. c.in_err-step.ensures.sink.rose (ap Err (passed_on _ _ _ c.from_residual-in_err-step.ensures.1 failed));
    })
