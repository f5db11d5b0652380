use Rattle.std.proofs.Common.{◌<◌, Err, None, length, sym, ap, subst, ◌∙◌, arith}
use Rattle.dt_host.proofs.Asking.{cause-from, passed_on}
use Rattle.dt_calls.specs.InCode.{container_of}
use Rattle.dt_engine.specs.declared.state.State.{State}
use Rattle.dt_engine.specs.Playing.{playing_from}
use Rattle.dt_engine.proofs.Kept.{kept-good}
use Rattle.dt_engine.proofs.Ending.{first-state-is, first-good, launched-home}
use Rattle.dt_engine.proofs.Begun.{begun, over-playing, over-kept, over-awake, over-full}
use Rattle.dt_engine.proofs.Queueing.{good-full}
use Rattle.dt_engine.proofs.engine.Engine.start.Goals as goal

pub returns-in_err-launch-clause-cause : goal.returns-in_err-launch-clause-cause
returns-in_err-launch-clause-cause g c =
    let launched = c.in_err-launch.ensures.cause in
    cause-from _ _ _ c.install.ensures.cause.later (record {
      later = launched.later;
      rose = λ failed. launched.rose (ap Err (passed_on _ _ _ c.from_residual-in_err-launch.ensures.1 failed));
    })

-- a program that was started
pub returns-in_ok-new-in-Started-clause-run : goal.returns-in_ok-new-in-Started-clause-run
returns-in_ok-new-in-Started-clause-run g c =
    let now = g.H.Host.view c.launch.new.host in
    let container = container_of c.launch.new.self now in
    begun _ _ _ c.args.seed c.args.budget _ _ c.in_ok-container.ensures.ok c.in_ok-launch.ensures.ok
    (ap (playing_from c.args.budget container) c.in-Started.is
    ∙ ap (λ state. record { state = state; verdict = None })
    (first-state-is c.launch.new.self now c.args.budget c.in_ok-new-in-Started.field-0 c.in_ok-new-in-Started.ensures))

pub returns-in_ok-new-in-Started-clause-whole : goal.returns-in_ok-new-in-Started-clause-whole
returns-in_ok-new-in-Started-clause-whole g c =
    let now = g.H.Host.view c.launch.new.host in
    let home = launched-home _ _ c.launch.new.self now _ c.in_ok-launch.ensures.ok c.in-Started.is in
    record {
      kept = kept-good c.in_ok-new-in-Started.field-0
          (first-good c.launch.new.self now c.args.budget c.in_ok-new-in-Started.field-0 c.in_ok-new-in-Started.ensures
          c.in_ok-launch.ensures.sound home);
      running = λ _. ap (λ (s : State). s.core.verdict) c.in_ok-new-in-Started.ensures;
      awake = λ _. subst (λ (s : State). s.core.blocked < length s.core.queue) (sym c.in_ok-new-in-Started.ensures) (omega arith);
    }

pub returns-in_ok-new-in-Started-clause-full : goal.returns-in_ok-new-in-Started-clause-full
returns-in_ok-new-in-Started-clause-full g c =
    let now = g.H.Host.view c.launch.new.host in
    let home = launched-home _ _ c.launch.new.self now _ c.in_ok-launch.ensures.ok c.in-Started.is in
    good-full c.in_ok-new-in-Started.field-0 now
    (first-good c.launch.new.self now c.args.budget c.in_ok-new-in-Started.field-0 c.in_ok-new-in-Started.ensures
    c.in_ok-launch.ensures.sound home)

pub returns-in_ok-new-in-Started-clause-cause : goal.returns-in_ok-new-in-Started-clause-cause
returns-in_ok-new-in-Started-clause-cause g c = record {
  later = omega (arith, c.install.ensures.cause.later, c.launch.ensures.cause.later);
  rose = λ failed. cc;
}

-- one that was not
pub returns-in_ok-over-in-NoStart-clause-run : goal.returns-in_ok-over-in-NoStart-clause-run
returns-in_ok-over-in-NoStart-clause-run g c =
    let now = g.H.Host.view c.launch.new.host in
    let container = container_of c.launch.new.self now in
    begun _ _ _ c.args.seed c.args.budget _ _ c.in_ok-container.ensures.ok c.in_ok-launch.ensures.ok
    (ap (playing_from c.args.budget container) c.in-NoStart.is
    ∙ over-playing c.launch.new.self now c.args.budget c.in-NoStart.errno c.in_ok-over-in-NoStart.field-0 c.in_ok-over-in-NoStart.ensures)

pub returns-in_ok-over-in-NoStart-clause-whole : goal.returns-in_ok-over-in-NoStart-clause-whole
returns-in_ok-over-in-NoStart-clause-whole g c = record {
  kept = over-kept c.launch.new.self c.args.budget _ c.in_ok-over-in-NoStart.field-0 c.in_ok-over-in-NoStart.ensures;
  running = λ none. cc;
  awake = over-awake c.launch.new.self c.args.budget _ c.in_ok-over-in-NoStart.field-0 c.in_ok-over-in-NoStart.ensures;
}

pub returns-in_ok-over-in-NoStart-clause-full : goal.returns-in_ok-over-in-NoStart-clause-full
returns-in_ok-over-in-NoStart-clause-full g c =
    over-full c.launch.new.self (g.H.Host.view c.launch.new.host) c.args.budget _ c.in_ok-over-in-NoStart.field-0
    c.in_ok-over-in-NoStart.ensures

pub returns-in_ok-over-in-NoStart-clause-cause : goal.returns-in_ok-over-in-NoStart-clause-cause
returns-in_ok-over-in-NoStart-clause-cause g c = record {
  later = omega (arith, c.install.ensures.cause.later, c.launch.ensures.cause.later);
  rose = λ failed. cc;
}
