use Rattle.std.proofs.Common.{◌≡◌, ◌∙◌, ◌-◌, ◌+◌, refl, arith}
use Rattle.dt_base.specs.declared.limits.TheConstants.{SEGMENT_LIMIT}
use Rattle.dt_rv64.proofs.Runs.{run-step, run-end, segment-starts, run-starts, run-more}
use Rattle.dt_rv64.proofs.segments.take_steps.Goals as goal
use Rattle.dt_rv64.proofs.segments.take_steps.Goals.{in-Call, in-Counter, in-Fault}

pub loop-made-init : goal.loop-made-init
loop-made-init c = record { whole = segment-starts _; run = run-starts _; zero = c.requires.zero }

-- a step that ran leaves the rest of the segment
pub loop-made-preserved : goal.loop-made-preserved
loop-made-preserved c =
    let stepped = rw c.in-Ran.is at c.in_ok-step.ensures.stepped in
    record {
      whole = c.loop-made.invariant.whole ∙ run-step (SEGMENT_LIMIT - c.loop-made.made) (SEGMENT_LIMIT - (c.loop-made.made + 1)) c.loop-made.made _ _ _ (omega arith) stepped;
      run = run-more _ _ _ _ c.loop-made.invariant.run stepped;
      zero = c.in_ok-step.ensures.zero;
    }

-- any other step is the last
pub returns-in-loop-made-clause-run : goal.returns-in-loop-made-clause-run
returns-in-loop-made-clause-run c =
    let step = run-step (SEGMENT_LIMIT - c.loop-made.made) (SEGMENT_LIMIT - (c.loop-made.made + 1)) c.loop-made.made _ _ _ (omega arith) c.in_ok-step.ensures.stepped in
    let whole = c.loop-made.invariant.whole ∙ step in
    elim c.match-step.branch [
      | in-Call w ↦ rw w.stop-is (rw w.in-Call.is at whole)
      | in-Counter w ↦ rw w.stop-is (rw w.in-Counter.is at whole)
      | in-Fault w ↦ rw w.stop-is (rw w.in-Fault.is at whole)
    ]

-- each of the steps ran
pub returns-clause-run : goal.returns-clause-run
returns-clause-run c =
    let made : c.loop-made.made ≡ SEGMENT_LIMIT = omega arith in
    c.loop-made.invariant.whole ∙ run-end _ _ _ (omega arith) ∙ rw made refl
