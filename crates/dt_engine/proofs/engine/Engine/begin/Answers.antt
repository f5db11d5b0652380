use Rattle.std.proofs.Common.{arith, ◌≡◌, Err, ap}
use Rattle.dt_host.proofs.Asking.{passed_on}
use Rattle.dt_engine.specs.declared.error.RunErr.TheVariants.{Host, Sink, NoMemory}
use Rattle.dt_engine.proofs.Causes.{of_sink-failed, of_sink-no_host}
use Rattle.dt_engine.proofs.engine.Engine.begin.Goals as goal

pub returns-in_err-first-clause-host : goal.returns-in_err-first-clause-host
returns-in_err-first-clause-host g c = record {
  later = c.start.ensures.cause.later;
  rose = λ failed. let bad : NoMemory ≡ Host = passed_on _ _ _ c.from_residual-in_err-first.ensures.1 failed in absurd (cc);
}

pub returns-in_err-first-clause-sink : goal.returns-in_err-first-clause-sink
returns-in_err-first-clause-sink g c = record {
  later = omega arith;
  rose = λ failed. let bad : NoMemory ≡ Sink = passed_on _ _ _ c.from_residual-in_err-first.ensures.1 failed in absurd (cc);
}

pub returns-in_err-sink_all-clause-host : goal.returns-in_err-sink_all-clause-host
returns-in_err-sink_all-clause-host g c = record {
  later = c.start.ensures.cause.later;
  rose = λ failed. absurd (of_sink-no_host _ (passed_on _ _ _ c.from_residual-in_err-sink_all.ensures.1 failed));
}

pub returns-in_err-sink_all-clause-sink : goal.returns-in_err-sink_all-clause-sink
returns-in_err-sink_all-clause-sink g c = record {
  later = c.sink_all.ensures.cause.later;
  rose = λ failed. c.in_err-sink_all.ensures.cause.rose (ap Err (of_sink-failed _ (passed_on _ _ _ c.from_residual-in_err-sink_all.ensures.1 failed)));
}
