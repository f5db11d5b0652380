use Rattle.std.proofs.Common.{subst, ◌∙◌}
use Rattle.dt_host.specs.Sink.{AddsPart}
use Rattle.dt_steps.proofs.Ran.{joined, in-line, after-line}
use Rattle.dt_steps.proofs.step.write_step.Goals as goal

pub returns-in_err-sink_all-clause-part : goal.returns-in_err-sink_all-clause-part
returns-in_err-sink_all-clause-part g c =
    let old = g.O.Sink.told c.args.out.now in
    let new = g.O.Sink.told c.sink_all.new.sink in
    let line = c.deref.result.now in
    subst (AddsPart old new) (joined c.args.number line c.args.report.now (c.deref.ensures.value ∙ c.in_ok-line.ensures))
    (in-line old new line c.args.report.now c.sink_all.ensures.part)

pub returns-clause-part : goal.returns-clause-part
returns-clause-part g c =
    let old = g.O.Sink.told c.args.out.now in
    let new = g.O.Sink.told c.sink_all-2.new.sink in
    let line = c.deref.result.now in
    subst (AddsPart old new) (joined c.args.number line c.args.report.now (c.deref.ensures.value ∙ c.in_ok-line.ensures))
    (after-line old (g.O.Sink.told c.sink_all.new.sink) new line c.args.report.now c.in_ok-sink_all.ensures.ok c.sink_all-2.ensures.part)
