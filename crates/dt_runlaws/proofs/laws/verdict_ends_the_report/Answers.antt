use Rattle.dt_runlaws.proofs.Writes.{verdict-reports}
use Rattle.dt_runlaws.proofs.laws.verdict_ends_the_report.Goals as goal

pub returns : goal.returns
returns c = verdict-reports
