use Rattle.dt_engine.proofs.Left.{report-by-parts}
use Rattle.dt_engine.proofs.laws.report_is_its_parts.Goals as goal

pub returns : goal.returns
returns c = report-by-parts
