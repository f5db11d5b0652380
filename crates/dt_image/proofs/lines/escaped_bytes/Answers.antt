use Rattle.dt_image.proofs.Escapes.{contains_escaped}
use Rattle.dt_image.proofs.lines.escaped_bytes.Goals as goal

pub returns-clause-bytes : goal.returns-clause-bytes
returns-clause-bytes c = contains_escaped
