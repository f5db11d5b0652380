use Rattle.std.proofs.Common.{sym}
use Rattle.dt_image.proofs.Images.{value_of_text, value_of_no_text}
use Rattle.dt_image.proofs.json.parse.Goals as goal

pub returns-in-Ok : goal.returns-in-Ok
returns-in-Ok c =
    rw (value_of_text c.args.bytes.now c.requires c.in-Ok.ensures.cases.1, ← c.in-Ok.ensures.cases.0) c.parse_text.ensures

pub returns-in-Err : goal.returns-in-Err
returns-in-Err c = sym (value_of_no_text c.args.bytes.now c.in-Err.ensures.cases.0)
