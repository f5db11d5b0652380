use Rattle.dt_exec.specs.Script.{is_lf}
use Rattle.dt_base.proofs.Positions.{len_some, len_none}
use Rattle.dt_exec.proofs.script.line_len.Goals as goal

pub returns-in-Some : goal.returns-in-Some
returns-in-Some c = len_some is_lf c.args.bytes.now c.in-Some.end c.in-Some.ensures

pub returns-in-None : goal.returns-in-None
returns-in-None c = len_none is_lf c.args.bytes.now c.in-None.ensures
