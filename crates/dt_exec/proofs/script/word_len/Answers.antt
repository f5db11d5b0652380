use Rattle.dt_exec.specs.Script.{is_blank}
use Rattle.dt_base.proofs.Positions.{len_some, len_none}
use Rattle.dt_exec.proofs.script.word_len.Goals as goal

pub returns-in-Some : goal.returns-in-Some
returns-in-Some c = len_some is_blank c.args.text.now c.in-Some.end c.in-Some.ensures

pub returns-in-None : goal.returns-in-None
returns-in-None c = len_none is_blank c.args.text.now c.in-None.ensures
