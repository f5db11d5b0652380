use Rattle.std.proofs.Common.{not, arith}
use Rattle.std.proofs.lemmas.List.Sums.{prefix_len-le-length}
use Rattle.dt_exec.specs.Script.{is_blank}
use Rattle.dt_exec.proofs.script.script_of_text.Goals as goal

pub split_at-requires : goal.split_at-requires
split_at-requires c = omega (arith, c.word_len.ensures, prefix_len-le-length (λ b. not (is_blank b)) c.args.text.now)
