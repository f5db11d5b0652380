use Rattle.std.proofs.Common.{not, arith}
use Rattle.std.proofs.lemmas.List.Sums.{prefix_len-le-length}
use Rattle.dt_exec.specs.Script.{is_lf}
use Rattle.dt_exec.proofs.script.first_line.Goals as goal

pub split_at-requires : goal.split_at-requires
split_at-requires c = omega (arith, c.line_len.ensures, prefix_len-le-length (λ b. not (is_lf b)) c.args.bytes.now)
