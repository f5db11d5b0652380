use Rattle.std.proofs.Common.{◌≡◌, refl, subst, sym}
use Rattle.clap.specs.Words.{found_of, rows_of}
use Rattle.dt_options.specs.Arguments.{operand_in}
use Rattle.dt_options.proofs.Matches.{one_operand}
use Rattle.dt_options.proofs.options.arguments.operand.Goals as goal

pub returns : goal.returns
returns c = subst (λ s. s.now ≡ operand_in c.args.name.now (rows_of (found_of c.args.found.now))) (sym c.unwrap_or.ensures) (one_operand (found_of c.args.found.now) c.args.name.now c.get_str.result _ refl c.get_str.ensures)
