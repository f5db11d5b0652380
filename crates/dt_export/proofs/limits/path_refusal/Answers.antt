use Rattle.std.proofs.Common.{sym, ◌∙◌, arith}
use Rattle.dt_export.proofs.Exported.{long_shown, many_shown, few_shown}
use Rattle.dt_export.proofs.limits.path_refusal.Goals as goal

pub returns-then-has_long_path : goal.returns-then-has_long_path
returns-then-has_long_path c = sym (long_shown c.args.paths.now (sym c.has_long_path.ensures ∙ c.if-has_long_path.true))

pub returns-then-paths-gt-ENTRY_LIMIT : goal.returns-then-paths-gt-ENTRY_LIMIT
returns-then-paths-gt-ENTRY_LIMIT c = sym (many_shown c.args.paths.now (sym c.has_long_path.ensures ∙ c.if-has_long_path.false) (omega arith))

pub returns : goal.returns
returns c = sym (few_shown c.args.paths.now (sym c.has_long_path.ensures ∙ c.if-has_long_path.false) (omega arith))
