use Rattle.std.proofs.Common.{sym, ◌∙◌}
use Rattle.dt_tree.proofs.Looked.{is_dir-none}
use Rattle.dt_tree.proofs.tree.Tree.is_dir.Goals as goal

pub returns-in-None : goal.returns-in-None
returns-in-None c v s = is_dir-none _ v _ (sym c.found.ensures ∙ c.in-None.is)
