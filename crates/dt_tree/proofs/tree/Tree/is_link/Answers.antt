use Rattle.std.proofs.Common.{sym, ◌∙◌}
use Rattle.dt_tree.proofs.Looked.{is_link-none}
use Rattle.dt_tree.proofs.tree.Tree.is_link.Goals as goal

pub returns-in-None : goal.returns-in-None
returns-in-None c v s = is_link-none _ v _ (sym c.found.ensures ∙ c.in-None.is)
