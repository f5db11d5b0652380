use Rattle.std.proofs.Common.{sym, ◌∙◌}
use Rattle.dt_tree.proofs.Looked.{type_at-none, type_at-some}
use Rattle.dt_tree.proofs.tree.Tree.type_at.Goals as goal

pub returns-in-Some : goal.returns-in-Some
returns-in-Some c v s = c.type_of.ensures ∙ type_at-some _ v s.mirrors _ _ (sym c.found.ensures ∙ c.in-Some.is)

pub returns-in-None : goal.returns-in-None
returns-in-None c v s = type_at-none _ v _ (sym c.found.ensures ∙ c.in-None.is)
