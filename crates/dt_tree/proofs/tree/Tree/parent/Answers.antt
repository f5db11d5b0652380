use Rattle.std.proofs.Common.{sym, ◌∙◌}
use Rattle.dt_tables.proofs.Found.{none_there}
use Rattle.dt_tree.proofs.Mirroring.{has_inode-dir}
use Rattle.dt_tree.proofs.Linked.{up-inode}
use Rattle.dt_tree.proofs.tree.Tree.parent.Goals as goal

pub returns-in-Some : goal.returns-in-Some
returns-in-Some c v s is = up-inode _ v _ _ s (sym c.found.ensures ∙ c.in-Some.is) is

pub returns-in-None : goal.returns-in-None
returns-in-None c v s is = absurd (none_there _ (sym c.found.ensures ∙ c.in-None.is) (has_inode-dir _ v _ is))
