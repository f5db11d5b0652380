use Rattle.std.proofs.Common.{sym, ◌∙◌}
use Rattle.dt_tree.proofs.Looked.{device_at-some, device_at-none}
use Rattle.dt_tree.proofs.tree.Tree.device.Goals as goal

pub returns-in-Some : goal.returns-in-Some
returns-in-Some c v s = c.device.ensures ∙ device_at-some _ v s.mirrors _ _ (sym c.found.ensures ∙ c.in-Some.is)

pub returns-in-None : goal.returns-in-None
returns-in-None c v s = device_at-none _ v _ (sym c.found.ensures ∙ c.in-None.is)
