use Rattle.std.proofs.Common.{sym, ap, ◌∙◌}
use Rattle.std.specs.FinMap.{len}
use Rattle.dt_tree.proofs.Kept.{len-kept}
use Rattle.dt_tree.proofs.tree.Tree.nodes.Goals as goal

pub returns : goal.returns
returns c = c.len.ensures.len ∙ sym (len-kept c.self.inside.inodes c.len.ensures.ordered) ∙ ap (λ t. len t.inodes) c.self.view_is
