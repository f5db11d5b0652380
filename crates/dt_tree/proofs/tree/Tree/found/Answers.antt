use Rattle.std.proofs.Common.{sym, ap, ◌∙◌}
use Rattle.std.specs.FinMap.{get}
use Rattle.dt_tree.proofs.Kept.{get-kept}
use Rattle.dt_tree.proofs.tree.Tree.found.Goals as goal

pub returns : goal.returns
returns c = c.find.ensures ∙ sym (get-kept c.self.inside.inodes c.args.n) ∙ ap (λ t. get t.inodes c.args.n) c.self.view_is
