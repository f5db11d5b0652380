use Rattle.std.proofs.Common.{◌≡◌, ℕ, List, [], ◌∷◌, map, refl, sym, ap, ◌∙◌, rules}
use Rattle.dt_image.specs.declared.paths.TreePath.{TreePath}
use Rattle.dt_image.specs.Paths.{path_pair}
use Rattle.dt_image.proofs.Ordered.{entries_in_order}
use Rattle.dt_image.proofs.paths.in_order.Goals as goal

abbrev made : List ℕ × ℕ → TreePath
made e = record { path = e.0; inode = e.1 }

shown_made : (es : List (List ℕ × ℕ)) → map path_pair (map made es) ≡ es
shown_made [] = refl
shown_made (e ∷ es) = ap (λ rest. e ∷ rest) (shown_made es)

pub returns : goal.returns
returns c =
    let same : c.in_ok-list.list.items ≡ map made c.args.paths.entries = search rules in
    ap (map path_pair) same ∙ shown_made c.args.paths.entries ∙ sym (entries_in_order c.args.paths.entries c.into_iter.ensures.into_iter_gives.5)
