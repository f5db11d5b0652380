-- Directories that an index lists, as a set of their paths, and the path that is the parent of another.
use Rattle.std.proofs.Common.{◌≡◌, ℕ, Bool, true, false, cond, ◌||◌, List, Bor, refl, ◌∙◌}
use Rattle.std.specs.Str.{bytes_eq}
use Rattle.std.specs.BTreeSet.{BTreeSet}
use Rattle.std.specs.BTreeSet as set
use Rattle.std.proofs.lemmas.Map.Text.{is_eq-slice_cmp}
use Rattle.dt_image.proofs.Sorting.{by_text, bytes_eq-sym}
use Rattle.dt_image.specs.inner.IndexView.{has_dir}

either : (a b c : Bool) → a ≡ b → cond a true c ≡ (c || b)
either true b true e = refl
either true b false e = e
either false b true e = refl
either false b false e = e

-- one path more
pub has_dir-added : (old new : BTreeSet (Bor (List ℕ))) (k : Bor (List ℕ)) → set.Updates by_text old new k true → (path : List ℕ) → has_dir path new ≡ (has_dir path old || bytes_eq path k.now)
has_dir-added old new k updates path =
    let q : Bor (List ℕ) = record { ref_ptr = (0, 0); now = path } in
    updates.0 q ∙ either _ _ _ (is_eq-slice_cmp k.now path ∙ bytes_eq-sym k.now path)
