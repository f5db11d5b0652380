-- A host has no pipes where the table has none.
use Rattle.std.proofs.Common.{◌≡◌, ℕ, ◌<◌, ◌≤◌, List, false, Option, Some, None, refl, sym, ap, subst, ◌∙◌}
use Rattle.std.specs.Prelude.{IsSome, is_some}
use Rattle.std.specs.Cmp.{nat_cmp_total}
use Rattle.std.specs.Ordering.{nat_cmp}
use Rattle.std.specs.FinMap.{empty, get, get-empty, same_map, nat_cmp-IsAntisymmetric}
use Rattle.dt_host.specs.World.{PipeContents}
use Rattle.dt_pipes.specs.declared.pipe.TheConstants.{FIRST_PIPE}
use Rattle.dt_pipes.specs.Table.{Table, Stands, IsKnown, has_pipe}

pub none-left : (t : Table) (host : PipeContents) → Stands t host
    → ((r : ℕ) → FIRST_PIPE ≤ r → r < t.next → has_pipe t r ≡ false) → host ≡ empty
none-left t host stands gone = same_map nat_cmp_total nat_cmp-IsAntisymmetric _ _ (λ real. none real (get host real) refl ∙ sym (get-empty nat_cmp real))
  where
    unknown : (real : ℕ) → IsKnown t real → ⊥
    unknown real known =
        let there : IsSome (get t.pipes known.number) = subst IsSome (sym known.there) refl in
        let given = stands.given known.number there in
        let none = gone known.number given.least given.below in
        cc

    none : (real : ℕ) (found : Option (List ℕ)) → get host real ≡ found → get host real ≡ None
    none real None e = e
    none real (Some bytes) e = absurd (unknown real (stands.all real (subst IsSome (sym e) refl)))
