-- Machines that are lent to lents, one after the other, and the works that come home.
use Rattle.std.proofs.Common.{◌≡◌, ◌≢◌, ℕ, zero, suc, ◌<◌, true, false, cond, List, [], ◌∷◌, ◌++◌, map, length, get_or, remove, take, Some, refl, sym, ap, subst, ◌∙◌, arith}
use Rattle.std.specs.Prelude.{IsSome, IsTrue}
use Rattle.std.specs.List.{AllByRecursion}
use Rattle.std.specs.Ordering.{is_eq, nat_cmp}
use Rattle.std.specs.declared.cmp.Ordering.TheVariants.{Less, Equal, Greater}
use Rattle.std.specs.Cmp.{nat_cmp_total}
use Rattle.std.specs.FinMap as maps
use Rattle.std.specs.FinMap.{find, get, insert, same_map, nat_cmp-IsAntisymmetric}
use Rattle.std.proofs.lemmas.Bool.Decides.{nat_tests}
use Rattle.dt_tables.proofs.Maps.{at_insert, get-insert_same, get-insert_other, get-remove_other, insert_same}
use Rattle.dt_sched.specs.declared.process.Process.{Process}
use Rattle.dt_sched.specs.Core.{is_queued, is_distinct, is_owing, owing_vpids}
use Rattle.dt_rounds.specs.declared.lent.Lent.{Lent}
use Rattle.dt_engine.specs.Work.{Work, Works, owing_work}
use Rattle.dt_engine.specs.Ahead.{with_works}
use Rattle.dt_rounds.specs.inner.Round.{lent_vpids, lent_works, IsAbsent, IsOnce}
use Rattle.dt_engine.proofs.Placed.{once-apart}

-- two works at two pids stand there in either order
insert-swapped : (works : Works) (p q : ℕ) (a b : Work) → p ≢ q
    → insert (insert works p a) q b ≡ insert (insert works q b) p a
insert-swapped works p q a b apart = same_map nat_cmp_total nat_cmp-IsAntisymmetric _ _ (λ r.
    at_insert nat_cmp_total nat_cmp-IsAntisymmetric (λ found. found ≡ get (insert (insert works q b) p a) r) (insert works p a) q b r
    (λ is. sym (get-insert_other nat_cmp_total nat_cmp-IsAntisymmetric (insert works q b) p a r (λ e. apart (sym e ∙ is))
    ∙ ap (get (insert works q b)) is
    ∙ get-insert_same nat_cmp_total nat_cmp-IsAntisymmetric works q b))
    (λ other. at_insert nat_cmp_total nat_cmp-IsAntisymmetric (λ found. found ≡ get (insert (insert works q b) p a) r) works p a r
    (λ is. sym (ap (get (insert (insert works q b) p a)) is
    ∙ get-insert_same nat_cmp_total nat_cmp-IsAntisymmetric (insert works q b) p a))
    (λ another. sym (get-insert_other nat_cmp_total nat_cmp-IsAntisymmetric (insert works q b) p a r another
    ∙ get-insert_other nat_cmp_total nat_cmp-IsAntisymmetric works q b r other))))

-- the works of other processes stay
works-apart : (lents : List Lent) (works : Works) (p : ℕ) (w : Work) → IsAbsent p (lent_vpids lents)
    → with_works (lent_works lents) (insert works p w) ≡ insert (with_works (lent_works lents) works) p w
works-apart [] works p w absent = refl
works-apart (x ∷ xs) works p w absent =
    ap (λ m. insert m x.vpid (owing_work x.copy)) (works-apart xs works p w absent.1)
    ∙ insert-swapped (with_works (lent_works xs) works) p x.vpid w (owing_work x.copy) (λ e. absent.0 (sym e))

pub work-apart : (lents : List Lent) (works : Works) (p : ℕ) → IsAbsent p (lent_vpids lents)
    → get (with_works (lent_works lents) works) p ≡ get works p
work-apart [] works p absent = refl
work-apart (x ∷ xs) works p absent =
    get-insert_other nat_cmp_total nat_cmp-IsAntisymmetric (with_works (lent_works xs) works) x.vpid (owing_work x.copy) p
    (λ e. absent.0 (sym e))
    ∙ work-apart xs works p absent.1

absent-at : (lents : List Lent) (p k : ℕ) (d : Lent) → k < length lents → IsAbsent p (lent_vpids lents)
    → (let o = get_or lents k d in o.vpid) ≢ p
absent-at [] p k d within absent = absurd (omega arith)
absent-at (x ∷ xs) p zero d within absent = absent.0
absent-at (x ∷ xs) p (suc k) d within absent = absent-at xs p k d (omega arith) absent.1

-- a work that comes home from a lent stands where that of the lent stood
pub works-brought : (lents : List Lent) (k : ℕ) (d : Lent) (works : Works) (w : Work) → k < length lents
    → IsOnce (lent_vpids lents)
    → with_works (lent_works (remove lents k)) (insert works (let o = get_or lents k d in o.vpid) w)
    ≡ insert (with_works (lent_works lents) works) (let o = get_or lents k d in o.vpid) w
works-brought [] k d works w within once = absurd (omega arith)
works-brought (x ∷ xs) zero d works w within once =
    works-apart xs works x.vpid w once.0
    ∙ sym (insert_same nat_cmp_total nat_cmp-IsAntisymmetric (with_works (lent_works xs) works) x.vpid (owing_work x.copy) w)
works-brought (x ∷ xs) (suc k) d works w within once =
    let o = get_or xs k d in
    let apart : o.vpid ≢ x.vpid = absent-at xs x.vpid k d (omega arith) once.0 in
    ap (λ m. insert m x.vpid (owing_work x.copy)) (works-brought xs k d works w (omega arith) once.1)
    ∙ insert-swapped (with_works (lent_works xs) works) o.vpid x.vpid w (owing_work x.copy) apart

-- the work that a lent was lent
pub work-lent : (lents : List Lent) (k : ℕ) (d : Lent) (works : Works) → k < length lents → IsOnce (lent_vpids lents)
    → get (with_works (lent_works lents) works) (let o = get_or lents k d in o.vpid)
    ≡ Some (owing_work (let o = get_or lents k d in o.copy))
work-lent [] k d works within once = absurd (omega arith)
work-lent (x ∷ xs) zero d works within once =
    get-insert_same nat_cmp_total nat_cmp-IsAntisymmetric (with_works (lent_works xs) works) x.vpid (owing_work x.copy)
work-lent (x ∷ xs) (suc k) d works within once =
    let o = get_or xs k d in
    get-insert_other nat_cmp_total nat_cmp-IsAntisymmetric (with_works (lent_works xs) works) x.vpid (owing_work x.copy) o.vpid
    (absent-at xs x.vpid k d (omega arith) once.0)
    ∙ work-lent xs k d works (omega arith) once.1

-- one lent more
works-more : (lents : List Lent) (lent : Lent) (works : Works)
    → with_works (lent_works (lents ++ lent ∷ [])) works ≡ with_works (lent_works lents) (insert works lent.vpid (owing_work lent.copy))
works-more [] lent works = refl
works-more (x ∷ xs) lent works = ap (λ m. insert m x.vpid (owing_work x.copy)) (works-more xs lent works)

-- with its work in a lent the works are as they were before
pub works-lent : (lents : List Lent) (lent : Lent) (works : Works) → get works lent.vpid ≡ Some (owing_work lent.copy)
    → with_works (lent_works (lents ++ lent ∷ [])) (maps.remove works lent.vpid) ≡ with_works (lent_works lents) works
works-lent lents lent works is =
    works-more lents lent (maps.remove works lent.vpid)
    ∙ ap (with_works (lent_works lents)) (same_map nat_cmp_total nat_cmp-IsAntisymmetric _ _ (λ q.
    at_insert nat_cmp_total nat_cmp-IsAntisymmetric (λ found. found ≡ get works q) (maps.remove works lent.vpid) lent.vpid (owing_work lent.copy) q
    (λ e. sym (ap (get works) e ∙ is))
    (λ e. get-remove_other nat_cmp_total nat_cmp-IsAntisymmetric works lent.vpid q e)))

-- what holds of the pids of lents holds of one at which a work is found
pub found-vpid : (P : ℕ → Type 0) (lents : List Lent) (q : ℕ) → IsSome (find nat_cmp q (lent_works lents))
    → AllByRecursion P (lent_vpids lents) → P q
found-vpid P [] q some all = absurd cc
found-vpid P (x ∷ xs) q some all =
    elim (nat_cmp q x.vpid) as (λ r. nat_cmp q x.vpid ≡ r
    → IsSome (cond (is_eq r) (Some (owing_work x.copy)) (find nat_cmp q (lent_works xs))) → P q) [
      | Less ↦ λ h found. found-vpid P xs q found all.1
      | Equal ↦ λ h found. subst P (sym (nat_cmp-IsAntisymmetric q x.vpid h)) all.0
      | Greater ↦ λ h found. found-vpid P xs q found all.1
    ] refl some

-- those that owe stand there once
absent-owing : (p : ℕ) (queue : List Process) → is_queued p queue ≡ false → IsAbsent p (owing_vpids queue)
absent-owing p [] absent = tt
absent-owing p (x ∷ xs) absent =
    let apart : x.vpid ≢ p = λ e. absurd (grind (arith, nat_tests)) in
    let rest = absent-owing p xs (grind (arith, nat_tests)) in
    elim (is_owing x.phase) as (λ b. IsAbsent p (cond b (x.vpid ∷ owing_vpids xs) (owing_vpids xs))) [
      | true ↦ (apart, rest)
      | false ↦ rest
    ]

pub owing-once : (queue : List Process) → IsTrue (is_distinct queue) → IsOnce (owing_vpids queue)
owing-once [] once = tt
owing-once (x ∷ xs) once =
    let tests = once-apart (is_queued x.vpid xs) (is_distinct xs) once in
    let rest = owing-once xs tests.1 in
    elim (is_owing x.phase) as (λ b. IsOnce (cond b (x.vpid ∷ owing_vpids xs) (owing_vpids xs))) [
      | true ↦ (absent-owing x.vpid xs tests.0, rest)
      | false ↦ rest
    ]

pub all-at : {X : Type 0} → (P : X → Type 0) (xs : List X) (k : ℕ) (d : X) → k < length xs → AllByRecursion P xs → P (get_or xs k d)
all-at P [] k d within all = absurd (omega arith)
all-at P (x ∷ xs) zero d within all = all.0
all-at P (x ∷ xs) (suc k) d within all = all-at P xs k d (omega arith) all.1

-- of pids that each stand there once none of the first is the next
pub absent-first : (ps : List ℕ) (k d : ℕ) → k < length ps → IsOnce ps → IsAbsent (get_or ps k d) (take k ps)
absent-first [] k d within once = absurd (omega arith)
absent-first (p ∷ ps) zero d within once = tt
absent-first (p ∷ ps) (suc k) d within once =
    (λ e. all-at (λ q. q ≢ p) ps k d (omega arith) once.0 (sym e), absent-first ps k d (omega arith) once.1)

-- and none of the others is that one
pub absent-removed : (ps : List ℕ) (k d : ℕ) → k < length ps → IsOnce ps → IsAbsent (get_or ps k d) (remove ps k)
absent-removed [] k d within once = absurd (omega arith)
absent-removed (p ∷ ps) zero d within once = once.0
absent-removed (p ∷ ps) (suc k) d within once =
    (λ e. all-at (λ q. q ≢ p) ps k d (omega arith) once.0 (sym e), absent-removed ps k d (omega arith) once.1)

-- a list without one of its elements, element by element
pub map-removed : {X Y : Type 0} → (f : X → Y) (xs : List X) (k : ℕ) → map f (remove xs k) ≡ remove (map f xs) k
map-removed f [] zero = refl
map-removed f [] (suc k) = refl
map-removed f (x ∷ xs) zero = refl
map-removed f (x ∷ xs) (suc k) = ap (λ ys. f x ∷ ys) (map-removed f xs k)

pub all-removed : {X : Type 0} → (P : X → Type 0) (xs : List X) (k : ℕ) → AllByRecursion P xs → AllByRecursion P (remove xs k)
all-removed P [] zero all = tt
all-removed P [] (suc k) all = tt
all-removed P (x ∷ xs) zero all = all.1
all-removed P (x ∷ xs) (suc k) all = (all.0, all-removed P xs k all.1)

pub once-removed : (ps : List ℕ) (k : ℕ) → IsOnce ps → IsOnce (remove ps k)
once-removed [] zero once = tt
once-removed [] (suc k) once = tt
once-removed (p ∷ ps) zero once = once.1
once-removed (p ∷ ps) (suc k) once = (all-removed (λ q. q ≢ p) ps k once.0, once-removed ps k once.1)

pub all-more : {X : Type 0} → (P : X → Type 0) (xs : List X) (x : X) → AllByRecursion P xs → P x → AllByRecursion P (xs ++ x ∷ [])
all-more P [] x all one = (one, tt)
all-more P (y ∷ ys) x all one = (all.0, all-more P ys x all.1 one)
