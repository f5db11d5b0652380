-- Machines that are lent: where their works are found once one more is lent, or one has come back.
use Rattle.std.proofs.Common.{◌≡◌, ◌≢◌, ℕ, zero, suc, ◌<◌, Bool, true, false, cond, [], ◌∷◌, ◌++◌, length, get_or, remove, Option, Some, None, refl, sym, ap, subst, ◌∙◌, arith, nat_eq}
use Rattle.std.specs.Prelude.{IsSome}
use Rattle.std.proofs.lemmas.Bool.Decides.{nat_tests}
use Rattle.std.specs.List.{AllByRecursion}
use Rattle.std.specs.Ordering.{is_eq, nat_cmp}
use Rattle.std.specs.Cmp.{nat_cmp_total}
use Rattle.std.specs.FinMap.{find, get, same_map, nat_cmp-IsAntisymmetric}
use Rattle.dt_tables.proofs.Maps.{number_tie}
use Rattle.dt_rv64.specs.declared.machine.Machine.{Machine}
use Rattle.dt_engine.specs.Work.{Work, owing_work}
use Rattle.dt_engine.specs.Turn.{State}
use Rattle.dt_engine.specs.Ahead.{Away, state_with_works}
use Rattle.dt_engine.proofs.Aways.{over, get-put_all}
use Rattle.dt_runlaws.specs.Shown.{Lent, lent_pids, lent_works, IsLent, AreDistinct}

-- whether two pids are the same, by their order
pub tied-same : (q k : ℕ) → is_eq (nat_cmp q k) ≡ true → q ≡ k
tied-same q k is = let tie : nat_eq q k ≡ true = number_tie q k ∙ is in grind (arith, nat_tests)

pub tied-other : (q k : ℕ) → q ≢ k → is_eq (nat_cmp q k) ≡ false
tied-other q k apart = sym (number_tie q k) ∙ grind (arith, nat_tests)

pub tied-itself : (q : ℕ) → is_eq (nat_cmp q q) ≡ true
tied-itself q = sym (number_tie q q) ∙ grind (arith, nat_tests)

-- what is there, and what isn't
pub unless-some : {X : Type 0} → (found : Option X) → (IsSome found → ⊥) → found ≡ None
unless-some None h = refl
unless-some (Some x) h = absurd (h refl)

pub not-both : {X : Type 0} → (found : Option X) → IsSome found → found ≡ None → ⊥
not-both None some none = cc
not-both (Some x) some none = cc

over-end : (found : Option Work) → over found None ≡ found
over-end None = refl
over-end (Some w) = refl

pub some-over : (x y : Option Work) → IsSome y → IsSome (over x y)
some-over None y some = some
some-over (Some w) y some = refl

over-choice : (b : Bool) (x : Work) (y z : Option Work) → cond b (Some x) (over y z) ≡ over (cond b (Some x) y) z
over-choice true x y z = refl
over-choice false x y z = refl

swap-choice : (a b : Bool) (x y : Work) (z : Option Work) → (a ≡ true → b ≡ true → ⊥)
    → cond a (Some x) (cond b (Some y) z) ≡ cond b (Some y) (cond a (Some x) z)
swap-choice true true x y z apart = absurd (apart refl refl)
swap-choice true false x y z apart = refl
swap-choice false b x y z apart = refl

pub some-chosen : (b : Bool) (x : Work) (z : Option Work) → IsSome z → IsSome (cond b (Some x) z)
some-chosen true x z some = refl
some-chosen false x z some = some

-- a pid that is none of those that lend
pub found-none : (lent : Lent) (q : ℕ) → AllByRecursion (λ p. p ≢ q) (lent_pids lent) → find nat_cmp q (lent_works lent) ≡ None
found-none [] q absent = refl
found-none (x ∷ xs) q absent =
    ap (λ b. cond b (Some (owing_work x.1)) (find nat_cmp q (lent_works xs))) (tied-other q x.0 (λ e. absent.0 (sym e)))
    ∙ found-none xs q absent.1

none-here : (lent : Lent) (x : ℕ × Machine) (q : ℕ) (b : Bool) → is_eq (nat_cmp q x.0) ≡ b
    → cond b (Some (owing_work x.1)) (find nat_cmp q (lent_works lent)) ≡ None → (x.0 ≢ q) × (find nat_cmp q (lent_works lent) ≡ None)
none-here lent x q true tied none = cc
none-here lent x q false tied none =
    (λ e. let bad : false ≡ true = sym tied ∙ ap (λ k. is_eq (nat_cmp q k)) e ∙ tied-itself q in cc, none)

pub none-absent : (lent : Lent) (q : ℕ) → find nat_cmp q (lent_works lent) ≡ None → AllByRecursion (λ p. p ≢ q) (lent_pids lent)
none-absent [] q none = tt
none-absent (x ∷ xs) q none =
    let tests = none-here xs x q (is_eq (nat_cmp q x.0)) refl none in (tests.0, none-absent xs q tests.1)

-- one more that is lent, at the end
found-more : (lent : Lent) (p : ℕ) (m : Machine) (q : ℕ)
    → find nat_cmp q (lent_works (lent ++ (p, m) ∷ []))
    ≡ over (find nat_cmp q (lent_works lent)) (cond (is_eq (nat_cmp q p)) (Some (owing_work m)) None)
found-more [] p m q = refl
found-more (x ∷ xs) p m q =
    ap (cond (is_eq (nat_cmp q x.0)) (Some (owing_work x.1))) (found-more xs p m q)
    ∙ over-choice (is_eq (nat_cmp q x.0)) (owing_work x.1) (find nat_cmp q (lent_works xs)) _

-- is found as if it stood before them
pub found-end : (lent : Lent) (p : ℕ) (m : Machine) (q : ℕ) → find nat_cmp p (lent_works lent) ≡ None
    → find nat_cmp q (lent_works (lent ++ (p, m) ∷ [])) ≡ find nat_cmp q ((p, owing_work m) ∷ lent_works lent)
found-end lent p m q none = found-more lent p m q ∙ by_tie (is_eq (nat_cmp q p)) refl
  where
    by_tie : (b : Bool) → is_eq (nat_cmp q p) ≡ b
        → over (find nat_cmp q (lent_works lent)) (cond b (Some (owing_work m)) None)
        ≡ cond b (Some (owing_work m)) (find nat_cmp q (lent_works lent))
    by_tie true tied =
        ap (λ found. over found (Some (owing_work m))) (ap (λ k. find nat_cmp k (lent_works lent)) (tied-same q p tied) ∙ none)
    by_tie false tied = over-end (find nat_cmp q (lent_works lent))

-- a fact of those that lend, with one more
pub lent-more : (P : ℕ → Type 0) (lent : Lent) (p : ℕ) (m : Machine) (q : ℕ) → find nat_cmp p (lent_works lent) ≡ None
    → IsLent q (lent ++ (p, m) ∷ []) → P p → (IsLent q lent → P q) → P q
lent-more P lent p m q none some one others =
    by_tie (is_eq (nat_cmp q p)) refl (subst IsSome (found-end lent p m q none) some)
  where
    by_tie : (b : Bool) → is_eq (nat_cmp q p) ≡ b → IsSome (cond b (Some (owing_work m)) (find nat_cmp q (lent_works lent))) → P q
    by_tie true tied some = subst P (sym (tied-same q p tied)) one
    by_tie false tied some = others some

-- the pid at an index, and the others
pub pid-at : (P : ℕ → Type 0) (lent : Lent) (k : ℕ) (d : ℕ × Machine) → k < length lent → AllByRecursion P (lent_pids lent)
    → (let l = get_or lent k d in P l.0)
pid-at P [] k d within all = absurd (omega arith)
pid-at P (x ∷ xs) zero d within all = all.0
pid-at P (x ∷ xs) (suc k) d within all = pid-at P xs k d (omega arith) all.1

pids-removed : (P : ℕ → Type 0) (lent : Lent) (k : ℕ) → AllByRecursion P (lent_pids lent) → AllByRecursion P (lent_pids (remove lent k))
pids-removed P [] zero all = tt
pids-removed P [] (suc k) all = tt
pids-removed P (x ∷ xs) zero all = all.1
pids-removed P (x ∷ xs) (suc k) all = (all.0, pids-removed P xs k all.1)

pub distinct-removed : (lent : Lent) (k : ℕ) → AreDistinct (lent_pids lent) → AreDistinct (lent_pids (remove lent k))
distinct-removed [] zero once = tt
distinct-removed [] (suc k) once = tt
distinct-removed (x ∷ xs) zero once = once.1
distinct-removed (x ∷ xs) (suc k) once = (pids-removed (λ q. q ≢ x.0) xs k once.0, distinct-removed xs k once.1)

absent-removed : (lent : Lent) (k : ℕ) (d : ℕ × Machine) → k < length lent → AreDistinct (lent_pids lent)
    → (let l = get_or lent k d in AllByRecursion (λ p. p ≢ l.0) (lent_pids (remove lent k)))
absent-removed [] k d within once = absurd (omega arith)
absent-removed (x ∷ xs) zero d within once = once.0
absent-removed (x ∷ xs) (suc k) d within once =
    (λ e. pid-at (λ q. q ≢ x.0) xs k d (omega arith) once.0 (sym e), absent-removed xs k d (omega arith) once.1)

module _ (lent : Lent) (k : ℕ) (d : ℕ × Machine) (within : k < length lent) (once : AreDistinct (lent_pids lent)) where
  -- it is none of the others
  pub returned-none : (let l = get_or lent k d in find nat_cmp l.0 (lent_works (remove lent k)) ≡ None)
  returned-none = let l = get_or lent k d in found-none (remove lent k) l.0 (absent-removed lent k d within once)

-- the machine at an index is found as if it stood before the others
pub found-less : (lent : Lent) (k : ℕ) (d : ℕ × Machine) (q : ℕ) → k < length lent → AreDistinct (lent_pids lent)
    → (let l = get_or lent k d in
    find nat_cmp q (lent_works lent) ≡ find nat_cmp q ((l.0, owing_work l.1) ∷ lent_works (remove lent k)))
found-less [] k d q within once = absurd (omega arith)
found-less (x ∷ xs) zero d q within once = refl
found-less (x ∷ xs) (suc k) d q within once =
    let l = get_or xs k d in
    let apart : l.0 ≢ x.0 = pid-at (λ p. p ≢ x.0) xs k d (omega arith) once.0 in
    ap (cond (is_eq (nat_cmp q x.0)) (Some (owing_work x.1))) (found-less xs k d q (omega arith) once.1)
    ∙ swap-choice (is_eq (nat_cmp q x.0)) (is_eq (nat_cmp q l.0)) (owing_work x.1) (owing_work l.1)
    (find nat_cmp q (lent_works (remove xs k)))
    (λ a b. apart (sym (tied-same q l.0 b) ∙ tied-same q x.0 a))

-- one of the others was lent before, and so was it
pub lent-before : (lent : Lent) (k : ℕ) (d : ℕ × Machine) (q : ℕ) → k < length lent → AreDistinct (lent_pids lent)
    → IsLent q (remove lent k) → IsLent q lent
lent-before lent k d q within once some =
    let l = get_or lent k d in
    subst IsSome (sym (found-less lent k d q within once))
    (some-chosen (is_eq (nat_cmp q l.0)) (owing_work l.1) (find nat_cmp q (lent_works (remove lent k))) some)

pub lent-at : (lent : Lent) (k : ℕ) (d : ℕ × Machine) → k < length lent → AreDistinct (lent_pids lent)
    → (let l = get_or lent k d in IsLent l.0 lent)
lent-at lent k d within once =
    let l = get_or lent k d in
    subst IsSome
    (sym (found-less lent k d l.0 within once
    ∙ ap (λ b. cond b (Some (owing_work l.1)) (find nat_cmp l.0 (lent_works (remove lent k)))) (tied-itself l.0)))
    refl

-- works that are found alike make the same state
pub state-alike : (ws vs : Away) (s : State) → ((q : ℕ) → find nat_cmp q ws ≡ find nat_cmp q vs)
    → state_with_works ws s ≡ state_with_works vs s
unfolding state_with_works
state-alike ws vs s alike = ap (λ works. record s { works = works })
    (same_map nat_cmp_total nat_cmp-IsAntisymmetric _ _ (λ q.
    get-put_all ws s.works q ∙ ap (λ found. over found (get s.works q)) (alike q) ∙ sym (get-put_all vs s.works q)))
