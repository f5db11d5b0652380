-- The keys of a finite map by numbers: each is there, and no two are equal.
use Rattle.std.proofs.Common.{arith, ◌≡◌, ◌≢◌, ℕ, zero, suc, ◌<◌, ◌≤◌, List, [], ◌∷◌, length, map, cond, Bool, true, false, Option, Some, refl, sym, ap, subst, ◌∙◌}
use Rattle.std.proofs.Math.ListN.{get_or}
use Rattle.std.proofs.lemmas.Cmp.{tied_itself}
use Rattle.std.specs.Prelude.{T, IsSome}
use Rattle.std.specs.List.{All}
use Rattle.std.specs.declared.cmp.Ordering.{Ordering}
use Rattle.std.specs.declared.cmp.Ordering.TheVariants.{Less, Equal, Greater}
use Rattle.std.specs.Ordering.{is_eq, is_lt, nat_cmp}
use Rattle.std.specs.Cmp.{nat_cmp_total}
use Rattle.std.specs.FinMap.{FinMap, find, get, entries, entries_sorted, get-entries, keys}
use Rattle.std.specs.FinMap.Entries.{below_all, is_sorted}
use Rattle.dt_tables.proofs.Conjuncts.{first, second}

not_itself : (r : Ordering) → T (is_lt r) → r ≡ Equal → ⊥
not_itself Less p e = cc
not_itself Equal p e = absurd p
not_itself Greater p e = absurd p

module _ {X : Type 0} where
  -- the number of the entry at an index
  abbrev number_at : List (ℕ × X) → ℕ → ℕ
  number_at es k = get_or (map (λ e. e.0) es) k 0

  below-at : (x : ℕ) (es : List (ℕ × X)) (k : ℕ) → T (below_all nat_cmp x es) → k < length (map (λ (e : ℕ × X). e.0) es) → T (is_lt (nat_cmp x (number_at es k)))
  below-at x [] k h less = absurd (omega arith)
  below-at x (e ∷ es) zero h less = first _ _ h
  below-at x (e ∷ es) (suc k) h less = below-at x es k (second (is_lt (nat_cmp x e.0)) _ h) (omega arith)

  apart-in : (es : List (ℕ × X)) (j k : ℕ) → T (is_sorted nat_cmp es) → j < k → k < length (map (λ (e : ℕ × X). e.0) es) → number_at es j ≢ number_at es k
  apart-in [] j k h less within = absurd (omega arith)
  apart-in (e ∷ es) zero zero h less within = absurd (omega arith)
  apart-in (e ∷ es) zero (suc k) h less within = λ is.
      not_itself _ (below-at e.0 es k (first _ _ h) (omega arith)) (ap (nat_cmp e.0) (sym is) ∙ tied_itself nat_cmp_total e.0)
  apart-in (e ∷ es) (suc j) zero h less within = absurd (omega arith)
  apart-in (e ∷ es) (suc j) (suc k) h less within = apart-in es j k (second (below_all nat_cmp e.0 es) _ h) (omega arith) (omega arith)

  or_later : (b : Bool) (x : X) (found : Option X) → IsSome found → IsSome (cond b (Some x) found)
  or_later true x found h = refl
  or_later false x found h = h

  there-in : (es : List (ℕ × X)) (k : ℕ) → k < length (map (λ (e : ℕ × X). e.0) es) → IsSome (find nat_cmp (number_at es k) es)
  there-in [] k within = absurd (omega arith)
  there-in (e ∷ es) zero within = subst (λ r. IsSome (cond (is_eq r) (Some e.1) (find nat_cmp e.0 es))) (sym (tied_itself nat_cmp_total e.0)) refl
  there-in (e ∷ es) (suc k) within = or_later (is_eq (nat_cmp (number_at es k) e.0)) e.1 (find nat_cmp (number_at es k) es) (there-in es k (omega arith))

  -- the number at an index of the keys is a key
  pub key-there : (m : FinMap nat_cmp X) (k : ℕ) → k < length (keys m) → IsSome (get m (get_or (keys m) k 0))
  key-there m k within = subst (λ found. IsSome found) (sym (get-entries m (get_or (keys m) k 0))) (there-in (entries m) k within)

  -- and it isn't that at a greater index
  pub key-apart : (m : FinMap nat_cmp X) (j k : ℕ) → j < k → k < length (keys m) → get_or (keys m) j 0 ≢ get_or (keys m) k 0
  key-apart m j k less within = apart-in (entries m) j k (entries_sorted m) less within

-- an element within a list is the same whatever stands for those past it
any_default : (xs : List ℕ) (k d : ℕ) → k < length xs → get_or xs k d ≡ get_or xs k 0
any_default [] k d within = absurd (omega arith)
any_default (x ∷ xs) zero d within = refl
any_default (x ∷ xs) (suc k) d within = any_default xs k d (omega arith)

-- keys that are below a bound, as elements of a list
pub keys-below : {X : Type 0} (m : FinMap nat_cmp X) (ks : List ℕ) (bound most : ℕ) → ks ≡ keys m → ((q : ℕ) → IsSome (get m q) → q < bound) → bound ≤ most → All (λ k. k < most) ks
keys-below {X} m ks bound most is below within = subst (All (λ k. k < most)) (sym is) (λ k d inside.
    let at = any_default (keys m) k d inside in
    let less = below (get_or (keys m) k 0) (key-there m k inside) in
    omega arith)
