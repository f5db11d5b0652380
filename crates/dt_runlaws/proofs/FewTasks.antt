-- Processes that live are no more than the members.
use Rattle.std.proofs.Common.{arith, ◌≡◌, ◌≢◌, ℕ, ◌+◌, ◌≤◌, ◌==◌, ◌&&◌, ◌||◌, List, [], ◌∷◌, length, Bool, true, false, Option, None, Some, refl, sym, ap, ◌∙◌}
use Rattle.std.proofs.lemmas.Bool.Decides.{nat_tests}
use Rattle.std.proofs.lemmas.List.{length-map}
use Rattle.std.specs.Prelude.{IsSome, is_none}
use Rattle.std.specs.Ordering.{nat_cmp}
use Rattle.std.specs.Cmp.{nat_cmp_total}
use Rattle.std.specs.FinMap.{FinMap, get, insert, remove, entries, keys, empty, get-empty, same_map, nat_cmp-IsAntisymmetric}
use Rattle.dt_tables.proofs.Maps.{at_remove}
use Rattle.dt_tables.proofs.Totals.{total-insert, total-remove, total-empty}
use Rattle.dt_tables.specs.Total.{total_in, total}
use Rattle.dt_tables.specs.inner.Weight.{weight}
use Rattle.dt_procs.specs.declared.member.Member.{Member}
use Rattle.dt_procs.specs.Members.{has_live}

module _ {X : Type 0} where
  -- each value counts 1
  abbrev one : X → ℕ
  one x = 1

  count-entries : (es : List (ℕ × X)) → total_in one es ≡ length es
  count-entries [] = refl
  count-entries (e ∷ es) = let rest = count-entries es in omega arith

  -- how many keys there are is the sum of a 1 for each
  pub count-keys : (m : FinMap nat_cmp X) → length (keys m) ≡ total one m
  unfolding total
  count-keys m = length-map (entries m) (λ (e : ℕ × X). e.0) ∙ sym (count-entries (entries m))

  weight-some : (found : Option X) → IsSome found → weight one found ≡ 1
  weight-some None some = cc
  weight-some (Some x) some = refl

  weight-most : (found : Option X) → weight one found ≤ 1
  weight-most None = omega arith
  weight-most (Some x) = omega arith

  -- another value at a key that is there
  pub keys-put : (m : FinMap nat_cmp X) (k : ℕ) (x : X) → IsSome (get m k) → length (keys (insert m k x)) ≡ length (keys m)
  keys-put m k x some =
      omega (arith, count-keys m, count-keys (insert m k x), total-insert nat_cmp_total one m k x, weight-some (get m k) some)

  -- without a key that was there
  pub keys-remove : (m : FinMap nat_cmp X) (k : ℕ) → IsSome (get m k) → length (keys (remove m k)) + 1 ≡ length (keys m)
  keys-remove m k some =
      omega (arith, count-keys m, count-keys (remove m k), total-remove nat_cmp_total one nat_cmp-IsAntisymmetric m k, weight-some (get m k) some)

  no_key : (found : Option X) → (IsSome found → ⊥) → found ≡ None
  no_key None none = refl
  no_key (Some x) none = absurd (none refl)

-- a process that lives and isn't the first member is one of the others
pub lives-later : (q : ℕ) (m : Member) (ms : List Member) → q ≢ m.vpid → has_live (m ∷ ms) q ≡ true → has_live ms q ≡ true
lives-later q m ms apart live = sym (ap (λ b. (b && is_none m.end) || has_live ms q) (not_it (m.vpid == q) refl)) ∙ live
  where
    not_it : (b : Bool) → (m.vpid == q) ≡ b → (m.vpid == q) ≡ false
    not_it true is = absurd (apart (grind (arith, nat_tests, is)))
    not_it false is = is

-- keys that are pids of live processes are no more than the members
pub live-few : {X : Type 0} (m : FinMap nat_cmp X) (ms : List Member) → ((q : ℕ) → IsSome (get m q) → has_live ms q ≡ true) → length (keys m) ≤ length ms
live-few {X} m [] live =
    let none : m ≡ empty = same_map nat_cmp_total nat_cmp-IsAntisymmetric m empty (λ q.
    no_key (get m q) (λ some. let no : false ≡ true = live q some in cc) ∙ sym (get-empty nat_cmp q)) in
    omega (arith, count-keys m, ap (total one) none, total-empty nat_cmp_total (one {X = X}))
live-few m (x ∷ ms) live =
    let less = live-few (remove m x.vpid) ms (λ q some.
    at_remove nat_cmp_total nat_cmp-IsAntisymmetric (λ found. IsSome found → has_live ms q ≡ true) m x.vpid q
    (λ is no. cc) (λ apart here. lives-later q x ms apart (live q here)) some) in
    let sum = total-remove nat_cmp_total one nat_cmp-IsAntisymmetric m x.vpid in
    omega (arith, count-keys m, count-keys (remove m x.vpid), weight-most (get m x.vpid))
