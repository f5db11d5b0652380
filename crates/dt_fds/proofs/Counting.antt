-- Counts of descriptors after a change of one.
use Rattle.std.proofs.Common.{arith, ◌≡◌, ◌≢◌, ℕ, zero, suc, ◌+◌, ◌-◌, ◌<◌, ◌==◌, Bool, true, false, cond, [], ◌∷◌, length, Option, None, Some, refl, sym, ap, subst, ◌∙◌}
use Rattle.std.specs.Prelude.{slice_set, slice_get, unwrap_or, is_some, IfSome, IsSome}
use Rattle.std.specs.List.{sum_by}
use Rattle.std.specs.Option.{option_flatten}
use Rattle.std.specs.Ordering.{nat_cmp}
use Rattle.std.specs.Cmp.{nat_cmp_total}
use Rattle.std.specs.FinMap.{FinMap, get, insert, remove, same_map, nat_cmp-IsAntisymmetric}
use Rattle.std.proofs.lemmas.Option.{unwrap_or-slice_get}
use Rattle.std.proofs.lemmas.List.{length-set}
use Rattle.std.proofs.lemmas.Bool.Decides.{nat_tests}
use Rattle.std.proofs.lemmas.List.Sums.{sum_by-set}
use Rattle.dt_tables.proofs.Maps.{at_insert, at_remove, get-insert_same, get-insert_other, get-remove_same, get-remove_other}
use Rattle.dt_tables.specs.Total.{total}
use Rattle.dt_tables.specs.inner.Weight.{weight}
use Rattle.dt_tables.proofs.Totals.{total-insert, total-remove}
use Rattle.dt_fds.specs.declared.desc.TheConstants.{DESCRIPTOR_LIMIT}
use Rattle.dt_fds.specs.declared.desc.Desc.{Desc}
use Rattle.dt_fds.specs.declared.desc.Slot.{Slot}
use Rattle.dt_tree.specs.Shape.{one_for}
use Rattle.dt_fds.specs.Descriptions.{IsDesc, Descriptions, Table, table_at, slot_references, descriptors_of, with_slot, without_unreferenced, without_slot}
use Rattle.dt_fds.specs.inner.Counts.{Counts}
use Rattle.dt_fds.proofs.Slots.{flat}

abbrev pub Tables : Type 0
Tables = FinMap nat_cmp Table

abbrev pub count : Tables → ℕ → ℕ
count tables k = total (sum_by (slot_references k)) tables

abbrev pub table_in : Tables → ℕ → Table
table_in tables p = unwrap_or (get tables p) []

there_is : {X : Type 0} (found : Option X) (d : X) → IsSome found → found ≡ Some (unwrap_or found d)
there_is None d h = cc
there_is (Some x) d h = refl

pub length_in : (tables : Tables) (p : ℕ) → ((q : ℕ) → IfSome (get tables q) (λ table. length table ≡ DESCRIPTOR_LIMIT)) → IsSome (get tables p) → length (table_in tables p) ≡ DESCRIPTOR_LIMIT
length_in tables p sized there = by_found (get tables p) (sized p) there
  where
    by_found : (found : Option Table) → IfSome found (λ table. length table ≡ DESCRIPTOR_LIMIT) → IsSome found → length (unwrap_or found []) ≡ DESCRIPTOR_LIMIT
    by_found None h there = cc
    by_found (Some table) h there = h

-- a slot of a table changed: what it referred to is counted less, what it refers to more
pub count-set : (tables : Tables) (p fd : ℕ) (slot : Option Slot) (k : ℕ) → IsSome (get tables p) → fd < length (table_in tables p)
    → count (insert tables p (slice_set (table_in tables p) fd slot)) k + slot_references k (option_flatten (slice_get (table_in tables p) fd)) ≡ count tables k + slot_references k slot
count-set tables p fd slot k there within =
    let table = table_in tables p in
    let all = total-insert nat_cmp_total (sum_by (slot_references k)) tables p (slice_set table fd slot) in
    let found = ap (weight (sum_by (slot_references k))) (there_is (get tables p) [] there) in
    let one = sum_by-set (slot_references k) table fd slot None within in
    let old = ap (slot_references k) (flat (slice_get table fd) ∙ unwrap_or-slice_get table fd None) in
    omega arith

-- a slot refers to its own number once, and to no other
pub refers_own : (slot : Slot) → slot_references slot.number (Some slot) ≡ 1
refers_own slot = grind (arith, nat_tests)

pub refers_other : (slot : Slot) (k : ℕ) → k ≢ slot.number → slot_references k (Some slot) ≡ 0
refers_other slot k apart = grind (arith, nat_tests)

sized-set : (tables : Tables) (p fd : ℕ) (slot : Option Slot) → ((q : ℕ) → IfSome (get tables q) (λ table. length table ≡ DESCRIPTOR_LIMIT)) → IsSome (get tables p)
    → (q : ℕ) → IfSome (get (insert tables p (slice_set (table_in tables p) fd slot)) q) (λ table. length table ≡ DESCRIPTOR_LIMIT)
sized-set tables p fd slot sized there q =
    at_insert nat_cmp_total nat_cmp-IsAntisymmetric (λ found. IfSome found (λ table. length table ≡ DESCRIPTOR_LIMIT)) tables p _ q
    (λ is. length-set (table_in tables p) fd slot ∙ length_in tables p sized there)
    (λ apart. sized q)

-- a free descriptor comes to refer to a description that is open
pub counts-with_slot : (descs : FinMap nat_cmp Desc) (counts : FinMap nat_cmp ℕ) (tables : Tables) (next p fd : ℕ) (slot : Slot) → Counts descs counts tables next
    → IsSome (get tables p) → fd < DESCRIPTOR_LIMIT → option_flatten (slice_get (table_in tables p) fd) ≡ None → IsSome (get descs slot.number)
    → Counts descs (insert counts slot.number (unwrap_or (get counts slot.number) 0 + 1)) (insert tables p (slice_set (table_in tables p) fd (Some slot))) next
counts-with_slot descs counts tables next p fd slot h there within free living = record {
  counted = λ k.
      let moved = count-set tables p fd (Some slot) k there (omega (arith, length_in tables p h.sized there)) in
      let none = ap (slot_references k) free in
      at_insert nat_cmp_total nat_cmp-IsAntisymmetric (λ found. unwrap_or found 0 ≡ count (insert tables p (slice_set (table_in tables p) fd (Some slot))) k) counts slot.number _ k
      (λ is. let own = ap (λ n. slot_references n (Some slot)) is ∙ refers_own slot in let was = ap (λ n. unwrap_or (get counts n) 0) is in omega (arith, h.counted k))
      (λ apart. omega (arith, h.counted k, refers_other slot k apart));
  alive = λ k.
      at_insert nat_cmp_total nat_cmp-IsAntisymmetric (λ found. IfSome found (λ count. 0 < count)) counts slot.number _ k (λ is. omega arith) (λ apart. h.alive k);
  same = λ k.
      at_insert nat_cmp_total nat_cmp-IsAntisymmetric (λ found. is_some found ≡ is_some (get descs k)) counts slot.number _ k
      (λ is. sym (ap (λ n. is_some (get descs n)) is ∙ living)) (λ apart. h.same k);
  good = h.good;
  fresh = h.fresh;
  sized = sized-set tables p fd (Some slot) h.sized there;
}

is_one : (c : ℕ) → (c == 1) ≡ true → c ≡ 1
is_one c e = grind arith

is_not_one : (c : ℕ) → (c == 1) ≡ false → c ≢ 1
is_not_one c e is = let test = ap (λ n. n == 1) is in cc

-- what is one before is none after
pub same_test : (before after : ℕ) → after + 1 ≡ before → (before == 1) ≡ (after == 0)
same_test before after e = grind arith

-- a process that has an open descriptor has a table, and the descriptor is within it
pub open-within : (table : Table) (fd : ℕ) (slot : Slot) → option_flatten (slice_get table fd) ≡ Some slot → fd < length table
open-within [] fd slot is = cc
open-within (x ∷ table) zero slot is = omega arith
open-within (x ∷ table) (suc fd) slot is = let rest = open-within table fd slot is in omega arith

pub open-there : (tables : Tables) (p fd : ℕ) (slot : Slot) → option_flatten (slice_get (table_in tables p) fd) ≡ Some slot → IsSome (get tables p)
open-there tables p fd slot is = by_found (get tables p) is
  where
    by_found : (found : Option Table) → option_flatten (slice_get (unwrap_or found []) fd) ≡ Some slot → IsSome found
    by_found None is = let none = open-within [] fd slot is in absurd (omega arith)
    by_found (Some table) is = refl

pub open-limit : (tables : Tables) (p fd : ℕ) (slot : Slot) → ((q : ℕ) → IfSome (get tables q) (λ table. length table ≡ DESCRIPTOR_LIMIT)) → option_flatten (slice_get (table_in tables p) fd) ≡ Some slot → fd < DESCRIPTOR_LIMIT
open-limit tables p fd slot sized is = omega (arith, open-within (table_in tables p) fd slot is, length_in tables p sized (open-there tables p fd slot is))

-- how the count of a slot's description falls with it
pub count-freed : (tables : Tables) (p fd : ℕ) (slot : Slot) → ((q : ℕ) → IfSome (get tables q) (λ table. length table ≡ DESCRIPTOR_LIMIT))
    → option_flatten (slice_get (table_in tables p) fd) ≡ Some slot → (k : ℕ)
    → count (insert tables p (slice_set (table_in tables p) fd None)) k + slot_references k (Some slot) ≡ count tables k
count-freed tables p fd slot sized here k =
    let moved = count-set tables p fd None k (open-there tables p fd slot here) (open-within (table_in tables p) fd slot here) in
    let was = ap (slot_references k) here in
    omega arith

-- a descriptor is freed
pub counts-freed : (descs : FinMap nat_cmp Desc) (counts : FinMap nat_cmp ℕ) (tables : Tables) (next p fd : ℕ) (slot : Slot) → Counts descs counts tables next
    → option_flatten (slice_get (table_in tables p) fd) ≡ Some slot
    → Counts (cond (unwrap_or (get counts slot.number) 0 == 1) (remove descs slot.number) descs)
    (cond (unwrap_or (get counts slot.number) 0 == 1) (remove counts slot.number) (insert counts slot.number (unwrap_or (get counts slot.number) 0 - 1)))
    (insert tables p (slice_set (table_in tables p) fd None)) next
counts-freed descs counts tables next p fd slot h here =
    let n = slot.number in
    let c = unwrap_or (get counts n) 0 in
    let new = insert tables p (slice_set (table_in tables p) fd None) in
    let fell = count-freed tables p fd slot h.sized here in
    elim (c == 1) as (λ b. (c == 1) ≡ b → Counts (cond b (remove descs n) descs) (cond b (remove counts n) (insert counts n (c - 1))) new next) [
      | true ↦ λ e. record {
        counted = λ k. at_remove nat_cmp_total nat_cmp-IsAntisymmetric (λ found. unwrap_or found 0 ≡ count new k) counts n k
            (λ is. let own = ap (λ n. slot_references n (Some slot)) is ∙ refers_own slot in let was = ap (λ n. unwrap_or (get counts n) 0) is in omega (arith, fell k, h.counted k, is_one c e))
            (λ apart. omega (arith, fell k, h.counted k, refers_other slot k apart));
        alive = λ k. at_remove nat_cmp_total nat_cmp-IsAntisymmetric (λ found. IfSome found (λ count. 0 < count)) counts n k (λ is. tt) (λ apart. h.alive k);
        same = λ k. at_remove nat_cmp_total nat_cmp-IsAntisymmetric (λ found. is_some found ≡ is_some (get (remove descs n) k)) counts n k
            (λ is. sym (ap (λ q. is_some (get (remove descs n) q)) is ∙ ap is_some (get-remove_same nat_cmp_total nat_cmp-IsAntisymmetric descs n)))
            (λ apart. h.same k ∙ sym (ap is_some (get-remove_other nat_cmp_total nat_cmp-IsAntisymmetric descs n k apart)));
        good = λ k. at_remove nat_cmp_total nat_cmp-IsAntisymmetric (λ found. IfSome found IsDesc) descs n k (λ is. tt) (λ apart. h.good k);
        fresh = λ k. at_remove nat_cmp_total nat_cmp-IsAntisymmetric (λ found. IsSome found → k < next) descs n k (λ is gone. cc) (λ apart. h.fresh k);
        sized = sized-set tables p fd None h.sized (open-there tables p fd slot here);
      }
      | false ↦ λ e. record {
        counted = λ k. at_insert nat_cmp_total nat_cmp-IsAntisymmetric (λ found. unwrap_or found 0 ≡ count new k) counts n (c - 1) k
            (λ is. let own = ap (λ n. slot_references n (Some slot)) is ∙ refers_own slot in let was = ap (λ n. unwrap_or (get counts n) 0) is in omega (arith, fell k, h.counted k))
            (λ apart. omega (arith, fell k, h.counted k, refers_other slot k apart));
        alive = λ k. at_insert nat_cmp_total nat_cmp-IsAntisymmetric (λ found. IfSome found (λ count. 0 < count)) counts n (c - 1) k
            (λ is. omega (arith, fell n, h.counted n, refers_own slot, is_not_one c e)) (λ apart. h.alive k);
        same = λ k. at_insert nat_cmp_total nat_cmp-IsAntisymmetric (λ found. is_some found ≡ is_some (get descs k)) counts n (c - 1) k
            (λ is. sym (ap (λ q. is_some (get descs q)) is ∙ sym (h.same n) ∙ some_if (get counts n) (omega (arith, fell n, h.counted n, refers_own slot)))) (λ apart. h.same k);
        good = h.good;
        fresh = h.fresh;
        sized = sized-set tables p fd None h.sized (open-there tables p fd slot here);
      }
    ] refl
  where
    some_if : (found : Option ℕ) → 0 < unwrap_or found 0 → is_some found ≡ true
    some_if None more = absurd (omega arith)
    some_if (Some c) more = refl

none_there : {X : Type 0} (found : Option X) → (IsSome found → ⊥) → found ≡ None
none_there None never = refl
none_there (Some x) never = absurd (never refl)

none_too : {X Y : Type 0} (a : Option X) (b : Option Y) → is_some a ≡ is_some b → b ≡ None → a ≡ None
none_too None b e gone = refl
none_too (Some x) b e gone = let is = ap is_some gone in cc

-- the next number is free
pub next-free : (descs : FinMap nat_cmp Desc) (counts : FinMap nat_cmp ℕ) (tables : Tables) (next : ℕ) → Counts descs counts tables next → get descs next ≡ None
next-free descs counts tables next h = none_there _ (λ is. let less = h.fresh next is in omega arith)

-- a value put where none was, and taken away again
pub put_taken : {X : Type 0} (m : FinMap nat_cmp X) (n : ℕ) (x : X) → get m n ≡ None → remove (insert m n x) n ≡ m
put_taken m n x gone = same_map nat_cmp_total nat_cmp-IsAntisymmetric _ _ (λ q.
    at_remove nat_cmp_total nat_cmp-IsAntisymmetric (λ found. found ≡ get m q) (insert m n x) n q
    (λ is. sym (ap (get m) is ∙ gone))
    (λ apart. get-insert_other nat_cmp_total nat_cmp-IsAntisymmetric m n x q apart))

-- a free descriptor comes to refer to a new description
pub counts-entered : (descs : FinMap nat_cmp Desc) (counts : FinMap nat_cmp ℕ) (tables : Tables) (next p fd : ℕ) (desc : Desc) (slot : Slot) → Counts descs counts tables next
    → IsSome (get tables p) → fd < DESCRIPTOR_LIMIT → option_flatten (slice_get (table_in tables p) fd) ≡ None → slot.number ≡ next → IsDesc desc
    → Counts (insert descs next desc) (insert counts next 1) (insert tables p (slice_set (table_in tables p) fd (Some slot))) (next + 1)
counts-entered descs counts tables next p fd desc slot h there within free new good =
    let gone = next-free descs counts tables next h in
    let zero_now = ap (λ found. unwrap_or found 0) (none_too (get counts next) (get descs next) (h.same next) gone) in
    record {
      counted = λ k.
          let more = count-set tables p fd (Some slot) k there (omega (arith, length_in tables p h.sized there)) in
          let none = ap (slot_references k) free in
          at_insert nat_cmp_total nat_cmp-IsAntisymmetric (λ found. unwrap_or found 0 ≡ count (insert tables p (slice_set (table_in tables p) fd (Some slot))) k) counts next 1 k
          (λ is. let own = ap (λ n. slot_references n (Some slot)) (is ∙ sym new) ∙ refers_own slot in let was = ap (λ n. unwrap_or (get counts n) 0) is in omega (arith, h.counted k))
          (λ apart. omega (arith, h.counted k, refers_other slot k (λ is. apart (is ∙ new))));
      alive = λ k. at_insert nat_cmp_total nat_cmp-IsAntisymmetric (λ found. IfSome found (λ count. 0 < count)) counts next 1 k (λ is. omega arith) (λ apart. h.alive k);
      same = λ k. at_insert nat_cmp_total nat_cmp-IsAntisymmetric (λ found. is_some found ≡ is_some (get (insert descs next desc) k)) counts next 1 k
          (λ is. sym (ap (λ q. is_some (get (insert descs next desc) q)) is ∙ ap is_some (get-insert_same nat_cmp_total nat_cmp-IsAntisymmetric descs next desc)))
          (λ apart. h.same k ∙ sym (ap is_some (get-insert_other nat_cmp_total nat_cmp-IsAntisymmetric descs next desc k apart)));
      good = λ k. at_insert nat_cmp_total nat_cmp-IsAntisymmetric (λ found. IfSome found IsDesc) descs next desc k (λ is. good) (λ apart. h.good k);
      fresh = λ k. at_insert nat_cmp_total nat_cmp-IsAntisymmetric (λ found. IsSome found → k < next + 1) descs next desc k (λ is some. omega arith) (λ apart is. let less = h.fresh k is in omega arith);
      sized = sized-set tables p fd (Some slot) h.sized there;
    }

-- the code's way to sweep is the definition's
pub freed-is : (f : Descriptions) (p fd n c : ℕ) → (c == 1) ≡ (descriptors_of (with_slot f p fd None) n == 0)
    → ◌≡◌ {A = Descriptions} (record { descs = cond (c == 1) (remove f.descs n) f.descs; tables = insert f.tables p (slice_set (table_at f p) fd None); next = f.next }) (without_slot f p fd n)
unfolding without_slot with_slot without_unreferenced
freed-is f p fd n c e =
    let new = insert f.tables p (slice_set (table_at f p) fd None) in
    by_test (c == 1) ∙ ap (λ b. cond b (record { descs = remove f.descs n; tables = new; next = f.next }) (record { descs = f.descs; tables = new; next = f.next })) e
  where
    by_test : (b : Bool) → ◌≡◌ {A = Descriptions} (record { descs = cond b (remove f.descs n) f.descs; tables = insert f.tables p (slice_set (table_at f p) fd None); next = f.next })
        (cond b (record { descs = remove f.descs n; tables = insert f.tables p (slice_set (table_at f p) fd None); next = f.next }) (record { descs = f.descs; tables = insert f.tables p (slice_set (table_at f p) fd None); next = f.next }))
    by_test true = refl
    by_test false = refl

-- the test of a count that is kept is that of the descriptors counted
pub test-is : (descs : FinMap nat_cmp Desc) (counts : FinMap nat_cmp ℕ) (f : Descriptions) (next p fd : ℕ) (slot : Slot) → Counts descs counts f.tables next
    → option_flatten (slice_get (table_in f.tables p) fd) ≡ Some slot
    → (unwrap_or (get counts slot.number) 0 == 1) ≡ (descriptors_of (with_slot f p fd None) slot.number == 0)
unfolding descriptors_of with_slot
test-is descs counts f next p fd slot h here =
    let fell = count-freed f.tables p fd slot h.sized here slot.number in
    same_test _ _ (omega (arith, h.counted slot.number, refers_own slot))

-- what is true of maps is true of equal maps
pub counts-alike : (d e : FinMap nat_cmp Desc) (c b : FinMap nat_cmp ℕ) (t s : Tables) (next : ℕ) → d ≡ e → c ≡ b → t ≡ s → Counts e b s next → Counts d c t next
counts-alike d e c b t s next p q r h = subst (λ x. Counts x c t next) (sym p) (subst (λ x. Counts e x t next) (sym q) (subst (λ x. Counts e b x next) (sym r) h))

-- what a slot refers to is open
pub counts-living : (descs : FinMap nat_cmp Desc) (counts : FinMap nat_cmp ℕ) (tables : Tables) (next p fd : ℕ) (slot : Slot) → Counts descs counts tables next
    → option_flatten (slice_get (table_in tables p) fd) ≡ Some slot → IsSome (get descs slot.number)
counts-living descs counts tables next p fd slot h here =
    let fell = count-freed tables p fd slot h.sized here slot.number in
    sym (h.same slot.number) ∙ some_if (get counts slot.number) (omega (arith, fell, h.counted slot.number, refers_own slot))
  where
    some_if : (found : Option ℕ) → 0 < unwrap_or found 0 → is_some found ≡ true
    some_if None more = absurd (omega arith)
    some_if (Some c) more = refl

-- another description in the place of one
pub counts-changed : (descs : FinMap nat_cmp Desc) (counts : FinMap nat_cmp ℕ) (tables : Tables) (next k : ℕ) (old new : Desc) → get descs k ≡ Some old → IsDesc new → Counts descs counts tables next → Counts (insert descs k new) counts tables next
counts-changed descs counts tables next k old new there good h = record {
  counted = h.counted;
  alive = h.alive;
  same = λ q. at_insert nat_cmp_total nat_cmp-IsAntisymmetric (λ found. is_some (get counts q) ≡ is_some found) descs k new q
      (λ is. h.same q ∙ ap (λ n. is_some (get descs n)) is ∙ ap is_some there) (λ apart. h.same q);
  good = λ q. at_insert nat_cmp_total nat_cmp-IsAntisymmetric (λ found. IfSome found IsDesc) descs k new q (λ is. good) (λ apart. h.good q);
  fresh = λ q. at_insert nat_cmp_total nat_cmp-IsAntisymmetric (λ found. IsSome found → q < next) descs k new q
      (λ is some. subst (λ n. n < next) (sym is) (h.fresh k (ap is_some there))) (λ apart. h.fresh q);
  sized = h.sized;
}

-- a descriptor refers to the same description under another bit
pub counts-marked : (descs : FinMap nat_cmp Desc) (counts : FinMap nat_cmp ℕ) (tables : Tables) (next p fd : ℕ) (slot new : Slot) → Counts descs counts tables next
    → option_flatten (slice_get (table_in tables p) fd) ≡ Some slot → new.number ≡ slot.number
    → Counts descs counts (insert tables p (slice_set (table_in tables p) fd (Some new))) next
counts-marked descs counts tables next p fd slot new h here e = record {
  counted = λ k.
      let moved = count-set tables p fd (Some new) k (open-there tables p fd slot here) (open-within (table_in tables p) fd slot here) in
      let was = ap (slot_references k) here in
      let same = ap (λ n. one_for n k) e in
      omega (arith, h.counted k);
  alive = h.alive;
  same = h.same;
  good = h.good;
  fresh = h.fresh;
  sized = sized-set tables p fd (Some new) h.sized (open-there tables p fd slot here);
}

-- a table whose descriptors are free refers to nothing
none-counted : (table : Table) → ((fd : ℕ) → fd < length table → option_flatten (slice_get table fd) ≡ None) → (k : ℕ) → sum_by (slot_references k) table ≡ 0
none-counted [] none k = refl
none-counted (None ∷ table) none k = none-counted table (λ fd less. none (suc fd) (omega arith)) k
none-counted (Some slot ∷ table) none k = let is : Some slot ≡ None = none 0 (omega arith) in cc

-- a table whose descriptors are free goes
pub counts-forgotten : (descs : FinMap nat_cmp Desc) (counts : FinMap nat_cmp ℕ) (tables : Tables) (next p : ℕ) → Counts descs counts tables next
    → ((fd : ℕ) → fd < DESCRIPTOR_LIMIT → option_flatten (slice_get (table_in tables p) fd) ≡ None)
    → Counts descs counts (remove tables p) next
counts-forgotten descs counts tables next p h none = record {
  counted = λ k.
      let sum = total-remove nat_cmp_total (sum_by (slot_references k)) nat_cmp-IsAntisymmetric tables p in
      let zero_now = by_found k (get tables p) (h.sized p) none in
      omega (arith, h.counted k);
  alive = h.alive;
  same = h.same;
  good = h.good;
  fresh = h.fresh;
  sized = λ q. at_remove nat_cmp_total nat_cmp-IsAntisymmetric (λ found. IfSome found (λ table. length table ≡ DESCRIPTOR_LIMIT)) tables p q (λ is. tt) (λ apart. h.sized q);
}
  where
    by_found : (k : ℕ) (found : Option Table) → IfSome found (λ table. length table ≡ DESCRIPTOR_LIMIT) → ((fd : ℕ) → fd < DESCRIPTOR_LIMIT → option_flatten (slice_get (unwrap_or found []) fd) ≡ None) → weight (sum_by (slot_references k)) found ≡ 0
    by_found k None size none = refl
    by_found k (Some table) size none = none-counted table (λ fd less. none fd (omega (arith, size))) k

-- other tables
pub tables-same : (descs : FinMap nat_cmp Desc) (t s : Tables) (next : ℕ) → t ≡ s
    → ◌≡◌ {A = Descriptions} (record { descs = descs; tables = t; next = next }) (record { descs = descs; tables = s; next = next })
tables-same descs t s next e = λ i. record { descs = descs; tables = e i; next = next }
