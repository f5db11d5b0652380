-- A child's table, as it grows to its parent's.
use Rattle.std.proofs.Common.{arith, ◌≡◌, ◌≢◌, ℕ, zero, suc, ◌+◌, [], ◌∷◌, length, Option, None, Some, false, refl, sym, ap, ◌∙◌}
use Rattle.std.specs.Prelude.{slice_set, slice_get, unwrap_or, is_some, IsSome, replicate}
use Rattle.std.specs.Option.{option_flatten}
use Rattle.std.specs.Cmp.{nat_cmp_total}
use Rattle.std.specs.FinMap.{get, insert, nat_cmp-IsAntisymmetric}
use Rattle.dt_tables.proofs.Maps.{get-insert_same, get-insert_other, insert_same}
use Rattle.dt_fds.specs.declared.desc.TheConstants.{DESCRIPTOR_LIMIT}
use Rattle.dt_fds.specs.declared.desc.Slot.{Slot}
use Rattle.dt_fds.specs.Descriptions.{Descriptions, Table, table_at, slot_at, with_slot, with_table, with_table_if_any, with_shared_table}
use Rattle.dt_fds.specs.inner.Copies.{with_copy}

-- a table with the slots below a descriptor of another, and the rest free
abbrev pub partial : Table → ℕ → Table
partial [] fd = []
partial (x ∷ table) zero = None ∷ partial table zero
partial (x ∷ table) (suc fd) = x ∷ partial table fd

partial-none : (table : Table) → replicate (length table) None ≡ partial table zero
partial-none [] = refl
partial-none (x ∷ table) = ap (λ rest. None ∷ rest) (partial-none table)

partial-all : (table : Table) (n : ℕ) → length table ≡ n → partial table n ≡ table
partial-all [] n h = refl
partial-all (x ∷ table) zero h = absurd (omega arith)
partial-all (x ∷ table) (suc n) h = ap (λ rest. x ∷ rest) (partial-all table n (omega arith))

partial-free : (table : Table) (fd : ℕ) → option_flatten (slice_get (partial table fd) fd) ≡ None
partial-free [] fd = refl
partial-free (x ∷ table) zero = refl
partial-free (x ∷ table) (suc fd) = partial-free table fd

partial-next : (table : Table) (fd : ℕ) (slot : Slot) → option_flatten (slice_get table fd) ≡ Some slot → slice_set (partial table fd) fd (Some slot) ≡ partial table (suc fd)
partial-next [] fd slot is = cc
partial-next (x ∷ table) zero slot is = ap (λ y. y ∷ partial table zero) (sym is)
partial-next (x ∷ table) (suc fd) slot is = ap (λ rest. x ∷ rest) (partial-next table fd slot is)

partial-skip : (table : Table) (fd : ℕ) → option_flatten (slice_get table fd) ≡ None → partial table fd ≡ partial table (suc fd)
partial-skip [] fd is = refl
partial-skip (x ∷ table) zero is = ap (λ y. y ∷ partial table zero) (sym is)
partial-skip (x ∷ table) (suc fd) is = ap (λ rest. x ∷ rest) (partial-skip table fd is)

-- a process that has a table is not one that has none
pub others-apart : (f : Descriptions) (p q : ℕ) → IsSome (get f.tables p) → get f.tables q ≡ None → p ≢ q
others-apart f p q there none is =
    let found = ap (λ n. is_some (get f.tables n)) is in
    let gone = ap is_some none in
    cc

-- that table is there
pub table-here : (f : Descriptions) (p : ℕ) (table : Table) → get (with_table f p table).tables p ≡ Some table
table-here f p table = get-insert_same nat_cmp_total nat_cmp-IsAntisymmetric f.tables p table

table_here : (f : Descriptions) (p : ℕ) (table : Table) → table_at (with_table f p table) p ≡ table
table_here f p table = ap (λ found. unwrap_or found []) (table-here f p table)

table_other : (f : Descriptions) (p q : ℕ) (table : Table) → q ≢ p → table_at (with_table f p table) q ≡ table_at f q
table_other f p q table apart = ap (λ found. unwrap_or found []) (get-insert_other nat_cmp_total nat_cmp-IsAntisymmetric f.tables p table q apart)

-- what a child begins with
pub with-none : (f : Descriptions) (parent child : ℕ) → length (table_at f parent) ≡ DESCRIPTOR_LIMIT → with_table f child (replicate DESCRIPTOR_LIMIT None) ≡ with_table f child (partial (table_at f parent) 0)
with-none f parent child size = ap (λ n. with_table f child (replicate n None)) (sym size) ∙ ap (with_table f child) (partial-none (table_at f parent))

-- the next descriptor is free
pub next-free : (f : Descriptions) (child fd : ℕ) (table : Table) → slot_at (with_table f child (partial table fd)) child fd ≡ None
unfolding slot_at
next-free f child fd table = ap (λ t. option_flatten (slice_get t fd)) (table_here f child (partial table fd)) ∙ partial-free table fd

-- one more slot is copied
pub copied-next : (f g h : Descriptions) (parent child fd : ℕ) → parent ≢ child → g ≡ with_table f child (partial (table_at f parent) fd) → h ≡ with_copy g child fd (slot_at g parent fd)
    → h ≡ with_table f child (partial (table_at f parent) (fd + 1))
unfolding slot_at with_slot
copied-next f g h parent child fd apart same next =
    let table = table_at f parent in
    let base : Descriptions = with_table f child (partial table fd) in
    let more : suc fd ≡ fd + 1 = omega arith in
    next ∙ ap (λ g. with_copy g child fd (slot_at g parent fd)) same
    ∙ ap (λ t. with_copy base child fd (option_flatten (slice_get t fd))) (table_other f child parent (partial table fd) apart)
    ∙ by_slot (option_flatten (slice_get table fd)) refl
    ∙ ap (λ n. with_table f child (partial table n)) more
  where
    by_slot : (found : Option Slot) → option_flatten (slice_get (table_at f parent) fd) ≡ found
        → with_copy (with_table f child (partial (table_at f parent) fd)) child fd found ≡ with_table f child (partial (table_at f parent) (suc fd))
    by_slot None e = ap (with_table f child) (partial-skip (table_at f parent) fd e)
    by_slot (Some slot) e =
        ap (λ m. record f { tables = m })
        (insert_same nat_cmp_total nat_cmp-IsAntisymmetric f.tables child (partial (table_at f parent) fd) _
        ∙ ap (λ t. insert f.tables child (slice_set t fd (Some slot))) (table_here f child (partial (table_at f parent) fd))
        ∙ ap (insert f.tables child) (partial-next (table_at f parent) fd slot e))

-- all slots are copied
pub copied-all : (f : Descriptions) (parent child n : ℕ) → length (table_at f parent) ≡ n → with_table f child (partial (table_at f parent) n) ≡ with_table f child (table_at f parent)
copied-all f parent child n size = ap (with_table f child) (partial-all (table_at f parent) n size)

there_is : (found : Option Table) → IsSome found → found ≡ Some (unwrap_or found [])
there_is None h = cc
there_is (Some table) h = refl

-- the child has its parent's table
pub shared_all-there : (parent child : ℕ) (f : Descriptions) → IsSome (get f.tables parent) → with_shared_table parent child f ≡ with_table f child (table_at f parent)
unfolding with_shared_table
shared_all-there parent child f there = ap (with_table_if_any f child) (there_is (get f.tables parent) there)

not_there : (found : Option Table) → is_some found ≡ false → found ≡ None
not_there None h = refl
not_there (Some table) h = cc

-- or none, where that has none
pub shared_all-none : (parent child : ℕ) (f : Descriptions) → is_some (get f.tables parent) ≡ false → with_shared_table parent child f ≡ f
unfolding with_shared_table
shared_all-none parent child f none = ap (with_table_if_any f child) (not_there (get f.tables parent) none)

pub ruleset sharing = (shared_all-there, shared_all-none)
