-- The slots of a table after a change of one.
use Rattle.std.proofs.Common.{◌≤◌, arith, ◌≡◌, ◌≢◌, ℕ, zero, suc, ◌+◌, drop, ◌<◌, ◌==◌, Bool, true, false, cond, [], ◌∷◌, Option, None, Some, refl, sym, ap, subst, ◌∙◌}
use Rattle.std.proofs.Common.{inl, inr}
use Rattle.std.proofs.lemmas.Bool.{cases_eq}
use Rattle.std.specs.Prelude.{length, slice_set, slice_get, get_or, unwrap_or, IfSome, IsSome, option_map}
use Rattle.std.specs.Option.{option_flatten, is_none}
use Rattle.std.specs.List.{position}
use Rattle.std.proofs.lemmas.List.Quantifiers.{position-Some}
use Rattle.std.specs.Cmp.{nat_cmp_total}
use Rattle.std.specs.FinMap.{get, remove, nat_cmp-IsAntisymmetric}
use Rattle.std.proofs.lemmas.Option.{unwrap_or-slice_get}
use Rattle.std.proofs.lemmas.List.{get_or-set_other, get_or-drop, drop_all}
use Rattle.dt_tables.proofs.Maps.{get-insert_same}
use Rattle.dt_fds.specs.declared.desc.Slot.{Slot}
use Rattle.dt_fds.specs.Holding.{Holding, without_descriptor, without_descriptors_below, without_cloexec_descriptor, without_cloexec_below}
use Rattle.dt_fds.specs.declared.desc.Desc.{Desc}
use Rattle.dt_fds.specs.Descriptions.{Descriptions, Table, table_at, slot_at, descriptors_of, lowest_free, with_slot, with_new_description, with_opened, without_unreferenced, without_slot}

pub flat : {X : Type 0} (found : Option (Option X)) → option_flatten found ≡ unwrap_or found None
flat None = refl
flat (Some found) = refl

slot_is : (f : Descriptions) (p fd : ℕ) → slot_at f p fd ≡ get_or (table_at f p) fd None
unfolding slot_at
slot_is f p fd = flat (slice_get (table_at f p) fd) ∙ unwrap_or-slice_get (table_at f p) fd None

cut : (table : Table) (fd : ℕ) → get_or (slice_set table fd None) fd None ≡ None
cut [] fd = refl
cut (x ∷ table) zero = refl
cut (x ∷ table) (suc fd) = cut table fd

table_placed : (f : Descriptions) (p fd : ℕ) (slot : Option Slot) → table_at (with_slot f p fd slot) p ≡ slice_set (table_at f p) fd slot
unfolding with_slot
table_placed f p fd slot = ap (λ found. unwrap_or found []) (get-insert_same nat_cmp_total nat_cmp-IsAntisymmetric f.tables p (slice_set (table_at f p) fd slot))

table_freed : (f : Descriptions) (p fd k : ℕ) → table_at (without_slot f p fd k) p ≡ slice_set (table_at f p) fd None
unfolding without_slot without_unreferenced
table_freed f p fd k = elim (descriptors_of (with_slot f p fd None) k == 0) as (λ b. table_at (cond b (record (with_slot f p fd None) { descs = remove (with_slot f p fd None).descs k }) (with_slot f p fd None)) p ≡ slice_set (table_at f p) fd None) [
  | true ↦ table_placed f p fd None
  | false ↦ table_placed f p fd None
]

-- that descriptor is free then
pub slot-freed : (f : Descriptions) (p fd k : ℕ) → slot_at (without_slot f p fd k) p fd ≡ None
slot-freed f p fd k = slot_is (without_slot f p fd k) p fd ∙ ap (λ t. get_or t fd None) (table_freed f p fd k) ∙ cut (table_at f p) fd

-- and the others stay
pub slot-freed_other : (f : Descriptions) (p fd k q : ℕ) → q ≢ fd → slot_at (without_slot f p fd k) p q ≡ slot_at f p q
slot-freed_other f p fd k q apart =
    slot_is (without_slot f p fd k) p q ∙ ap (λ t. get_or t q None) (table_freed f p fd k) ∙ get_or-set_other (table_at f p) fd q None None apart ∙ sym (slot_is f p q)

pub slot-without : (h : Holding) (p fd : ℕ) → slot_at (without_descriptor h p fd (slot_at h.files p fd)).files p fd ≡ None
slot-without h p fd = by_found (slot_at h.files p fd) refl
  where
    by_found : (found : Option Slot) → slot_at h.files p fd ≡ found → slot_at (without_descriptor h p fd found).files p fd ≡ None
    by_found None e = e
    by_found (Some slot) e = slot-freed h.files p fd slot.number

pub slot-without_other : (h : Holding) (p fd q : ℕ) (found : Option Slot) → q ≢ fd → slot_at (without_descriptor h p fd found).files p q ≡ slot_at h.files p q
slot-without_other h p fd q None apart = refl
slot-without_other h p fd q (Some slot) apart = slot-freed_other h.files p fd slot.number q apart

none_is : {X : Type 0} (found : Option X) → is_none found ≡ true → found ≡ None
none_is None e = refl
none_is (Some x) e = cc

-- no descriptor is free behind a table
pub free-behind : (table : Table) (from : ℕ) → length table ≤ from → lowest_free table from ≡ None
unfolding lowest_free
free-behind table from h = ap (λ rest. option_map (λ i. from + i) (position is_none rest)) (drop_all from table h)

pub ruleset behind_all = (free-behind)

-- the lowest free descriptor is free
pub free-slot : (table : Table) (from : ℕ) → IfSome (lowest_free table from) (λ fd. get_or table fd None ≡ None)
unfolding lowest_free
free-slot table from = by_found (position is_none (drop from table)) refl
  where
    by_found : (found : Option ℕ) → position is_none (drop from table) ≡ found → IfSome (option_map (λ i. from + i) found) (λ fd. get_or table fd None ≡ None)
    by_found None e = tt
    by_found (Some i) e = sym (get_or-drop from table i None) ∙ none_is _ ((position-Some is_none (drop from table) i None e).1)

-- and it is from there on
pub lowest-from : (table : Table) (from fd : ℕ) → lowest_free table from ≡ Some fd → from ≤ fd
unfolding lowest_free
lowest-from table from fd e = by_found (position is_none (drop from table)) e
  where
    by_found : (found : Option ℕ) → option_map (λ i. from + i) found ≡ Some fd → from ≤ fd
    by_found None e = cc
    by_found (Some i) e = let same : from + i ≡ fd = cc in omega arith

pub free-slot_at : (f : Descriptions) (p from : ℕ) → IfSome (lowest_free (table_at f p) from) (λ fd. slot_at f p fd ≡ None)
free-slot_at f p from = by_found (lowest_free (table_at f p) from) (free-slot (table_at f p) from)
  where
    by_found : (found : Option ℕ) → IfSome found (λ fd. get_or (table_at f p) fd None ≡ None) → IfSome found (λ fd. slot_at f p fd ≡ None)
    by_found None h = tt
    by_found (Some fd) h = slot_is f p fd ∙ h

-- one more descriptor is closed
pub closed-next : (p fd : ℕ) (h a b : Holding) → a ≡ without_descriptors_below p fd h → b ≡ without_descriptor a p fd (slot_at a.files p fd) → b ≡ without_descriptors_below p (fd + 1) h
unfolding without_descriptors_below
closed-next p fd h a b same next =
    let more : suc fd ≡ fd + 1 = omega arith in
    next ∙ ap (λ h. without_descriptor h p fd (slot_at h.files p fd)) same ∙ ap (λ n. without_descriptors_below p n h) more

-- one more descriptor is passed
pub marked-next : (p fd : ℕ) (h a b : Holding) → a ≡ without_cloexec_below p fd h → b ≡ without_cloexec_descriptor a p fd (slot_at a.files p fd) → b ≡ without_cloexec_below p (fd + 1) h
unfolding without_cloexec_below
marked-next p fd h a b same next =
    let more : suc fd ≡ fd + 1 = omega arith in
    next ∙ ap (λ h. without_cloexec_descriptor h p fd (slot_at h.files p fd)) same ∙ ap (λ n. without_cloexec_below p n h) more

still_free : (p count : ℕ) (h : Holding) (fd : ℕ) → (fd < count → slot_at h.files p fd ≡ None) → fd < suc count → slot_at (without_descriptor h p count (slot_at h.files p count)).files p fd ≡ None
still_free p count h fd before less = elim (cases_eq fd count) [
  | inl same ↦ ap (slot_at (without_descriptor h p count (slot_at h.files p count)).files p) same ∙ slot-without h p count
  | inr apart ↦ slot-without_other h p count fd (slot_at h.files p count) apart ∙ before (omega arith)
]

-- what is closed is free
pub slot-closed : (p count : ℕ) (h : Holding) (fd : ℕ) → fd < count → (let left = without_descriptors_below p count h in slot_at left.files p fd ≡ None)
unfolding without_descriptors_below
slot-closed p zero h fd less = absurd (omega arith)
slot-closed p (suc count) h fd less = still_free p count (without_descriptors_below p count h) fd (λ below. slot-closed p count h fd below) less

-- a descriptor that is opened leaves the others
pub slot-opened_other : (f : Descriptions) (p fd q : ℕ) (desc : Desc) (cloexec : Bool) → q ≢ fd → slot_at (with_opened f p fd desc cloexec) p q ≡ slot_at f p q
unfolding with_new_description
slot-opened_other f p fd q desc cloexec apart =
    let slot : Option Slot = Some (record { number = f.next; cloexec = cloexec }) in
    slot_is (with_opened f p fd desc cloexec) p q
    ∙ ap (λ t. get_or t q None) (table_placed (with_new_description f desc) p fd slot)
    ∙ get_or-set_other (table_at f p) fd q slot None apart
    ∙ sym (slot_is f p q)

-- and there is a table
pub table-opened : (f : Descriptions) (p fd : ℕ) (desc : Desc) (cloexec : Bool) → (let new = with_opened f p fd desc cloexec in IsSome (get new.tables p))
unfolding with_slot with_new_description
table-opened f p fd desc cloexec = subst (λ found. IsSome found) (sym (get-insert_same nat_cmp_total nat_cmp-IsAntisymmetric f.tables p _)) refl
