-- The entries of a directory, in the order of their binding and as a map by name.
use Rattle.std.proofs.Common.{◌≡◌, ◌≢◌, ℕ, List, [], ◌∷◌, ◌++◌, map, Bool, cond, true, false, ◌&&◌, Some, None, Vec, refl, sym, ap, subst, ◌∙◌, nat_eq}
use Rattle.std.proofs.lemmas.Iterator.Adapters.{option_map_id}
use Rattle.std.proofs.lemmas.List.{map-append, nil_from_length}
use Rattle.std.proofs.lemmas.List.Sorted.{IsPermutation-refl, IsPermutation-cons, IsPermutation-trans, IsPermutation-middle}
use Rattle.std.specs.Prelude.{vec_items}
use Rattle.std.specs.declared.cmp.Ordering.{Ordering}
use Rattle.std.specs.declared.cmp.Ordering.TheVariants.{Less, Equal, Greater}
use Rattle.std.specs.Ordering.{nat_cmp, is_eq, ordering_then}
use Rattle.std.specs.List.{AllByRecursion, IsDistinct}
use Rattle.std.specs.List.Sorted.{IsPermutation}
use Rattle.std.specs.Cmp.Lexicographic.{slice_cmp, pointwise, nat_list_cmp_total, same_text}
use Rattle.std.specs.HashMap.{HashMap, UpdatesBy}
use Rattle.std.specs.Map.{lookup, keys_of, remove_entry, KeepsOthers}
use Rattle.std.specs.FinMap.{entries, empty, get, insert, remove, same_map, get-entries, get-from_entries, entries-insert, from_entries_push, len-entries, len-empty}
use Rattle.std.specs.FinMap.Entries.{find, put, by_order}
use Rattle.dt_tables.specs.Entries.{map_of}
use Rattle.dt_tables.proofs.Maps.{names_tie, at_remove, number_tie}
use Rattle.dt_tables.proofs.MapOf.{get-map_of}
use Rattle.dt_memhost.specs.Order.{Order, order_without}
use Rattle.dt_memhost.specs.inner.Dir.{order_of, names_of}

-- two lists that look alike still do with alike elements at their ends
pub alike_pushed : {A B C : Type 0} (f : A → C) (g : B → C) (xs : List A) (ys : List B) (x : A) (y : B) → map f xs ≡ map g ys → f x ≡ g y → map f (xs ++ x ∷ []) ≡ map g (ys ++ y ∷ [])
alike_pushed f g xs ys x y prefix last =
    map-append f xs (x ∷ [])
    ∙ ap (λ zs. zs ++ f x ∷ []) prefix
    ∙ ap (λ z. map g ys ++ z ∷ []) last
    ∙ sym (map-append g ys (y ∷ []))

then_tie : (r s : Ordering) → is_eq (ordering_then r s) ≡ (is_eq r && is_eq s)
then_tie Less s = refl
then_tie Equal s = refl
then_tie Greater s = refl

-- bytes are equal exactly where they tie
pub bytes_tie : (xs ys : List ℕ) → pointwise nat_eq xs ys ≡ is_eq (slice_cmp nat_cmp xs ys)
bytes_tie [] [] = refl
bytes_tie [] (y ∷ ys) = refl
bytes_tie (x ∷ xs) [] = refl
bytes_tie (x ∷ xs) (y ∷ ys) =
    let first = number_tie x y in
    let rest = bytes_tie xs ys in
    let both = then_tie (nat_cmp x y) (slice_cmp nat_cmp xs ys) in cc

-- the map of a list of entries by the bytes of their names
names_as_map : {Z : Type 0} (entries : List (Vec ℕ Z × ℕ)) → names_of (order_of entries) ≡ map_of vec_items (λ n. n) entries
unfolding map_of
names_as_map entries = refl

-- the number under a name is what a look-up by bytes finds
pub get-names_of : {Z : Type 0} (entries : List (Vec ℕ Z × ℕ)) (name : List ℕ) → get (names_of (order_of entries)) name ≡ lookup (λ key. pointwise nat_eq name key.items) entries
get-names_of {Z} entries name =
    ap (λ names. get names name) (names_as_map entries)
    ∙ get-map_of nat_list_cmp_total vec_items (λ n. n) name entries
    ∙ option_map_id _
    ∙ sym (λ i. lookup (λ (key : Vec ℕ Z). bytes_tie name key.items i) entries)

-- a new name goes last
pub order_of-push : {Z : Type 0} (entries : List (Vec ℕ Z × ℕ)) (name : Vec ℕ Z) (n : ℕ) → order_of (entries ++ (name, n) ∷ []) ≡ order_of entries ++ (name.items, n) ∷ []
order_of-push {Z} entries name n = map-append (λ (e : Vec ℕ Z × ℕ). (e.0.items, e.1)) entries ((name, n) ∷ [])

pub names_of-push : (order : Order) (name : List ℕ) (n : ℕ) → get (names_of order) name ≡ None → names_of (order ++ (name, n) ∷ []) ≡ insert (names_of order) name n
names_of-push order name n none =
    from_entries_push nat_list_cmp_total names_tie order name n (sym (get-from_entries nat_list_cmp_total order name) ∙ none)

take_out : {Z : Type 0} (entries : List (Vec ℕ Z × ℕ)) (name : List ℕ) → order_of (remove_entry (λ key. pointwise nat_eq name key.items) entries) ≡ order_without (order_of entries) name
take_out [] name = refl
take_out {Z} (e ∷ entries) name =
    let rest = remove_entry (λ (key : Vec ℕ Z). pointwise nat_eq name key.items) entries in
    elim (pointwise nat_eq name e.0.items) as (λ b. order_of (cond b entries (e ∷ rest)) ≡ cond b (order_of entries) ((e.0.items, e.1) ∷ order_without (order_of entries) name)) [
      | true ↦ refl
      | false ↦ ap (λ order. (e.0.items, e.1) ∷ order) (take_out entries name)
    ]

-- where an entry goes, the others keep their order
pub order_of-removed : {Z : Type 0} (old new : List (Vec ℕ Z × ℕ)) (name : List ℕ) → new ≡ remove_entry (λ key. pointwise nat_eq name key.items) old → order_of new ≡ order_without (order_of old) name
order_of-removed old new name e = ap order_of e ∙ take_out old name

-- and the map by name has one entry fewer
pub names_of-removed : {Z S : Type 0} (old new : HashMap (Vec ℕ Z) ℕ S) (order : Order) (name : List ℕ) → UpdatesBy (λ x y. pointwise nat_eq x.items y.items) (λ key. pointwise nat_eq name key.items) old new None → order_of old.entries ≡ order → names_of (order_of new.entries) ≡ remove (names_of order) name
unfolding KeepsOthers
names_of-removed {Z} old new order name updates is = same_map nat_list_cmp_total names_tie _ _ (λ q.
    at_remove nat_list_cmp_total names_tie (λ found. get (names_of (order_of new.entries)) q ≡ found) (names_of order) name q
    (λ same. get-names_of new.entries q ∙ ap (λ (n : List ℕ). lookup (λ (key : Vec ℕ Z). pointwise nat_eq n key.items) new.entries) same ∙ updates.1)
    (λ apart. get-names_of new.entries q ∙ updates.3 (λ key. pointwise nat_eq q key.items) (named_by q) (one_name q apart) ∙ sym (get-names_of old.entries q) ∙ ap (λ es. get (names_of es) q) is))
  where
    named_by : (q : List ℕ) (x y : Vec ℕ Z) → pointwise nat_eq q x.items ≡ true → pointwise nat_eq q y.items ≡ pointwise nat_eq x.items y.items
    named_by q x y is = ap (λ n. pointwise nat_eq n y.items) (same_text q x.items (sym is))

    one_name : (q : List ℕ) → q ≢ name → (key : Vec ℕ Z) → pointwise nat_eq name key.items ≡ true → pointwise nat_eq q key.items ≡ false
    one_name q apart key is = by_test (pointwise nat_eq q key.items) refl
      where
        by_test : (b : Bool) → pointwise nat_eq q key.items ≡ b → b ≡ false
        by_test true other = absurd (apart (same_text q key.items (sym other) ∙ sym (same_text name key.items (sym is))))
        by_test false other = refl

-- an entry whose name is new is one entry more
put_new : (k : List ℕ) (v : ℕ) (es : Order) → find (slice_cmp nat_cmp) k es ≡ None → IsPermutation (put (slice_cmp nat_cmp) k v es) ((k, v) ∷ es)
put_new k v [] none = IsPermutation-refl ((k, v) ∷ [])
put_new k v (e ∷ es) none =
    elim (slice_cmp nat_cmp k e.0) as (λ r. cond (is_eq r) (Some e.1) (find (slice_cmp nat_cmp) k es) ≡ None → IsPermutation (by_order r ((k, v) ∷ e ∷ es) ((e.0, v) ∷ es) (e ∷ put (slice_cmp nat_cmp) k v es)) ((k, v) ∷ e ∷ es)) [
      | Less ↦ λ _. IsPermutation-refl ((k, v) ∷ e ∷ es)
      | Equal ↦ λ h. cc
      | Greater ↦ λ h.
          IsPermutation-trans _ _ _ (IsPermutation-cons e _ _ (put_new k v es h)) (IsPermutation-middle (e ∷ []) (k, v) es)
    ] none

-- no entry of a list has this name, where no name is equal to it
none_named : {Z : Type 0} (name : Vec ℕ Z) (es : List (Vec ℕ Z × ℕ)) → AllByRecursion (λ (key : Vec ℕ Z). pointwise nat_eq name.items key.items ≡ false) (keys_of es) → find (slice_cmp nat_cmp) name.items (order_of es) ≡ None
none_named name [] h = refl
none_named name (e ∷ es) h =
    ap (λ b. cond b (Some e.1) (find (slice_cmp nat_cmp) name.items (order_of es))) (sym (bytes_tie name.items e.0.items) ∙ h.0)
    ∙ none_named name es h.1

-- where no name stands twice, the map has each entry once
pub each_entry : {Z : Type 0} (es : List (Vec ℕ Z × ℕ)) → IsDistinct (λ (x y : Vec ℕ Z). pointwise nat_eq x.items y.items) (keys_of es) → IsPermutation (entries (names_of (order_of es))) (order_of es)
unfolding IsDistinct
each_entry [] h = subst (λ found. IsPermutation found []) (sym no_entries) (IsPermutation-refl [])
  where
    no_entries : entries (empty {X = ℕ} {R = slice_cmp nat_cmp}) ≡ []
    no_entries = nil_from_length (entries (empty {X = ℕ} {R = slice_cmp nat_cmp})) (sym (len-entries (empty {X = ℕ} {R = slice_cmp nat_cmp})) ∙ len-empty (slice_cmp nat_cmp) ℕ)
each_entry (e ∷ es) h =
    let names = names_of (order_of es) in
    let rest = each_entry es h.1 in
    let none : find (slice_cmp nat_cmp) e.0.items (entries names) ≡ None =
    sym (get-entries names e.0.items) ∙ get-from_entries nat_list_cmp_total (order_of es) e.0.items ∙ none_named e.0 es h.0 in
    subst (λ found. IsPermutation found ((e.0.items, e.1) ∷ order_of es)) (sym (entries-insert nat_list_cmp_total names e.0.items e.1))
    (IsPermutation-trans _ _ _ (put_new e.0.items e.1 (entries names) none) (IsPermutation-cons (e.0.items, e.1) _ _ rest))
