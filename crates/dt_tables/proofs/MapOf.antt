-- The finite map of a list of entries, key by key and after an insert.
use Rattle.std.proofs.Common.{◌≡◌, List, [], ◌∷◌, map, Bool, true, false, cond, Option, Some, refl, sym, ap, ◌∙◌}
use Rattle.std.specs.Prelude.{option_map}
use Rattle.std.specs.declared.cmp.Ordering.{Ordering}
use Rattle.std.specs.declared.cmp.Ordering.TheVariants.{Less, Equal, Greater}
use Rattle.std.specs.Ordering.{is_eq, match_ordering}
use Rattle.std.specs.Cmp.{IsTotalOrder}
use Rattle.std.proofs.lemmas.Cmp.{alike_right}
use Rattle.std.specs.Map.{lookup}
use Rattle.std.specs.BTreeMap.{insert_entry}
use Rattle.std.specs.FinMap.{IsAntisymmetric, find, empty, from_entries, get, insert, get-insert, get-from_entries, same_map}
use Rattle.dt_tables.specs.Entries.{map_of}

repeated : {A : Type 0} (b : Bool) (x y z : A) → cond b x z ≡ cond b x (cond b y z)
repeated true x y z = refl
repeated false x y z = refl

pub equal_if : (r : Ordering) → is_eq r ≡ true → r ≡ Equal
equal_if Less e = cc
equal_if Equal e = refl
equal_if Greater e = cc

-- two tests that aren't both met may be tried in either order
in_turn : {A : Type 0} (a b : Bool) (x y z : A) → (a ≡ true → b ≡ true → ⊥) → cond a x (cond b y z) ≡ cond b y (cond a x z)
in_turn true true x y z apart = absurd (apart refl refl)
in_turn true false x y z apart = refl
in_turn false true x y z apart = refl
in_turn false false x y z apart = refl

module _ {K J X Y : Type 0} {R : J → J → Ordering} (o : IsTotalOrder R) (key : K → J) (value : X → Y) where
  find-map : (q : J) (es : List (K × X)) → find R q (map (λ e. (key e.0, value e.1)) es) ≡ option_map value (lookup (λ k. is_eq (R q (key k))) es)
  find-map q [] = refl
  find-map q (e ∷ es) =
      elim (is_eq (R q (key e.0))) as (λ b. cond b (Some (value e.1)) (find R q (map (λ e. (key e.0, value e.1)) es)) ≡ option_map value (cond b (Some e.1) (lookup (λ k. is_eq (R q (key k))) es))) [
        | true ↦ refl
        | false ↦ find-map q es
      ]

  -- the map has at q what a look-up finds
  pub get-map_of : (q : J) (es : List (K × X)) → get (map_of {R = R} key value es) q ≡ option_map value (lookup (λ k. is_eq (R q (key k))) es)
  unfolding map_of
  get-map_of q es = get-from_entries o (map (λ e. (key e.0, value e.1)) es) q ∙ find-map q es

  -- no entries make the empty map
  pub map_of-nil : (es : List (K × X)) → es ≡ [] → map_of {R = R} key value es ≡ empty
  unfolding map_of
  map_of-nil es e = ap (λ xs. from_entries (map (λ e. (key e.0, value e.1)) xs)) e

  -- a look-up after an insert into a sorted list of entries
  lookup-insert_entry : (q : J) (es : List (K × X)) (k : K) (v : X) → lookup (λ x. is_eq (R q (key x))) (insert_entry (λ x y. R (key x) (key y)) es k v) ≡ cond (is_eq (R q (key k))) (Some v) (lookup (λ x. is_eq (R q (key x))) es)
  lookup-insert_entry q [] k v = refl
  lookup-insert_entry q (e ∷ es) k v =
      let test = λ (x : K). is_eq (R q (key x)) in
      let rest = lookup test es in
      let more = insert_entry (λ x y. R (key x) (key y)) es k v in
      elim (R (key k) (key e.0)) as (λ r. R (key k) (key e.0) ≡ r → lookup test (match_ordering r ((k, v) ∷ e ∷ es) ((e.0, v) ∷ es) (e ∷ more)) ≡ cond (test k) (Some v) (cond (test e.0) (Some e.1) rest)) [
        | Less ↦ λ h. refl
        | Equal ↦ λ h.
            repeated (test e.0) (Some v) (Some e.1) rest
            ∙ ap (λ r. cond (is_eq r) (Some v) (cond (test e.0) (Some e.1) rest)) (sym (alike_right o (key k) (key e.0) q h))
        | Greater ↦ λ h.
            ap (λ found. cond (test e.0) (Some e.1) found) (lookup-insert_entry q es k v)
            ∙ in_turn (test e.0) (test k) (Some e.1) (Some v) rest (λ a b.
            let tie = sym (o.congr q (key k) (key e.0) (equal_if _ b)) ∙ equal_if _ a in cc)
      ] refl

  -- an insert into the entries is an insert into the map
  pub map_of-insert_entry : IsAntisymmetric R → (es : List (K × X)) (k : K) (v : X) → map_of {R = R} key value (insert_entry (λ x y. R (key x) (key y)) es k v) ≡ insert (map_of key value es) (key k) (value v)
  map_of-insert_entry same es k v = same_map o same _ _ (λ q.
      get-map_of q _
      ∙ ap (option_map value) (lookup-insert_entry q es k v)
      ∙ by_test (is_eq (R q (key k))) _
      ∙ ap (cond (is_eq (R q (key k))) (Some (value v))) (sym (get-map_of q es))
      ∙ sym (get-insert o (map_of key value es) (key k) (value v) q))
    where
      by_test : (b : Bool) (found : Option X) → option_map value (cond b (Some v) found) ≡ cond b (Some (value v)) (option_map value found)
      by_test true found = refl
      by_test false found = refl
