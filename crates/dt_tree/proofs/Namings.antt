-- How often a node is named, after a change of a forest.
use Rattle.std.proofs.Common.{arith, ◌≡◌, ◌≢◌, ℕ, ◌+◌, ◌-◌, ◌≤◌, cond, List, [], ◌∷◌, length, Option, Some, None, ◌⊎◌, inl, inr, refl, sym, ap, ◌∙◌}
use Rattle.std.proofs.lemmas.Bool.Decides.{nat_tests}
use Rattle.std.specs.Prelude.{is_some, unwrap_or, option_and_then}
use Rattle.std.specs.Cmp.{nat_cmp_total}
use Rattle.std.specs.Cmp.Lexicographic.{nat_list_cmp_total}
use Rattle.std.specs.FinMap.{empty, entries, len, len-entries, len-empty, len-insert, len-remove, get, get-empty, insert, remove, same_map, nat_cmp-IsAntisymmetric}
use Rattle.std.specs.Ordering.{nat_cmp}
use Rattle.std.specs.Cmp.Lexicographic.{slice_cmp}
use Rattle.dt_host.specs.World.{Forest, Node, Names, file, dir, link, device, node_at, dir_names, names_at, entry, with_node, with_entry, without_entry, without_node, IsBare}
use Rattle.dt_tables.specs.Total.{total, total_in}
use Rattle.dt_tables.specs.inner.Weight.{weight}
use Rattle.dt_tables.proofs.Maps.{at_insert, names_tie, get-remove_same}
use Rattle.dt_tables.proofs.Totals.{total-insert, total-remove, total-empty, put_again}
use Rattle.dt_tree.specs.Shape.{one_for, entry_count_for, name_count_of, name_count}

pub same_name : (a b : List ℕ) → (a ≡ b) ⊎ (a ≢ b)
same_name a b = at_insert nat_list_cmp_total names_tie (λ _. (a ≡ b) ⊎ (a ≢ b)) (empty {X = ℕ}) b 0 a inl inr

pub one_for-same : (n : ℕ) → one_for n n ≡ 1
one_for-same n = grind (arith, nat_tests)

pub one_for-swap : (n x : ℕ) → one_for n x ≡ one_for x n
one_for-swap n x = grind (arith, nat_tests)

pub one_for-other : (n x : ℕ) → n ≢ x → one_for n x ≡ 0
one_for-other n x h = grind (arith, nat_tests)

-- the entries for a node among those of a number
held : (n : ℕ) (found : Option Node) → weight (entry_count_for n) found ≡ total (one_for n) (unwrap_or (option_and_then dir_names found) empty)
held n None = sym (total-empty nat_list_cmp_total (one_for n))
held n (Some (file bytes)) = refl
held n (Some (dir names)) = refl
held n (Some (link target)) = refl
held n (Some (device which)) = refl

no_names : (names : Names) → ((name : List ℕ) → get names name ≡ None) → names ≡ empty
no_names names none = same_map nat_list_cmp_total names_tie names empty (λ name. none name ∙ sym (get-empty (slice_cmp nat_cmp) name))

module _ (v : Forest) (d : ℕ) (n : ℕ) where
  pub names_of-with_node : (node : Node) → name_count_of (with_node v d node) n + total (one_for n) (names_at v d) ≡ name_count_of v n + entry_count_for n node
  unfolding name_count_of names_at
  names_of-with_node node =
      let sum = total-insert nat_cmp_total (entry_count_for n) v.nodes d node in
      let there = held n (node_at v d) in
      omega arith

  pub names_of-with_entry : (name : List ℕ) (x : ℕ) → name_count_of (with_entry v d name x) n + weight (one_for n) (entry v d name) ≡ name_count_of v n + one_for n x
  unfolding with_entry entry
  names_of-with_entry name x =
      let node = names_of-with_node (dir (insert (names_at v d) name x)) in
      let more = total-insert nat_list_cmp_total (one_for n) (names_at v d) name x in
      omega arith

  pub names_of-without_entry : (name : List ℕ) → name_count_of (without_entry v d name) n + weight (one_for n) (entry v d name) ≡ name_count_of v n
  unfolding without_entry entry
  names_of-without_entry name =
      let node = names_of-with_node (dir (remove (names_at v d) name)) in
      let less = total-remove nat_list_cmp_total (one_for n) names_tie (names_at v d) name in
      omega arith

  pub names_of-without_node : IsBare v d → name_count_of (without_node v d) n ≡ name_count_of v n
  unfolding name_count_of names_at entry
  names_of-without_node bare =
      let sum = total-remove nat_cmp_total (entry_count_for n) nat_cmp-IsAntisymmetric v.nodes d in
      let there = held n (node_at v d) in
      let none = ap (total (one_for n)) (no_names (names_at v d) bare) in
      let zero = total-empty nat_list_cmp_total (one_for n) in
      omega arith

  pub names_of-with_new : (node : Node) → node_at v d ≡ None → unwrap_or (dir_names node) empty ≡ empty → name_count_of (with_node v d node) n ≡ name_count_of v n
  unfolding names_at
  names_of-with_new node free none =
      let sum = names_of-with_node node in
      let before = ap (λ found. total (one_for n) (unwrap_or (option_and_then dir_names found) empty)) free in
      let after = ap (total (one_for n)) none in
      omega arith

  -- an entry is a name
  pub named : (name : List ℕ) → entry v d name ≡ Some n → 1 ≤ name_count_of v n
  named name e =
      let sum = names_of-with_entry name (n + 1) in
      let one = ap (weight (one_for n)) e ∙ one_for-same n in
      let none = one_for-other n (n + 1) (omega arith) in
      omega arith

-- what isn't that number adds nothing
pub weight_zero : (n : ℕ) (found : Option ℕ) → found ≢ Some n → weight (one_for n) found ≡ 0
weight_zero n None h = refl
weight_zero n (Some x) h = one_for-other n x (λ same. h (ap Some (sym same)))

-- the names in what may be a directory
counted : (found : Option Node) → weight (λ node. len (unwrap_or (dir_names node) empty)) found ≡ len (unwrap_or (option_and_then dir_names found) empty)
counted None = sym (len-empty (slice_cmp nat_cmp) ℕ)
counted (Some (file bytes)) = refl
counted (Some (dir names)) = refl
counted (Some (link target)) = refl
counted (Some (device which)) = refl

module _ (v : Forest) (d : ℕ) where
  pub name_count-with_node : (node : Node) → name_count (with_node v d node) + len (names_at v d) ≡ name_count v + len (unwrap_or (dir_names node) empty)
  unfolding name_count names_at
  name_count-with_node node =
      let sum = total-insert nat_cmp_total (λ node. len (unwrap_or (dir_names node) empty)) v.nodes d node in
      let there = counted (node_at v d) in
      omega arith

  -- a name more is one more
  pub name_count-with_entry : (name : List ℕ) (x : ℕ) → entry v d name ≡ None → name_count (with_entry v d name x) ≡ name_count v + 1
  unfolding with_entry entry
  name_count-with_entry name x free =
      let node = name_count-with_node (dir (insert (names_at v d) name x)) in
      let more = len-insert nat_list_cmp_total (names_at v d) name x ∙ ap (λ found. cond (is_some found) (len (names_at v d)) (len (names_at v d) + 1)) free in
      omega arith

  -- a name less is one less
  pub name_count-without_entry : (name : List ℕ) (x : ℕ) → entry v d name ≡ Some x → name_count (without_entry v d name) + 1 ≡ name_count v
  unfolding without_entry entry
  name_count-without_entry name x there =
      let node = name_count-with_node (dir (remove (names_at v d) name)) in
      let less = len-remove nat_list_cmp_total (names_at v d) name ∙ ap (λ found. cond (is_some found) (len (names_at v d) - 1) (len (names_at v d))) there in
      let back = len-insert nat_list_cmp_total (remove (names_at v d) name) name x ∙ ap (λ found. cond (is_some found) (len (remove (names_at v d) name)) (len (remove (names_at v d) name) + 1)) (get-remove_same nat_list_cmp_total names_tie (names_at v d) name) in
      let again = ap (λ names. len names) (put_again nat_list_cmp_total (λ (x : ℕ). x) names_tie (names_at v d) name x there) in
      omega arith

  pub name_count-without_node : IsBare v d → name_count (without_node v d) ≡ name_count v
  unfolding name_count names_at entry
  name_count-without_node bare =
      let sum = total-remove nat_cmp_total (λ node. len (unwrap_or (dir_names node) empty)) nat_cmp-IsAntisymmetric v.nodes d in
      let there = counted (node_at v d) in
      let none = ap (λ names. len names) (no_names (names_at v d) bare) in
      let zero = len-empty (slice_cmp nat_cmp) ℕ in
      omega arith

  pub name_count-with_new : (node : Node) → node_at v d ≡ None → unwrap_or (dir_names node) empty ≡ empty → name_count (with_node v d node) ≡ name_count v
  unfolding names_at
  name_count-with_new node free none =
      let sum = name_count-with_node node in
      let before = ap (λ found. len (unwrap_or (option_and_then dir_names found) empty)) free in
      let after = ap (λ names. len names) none in
      omega arith

  -- no directory has more names than there are
  pub len-names_at : len (names_at v d) ≤ name_count v
  len-names_at = let sum = name_count-with_node (link []) in let none = len-empty (slice_cmp nat_cmp) ℕ in omega arith

total_in-le : {K X : Type 0} (g h : X → ℕ) → ((x : X) → g x ≤ h x) → (es : List (K × X)) → total_in g es ≤ total_in h es
total_in-le g h le [] = omega arith
total_in-le g h le (e ∷ es) = omega (arith, le e.1, total_in-le g h le es)

one_at_most : (n : ℕ) (es : List (List ℕ × ℕ)) → total_in (one_for n) es ≤ length es
one_at_most n [] = omega arith
one_at_most n (e ∷ es) = omega (arith, one_or_none n e.1, one_at_most n es)
  where
    one_or_none : (n x : ℕ) → one_for n x ≤ 1
    one_or_none n x = grind (arith, nat_tests)

-- a node has no more names than there are
pub names_of-le : (v : Forest) (n : ℕ) → name_count_of v n ≤ name_count v
unfolding name_count_of name_count total
names_of-le v n = total_in-le (entry_count_for n) (λ node. len (unwrap_or (dir_names node) empty)) (λ node. at_node (unwrap_or (dir_names node) empty)) (entries v.nodes)
  where
    at_node : (names : Names) → total (one_for n) names ≤ len names
    at_node names = let size = len-entries names in omega (arith, one_at_most n (entries names))
