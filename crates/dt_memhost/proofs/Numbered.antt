-- The search for a number that isn't live.
use Rattle.std.proofs.Common.{◌≡◌, ℕ, zero, suc, ◌+◌, ◌-◌, ◌%◌, ◌<◌, ◌≤◌, List, [], ◌∷◌, map, Bool, true, false, cond, ◌||◌, Option, Some, None, refl, sym, ap, ◌∙◌, arith, eqb, eq-eqb, is_some}
use Rattle.std.proofs.lemmas.List.{length-map}
use Rattle.std.proofs.lemmas.Bool.Decides.{nat_tests}
use Rattle.std.specs.Prelude.{option_and_then, MatchOption}
use Rattle.std.specs.List.{list_any}
use Rattle.std.specs.Ordering.{nat_cmp, is_eq}
use Rattle.std.specs.Map.{lookup}
use Rattle.std.specs.BTreeMap as tree
use Rattle.std.specs.BTreeMap.{BTreeMap, btree_map_len}
use Rattle.std.specs.FinMap.{get, contains_key}
use Rattle.std.proofs.lemmas.Map.Steps.{le-length_from_below}
use Rattle.dt_tables.proofs.Conjuncts.{either-last}
use Rattle.dt_memhost.specs.declared.node.MemNode.{MemNode}
use Rattle.dt_memhost.specs.declared.node.MemNode.TheVariants.{File, Dir, Link, Device, Pipe}
use Rattle.dt_memhost.specs.inner.Node.{node_of, nodes_of, node_in, held_of, pipes_of}
use Rattle.dt_memhost.specs.inner.Live.{has_number}
use Rattle.dt_memhost.proofs.Kept.{get-kept_of}
use Rattle.dt_memhost.specs.Number.{next_free, is_in_either, IsLeastAbove, IsChosenNumber}

-- the map has at a number the node in the tree
pub get-nodes_of : (nodes : BTreeMap ℕ MemNode) (q : ℕ) → get (nodes_of nodes.entries) q ≡ node_in nodes q
get-nodes_of nodes q = get-kept_of node_of nodes q

-- what is there is a node or a pipe
one_of_both : (found : Option MemNode) → (is_some (option_and_then node_of found) || is_some (option_and_then held_of found)) ≡ is_some found
one_of_both None = refl
one_of_both (Some (File bytes)) = refl
one_of_both (Some (Dir order)) = refl
one_of_both (Some (Link target)) = refl
one_of_both (Some (Device which)) = refl
one_of_both (Some (Pipe bytes)) = refl

-- and so the tree has the numbers of nodes and of pipes
pub has-both : (nodes : BTreeMap ℕ MemNode) → is_in_either (nodes_of nodes.entries) (pipes_of nodes.entries) ≡ has_number nodes
has-both nodes i q =
    (ap (λ found. is_some found || contains_key (pipes_of nodes.entries) q) (get-nodes_of nodes q)
    ∙ ap (λ found. is_some (option_and_then node_of (tree.get nat_cmp nodes q)) || is_some found) (get-kept_of held_of nodes q)
    ∙ one_of_both (tree.get nat_cmp nodes q)) i

-- a number that the map hasn't is free
pub none_if : {X : Type 0} (found : Option X) → is_some found ≡ false → found ≡ None
none_if None e = refl
none_if (Some x) e = cc

-- a number found among entries is there, also counted from another start
found_past : {X : Type 0} (start q : ℕ) (entries : List (ℕ × X)) → is_some (lookup (λ k. is_eq (nat_cmp (start + q) k)) entries) ≡ true → list_any (eqb q) (map (λ e. e.0 - start) entries) ≡ true
found_past start q [] h = cc
found_past start q (e ∷ entries) h =
    elim (is_eq (nat_cmp (start + q) e.0)) as (λ b. is_eq (nat_cmp (start + q) e.0) ≡ b → is_some (cond b (Some e.1) (lookup (λ k. is_eq (nat_cmp (start + q) k)) entries)) ≡ true → (eqb q (e.0 - start) || list_any (eqb q) (map (λ e. e.0 - start) entries)) ≡ true) [
      | true ↦ λ tie some.
          let is : start + q ≡ e.0 = tied _ _ tie in
          ap (λ b. b || list_any (eqb q) (map (λ e. e.0 - start) entries)) (eq-eqb q (e.0 - start) (omega arith))
      | false ↦ λ tie some. either-last _ _ (found_past start q entries some)
    ] refl h
  where
    tied : (x y : ℕ) → is_eq (nat_cmp x y) ≡ true → x ≡ y
    tied x y e = grind (arith, nat_tests)

-- not more numbers stand in a row than there are entries
pub row_of_live : {X : Type 0} (m : BTreeMap ℕ X) (start count : ℕ) → ((q : ℕ) → q < count → has_number m (start + q) ≡ true) → count ≤ btree_map_len m
row_of_live {X} m start count live =
    let most = le-length_from_below (map (λ (e : ℕ × X). e.0 - start) m.entries) count (λ q h.
    found_past start q m.entries (live q h)) in
    omega (arith, most, length-map m.entries (λ (e : ℕ × X). e.0 - start))

module _ (live : ℕ → Bool) (limit : ℕ) where
  -- a number that is live is passed
  pub around-live : (from left : ℕ) → live (1 + from % limit) ≡ true → next_free live limit from (suc left) ≡ next_free live limit (from + 1) left
  unfolding next_free
  around-live from left e = ap (λ b. cond b (next_free live limit (from + 1) left) (Some (1 + from % limit))) e

  -- one that isn't is taken
  pub around-free : (from left : ℕ) → live (1 + from % limit) ≡ false → next_free live limit from (suc left) ≡ Some (1 + from % limit)
  unfolding next_free
  around-free from left e = ap (λ b. cond b (next_free live limit (from + 1) left) (Some (1 + from % limit))) e

  -- after the last none is left
  pub around-none : (from left : ℕ) → left ≡ 0 → next_free live limit from left ≡ None
  unfolding next_free
  around-none from left e = ap (next_free live limit from) e

  -- a number that is found on the way round is at least 1, and free
  found_around : (from left n : ℕ) → next_free live limit from left ≡ Some n → (1 ≤ n) × (live n ≡ false)
  unfolding next_free
  found_around from zero n e = cc
  found_around from (suc left) n e =
      let at = 1 + from % limit in
      elim (live at) as (λ b. live at ≡ b → cond b (next_free live limit (from + 1) left) (Some at) ≡ Some n → (1 ≤ n) × (live n ≡ false)) [
        | true ↦ λ taken is. found_around (from + 1) left n is
        | false ↦ λ free is.
            let same : at ≡ n = cc in
            (omega arith, ap live (sym same) ∙ free)
      ] refl e

  -- so is every number that a word chooses
  pub chosen_number : (word n : ℕ) → IsChosenNumber live limit word n → (1 ≤ n) × (live n ≡ false)
  chosen_number word n h =
      elim (next_free live limit word limit) as (λ found. next_free live limit word limit ≡ found → MatchOption found (IsLeastAbove live limit n) (λ at. n ≡ at) → (1 ≤ n) × (live n ≡ false)) [
        | None ↦ λ is least. (omega (arith, least.above), least.free)
        | Some at ↦ λ is same. found_around word limit n (is ∙ ap (λ x. Some x) (sym same))
      ] refl h
