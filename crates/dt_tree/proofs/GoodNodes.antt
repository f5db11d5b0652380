-- Good nodes stay good where an entry of a directory comes or goes.
use Rattle.std.proofs.Common.{◌≡◌, ℕ, List, Some, ◌⊎◌, inl, inr, sym, ap, subst, ◌∙◌}
use Rattle.std.proofs.lemmas.Option.{same_Some}
use Rattle.std.specs.Prelude.{IsSome, IsTrue}
use Rattle.std.specs.Ordering.{nat_cmp}
use Rattle.std.specs.Cmp.{nat_cmp_total}
use Rattle.std.specs.Cmp.Lexicographic.{nat_list_cmp_total}
use Rattle.std.specs.FinMap.{FinMap, get, insert, remove, nat_cmp-IsAntisymmetric}
use Rattle.dt_host.specs.World.{Forest, Node, Names, dir, node_at, names_at, with_node, with_entry, without_entry, IsDir}
use Rattle.dt_tables.proofs.Maps.{at_insert, at_remove, names_tie}
use Rattle.dt_host.proofs.Gone.{dir_node}
use Rattle.dt_tree.specs.FileTree.{Attributes, is_entry_name, IsGoodNode}

module _ (version : ℕ) (v : Forest) (m : FinMap nat_cmp Attributes) (good : (n : ℕ) (node : Node) (a : Attributes) → node_at v n ≡ Some node → get m n ≡ Some a → IsGoodNode version node a.mode) (d : ℕ) (is : IsDir v d) where
  -- a directory whose names it had before, or are good
  good-with_names : (names : Names) → ((c : List ℕ) → IsSome (get names c) → IsSome (get (names_at v d) c) ⊎ IsTrue (is_entry_name c)) → (n : ℕ) (node : Node) (a : Attributes) → node_at (with_node v d (dir names)) n ≡ Some node → get m n ≡ Some a → IsGoodNode version node a.mode
  unfolding names_at
  good-with_names names old_or_good n node a = at_insert nat_cmp_total nat_cmp-IsAntisymmetric (λ found. found ≡ Some node → get m n ≡ Some a → IsGoodNode version node a.mode) v.nodes d (dir names) n
      (λ same e kept.
      let old = good d (dir (names_at v d)) a (dir_node (node_at v d) is) (ap (get m) (sym same) ∙ kept) in
      subst (λ x. IsGoodNode version x a.mode) (same_Some (dir names) node e) ((λ c some. elim (old_or_good c some) [ inl there ↦ old.0 c there | inr good ↦ good ]), old.1))
      (λ _ e kept. good n node a e kept)

  pub good-with_entry : (name : List ℕ) (x : ℕ) → IsTrue (is_entry_name name) → (n : ℕ) (node : Node) (a : Attributes) → node_at (with_entry v d name x) n ≡ Some node → get m n ≡ Some a → IsGoodNode version node a.mode
  unfolding with_entry
  good-with_entry name x good_name = good-with_names (insert (names_at v d) name x) (λ c. at_insert nat_list_cmp_total names_tie (λ found. IsSome found → IsSome (get (names_at v d) c) ⊎ IsTrue (is_entry_name c)) (names_at v d) name x c
      (λ same _. inr (subst (λ x. IsTrue (is_entry_name x)) (sym same) good_name))
      (λ _ some. inl some))

  pub good-without_entry : (name : List ℕ) (n : ℕ) (node : Node) (a : Attributes) → node_at (without_entry v d name) n ≡ Some node → get m n ≡ Some a → IsGoodNode version node a.mode
  unfolding without_entry
  good-without_entry name = good-with_names (remove (names_at v d) name) (λ c. at_remove nat_list_cmp_total names_tie (λ found. IsSome found → IsSome (get (names_at v d) c) ⊎ IsTrue (is_entry_name c)) (names_at v d) name c
      (λ _ some. cc)
      (λ _ some. inl some))
