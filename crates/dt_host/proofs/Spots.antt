-- What stands under a name of a directory after a change of a forest.
use Rattle.std.proofs.Common.{◌≡◌, ◌≢◌, ℕ, ◌+◌, cond, List, Option, Some, None, inl, inr, refl, sym, ap, subst, ◌∙◌}
use Rattle.std.proofs.lemmas.Bool.{cases_eq}
use Rattle.std.specs.Prelude.{IsSome, is_some, unwrap_or, option_and_then}
use Rattle.std.specs.Cmp.{nat_cmp_total}
use Rattle.std.specs.Cmp.Lexicographic.{slice_cmp, nat_list_cmp_total}
use Rattle.std.specs.Ordering.{nat_cmp}
use Rattle.std.specs.FinMap.{empty, len, len-insert, get, insert, get-empty, nat_cmp-IsAntisymmetric}
use Rattle.dt_host.specs.World.{Forest, Node, file, dir, link, device, node_at, file_bytes, dir_names, names_at, entry, with_node, with_entry, IsDir, IsFile, IsLive, node_device, IsDevice}
use Rattle.dt_tables.proofs.Found.{none_within, not_both, some_true}
use Rattle.dt_tables.proofs.Maps.{at_insert, names_tie}
use Rattle.dt_host.proofs.Worlds.{node_at-with_node, node_at-with_node_other}
use Rattle.dt_host.proofs.Changes.{entry_alike}

-- what has an entry is a directory
pub IsDir-entry : (v : Forest) (d : ℕ) (name : List ℕ) (n : ℕ) → entry v d name ≡ Some n → IsDir v d
unfolding entry names_at
IsDir-entry v d name n e = by_node (node_at v d) e
  where
    by_node : (found : Option Node) → get (unwrap_or (option_and_then dir_names found) empty) name ≡ Some n → IsSome (option_and_then dir_names found)
    by_node None h = absurd (not_both _ n (get-empty (slice_cmp nat_cmp) name) h)
    by_node (Some (file bytes)) h = absurd (not_both _ n (get-empty (slice_cmp nat_cmp) name) h)
    by_node (Some (dir names)) h = refl
    by_node (Some (link target)) h = absurd (not_both _ n (get-empty (slice_cmp nat_cmp) name) h)
    by_node (Some (device which)) h = absurd (not_both _ n (get-empty (slice_cmp nat_cmp) name) h)

-- a directory and a file are live
pub IsLive-IsDir : (v : Forest) (d : ℕ) → IsDir v d → IsLive v d
IsLive-IsDir v d h = by_node (node_at v d) h
  where
    by_node : (found : Option Node) → IsSome (option_and_then dir_names found) → IsSome found
    by_node None h = cc
    by_node (Some node) h = refl

pub IsLive-IsFile : (v : Forest) (n : ℕ) → IsFile v n → IsLive v n
IsLive-IsFile v n h = by_node (node_at v n) h
  where
    by_node : (found : Option Node) → IsSome (option_and_then file_bytes found) → IsSome found
    by_node None h = cc
    by_node (Some node) h = refl

pub IsLive-IsDevice : (v : Forest) (n : ℕ) → IsDevice v n → IsLive v n
IsLive-IsDevice v n h = by_node (node_at v n) h
  where
    by_node : (found : Option Node) → IsSome (option_and_then node_device found) → IsSome found
    by_node None h = cc
    by_node (Some node) h = refl

module _ (v : Forest) (d : ℕ) (names : Node) where
  -- a fact of the node at q, once another was put at d
  pub at_node : (P : Option Node → Type 0) (q : ℕ) → (q ≡ d → P (Some names)) → (q ≢ d → P (node_at v q)) → P (node_at (with_node v d names) q)
  at_node P q here there = at_insert nat_cmp_total nat_cmp-IsAntisymmetric P v.nodes d names q here there

  pub entry_other : (q : ℕ) (c : List ℕ) → q ≢ d → entry (with_node v d names) q c ≡ entry v q c
  entry_other q c apart = entry_alike v (with_node v d names) q c (node_at-with_node_other v d names q apart)

  pub entry_here : (c : List ℕ) → entry (with_node v d names) d c ≡ get (unwrap_or (dir_names names) empty) c
  unfolding entry names_at
  entry_here c = ap (λ node. get (unwrap_or (option_and_then dir_names node) empty) c) (node_at-with_node v d names)

module _ (v : Forest) (d : ℕ) (name : List ℕ) (n : ℕ) where
  -- a fact of an entry, once one was put
  pub at_with_entry : (P : Option ℕ → Type 0) (q : ℕ) (c : List ℕ) → (q ≡ d → c ≡ name → P (Some n)) → ((q ≡ d → c ≢ name) → P (entry v q c)) → P (entry (with_entry v d name n) q c)
  unfolding with_entry entry
  at_with_entry P q c here there = elim (cases_eq q d) [
    | inl same ↦ subst (λ x. P (entry (with_node v d (dir (insert (names_at v d) name n))) x c)) (sym same) (subst P (sym (entry_here v d _ c)) (in_names same))
    | inr apart ↦ subst P (sym (entry_other v d _ q c apart)) (there (λ same. absurd (apart same)))
  ]
    where
      in_names : q ≡ d → P (get (insert (names_at v d) name n) c)
      in_names same = at_insert nat_list_cmp_total names_tie P (names_at v d) name n c (here same) (λ apart. subst (λ x. P (get (names_at v x) c)) same (there (λ _. apart)))

  pub IsDir-with_entry : (q : ℕ) → IsDir v q → IsDir (with_entry v d name n) q
  unfolding with_entry
  IsDir-with_entry q h = at_node v d _ (λ found. IsSome (option_and_then dir_names found)) q (λ _. refl) (λ _. h)

  pub IsDir-from_with_entry : IsDir v d → (q : ℕ) → IsDir (with_entry v d name n) q → IsDir v q
  unfolding with_entry
  IsDir-from_with_entry is q = at_node v d _ (λ found. IsSome (option_and_then dir_names found) → IsDir v q) q (λ same _. subst (IsDir v) (sym same) is) (λ _ h. h)

  pub IsLive-with_entry : (q : ℕ) → IsLive v q → IsLive (with_entry v d name n) q
  unfolding with_entry
  IsLive-with_entry q h = at_node v d _ (λ found. IsSome found) q (λ _. refl) (λ _. h)

  pub root-with_entry : (with_entry v d name n).root ≡ v.root
  unfolding with_entry
  root-with_entry = refl

-- a new node without entries leaves all entries
module _ (v : Forest) (n : ℕ) (node : Node) (free : node_at v n ≡ None) (none : unwrap_or (dir_names node) empty ≡ empty) where
  pub entry-with_new : (q : ℕ) (c : List ℕ) → entry (with_node v n node) q c ≡ entry v q c
  unfolding entry names_at
  entry-with_new q c = elim (cases_eq q n) [
    | inl same ↦ ap (λ x. entry (with_node v n node) x c) same ∙ entry_here v n node c ∙ ap (λ names. get names c) none ∙ sym (ap (λ x. entry v x c) same ∙ ap (λ found. get (unwrap_or (option_and_then dir_names found) empty) c) free)
    | inr apart ↦ entry_other v n node q c apart
  ]

  pub IsDir-with_new : (q : ℕ) → IsDir v q → IsDir (with_node v n node) q
  IsDir-with_new q h = at_node v n node (λ found. IsSome (option_and_then dir_names found)) q (λ same. absurd (none_within dir_names (node_at v q) (ap (node_at v) same ∙ free) h)) (λ _. h)

  pub IsDir-from_with_new : (q : ℕ) → q ≢ n → IsDir (with_node v n node) q → IsDir v q
  IsDir-from_with_new q apart = at_node v n node (λ found. IsSome (option_and_then dir_names found) → IsDir v q) q (λ same _. absurd (apart same)) (λ _ h. h)

  pub IsDevice-with_new : (q : ℕ) → IsDevice v q → IsDevice (with_node v n node) q
  IsDevice-with_new q h = at_node v n node (λ found. IsSome (option_and_then node_device found)) q (λ same. absurd (none_within node_device (node_at v q) (ap (node_at v) same ∙ free) h)) (λ _. h)

  pub IsFile-with_new : (q : ℕ) → IsFile v q → IsFile (with_node v n node) q
  IsFile-with_new q h = at_node v n node (λ found. IsSome (option_and_then file_bytes found)) q (λ same. absurd (none_within file_bytes (node_at v q) (ap (node_at v) same ∙ free) h)) (λ _. h)

  pub IsLive-with_new : (q : ℕ) → IsLive v q → IsLive (with_node v n node) q
  IsLive-with_new q h = at_node v n node (λ found. IsSome found) q (λ _. refl) (λ _. h)

-- a directory changed in place leaves which nodes are there, and how many
module _ (v : Forest) (d : ℕ) (node : Node) (live : IsLive v d) where
  pub is_some-with_node : (q : ℕ) → is_some (node_at (with_node v d node) q) ≡ is_some (node_at v q)
  is_some-with_node q = at_node v d node (λ found. is_some found ≡ is_some (node_at v q)) q (λ same. sym (ap (λ x. is_some (node_at v x)) same ∙ some_true (node_at v d) live)) (λ _. refl)

  pub len-with_node : len (with_node v d node).nodes ≡ len v.nodes
  len-with_node = len-insert nat_cmp_total v.nodes d node ∙ by_found (node_at v d) live
    where
      by_found : (found : Option Node) → IsSome found → cond (is_some found) (len v.nodes) (len v.nodes + 1) ≡ len v.nodes
      by_found None h = cc
      by_found (Some x) h = refl

pub is_some-with_entry : (v : Forest) (d : ℕ) (name : List ℕ) (n : ℕ) → IsDir v d → (q : ℕ) → is_some (node_at (with_entry v d name n) q) ≡ is_some (node_at v q)
unfolding with_entry
is_some-with_entry v d name n is q = is_some-with_node v d _ (IsLive-IsDir v d is) q

pub len-with_entry : (v : Forest) (d : ℕ) (name : List ℕ) (n : ℕ) → IsDir v d → len (with_entry v d name n).nodes ≡ len v.nodes
unfolding with_entry
len-with_entry v d name n is = len-with_node v d _ (IsLive-IsDir v d is)
