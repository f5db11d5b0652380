-- What stands under a name of a directory after an entry or a node goes.
use Rattle.std.proofs.Common.{◌≡◌, ◌≢◌, ℕ, List, Option, Some, None, inl, inr, refl, sym, ap, subst, ◌∙◌}
use Rattle.std.proofs.lemmas.Bool.{cases_eq}
use Rattle.std.specs.Prelude.{IsSome, is_some, unwrap_or, option_and_then}
use Rattle.std.specs.Cmp.{nat_cmp_total}
use Rattle.std.specs.Cmp.Lexicographic.{slice_cmp, nat_list_cmp_total}
use Rattle.std.specs.Ordering.{nat_cmp}
use Rattle.std.specs.FinMap.{empty, same_map, len, get, insert, remove, get-empty, nat_cmp-IsAntisymmetric}
use Rattle.dt_host.specs.World.{Forest, Node, Names, file, dir, link, device, node_at, file_bytes, dir_names, names_at, entry, with_node, with_entry, without_entry, without_node, IsDir, IsFile, IsLive, IsBare, node_device, IsDevice}
use Rattle.dt_tables.proofs.Maps.{at_insert, at_remove, names_tie, remove_none, put_back, insert_same, get-insert_same, get-insert_other, get-remove_other, get-remove_same}
use Rattle.dt_host.proofs.Worlds.{node_at-with_node}
use Rattle.dt_host.proofs.Changes.{entry_alike, apart_from_file, apart_from_device}
use Rattle.dt_host.proofs.Spots.{at_node, entry_here, entry_other, IsLive-IsDir, is_some-with_node, len-with_node}

module _ (v : Forest) (d : ℕ) (name : List ℕ) where
  -- a fact of an entry, once one was taken away
  pub at_without_entry : (P : Option ℕ → Type 0) (q : ℕ) (c : List ℕ) → (q ≡ d → c ≡ name → P None) → ((q ≡ d → c ≢ name) → P (entry v q c)) → P (entry (without_entry v d name) q c)
  unfolding without_entry entry
  at_without_entry P q c here there = elim (cases_eq q d) [
    | inl same ↦ subst (λ x. P (entry (with_node v d (dir (remove (names_at v d) name))) x c)) (sym same) (subst P (sym (entry_here v d _ c)) (in_names same))
    | inr apart ↦ subst P (sym (entry_other v d _ q c apart)) (there (λ same. absurd (apart same)))
  ]
    where
      in_names : q ≡ d → P (get (remove (names_at v d) name) c)
      in_names same = at_remove nat_list_cmp_total names_tie P (names_at v d) name c (here same) (λ apart. subst (λ x. P (get (names_at v x) c)) same (there (λ _. apart)))

  pub IsDir-without_entry : (q : ℕ) → IsDir v q → IsDir (without_entry v d name) q
  unfolding without_entry
  IsDir-without_entry q h = at_node v d _ (λ found. IsSome (option_and_then dir_names found)) q (λ _. refl) (λ _. h)

  pub IsDir-from_without_entry : IsDir v d → (q : ℕ) → IsDir (without_entry v d name) q → IsDir v q
  unfolding without_entry
  IsDir-from_without_entry is q = at_node v d _ (λ found. IsSome (option_and_then dir_names found) → IsDir v q) q (λ same _. subst (IsDir v) (sym same) is) (λ _ h. h)

  pub IsDevice-without_entry : IsDir v d → (q : ℕ) → IsDevice v q → IsDevice (without_entry v d name) q
  unfolding without_entry
  IsDevice-without_entry is q h = at_node v d _ (λ found. IsSome (option_and_then node_device found)) q (λ same. absurd (apart_from_device v d q is h (sym same))) (λ _. h)

  pub IsFile-without_entry : IsDir v d → (q : ℕ) → IsFile v q → IsFile (without_entry v d name) q
  unfolding without_entry
  IsFile-without_entry is q h = at_node v d _ (λ found. IsSome (option_and_then file_bytes found)) q (λ same. absurd (apart_from_file v d q is h (sym same))) (λ _. h)

  pub IsLive-without_entry : (q : ℕ) → IsLive v q → IsLive (without_entry v d name) q
  unfolding without_entry
  IsLive-without_entry q h = at_node v d _ (λ found. IsSome found) q (λ _. refl) (λ _. h)

  pub root-without_entry : (without_entry v d name).root ≡ v.root
  unfolding without_entry
  root-without_entry = refl

module _ (v : Forest) (n : ℕ) (bare : IsBare v n) where
  -- where a node without entries goes, all entries stay
  pub entry-without_node : (q : ℕ) (c : List ℕ) → entry (without_node v n) q c ≡ entry v q c
  unfolding entry names_at
  entry-without_node q c = elim (cases_eq q n) [
    | inl same ↦ ap (λ x. entry (without_node v n) x c) same ∙ gone c ∙ sym (ap (λ x. entry v x c) same ∙ bare c)
    | inr apart ↦ entry_alike v (without_node v n) q c (get-remove_other nat_cmp_total nat_cmp-IsAntisymmetric v.nodes n q apart)
  ]
    where
      gone : (c : List ℕ) → entry (without_node v n) n c ≡ None
      gone c = ap (λ found. get (unwrap_or (option_and_then dir_names found) empty) c) (get-remove_same nat_cmp_total nat_cmp-IsAntisymmetric v.nodes n) ∙ get-empty (slice_cmp nat_cmp) c

  pub IsLive-without_node : (q : ℕ) → q ≢ n → IsLive v q → IsLive (without_node v n) q
  IsLive-without_node q apart h = at_remove nat_cmp_total nat_cmp-IsAntisymmetric (λ found. IsSome found) v.nodes n q (λ same. absurd (apart same)) (λ _. h)

  pub IsDir-without_node : (q : ℕ) → q ≢ n → IsDir v q → IsDir (without_node v n) q
  IsDir-without_node q apart h = at_remove nat_cmp_total nat_cmp-IsAntisymmetric (λ found. IsSome (option_and_then dir_names found)) v.nodes n q (λ same. absurd (apart same)) (λ _. h)

  pub IsDevice-without_node : (q : ℕ) → q ≢ n → IsDevice v q → IsDevice (without_node v n) q
  IsDevice-without_node q apart h = at_remove nat_cmp_total nat_cmp-IsAntisymmetric (λ found. IsSome (option_and_then node_device found)) v.nodes n q (λ same. absurd (apart same)) (λ _. h)

  pub IsFile-without_node : (q : ℕ) → q ≢ n → IsFile v q → IsFile (without_node v n) q
  IsFile-without_node q apart h = at_remove nat_cmp_total nat_cmp-IsAntisymmetric (λ found. IsSome (option_and_then file_bytes found)) v.nodes n q (λ same. absurd (apart same)) (λ _. h)

  pub IsDir-from_without_node : (q : ℕ) → IsDir (without_node v n) q → IsDir v q
  IsDir-from_without_node q = at_remove nat_cmp_total nat_cmp-IsAntisymmetric (λ found. IsSome (option_and_then dir_names found) → IsDir v q) v.nodes n q (λ _ h. cc) (λ _ h. h)

pub is_some-without_entry : (v : Forest) (d : ℕ) (name : List ℕ) → IsDir v d → (q : ℕ) → is_some (node_at (without_entry v d name) q) ≡ is_some (node_at v q)
unfolding without_entry
is_some-without_entry v d name is q = is_some-with_node v d _ (IsLive-IsDir v d is) q

pub len-without_entry : (v : Forest) (d : ℕ) (name : List ℕ) → IsDir v d → len (without_entry v d name).nodes ≡ len v.nodes
unfolding without_entry
len-without_entry v d name is = len-with_node v d _ (IsLive-IsDir v d is)

-- what a directory is
pub dir_node : (found : Option Node) → IsSome (option_and_then dir_names found) → found ≡ Some (dir (unwrap_or (option_and_then dir_names found) empty))
dir_node None h = cc
dir_node (Some (file bytes)) h = cc
dir_node (Some (dir names)) h = refl
dir_node (Some (link target)) h = cc
dir_node (Some (device which)) h = cc

-- to take away an entry that isn't there changes nothing
pub without_entry-none : (v : Forest) (d : ℕ) (name : List ℕ) → IsDir v d → entry v d name ≡ None → without_entry v d name ≡ v
unfolding without_entry names_at entry
without_entry-none v d name is e =
    ap (λ names. with_node v d (dir names)) (remove_none nat_list_cmp_total names_tie (names_at v d) name e)
    ∙ ap (λ nodes. record v { nodes = nodes }) (put_back nat_cmp_total nat_cmp-IsAntisymmetric v.nodes d (dir (names_at v d)) (dir_node (node_at v d) is))

insert_removed : (names : Names) (name : List ℕ) (n : ℕ) → insert (remove names name) name n ≡ insert names name n
insert_removed names name n = same_map nat_list_cmp_total names_tie _ _ (λ q.
    at_insert nat_list_cmp_total names_tie (λ found. found ≡ get (insert names name n) q) (remove names name) name n q
    (λ is. sym (ap (get (insert names name n)) is ∙ get-insert_same nat_list_cmp_total names_tie names name n))
    (λ apart. get-remove_other nat_list_cmp_total names_tie names name q apart ∙ sym (get-insert_other nat_list_cmp_total names_tie names name n q apart)))

-- an entry put where one was taken away is put there at once
pub with_entry-cleared : (v : Forest) (d : ℕ) (name : List ℕ) (n : ℕ) → with_entry (without_entry v d name) d name n ≡ with_entry v d name n
unfolding with_entry without_entry names_at
with_entry-cleared v d name n =
    ap (λ names. with_node (without_entry v d name) d (dir (insert names name n))) (ap (λ found. unwrap_or (option_and_then dir_names found) empty) (node_at-with_node v d (dir (remove (names_at v d) name))))
    ∙ ap (λ names. with_node (without_entry v d name) d (dir names)) (insert_removed (names_at v d) name n)
    ∙ ap (λ nodes. record v { nodes = nodes }) (insert_same nat_cmp_total nat_cmp-IsAntisymmetric v.nodes d (dir (remove (names_at v d) name)) (dir (insert (names_at v d) name n)))
