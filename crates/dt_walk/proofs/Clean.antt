-- Where a walk leads, the name is one that an entry may have, and what is found is no link if links are followed.
use Rattle.std.proofs.Common.{arith, ◌≡◌, ℕ, ◌≤◌, true, false, Bool, not, ◌&&◌, ◌||◌, List, [], ◌∷◌, length, Option, Some, None, refl, sym, ap, subst, ◌∙◌}
use Rattle.std.proofs.lemmas.Bool.{and_from, and_parts}
use Rattle.std.proofs.lemmas.Bool.Decides.{nat_tests}
use Rattle.std.specs.Prelude.{nat_le, codes, is_some, IsSome, IfSome, IsTrue, option_and_then}
use Rattle.std.specs.Str.{bytes_eq}
use Rattle.std.specs.FinMap.{get}
use Rattle.dt_base.specs.declared.limits.TheConstants.{NAME_LIMIT, PATH_LIMIT}
use Rattle.dt_base.specs.Path.{has_no_nul}
use Rattle.dt_host.specs.World.{Forest, Node, file, dir, link, device, node_at, dir_names, target_at, link_target, IsDir}
use Rattle.dt_tree.specs.Shape.{IsShaped, is_link}
use Rattle.dt_tree.specs.FileTree.{Attributes, FileTree, IsTree, IsGoodNode, is_entry_name}
use Rattle.dt_walk.specs.declared.place.Place.{Place}
use Rattle.dt_walk.specs.declared.place.Last.{Last}
use Rattle.dt_walk.specs.Walk.{is_keep}
use Rattle.dt_walk.specs.Placed.{IsNamedWell, IsFollowed, is_special}
use Rattle.dt_walk.proofs.Ends.{Steps}
use Rattle.dt_walk.proofs.Fit.{HasByte, IsClean, byte_names, clean_names}
use Rattle.dt_walk.proofs.Stepped.{EndedAt, ended_at, followed}

no_special : (a b c : Bool) → (a || (b || c)) ≡ false → (not b ≡ true) × (not c ≡ true)
no_special true b c h = absurd (cc)
no_special false true c h = absurd (cc)
no_special false false true h = absurd (cc)
no_special false false false h = (refl, refl)

-- a name without bytes that it can't have, and that is short and not special, is an entry's
entry_name : (name : List ℕ) → IsClean name → length name ≤ NAME_LIMIT → is_special name ≡ false → IsTrue (is_entry_name name)
entry_name [] clean short plain = absurd (cc)
entry_name (b ∷ bs) clean short plain =
    let some : nat_le 1 (length (b ∷ bs)) ≡ true = grind (arith, nat_tests) in
    let few : nat_le (length (b ∷ bs)) NAME_LIMIT ≡ true = grind (arith, nat_tests) in
    let apart = no_special false (bytes_eq (b ∷ bs) (codes ".")) (bytes_eq (b ∷ bs) (codes "..")) plain in
    and_from _ _ (and_from _ _ (and_from _ _ (and_from _ _ (and_from _ _ some few) apart.0) apart.1) clean.0) (ap not clean.1)

-- a target of a tree has no 0
module _ (t : FileTree) (tree : IsTree t) where
  target_clean : (n : ℕ) (target : List ℕ) → target_at t.shape n ≡ Some target → IsTrue (has_no_nul target)
  target_clean n target e = by_node (node_at t.shape n) refl e
    where
      by_good : (a : Option Attributes) → get t.attributes n ≡ a → is_some a ≡ true → node_at t.shape n ≡ Some (link target) → IsTrue (has_no_nul target)
      by_good None at some is = absurd (cc)
      by_good (Some a) at some is =
          let good : IsGoodNode t.version (link target) a.mode = tree.good n (link target) a is at in
          (and_parts (nat_le 1 (length target) && nat_le (length target) PATH_LIMIT) (has_no_nul target) good.0).1

      by_node : (found : Option Node) → node_at t.shape n ≡ found → option_and_then link_target found ≡ Some target → IsTrue (has_no_nul target)
      by_node None is h = absurd (cc)
      by_node (Some (file bytes)) is h = absurd (cc)
      by_node (Some (dir names)) is h = absurd (cc)
      by_node (Some (device which)) is h = absurd (cc)
      by_node (Some (link x)) is h =
          let same : x ≡ target = cc in
          let here : node_at t.shape n ≡ Some (link target) = is ∙ ap (λ x. Some (link x)) same in
          by_good (get t.attributes n) refl (tree.same n ∙ ap is_some here) here

  ended_named : (keep : Bool) (name : List ℕ) (place : Place) → IsClean name → EndedAt t.shape keep name place → IsNamedWell place
  ended_named keep name place clean e plain =
      subst (λ n. IsTrue (is_entry_name n)) (sym e.name) (entry_name name clean e.short (ap is_special (sym e.name) ∙ plain))

  -- where a walk ends is a good name
  pub name_steps : (keep : Bool) → Steps t.shape keep IsNamedWell IsClean
  name_steps keep = record {
    ends = λ at last slash name place clean h. ended_named keep name place clean (ended_at t.shape keep last slash at name place h);
    top = λ slash plain. absurd (cc);
    names = λ at last slash name target h. let there = followed t.shape keep last slash at name target h in clean_names target (target_clean there.0 target there.1);
  }

-- where links are followed, a walk ends at no link
module _ (v : Forest) (s : IsShaped v) (root : v.root ≡ 1) where
  no_target : (n : ℕ) → IsDir v n → target_at v n ≡ None
  no_target n is = by_node (node_at v n) is
    where
      by_node : (found : Option Node) → IsSome (option_and_then dir_names found) → option_and_then link_target found ≡ None
      by_node None h = refl
      by_node (Some (file bytes)) h = refl
      by_node (Some (dir names)) h = refl
      by_node (Some (link target)) h = absurd (cc)
      by_node (Some (device which)) h = absurd (cc)

  no_link : (found : Option ℕ) → IfSome found (λ n. target_at v n ≡ None) → IfSome found (λ n. is_link v n ≡ false)
  no_link None h = tt
  no_link (Some n) h = ap is_some h

  pub follow_steps : (last : Last) → Steps v (is_keep last) (IsFollowed v last) HasByte
  follow_steps last = record {
    ends = λ at final slash name place some h follows. no_link place.node ((ended_at v (is_keep last) final slash at name place h).straight (ap is_keep follows));
    top = λ slash follows. ap is_some (no_target 1 (subst (IsDir v) root s.root));
    names = λ at final slash name target h. byte_names target;
  }
