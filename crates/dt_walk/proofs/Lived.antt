-- Where a walk leads, a node is, or a name that is free in a directory.
use Rattle.std.proofs.Common.{◌≡◌, ◌≢◌, ℕ, cond, true, false, Bool, ◌||◌, List, Option, Some, None, refl, sym, ap, subst, ◌∙◌}
use Rattle.std.specs.Prelude.{◌==◌, codes, IfSome}
use Rattle.std.specs.Str.{bytes_eq}
use Rattle.dt_host.specs.World.{Forest, entry, IsDir, IsLive}
use Rattle.dt_host.proofs.Spots.{IsDir-entry, IsLive-IsDir}
use Rattle.dt_tree.specs.Shape.{IsShaped}
use Rattle.dt_tree.specs.Above.{parent_at, dot_dot}
use Rattle.dt_tree.proofs.Namings.{named}
use Rattle.dt_tree.proofs.Aboves.{parent-entry}
use Rattle.dt_walk.specs.declared.place.Place.{Place}
use Rattle.dt_walk.specs.declared.step.Found.TheVariants.{Node, Missing, Gone}
use Rattle.dt_walk.specs.Walk.{node_or, lookup_in, is_nil}
use Rattle.dt_walk.specs.Placed.{IsPlaceIn, is_special}
use Rattle.dt_walk.proofs.Ends.{Steps, top_place}
use Rattle.dt_walk.proofs.Fit.{HasByte, byte_names}
use Rattle.dt_walk.proofs.Stepped.{EndedAt, ended_at}

module _ (v : Forest) (s : IsShaped v) (at : ℕ) (is : IsDir v at) where
  up_live : (n : ℕ) → node_or Gone (dot_dot v at) ≡ Node n → IsLive v n
  up_live n e = by_test (at == v.root) e
    where
      by_parent : (found : Option ℕ) → parent_at v at ≡ found → node_or Gone found ≡ Node n → IsLive v n
      by_parent None p h = absurd (cc)
      by_parent (Some d) p h = let spot = parent-entry v at d p in let same : d ≡ n = cc in subst (IsLive v) same (IsLive-IsDir v d (IsDir-entry v d spot.0 at spot.2))

      by_test : (b : Bool) → node_or Gone (cond b (Some at) (parent_at v at)) ≡ Node n → IsLive v n
      by_test true h = let same : at ≡ n = cc in subst (IsLive v) same (IsLive-IsDir v at is)
      by_test false h = by_parent (parent_at v at) refl h

  looked_live : (name : List ℕ) (n : ℕ) → lookup_in v at name ≡ Node n → IsLive v n
  looked_live name n e = by_dot (bytes_eq name (codes ".")) e
    where
      by_entry : (found : Option ℕ) → entry v at name ≡ found → node_or Missing found ≡ Node n → IsLive v n
      by_entry None p h = absurd (cc)
      by_entry (Some x) p h = let same : x ≡ n = cc in subst (IsLive v) same (s.named x (named v at x name p))

      by_dots : (b : Bool) → cond b (node_or Gone (dot_dot v at)) (node_or Missing (entry v at name)) ≡ Node n → IsLive v n
      by_dots true h = up_live n h
      by_dots false h = by_entry (entry v at name) refl h

      by_dot : (b : Bool) → cond b (Node at) (cond (bytes_eq name (codes "..")) (node_or Gone (dot_dot v at)) (node_or Missing (entry v at name))) ≡ Node n → IsLive v n
      by_dot true h = let same : at ≡ n = cc in subst (IsLive v) same (IsLive-IsDir v at is)
      by_dot false h = by_dots (bytes_eq name (codes "..")) h

-- what is under a name that is not special is the entry's
module _ (v : Forest) (at : ℕ) (name : List ℕ) where
  same_found : (a b : Option ℕ) → node_or Missing a ≡ node_or Missing b → a ≡ b
  same_found None None h = refl
  same_found None (Some y) h = absurd (cc)
  same_found (Some x) None h = absurd (cc)
  same_found (Some x) (Some y) h = let same : x ≡ y = cc in ap Some same

  looked_entry : (found : Option ℕ) → is_special name ≡ false → lookup_in v at name ≡ node_or Missing found → entry v at name ≡ found
  looked_entry found plain looked = by_tests (is_nil name) (bytes_eq name (codes ".")) (bytes_eq name (codes "..")) plain looked
    where
      by_tests : (a b c : Bool) → (a || (b || c)) ≡ false → cond b (Node at) (cond c (node_or Gone (dot_dot v at)) (node_or Missing (entry v at name))) ≡ node_or Missing found → entry v at name ≡ found
      by_tests true b c off h = absurd (cc)
      by_tests false true c off h = absurd (cc)
      by_tests false false true off h = absurd (cc)
      by_tests false false false off h = same_found (entry v at name) found h

  -- a special name is found, or refused
  looked_plain : HasByte name → lookup_in v at name ≡ Missing → is_special name ≡ false
  looked_plain some looked = ap (λ b. b || (bytes_eq name (codes ".") || bytes_eq name (codes ".."))) some ∙ by_tests (bytes_eq name (codes ".")) (bytes_eq name (codes "..")) looked
    where
      by_up : (up : Option ℕ) → node_or Gone up ≢ Missing
      by_up None h = cc
      by_up (Some d) h = cc

      by_tests : (b c : Bool) → cond b (Node at) (cond c (node_or Gone (dot_dot v at)) (node_or Missing (entry v at name))) ≡ Missing → (b || c) ≡ false
      by_tests true c h = absurd (cc)
      by_tests false true h = absurd (by_up (dot_dot v at) h)
      by_tests false false h = refl

module _ (v : Forest) (s : IsShaped v) (root : v.root ≡ 1) where
  ended_place : (keep : Bool) (name : List ℕ) (place : Place) → HasByte name → EndedAt v keep name place → IsPlaceIn v place
  ended_place keep name place some e = record {
    is_dir = e.dir;
    live = by_node place.node refl;
    found = λ plain. subst (λ n. entry v place.parent n ≡ place.node) (sym e.name) (looked_entry v place.parent name place.node (ap is_special (sym e.name) ∙ plain) e.looked);
    missing = λ none. ap is_special e.name ∙ looked_plain v place.parent name some (e.looked ∙ ap (node_or Missing) none);
  }
    where
      by_node : (found : Option ℕ) → place.node ≡ found → IfSome found (IsLive v)
      by_node None is = tt
      by_node (Some n) is = looked_live v s place.parent e.dir name n (e.looked ∙ ap (node_or Missing) is)

  top : (slash : Bool) → IsPlaceIn v (top_place slash)
  top slash =
      let dir : IsDir v 1 = subst (IsDir v) root s.root in
      record { is_dir = dir; live = IsLive-IsDir v 1 dir; found = λ plain. absurd (cc); missing = λ none. absurd (cc) }

  -- where a walk ends is a place
  pub place_steps : (keep : Bool) → Steps v keep (IsPlaceIn v) HasByte
  place_steps keep = record {
    ends = λ at last slash name place some h. ended_place keep name place some (ended_at v keep last slash at name place h);
    top = top;
    names = λ at last slash name target h. byte_names target;
  }
