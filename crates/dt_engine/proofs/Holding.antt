-- A host whose nodes stand for a tree holds it.
use Rattle.std.proofs.Common.{◌≡◌, ℕ, List, [], ◌∷◌, Option, Some, None, refl, sym, ap, subst, ◌∙◌}
use Rattle.std.specs.Prelude.{IsSome, option_map, option_and_then, unwrap_or}
use Rattle.std.specs.FinMap.{get}
use Rattle.dt_host.specs.World.{World, Forest, Node, file, dir, link, device, node_at, entry}
use Rattle.dt_tree.specs.declared.inode.Inode.{Inode}
use Rattle.dt_tree.specs.declared.limits.TheConstants.{ROOT}
use Rattle.dt_tree.specs.Table.{Table, vino_of, real_of, renumbered_node, shape_of, tree_of, IsPairing, Stands}
use Rattle.dt_tree.proofs.Mirroring.{node_at-inode, entry-inode, has_number}
use Rattle.dt_image.specs.Paths.{node_from, node_from_root}
use Rattle.dt_tree.specs.ImageTree.{what_of}
use Rattle.dt_engine.specs.HoldsTree.{HoldsTree}

-- a number of the host, if there is one, is for that inode, if there is one
abbrev Pair : Table → Option ℕ → Option ℕ → Type 0
Pair t None None = Unit {0}
Pair t None (Some n) = ⊥
Pair t (Some real) None = ⊥
Pair t (Some real) (Some n) = get t.by_real real ≡ Some n

-- what is kept of a node that has this number
found_inode : (t : Table) (real n : ℕ) (found : Option Inode) → get t.inodes n ≡ found → option_map (λ (inode : Inode). inode.real) found ≡ Some real → (inode : Inode) × (get t.inodes n ≡ Some inode) × (inode.real ≡ real)
found_inode t real n None at is = cc
found_inode t real n (Some inode) at is = (inode, at, cc)

what-renumbered : (f : ℕ → ℕ) (found : Option Node) → option_map what_of found ≡ option_map what_of (option_map (renumbered_node f) found)
what-renumbered f None = refl
what-renumbered f (Some (file bytes)) = refl
what-renumbered f (Some (dir names)) = refl
what-renumbered f (Some (link target)) = refl
what-renumbered f (Some (device which)) = refl

module _ (t : Table) (v : Forest) (s : IsPairing t v) where
  inode-at : (real n : ℕ) → get t.by_real real ≡ Some n → (inode : Inode) × (get t.inodes n ≡ Some inode) × (inode.real ≡ real)
  inode-at real n is = found_inode t real n (get t.inodes n) refl (s.back real n is)

  pair-root : Pair t (Some v.root) (Some ROOT)
  pair-root =
      let inode = found_inode t v.root ROOT (get t.inodes ROOT) refl s.root in
      subst (λ real. get t.by_real real ≡ Some ROOT) inode.2 (s.forth ROOT inode.0 inode.1)

  pair-from : (names : List (List ℕ)) (real n : ℕ) → get t.by_real real ≡ Some n → Pair t (node_from v real names) (node_from (shape_of t v) n names)
  unfolding node_from
  pair-from [] real n is = is
  pair-from (name ∷ names) real n is =
      let at = inode-at real n is in
      let here : entry (shape_of t v) n name ≡ option_map (vino_of t) (entry v real name) =
      entry-inode t v s n at.0 name at.1 ∙ ap (λ r. option_map (vino_of t) (entry v r name)) at.2 in
      subst (λ found. Pair t (option_and_then (λ m. node_from v m names) (entry v real name)) (option_and_then (λ m. node_from (shape_of t v) m names) found))
      (sym here) (by_entry (entry v real name) (λ m e. has_number t v s n at.0 name at.1 m (ap (λ r. entry v r name) at.2 ∙ e)) (λ m k e. pair-from names m k e))
    where
      by_number : (m : ℕ) (found : Option ℕ) → get t.by_real m ≡ found → IsSome found → ((k : ℕ) → get t.by_real m ≡ Some k → Pair t (node_from v m names) (node_from (shape_of t v) k names)) → Pair t (node_from v m names) (node_from (shape_of t v) (unwrap_or found 0) names)
      by_number m None e h further = cc
      by_number m (Some k) e h further = further k e

      by_entry : (found : Option ℕ) → ((m : ℕ) → found ≡ Some m → IsSome (get t.by_real m)) → ((m k : ℕ) → get t.by_real m ≡ Some k → Pair t (node_from v m names) (node_from (shape_of t v) k names)) → Pair t (option_and_then (λ m. node_from v m names) found) (option_and_then (λ m. node_from (shape_of t v) m names) (option_map (vino_of t) found))
      by_entry None numbered further = tt
      by_entry (Some m) numbered further = by_number m (get t.by_real m) refl (numbered m refl) (further m)

  pair-reached : (names : List (List ℕ)) → Pair t (node_from_root v names) (node_from_root (shape_of t v) names)
  unfolding shape_of
  pair-reached names = pair-from names v.root ROOT pair-root

  shown-pair : (a b : Option ℕ) → Pair t a b → option_map what_of (option_and_then (node_at v) a) ≡ option_map what_of (option_and_then (node_at (shape_of t v)) b)
  shown-pair None None p = refl
  shown-pair None (Some n) p = absurd p
  shown-pair (Some real) None p = absurd p
  shown-pair (Some real) (Some n) p =
      let at = inode-at real n p in
      what-renumbered (vino_of t) (node_at v real)
      ∙ ap (λ r. option_map what_of (option_map (λ node. renumbered_node (vino_of t) node) (node_at v r))) (sym at.2)
      ∙ sym (ap (option_map what_of) (node_at-inode t v s n at.0 at.1))

  together-pairs : (a b x y : Option ℕ) → Pair t a x → Pair t b y → a ≡ b → x ≡ y
  together-pairs None None None None p q same = refl
  together-pairs None None None (Some n) p q same = absurd q
  together-pairs None None (Some m) y p q same = absurd p
  together-pairs None (Some s) x y p q same = cc
  together-pairs (Some r) None x y p q same = cc
  together-pairs (Some r) (Some s) None y p q same = absurd p
  together-pairs (Some r) (Some s) (Some m) None p q same = absurd q
  together-pairs (Some r) (Some s) (Some m) (Some n) p q same = sym p ∙ ap (λ found. option_and_then (get t.by_real) found) same ∙ q

  apart-pairs : (a b x y : Option ℕ) → Pair t a x → Pair t b y → x ≡ y → a ≡ b
  apart-pairs None None x y p q same = refl
  apart-pairs None (Some r) None None p q same = absurd q
  apart-pairs None (Some r) None (Some n) p q same = cc
  apart-pairs None (Some r) (Some m) y p q same = absurd p
  apart-pairs (Some r) None None y p q same = absurd p
  apart-pairs (Some r) None (Some m) None p q same = cc
  apart-pairs (Some r) None (Some m) (Some n) p q same = absurd q
  apart-pairs (Some r) (Some k) None y p q same = absurd p
  apart-pairs (Some r) (Some k) (Some m) None p q same = absurd q
  apart-pairs (Some r) (Some k) (Some m) (Some n) p q same =
      let to : m ≡ n = cc in
      sym (s.back r m p) ∙ ap (real_of t) to ∙ s.back k n q

-- the host holds the tree that its nodes stand for
pub holds_tree : (t : Table) (w : World) → Stands t w.forest → HoldsTree w (tree_of t w.forest)
holds_tree t w stands =
    let s = stands.mirrors.pairs in
    let pair = pair-reached t w.forest s in
    record {
      shown = λ names. shown-pair t w.forest s (node_from_root w.forest names) (node_from_root (shape_of t w.forest) names) (pair names);
      together = λ a b same. together-pairs t w.forest s _ _ _ _ (pair a) (pair b) same;
      apart = λ a b same. apart-pairs t w.forest s _ _ _ _ (pair a) (pair b) same;
    }
