-- What a change leaves of the holds, and of what is held.
use Rattle.std.proofs.Common.{arith, ◌≡◌, ◌≢◌, ℕ, ◌+◌, ◌≤◌, true, Option, Some, None, inl, inr, refl, sym, ap, subst, ◌∙◌}
use Rattle.std.proofs.lemmas.Bool.{cases_eq}
use Rattle.std.specs.Prelude.{IsSome, is_some, unwrap_or, option_map}
use Rattle.std.specs.Cmp.{nat_cmp_total}
use Rattle.std.specs.FinMap.{get, nat_cmp-IsAntisymmetric}
use Rattle.dt_host.specs.World.{Forest, Node, node_at, without_node, IsDir, IsFile, IsLive, IsBare, IsDevice}
use Rattle.dt_tables.proofs.Maps.{get-remove_same, get-remove_other}
use Rattle.dt_host.proofs.Gone.{IsFile-without_node, IsDir-without_node, IsDevice-without_node}
use Rattle.dt_tree.specs.Shape.{one_for}
use Rattle.dt_tree.specs.FileTree.{Attributes, FileTree, holds_of, IsTree, IsTreeBut}
use Rattle.dt_tree.specs.Changes.{with_shape, with_attributes, attributes_with_hold, attributes_without_hold, with_stamp, tree_with_stamp, is_unused, tree_without, without_unused, without_unused_found, tree_after_hold, tree_after_release}
use Rattle.dt_tree.specs.Calls.{KeepsHeld}
use Rattle.dt_tree.proofs.Namings.{one_for-same, one_for-other}
use Rattle.dt_tree.proofs.Changing.{at_attributes, shape-with_attributes, holds-same, unused_node, unused_held, swept-goes, at_swept, IsTreeBut-released}

pub KeepsHeld-same : (t : FileTree) → KeepsHeld t t
KeepsHeld-same t = record { holds = λ n. refl; files = λ n _ is. is; dirs = λ n _ is. is; devices = λ n _ is. is }

pub KeepsHeld-then : (a b c : FileTree) → KeepsHeld a b → KeepsHeld b c → KeepsHeld a c
KeepsHeld-then a b c p q = record {
  holds = λ n. q.holds n ∙ p.holds n;
  files = λ n some is. q.files n (subst (λ h. 1 ≤ h) (sym (p.holds n)) some) (p.files n some is);
  dirs = λ n some is. q.dirs n (subst (λ h. 1 ≤ h) (sym (p.holds n)) some) (p.dirs n some is);
  devices = λ n some is. q.devices n (subst (λ h. 1 ≤ h) (sym (p.holds n)) some) (p.devices n some is);
}

-- other attributes, with the same holds
pub KeepsHeld-with_attributes : (t : FileTree) (k : ℕ) (f : Attributes → Attributes) → ((a : Attributes) → (let b = f a in b.holds ≡ a.holds)) → KeepsHeld t (with_attributes t k f)
KeepsHeld-with_attributes t k f same = record {
  holds = holds-same t k f same;
  files = λ n _ is. subst (λ v. IsFile v n) (sym (shape-with_attributes t k f)) is;
  dirs = λ n _ is. subst (λ v. IsDir v n) (sym (shape-with_attributes t k f)) is;
  devices = λ n _ is. subst (λ v. IsDevice v n) (sym (shape-with_attributes t k f)) is;
}

pub KeepsHeld-stamped : (t : FileTree) (k stamp : ℕ) → KeepsHeld t (tree_with_stamp t k stamp)
KeepsHeld-stamped t k stamp = KeepsHeld-with_attributes t k (with_stamp stamp) (λ a. refl)

-- a shape with the same files, directories and devices
pub KeepsHeld-with_shape : (t : FileTree) (w : Forest) → ((n : ℕ) → IsFile t.shape n → IsFile w n) → ((n : ℕ) → IsDir t.shape n → IsDir w n) → ((n : ℕ) → IsDevice t.shape n → IsDevice w n) → KeepsHeld t (with_shape t w)
KeepsHeld-with_shape t w files dirs devices = record { holds = λ n. refl; files = λ n _ is. files n is; dirs = λ n _ is. dirs n is; devices = λ n _ is. devices n is }

-- without a node nothing holds it
holds-gone : (t : FileTree) (n : ℕ) → holds_of (tree_without t n) n ≡ 0
holds-gone t n = ap (λ found. unwrap_or (option_map (λ (a : Attributes). a.holds) found) 0) (get-remove_same nat_cmp_total nat_cmp-IsAntisymmetric t.attributes n)

holds-without : (t : FileTree) (n q : ℕ) → q ≢ n → holds_of (tree_without t n) q ≡ holds_of t q
holds-without t n q apart = ap (λ found. unwrap_or (option_map (λ (a : Attributes). a.holds) found) 0) (get-remove_other nat_cmp_total nat_cmp-IsAntisymmetric t.attributes n q apart)

-- what goes was not held
pub KeepsHeld-swept : (t : FileTree) (n : ℕ) → IsTreeBut (Some n) t → KeepsHeld t (without_unused t n)
KeepsHeld-swept t n s = at_swept (λ t2. KeepsHeld t t2) t n gone (λ _. KeepsHeld-same t)
  where
    gone : is_unused t n ≡ true → KeepsHeld t (tree_without t n)
    gone e =
        let none = unused_held t n e in
        let bare = (unused_node t n s e).2 in
        record {
          holds = λ q. elim (cases_eq q n) [
            | inl same ↦ ap (holds_of (tree_without t n)) same ∙ holds-gone t n ∙ sym (ap (holds_of t) same ∙ none)
            | inr apart ↦ holds-without t n q apart
          ];
          files = λ q some is. IsFile-without_node t.shape n bare q (λ same. let at = ap (holds_of t) same in absurd (omega arith)) is;
          dirs = λ q some is. IsDir-without_node t.shape n bare q (λ same. let at = ap (holds_of t) same in absurd (omega arith)) is;
          devices = λ q some is. IsDevice-without_node t.shape n bare q (λ same. let at = ap (holds_of t) same in absurd (omega arith)) is;
        }

pub KeepsHeld-swept_found : (t : FileTree) (found : Option ℕ) → IsTreeBut found t → KeepsHeld t (without_unused_found found t)
KeepsHeld-swept_found t None s = KeepsHeld-same t
KeepsHeld-swept_found t (Some n) s = KeepsHeld-swept t n s

-- a node that is there has attributes
pub has_attributes : (t : FileTree) → IsTree t → (n : ℕ) → IsLive t.shape n → IsSome (get t.attributes n)
has_attributes t s n live = by_found (get t.attributes n) (node_at t.shape n) (s.same n) live
  where
    by_found : (a : Option Attributes) (b : Option Node) → is_some a ≡ is_some b → IsSome b → IsSome a
    by_found a None e h = cc
    by_found None (Some x) e h = cc
    by_found (Some a) (Some x) e h = refl

-- one hold more of a node that is there
pub holds-held : (t : FileTree) → IsTree t → (n : ℕ) → IsLive t.shape n → (q : ℕ) → holds_of (tree_after_hold t n) q ≡ holds_of t q + one_for n q
holds-held t s n live q = at_attributes t n attributes_with_hold (λ found. unwrap_or (option_map (λ a. a.holds) found) 0 ≡ holds_of t q + one_for n q) q
    (λ same. let one = ap (one_for n) same ∙ one_for-same n in let at = ap (holds_of t) same in let more = by_found (get t.attributes n) (has_attributes t s n live) in omega arith)
    (λ apart. let none = one_for-other n q (λ same. apart (sym same)) in omega arith)
  where
    by_found : (found : Option Attributes) → IsSome found → unwrap_or (option_map (λ a. a.holds) (option_map attributes_with_hold found)) 0 ≡ unwrap_or (option_map (λ a. a.holds) found) 0 + 1
    by_found None h = cc
    by_found (Some a) h = refl

-- nothing else changes there
pub shape-held : (t : FileTree) (n : ℕ) → (tree_after_hold t n).shape ≡ t.shape
shape-held t n = shape-with_attributes t n attributes_with_hold

module _ (t : FileTree) (n : ℕ) where
  -- before a sweep
  fewer : 1 ≤ holds_of t n → (q : ℕ) → holds_of (with_attributes t n attributes_without_hold) q + one_for n q ≡ holds_of t q
  fewer some q = at_attributes t n attributes_without_hold (λ found. unwrap_or (option_map (λ a. a.holds) found) 0 + one_for n q ≡ holds_of t q) q
      (λ same. let one = ap (one_for n) same ∙ one_for-same n in let at = ap (holds_of t) same in let less = by_found (get t.attributes n) some in omega arith)
      (λ apart. let none = one_for-other n q (λ same. apart (sym same)) in omega arith)
    where
      by_found : (found : Option Attributes) → 1 ≤ unwrap_or (option_map (λ a. a.holds) found) 0 → unwrap_or (option_map (λ a. a.holds) (option_map attributes_without_hold found)) 0 + 1 ≡ unwrap_or (option_map (λ a. a.holds) found) 0
      by_found None h = absurd (omega arith)
      by_found (Some a) h = omega arith

  -- one hold fewer of a node that is held
  pub holds-released : 1 ≤ holds_of t n → (q : ℕ) → holds_of (tree_after_release t n) q + one_for n q ≡ holds_of t q
  unfolding tree_after_release
  holds-released some q = at_swept (λ t2. holds_of t2 q + one_for n q ≡ holds_of t q) (with_attributes t n attributes_without_hold) n
      (λ e. elim (cases_eq q n) [
        | inl same ↦
            let none = ap (holds_of (tree_without (with_attributes t n attributes_without_hold) n)) same ∙ holds-gone (with_attributes t n attributes_without_hold) n in
            let was = ap (holds_of (with_attributes t n attributes_without_hold)) same ∙ unused_held (with_attributes t n attributes_without_hold) n e in
            let sum = fewer some q in
            omega arith
        | inr apart ↦ let same = holds-without (with_attributes t n attributes_without_hold) n q apart in let sum = fewer some q in omega arith
      ])
      (λ _. fewer some q)

  -- what of a node stays without another stays for one that is still held, or is another
  kept : (P : Forest → ℕ → Type 0) → ((v : Forest) → IsBare v n → (q : ℕ) → q ≢ n → P v q → P (without_node v n) q) → IsTree t → (q : ℕ) → (q ≡ n → 1 ≤ holds_of (tree_after_release t n) q) → P t.shape q → (let new = tree_after_release t n in P new.shape q)
  unfolding tree_after_release
  kept P stays s q some is =
      let start : FileTree = with_attributes t n attributes_without_hold in
      let before = subst (λ v. P v q) (sym (shape-with_attributes t n attributes_without_hold)) is in
      at_swept (λ t2. P t2.shape q) start n
      (λ e.
      let gone = ap (λ t2. holds_of t2 q) (swept-goes start n e) in
      stays start.shape (unused_node start n (IsTreeBut-released t n s) e).2 q
      (λ same. let none = ap (holds_of (tree_without start n)) same ∙ holds-gone start n in let held = some same in absurd (omega arith)) before)
      (λ _. before)

  pub IsFile-released : IsTree t → (q : ℕ) → (q ≡ n → 1 ≤ holds_of (tree_after_release t n) q) → IsFile t.shape q → (let new = tree_after_release t n in IsFile new.shape q)
  IsFile-released = kept IsFile (λ v bare q apart is. IsFile-without_node v n bare q apart is)

  pub IsDir-released : IsTree t → (q : ℕ) → (q ≡ n → 1 ≤ holds_of (tree_after_release t n) q) → IsDir t.shape q → (let new = tree_after_release t n in IsDir new.shape q)
  IsDir-released = kept IsDir (λ v bare q apart is. IsDir-without_node v n bare q apart is)

  pub IsDevice-released : IsTree t → (q : ℕ) → (q ≡ n → 1 ≤ holds_of (tree_after_release t n) q) → IsDevice t.shape q → (let new = tree_after_release t n in IsDevice new.shape q)
  IsDevice-released = kept IsDevice (λ v bare q apart is. IsDevice-without_node v n bare q apart is)
