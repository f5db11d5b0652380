-- What each step of a change leaves of a tree: other attributes, another shape, and a node that goes.
use Rattle.std.proofs.Common.{arith, ◌≡◌, ◌≢◌, ℕ, ◌+◌, ◌-◌, ◌≤◌, ◌<◌, cond, true, false, Bool, ◌&&◌, not, Option, Some, None, inl, inr, refl, sym, ap, subst, ◌∙◌}
use Rattle.std.proofs.lemmas.Bool.{cases_eq}
use Rattle.std.proofs.lemmas.Bool.Decides.{nat_tests}
use Rattle.std.specs.Prelude.{is_some, IsSome, IsTrue, unwrap_or, option_map, ◌==◌}
use Rattle.std.specs.Cmp.{nat_cmp_total}
use Rattle.std.specs.FinMap.{get, remove, len, len-remove, nat_cmp-IsAntisymmetric}
use Rattle.dt_base.specs.Profile.{is_version}
use Rattle.dt_host.specs.World.{Forest, Node, node_at, without_node, IsLive, IsBare}
use Rattle.dt_tables.proofs.Maps.{at_insert, at_remove, get-remove_other}
use Rattle.dt_tree.specs.declared.limits.TheConstants.{ROOT, NAMES_LIMIT}
use Rattle.dt_tree.specs.Shape.{name_count_of, name_count, IsShaped}
use Rattle.dt_tree.specs.FileTree.{Attributes, FileTree, holds_of, IsGoodNode, IsTreeBut, IsTree}
use Rattle.dt_tree.specs.Changes.{with_shape, with_some, with_attributes, with_stamp, attributes_without_hold, tree_with_stamp, is_unused, tree_without, without_unused, without_unused_found}
use Rattle.dt_tree.proofs.Namings.{names_of-without_node, name_count-without_node}
use Rattle.dt_tree.proofs.Shapes.{shaped-without_node, bare_if_nameless}

is_some-map : {X Y : Type 0} (f : X → Y) (found : Option X) → is_some (option_map f found) ≡ is_some found
is_some-map f None = refl
is_some-map f (Some x) = refl

still_live : (a b : Option Node) → is_some a ≡ is_some b → IsSome a → IsSome b
still_live a None e h = cc
still_live a (Some x) e h = refl

module _ (t : FileTree) (k : ℕ) (f : Attributes → Attributes) where
  -- a fact of the attributes at q, once those at k changed
  pub at_attributes : (P : Option Attributes → Type 0) (q : ℕ) → (q ≡ k → P (option_map f (get t.attributes k))) → (q ≢ k → P (get t.attributes q)) → P (get (with_attributes t k f).attributes q)
  unfolding with_attributes
  at_attributes P q here there = by_found (get t.attributes k) refl
    where
      by_found : (found : Option Attributes) → get t.attributes k ≡ found → P (get (with_some t.attributes k (option_map f found)) q)
      by_found None e = elim (cases_eq q k) [
        | inl same ↦ subst (λ found. P found) (ap (option_map f) e ∙ sym (ap (get t.attributes) same ∙ e)) (here same)
        | inr apart ↦ there apart
      ]
      by_found (Some x) e = at_insert nat_cmp_total nat_cmp-IsAntisymmetric P t.attributes k (f x) q (λ same. subst (λ found. P (option_map f found)) e (here same)) there

  pub shape-with_attributes : (with_attributes t k f).shape ≡ t.shape
  unfolding with_attributes
  shape-with_attributes = refl

  pub next-with_attributes : (with_attributes t k f).next ≡ t.next
  unfolding with_attributes
  next-with_attributes = refl

  pub version-with_attributes : (with_attributes t k f).version ≡ t.version
  unfolding with_attributes
  version-with_attributes = refl

  pub is_some-attributes : (q : ℕ) → is_some (get (with_attributes t k f).attributes q) ≡ is_some (get t.attributes q)
  is_some-attributes q = at_attributes (λ found. is_some found ≡ is_some (get t.attributes q)) q (λ same. is_some-map f (get t.attributes k) ∙ ap (λ x. is_some (get t.attributes x)) (sym same)) (λ _. refl)

  -- where a change keeps the holds they stay
  pub holds-same : ((a : Attributes) → (let b = f a in b.holds ≡ a.holds)) → (q : ℕ) → holds_of (with_attributes t k f) q ≡ holds_of t q
  holds-same same q = at_attributes (λ found. unwrap_or (option_map (λ a. a.holds) found) 0 ≡ holds_of t q) q (λ is. by_found (get t.attributes k) ∙ ap (holds_of t) (sym is)) (λ _. refl)
    where
      by_found : (found : Option Attributes) → unwrap_or (option_map (λ a. a.holds) (option_map f found)) 0 ≡ unwrap_or (option_map (λ a. a.holds) found) 0
      by_found None = refl
      by_found (Some a) = same a

  -- other attributes make a tree, where the mode stays good and the holds grow, but for a node that may be lost
  pub IsTreeBut-with_attributes : (lost : Option ℕ) → IsTreeBut lost t → ((node : Node) (a : Attributes) → node_at t.shape k ≡ Some node → IsGoodNode t.version node a.mode → (let b = f a in IsGoodNode t.version node b.mode)) → (lost ≢ Some k → (a : Attributes) → (let b = f a in a.holds ≤ b.holds)) → IsTreeBut lost (with_attributes t k f)
  IsTreeBut-with_attributes lost s good more = record {
    version = subst (λ version. IsTrue (is_version version)) (sym version-with_attributes) s.version;
    shaped = subst IsShaped (sym shape-with_attributes) s.shaped;
    root = ap (λ (v : Forest). v.root) shape-with_attributes ∙ s.root;
    same = λ n. is_some-attributes n ∙ s.same n ∙ ap (λ v. is_some (node_at v n)) (sym shape-with_attributes);
    good = λ n node b at kept. subst (λ version. IsGoodNode version node b.mode) (sym version-with_attributes) (good_at n node b (ap (λ v. node_at v n) (sym shape-with_attributes) ∙ at) kept);
    low = λ n live. s.low n (back n live);
    fresh = λ n live. subst (λ next. n < next) (sym next-with_attributes) (s.fresh n (back n live));
    few = subst (λ (v : Forest). len v.nodes ≤ 4096) (sym shape-with_attributes) s.few;
    few_names = subst (λ v. name_count v ≤ NAMES_LIMIT) (sym shape-with_attributes) s.few_names;
    used = λ n live low apart. subst (λ v. 1 ≤ name_count_of v n + holds_of (with_attributes t k f) n) (sym shape-with_attributes) (used n (back n live) low apart);
  }
    where
      back : (n : ℕ) → (let new = with_attributes t k f in IsLive new.shape n) → IsLive t.shape n
      back n live = subst (λ v. IsLive v n) shape-with_attributes live

      good_at : (n : ℕ) (node : Node) (b : Attributes) → node_at t.shape n ≡ Some node → get (with_attributes t k f).attributes n ≡ Some b → IsGoodNode t.version node b.mode
      good_at n node b at = at_attributes (λ found. found ≡ Some b → IsGoodNode t.version node b.mode) n
          (λ same. by_found (get t.attributes k) refl same)
          (λ _ e. s.good n node b at e)
        where
          by_found : (found : Option Attributes) → get t.attributes k ≡ found → n ≡ k → option_map f found ≡ Some b → IsGoodNode t.version node b.mode
          by_found None e same is = cc
          by_found (Some a) e same is =
              let new : f a ≡ b = cc in
              subst (λ (x : Attributes). IsGoodNode t.version node x.mode) new (good node a (ap (node_at t.shape) (sym same) ∙ at) (s.good n node a at (ap (get t.attributes) same ∙ e)))

      used : (n : ℕ) → IsLive t.shape n → n ≢ ROOT → lost ≢ Some n → 1 ≤ name_count_of t.shape n + holds_of (with_attributes t k f) n
      used n live low apart = at_attributes (λ found. 1 ≤ name_count_of t.shape n + unwrap_or (option_map (λ a. a.holds) found) 0) n
          (λ same. let grown = by_found (get t.attributes k) (λ is. apart (is ∙ ap Some (sym same))) in let at = ap (holds_of t) same in omega (arith, s.used n live low apart))
          (λ _. s.used n live low apart)
        where
          by_found : (found : Option Attributes) → lost ≢ Some k → unwrap_or (option_map (λ a. a.holds) found) 0 ≤ unwrap_or (option_map (λ a. a.holds) (option_map f found)) 0
          by_found None apart = omega arith
          by_found (Some a) apart = more apart a

-- a node may be lost that isn't
pub IsTreeBut-weaker : (lost : Option ℕ) (t : FileTree) → IsTree t → IsTreeBut lost t
IsTreeBut-weaker lost t s = record { version = s.version; shaped = s.shaped; root = s.root; same = s.same; good = s.good; low = s.low; fresh = s.fresh; few = s.few; few_names = s.few_names; used = λ n live low _. s.used n live low (λ e. cc) }

pub IsTreeBut-stamped : (lost : Option ℕ) (t : FileTree) (k stamp : ℕ) → IsTreeBut lost t → IsTreeBut lost (tree_with_stamp t k stamp)
IsTreeBut-stamped lost t k stamp s = IsTreeBut-with_attributes t k (with_stamp stamp) lost s (λ node a _ good. good) (λ _ a. omega arith)

-- a hold fewer may leave the node unused
pub IsTreeBut-released : (t : FileTree) (n : ℕ) → IsTree t → IsTreeBut (Some n) (with_attributes t n attributes_without_hold)
IsTreeBut-released t n s = IsTreeBut-with_attributes t n attributes_without_hold (Some n) (IsTreeBut-weaker (Some n) t s) (λ node a _ good. good) (λ apart. absurd (apart refl))

-- a shape of the same nodes, in which all but one have as many names
pub IsTreeBut-with_shape : (lost : Option ℕ) (t : FileTree) (w : Forest) → IsTree t → IsShaped w → w.root ≡ t.shape.root → ((n : ℕ) → is_some (node_at w n) ≡ is_some (node_at t.shape n)) → len w.nodes ≡ len t.shape.nodes → ((n : ℕ) (node : Node) (a : Attributes) → node_at w n ≡ Some node → get t.attributes n ≡ Some a → IsGoodNode t.version node a.mode) → name_count w ≤ NAMES_LIMIT → ((n : ℕ) → lost ≢ Some n → name_count_of t.shape n ≤ name_count_of w n) → IsTreeBut lost (with_shape t w)
IsTreeBut-with_shape lost t w s shaped top same size good few_names more = record {
  version = s.version;
  shaped = shaped;
  root = top ∙ s.root;
  same = λ n. s.same n ∙ sym (same n);
  good = good;
  low = λ n live. s.low n (there n live);
  fresh = λ n live. s.fresh n (there n live);
  few = omega (arith, s.few);
  few_names = few_names;
  used = λ n live low apart. omega (arith, s.used n (there n live) low (λ e. cc), more n apart);
}
  where
    there : (n : ℕ) → IsLive w n → IsLive t.shape n
    there n live = still_live (node_at w n) (node_at t.shape n) (same n) live

-- what the test for an unused node says
parts_of : (a b c : Bool) → (not a && b && c) ≡ true → (a ≡ false) × (b ≡ true) × (c ≡ true)
parts_of true b c e = cc
parts_of false true true e = (refl, refl, refl)
parts_of false true false e = cc
parts_of false false c e = cc

used_if : (a b c : Bool) → (not a && b && c) ≡ false → a ≡ false → b ≡ true → c ≡ false
used_if true b c e f g = cc
used_if false true true e f g = cc
used_if false true false e f g = refl
used_if false false c e f g = cc

-- an unused node is not the root, and has neither names nor entries
pub unused_node : (t : FileTree) (n : ℕ) → IsTreeBut (Some n) t → is_unused t n ≡ true → (n ≢ 1) × (name_count_of t.shape n ≡ 0) × IsBare t.shape n
unused_node t n s e =
    let parts = parts_of (n == 1) (name_count_of t.shape n == 0) (holds_of t n == 0) e in
    let low : n ≢ 1 = grind (arith, nat_tests, parts.0) in
    let none : name_count_of t.shape n ≡ 0 = grind (arith, nat_tests, parts.1) in
    (low, none, bare_if_nameless t.shape s.shaped n none (λ same. low (same ∙ s.root)))

-- nor does anything hold it
pub unused_held : (t : FileTree) (n : ℕ) → is_unused t n ≡ true → holds_of t n ≡ 0
unused_held t n e = let parts = parts_of (n == 1) (name_count_of t.shape n == 0) (holds_of t n == 0) e in grind (arith, nat_tests, parts.2)

pub swept-stays : (t : FileTree) (n : ℕ) → is_unused t n ≡ false → t ≡ without_unused t n
unfolding without_unused
swept-stays t n e = sym (ap (λ b. cond b (tree_without t n) t) e)

pub swept-goes : (t : FileTree) (n : ℕ) → is_unused t n ≡ true → tree_without t n ≡ without_unused t n
unfolding without_unused
swept-goes t n e = sym (ap (λ b. cond b (tree_without t n) t) e)

-- a fact of a swept tree, by whether the node goes
pub at_swept : (P : FileTree → Type 0) (t : FileTree) (n : ℕ) → (is_unused t n ≡ true → P (tree_without t n)) → (is_unused t n ≡ false → P t) → P (without_unused t n)
at_swept P t n goes stays = by_test (is_unused t n) refl
  where
    by_test : (b : Bool) → is_unused t n ≡ b → P (without_unused t n)
    by_test true e = subst P (swept-goes t n e) (goes e)
    by_test false e = subst P (swept-stays t n e) (stays e)

pub IsTree-swept : (t : FileTree) (n : ℕ) → IsTreeBut (Some n) t → IsTree (without_unused t n)
IsTree-swept t n s = at_swept IsTree t n gone stays
  where
    gone : is_unused t n ≡ true → IsTree (tree_without t n)
    gone e =
        let unused = unused_node t n s e in
        let bare = unused.2 in
        record {
          version = s.version;
          shaped = shaped-without_node t.shape s.shaped n unused.1 bare (λ same. unused.0 (same ∙ s.root));
          root = s.root;
          same = λ q. both_gone q;
          good = λ q node a at kept. s.good q node a (was_node q node at) (was_kept q a kept);
          low = λ q live. s.low q (there q live);
          fresh = λ q live. s.fresh q (there q live);
          few = omega (arith, fewer, s.few);
          few_names = let same = name_count-without_node t.shape n bare in omega (arith, s.few_names);
          used = λ q live below _. subst (λ h. 1 ≤ name_count_of (without_node t.shape n) q + h) (sym (holds_still q (apart q live))) (subst (λ k. 1 ≤ k + holds_of t q) (sym (names_of-without_node t.shape n q bare)) (s.used q (there q live) below (λ same. apart q live cc)));
        }
      where
        both_gone : (q : ℕ) → is_some (get (remove t.attributes n) q) ≡ is_some (node_at (without_node t.shape n) q)
        both_gone q = at_remove nat_cmp_total nat_cmp-IsAntisymmetric (λ found. is_some found ≡ is_some (node_at (without_node t.shape n) q)) t.attributes n q
            (λ same. at_remove nat_cmp_total nat_cmp-IsAntisymmetric (λ found. false ≡ is_some found) t.shape.nodes n q (λ _. refl) (λ apart. absurd (apart same)))
            (λ apart. s.same q ∙ ap is_some (sym (get-remove_other nat_cmp_total nat_cmp-IsAntisymmetric t.shape.nodes n q apart)))

        there : (q : ℕ) → IsLive (without_node t.shape n) q → IsLive t.shape q
        there q = at_remove nat_cmp_total nat_cmp-IsAntisymmetric (λ found. IsSome found → IsLive t.shape q) t.shape.nodes n q (λ _ h. cc) (λ _ h. h)

        was_node : (q : ℕ) (node : Node) → node_at (without_node t.shape n) q ≡ Some node → node_at t.shape q ≡ Some node
        was_node q node = at_remove nat_cmp_total nat_cmp-IsAntisymmetric (λ found. found ≡ Some node → node_at t.shape q ≡ Some node) t.shape.nodes n q (λ _ h. cc) (λ _ h. h)

        was_kept : (q : ℕ) (a : Attributes) → get (remove t.attributes n) q ≡ Some a → get t.attributes q ≡ Some a
        was_kept q a = at_remove nat_cmp_total nat_cmp-IsAntisymmetric (λ found. found ≡ Some a → get t.attributes q ≡ Some a) t.attributes n q (λ _ h. cc) (λ _ h. h)

        apart : (q : ℕ) → IsLive (without_node t.shape n) q → q ≢ n
        apart q = at_remove nat_cmp_total nat_cmp-IsAntisymmetric (λ found. IsSome found → q ≢ n) t.shape.nodes n q (λ _ h. cc) (λ apart _. apart)

        holds_still : (q : ℕ) → q ≢ n → holds_of (tree_without t n) q ≡ holds_of t q
        holds_still q apart = ap (λ found. unwrap_or (option_map (λ a. a.holds) found) 0) (get-remove_other nat_cmp_total nat_cmp-IsAntisymmetric t.attributes n q apart)

        fewer : len (remove t.shape.nodes n) ≤ len t.shape.nodes
        fewer = at_most (is_some (get t.shape.nodes n)) (len-remove nat_cmp_total t.shape.nodes n)
          where
            at_most : (b : Bool) → len (remove t.shape.nodes n) ≡ cond b (len t.shape.nodes - 1) (len t.shape.nodes) → len (remove t.shape.nodes n) ≤ len t.shape.nodes
            at_most true e = omega arith
            at_most false e = omega arith

    stays : is_unused t n ≡ false → IsTree t
    stays e = record {
      version = s.version;
      shaped = s.shaped;
      root = s.root;
      same = s.same;
      good = s.good;
      low = s.low;
      fresh = s.fresh;
      few = s.few;
      few_names = s.few_names;
      used = λ q live low _. elim (cases_eq q n) [
        | inl same ↦ subst (λ x. 1 ≤ name_count_of t.shape x + holds_of t x) (sym same) (still (λ h. low (same ∙ h)))
        | inr apart ↦ s.used q live low (λ same. apart cc)
      ];
    }
      where
        still : n ≢ 1 → 1 ≤ name_count_of t.shape n + holds_of t n
        still low = elim (cases_eq (name_count_of t.shape n) 0) [
          | inl none ↦ let held = used_if (n == 1) (name_count_of t.shape n == 0) (holds_of t n == 0) e (grind (arith, nat_tests)) (grind (arith, nat_tests)) in let some : holds_of t n ≢ 0 = grind (arith, nat_tests, held) in omega arith
          | inr some ↦ omega arith
        ]

pub IsTree-swept_found : (t : FileTree) (found : Option ℕ) → IsTreeBut found t → IsTree (without_unused_found found t)
IsTree-swept_found t None s = s
IsTree-swept_found t (Some n) s = IsTree-swept t n s
