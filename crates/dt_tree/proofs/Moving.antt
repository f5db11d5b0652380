-- A name that moves: what the steps of a rename need, and the tree that they make.
use Rattle.std.proofs.Common.{arith, ◌≡◌, ◌≢◌, ℕ, zero, suc, ◌+◌, ◌≤◌, true, false, List, Option, Some, None, ◌⊎◌, inl, inr, refl, sym, ap, subst, ◌∙◌}
use Rattle.std.proofs.lemmas.Bool.{cases_eq}
use Rattle.std.specs.Prelude.{IfSome, unwrap_or}
use Rattle.dt_host.specs.World.{Forest, entry, with_entry, without_entry, IsDir, IsFile, IsLive, IsBare, IsDevice}
use Rattle.dt_tables.specs.inner.Weight.{weight}
use Rattle.dt_tables.proofs.Found.{not_both}
use Rattle.dt_host.proofs.Changes.{IsFile-bound, IsDevice-bound}
use Rattle.dt_host.proofs.Spots.{IsDir-entry, at_with_entry, IsDir-with_entry, IsDir-from_with_entry, IsLive-with_entry, is_some-with_entry, len-with_entry, root-with_entry}
use Rattle.dt_host.proofs.Gone.{at_without_entry, IsDir-without_entry, IsDir-from_without_entry, IsFile-without_entry, IsDevice-without_entry, IsLive-without_entry, is_some-without_entry, len-without_entry, root-without_entry, without_entry-none, with_entry-cleared}
use Rattle.dt_tree.specs.declared.limits.TheConstants.{NODE_LIMIT}
use Rattle.std.specs.FinMap.{len}
use Rattle.dt_tree.specs.Shape.{one_for, name_count_of, name_count, is_bare, is_removed, LeadsUp, IsBelow, IsUnder, IsRemoved, IsShaped}
use Rattle.dt_tree.specs.Above.{is_below}
use Rattle.dt_tree.specs.FileTree.{FileTree, IsTree, IsTreeBut}
use Rattle.dt_tree.specs.Changes.{with_shape, with_stamp, tree_with_stamp, without_unused_found, tree_after_rename}
use Rattle.dt_tree.specs.Calls.{KeepsHeld, MayMove}
use Rattle.dt_tree.specs.inner.Moves.{IsMove}
use Rattle.dt_tree.proofs.Namings.{one_for-same, weight_zero, names_of-with_entry, names_of-without_entry, name_count-with_entry, name_count-without_entry, named}
use Rattle.dt_tree.proofs.Shapes.{same_number, itself, inside, carry, root_if_both}
use Rattle.dt_tree.proofs.Below.{is_below-exact}
use Rattle.dt_tree.proofs.Changing.{shape-with_attributes, IsTreeBut-stamped, IsTreeBut-with_shape, IsTree-swept_found}
use Rattle.dt_tree.proofs.GoodNodes.{good-with_entry, good-without_entry}
use Rattle.dt_tree.proofs.Holding.{KeepsHeld-then, KeepsHeld-stamped, KeepsHeld-with_shape, KeepsHeld-swept_found}
use Rattle.dt_tree.proofs.Calling.{under_if_there, bare_if_empty}

-- an option is that number, or it isn't
is_number : (found : Option ℕ) (n : ℕ) → (found ≡ Some n) ⊎ (found ≢ Some n)
is_number None n = inr (λ e. cc)
is_number (Some x) n = elim (cases_eq x n) [ inl same ↦ inl (ap Some same) | inr apart ↦ inr (λ e. apart cc) ]

if_some : {X : Type 0} (P : X → Type 0) (found : Option X) (x : X) → found ≡ Some x → IfSome found P → P x
if_some P found x e h = subst (λ o. IfSome o P) e h

if_some-map : {X : Type 0} (P Q : X → Type 0) (found : Option X) → ((x : X) → P x → Q x) → IfSome found P → IfSome found Q
if_some-map P Q None f h = tt
if_some-map P Q (Some x) f h = f x h

pub if_found : (P : ℕ → Type 0) (found : Option ℕ) → ((n : ℕ) → found ≡ Some n → P n) → IfSome found P
if_found P None h = tt
if_found P (Some n) h = h n refl

-- a move that its caller has seen to may be made
pub is_move : (v : Forest) → IsShaped v → len v.nodes ≤ NODE_LIMIT → (from : ℕ) (old : List ℕ) (to : ℕ) (new : List ℕ) (n : ℕ) → MayMove v from old to new → is_removed v to ≡ false → entry v from old ≡ Some n → IsMove v from old to new n
is_move v s few from old to new n may there at = record {
  here = at;
  is_dir = may.is_dir;
  under = under_if_there v s to may.is_dir there;
  good = may.good;
  apart = λ e. may.apart (e ∙ sym at);
  outside = λ is below. let yes = (is_below-exact v s few to n may.is_dir).1 below in let not_so = if_some (λ n. IsDir v n → is_below v to n ≡ false) (entry v from old) n at may.outside is in cc;
  replaced = if_some-map (λ r. IsDir v r → is_bare v r ≡ true) (λ r. IsDir v r → IsBare v r) (entry v to new) (λ r h is. bare_if_empty v r (h is)) may.replaced;
}

-- what has a name is there
pub live_named : (v : Forest) → IsShaped v → (d n : ℕ) (name : List ℕ) → entry v d name ≡ Some n → IsLive v n
live_named v s d n name e = s.named n (named v d n name e)

module _ (v : Forest) (s : IsShaped v) (from : ℕ) (old : List ℕ) (to : ℕ) (new : List ℕ) (m : ℕ) (may : IsMove v from old to new m) where
  pub is_from : IsDir v from
  is_from = IsDir-entry v from old m may.here

  -- after the old name went
  pub is_first : IsDir (without_entry v from old) to
  is_first = IsDir-without_entry v from old to may.is_dir

  -- the new place is another than the old one
  pub found_first : entry (without_entry v from old) to new ≡ entry v to new
  found_first = at_without_entry v from old (λ found. found ≡ entry v to new) to new (λ same alike. absurd (may.apart (ap (λ x. entry v x new) same ∙ ap (entry v from) alike ∙ may.here))) (λ _. refl)

  pub once_first : (n : ℕ) → IsDir (without_entry v from old) n → name_count_of (without_entry v from old) n ≤ 1
  once_first n is = omega (arith, names_of-without_entry v from n old, s.once n (IsDir-from_without_entry v from old is_from n is))

  -- after what stood in the new place lost its name there
  pub is_second : IsDir (without_entry (without_entry v from old) to new) to
  is_second = IsDir-without_entry (without_entry v from old) to new to is_first

  pub free_second : entry (without_entry (without_entry v from old) to new) to new ≡ None
  free_second = at_without_entry (without_entry v from old) to new (λ found. found ≡ None) to new (λ _ _. refl) (λ apart. absurd (apart refl refl))

  pub live_second : IsLive (without_entry (without_entry v from old) to new) m
  live_second = IsLive-without_entry (without_entry v from old) to new m (IsLive-without_entry v from old m (live_named v s from m old may.here))

  -- after the new name was given
  pub is_third : (d : ℕ) → IsDir v d → IsDir (with_entry (without_entry v from old) to new m) d
  is_third d h = IsDir-with_entry (without_entry v from old) to new m d (IsDir-without_entry v from old d h)

  pub is_file_third : (n : ℕ) → IsFile v n → IsFile (with_entry (without_entry v from old) to new m) n
  is_file_third n h = IsFile-bound (without_entry v from old) to new m n is_first (IsFile-without_entry v from old is_from n h)

  pub is_device_third : (n : ℕ) → IsDevice v n → IsDevice (with_entry (without_entry v from old) to new m) n
  is_device_third n h = IsDevice-bound (without_entry v from old) to new m n is_first (IsDevice-without_entry v from old is_from n h)

  pub live_third : (n : ℕ) → IsLive v n → IsLive (with_entry (without_entry v from old) to new m) n
  live_third n h = IsLive-with_entry (without_entry v from old) to new m n (IsLive-without_entry v from old n h)

  top_same : (with_entry (without_entry v from old) to new m).root ≡ v.root
  top_same = root-with_entry (without_entry v from old) to new m ∙ root-without_entry v from old

  moved_count : (n : ℕ) → name_count_of (with_entry (without_entry v from old) to new m) n + weight (one_for n) (entry v to new) ≡ name_count_of v n
  moved_count n =
      let less = names_of-without_entry v from n old in
      let more = names_of-with_entry (without_entry v from old) to n new m in
      let here = ap (weight (one_for n)) may.here in
      let there = ap (weight (one_for n)) found_first in
      omega arith

  -- there are no more names than before
  few_moved : name_count (with_entry (without_entry v from old) to new m) ≤ name_count v
  few_moved =
      let less = name_count-without_entry v from old m may.here in
      let cleared = ap (λ w. name_count w) (with_entry-cleared (without_entry v from old) to new m) in
      let more = name_count-with_entry (without_entry (without_entry v from old) to new) to new m free_second in
      let fewer = by_found (entry (without_entry v from old) to new) refl in
      omega arith
    where
      by_found : (found : Option ℕ) → entry (without_entry v from old) to new ≡ found → name_count (without_entry (without_entry v from old) to new) ≤ name_count (without_entry v from old)
      by_found None e = let same = ap (λ w. name_count w) (without_entry-none (without_entry v from old) to new is_first e) in omega arith
      by_found (Some x) e = let one = name_count-without_entry (without_entry v from old) to new x e in omega arith

  -- each entry stays, but for the node's own and what stood in its new place
  stays_put : (q n : ℕ) (c : List ℕ) → entry v q c ≡ Some n → n ≢ m → entry v to new ≢ Some n → entry (with_entry (without_entry v from old) to new m) q c ≡ Some n
  stays_put q n c at apart spared = at_with_entry (without_entry v from old) to new m (λ found. found ≡ Some n) q c
      (λ same alike. absurd (spared (sym (ap (λ x. entry v x c) same ∙ ap (entry v to) alike) ∙ at)))
      (λ _. at_without_entry v from old (λ found. found ≡ Some n) q c (λ same alike. absurd (apart (same_number (entry v q c) n m at (ap (λ x. entry v x c) same ∙ ap (entry v from) alike ∙ may.here)))) (λ _. at))

  new_place : entry (with_entry (without_entry v from old) to new m) to new ≡ Some m
  new_place = at_with_entry (without_entry v from old) to new m (λ found. found ≡ Some m) to new (λ _ _. refl) (λ apart. absurd (apart refl refl))

  -- a directory with an entry isn't replaced
  spared_if_full : (q x : ℕ) (c : List ℕ) → entry v q c ≡ Some x → entry v to new ≢ Some q
  spared_if_full q x c at gone = not_both (entry v q c) x (if_some (λ r. IsDir v r → IsBare v r) (entry v to new) q gone may.replaced (IsDir-entry v q c x at) c) at

  outside : IsBelow v to m → ⊥
  unfolding LeadsUp
  outside below = may.outside (by_steps below.0 below.1) below
    where
      last_dir : (k : ℕ) (q : ℕ) → IsDir v q → LeadsUp v k q m → IsDir v m
      last_dir zero q is h = subst (IsDir v) h is
      last_dir (suc k) q is h = last_dir k h.0 (IsDir-entry v h.0 h.1 q h.2) h.3

      by_steps : (k : ℕ) → LeadsUp v k to m → IsDir v m
      by_steps zero h = subst (IsDir v) h may.is_dir
      by_steps (suc k) h = last_dir k h.0 (IsDir-entry v h.0 h.1 to h.2) h.3

  -- the new parent is below the root still
  under_to : IsUnder (with_entry (without_entry v from old) to new m) to
  under_to = carry v (with_entry (without_entry v from old) to new m) (λ n. (IsBelow v n m → ⊥) × (entry v to new ≢ Some n)) top_same
      (λ q n c at p. ((λ below. p.0 (inside v q n m c at below), spared_if_full q n c at), inside _ q n _ c (stays_put q n c at (λ same. p.0 (subst (IsBelow v n) same (itself v n))) p.1)))
      may.under.0 to may.under.1 (outside, λ self. spared_if_full to to new self self)

  -- and then so is each directory that isn't replaced
  up_again : (n : ℕ) → IsUnder v n → entry v to new ≢ Some n → IsUnder (with_entry (without_entry v from old) to new m) n
  up_again n u spared = carry v (with_entry (without_entry v from old) to new m) (λ x. entry v to new ≢ Some x) top_same
      (λ q x c at p. (spared_if_full q x c at, λ up. by_node q x c at p up)) u.0 n u.1 spared
    where
      by_node : (q x : ℕ) (c : List ℕ) → entry v q c ≡ Some x → entry v to new ≢ Some x → IsUnder (with_entry (without_entry v from old) to new m) q → IsUnder (with_entry (without_entry v from old) to new m) x
      by_node q x c at p up = elim (cases_eq x m) [
        | inl same ↦ subst (IsUnder (with_entry (without_entry v from old) to new m)) (sym same) (inside _ to m _ new new_place under_to)
        | inr apart ↦ inside _ q x _ c (stays_put q x c at apart p) up
      ]

  back : (n : ℕ) → IsDir (with_entry (without_entry v from old) to new m) n → IsDir v n
  back n is = IsDir-from_without_entry v from old is_from n (IsDir-from_with_entry (without_entry v from old) to new m is_first n is)

  shaped-moved : IsShaped (with_entry (without_entry v from old) to new m)
  shaped-moved = record {
    root = subst (IsDir (with_entry (without_entry v from old) to new m)) (sym top_same) (is_third v.root s.root);
    named = λ n h. live_third n (s.named n (omega (arith, moved_count n)));
    unnamed = let at = ap (name_count_of (with_entry (without_entry v from old) to new m)) top_same in omega (arith, moved_count v.root, s.unnamed);
    once = λ n is. omega (arith, moved_count n, s.once n (back n is));
    placed = λ n is. by_place n (back n is) (s.placed n (back n is));
  }
    where
      -- what had no entry and isn't the new parent has none
      bare_still : (n : ℕ) → n ≢ to → IsBare v n → IsBare (with_entry (without_entry v from old) to new m) n
      bare_still n apart bare c = at_with_entry (without_entry v from old) to new m (λ found. found ≡ None) n c (λ same _. absurd (apart same)) (λ _. at_without_entry v from old (λ found. found ≡ None) n c (λ _ _. refl) (λ _. bare c))

      by_place : (n : ℕ) → IsDir v n → IsUnder v n ⊎ IsRemoved v n → IsUnder (with_entry (without_entry v from old) to new m) n ⊎ IsRemoved (with_entry (without_entry v from old) to new m) n
      by_place n is (inl u) = elim (is_number (entry v to new) n) [
        | inl gone ↦ inr (record {
          nameless = let one = ap (weight (one_for n)) gone ∙ one_for-same n in omega (arith, moved_count n, s.once n is);
          bare = bare_still n (λ same. spared_if_full to n new gone (gone ∙ ap Some same)) (if_some (λ r. IsDir v r → IsBare v r) (entry v to new) n gone may.replaced is);
        })
        | inr spared ↦ inl (up_again n u spared)
      ]
      by_place n is (inr r) = elim (cases_eq n v.root) [
        | inl top ↦ inl (subst (λ x. IsBelow (with_entry (without_entry v from old) to new m) n x) (top ∙ sym top_same) (itself _ n))
        | inr lower ↦ inr (record {
          nameless = omega (arith, moved_count n, r.nameless);
          bare = bare_still n (λ same. lower (root_if_both v s n (subst (IsUnder v) (sym same) may.under) r.nameless)) r.bare;
        })
      ]

-- rename(2)
module _ (t : FileTree) (s : IsTree t) (from : ℕ) (old : List ℕ) (to : ℕ) (new : List ℕ) (m : ℕ) (may : IsMove t.shape from old to new m) (stamp : ℕ) where
  -- before what was replaced is swept
  pub IsTreeBut-moved : IsTreeBut (entry t.shape to new) (tree_with_stamp (tree_with_stamp (with_shape t (with_entry (without_entry t.shape from old) to new m)) from stamp) to stamp)
  IsTreeBut-moved =
      let is = is_from t.shape s.shaped from old to new m may in
      let is_to = is_first t.shape s.shaped from old to new m may in
      IsTreeBut-stamped (entry t.shape to new) _ to stamp (IsTreeBut-stamped (entry t.shape to new) _ from stamp
      (IsTreeBut-with_shape (entry t.shape to new) t (with_entry (without_entry t.shape from old) to new m) s
      (shaped-moved t.shape s.shaped from old to new m may)
      (top_same t.shape s.shaped from old to new m may)
      (λ n. is_some-with_entry (without_entry t.shape from old) to new m is_to n ∙ is_some-without_entry t.shape from old is n)
      (len-with_entry (without_entry t.shape from old) to new m is_to ∙ len-without_entry t.shape from old is)
      (good-with_entry t.version (without_entry t.shape from old) t.attributes (good-without_entry t.version t.shape t.attributes s.good from is old) to is_to new m may.good)
      (omega (arith, few_moved t.shape s.shaped from old to new m may, s.few_names))
      (λ n apart. omega (arith, moved_count t.shape s.shaped from old to new m may n, weight_zero n (entry t.shape to new) apart))))

  pub renamed-is : tree_after_rename t from old to new stamp ≡ without_unused_found (entry t.shape to new) (tree_with_stamp (tree_with_stamp (with_shape t (with_entry (without_entry t.shape from old) to new m)) from stamp) to stamp)
  unfolding tree_after_rename
  renamed-is = ap (λ found. without_unused_found (entry t.shape to new) (tree_with_stamp (tree_with_stamp (with_shape t (with_entry (without_entry t.shape from old) to new (unwrap_or found 0))) from stamp) to stamp)) may.here

  pub IsTree-renamed : IsTree (tree_after_rename t from old to new stamp)
  IsTree-renamed = subst IsTree (sym renamed-is) (IsTree-swept_found _ (entry t.shape to new) IsTreeBut-moved)

  pub KeepsHeld-renamed : KeepsHeld t (tree_after_rename t from old to new stamp)
  KeepsHeld-renamed =
      let moved : FileTree = with_shape t (with_entry (without_entry t.shape from old) to new m) in
      let first : FileTree = tree_with_stamp moved from stamp in
      let second : FileTree = tree_with_stamp first to stamp in
      subst (λ t2. KeepsHeld t t2) (sym renamed-is)
      (KeepsHeld-then t moved (without_unused_found (entry t.shape to new) second)
      (KeepsHeld-with_shape t (with_entry (without_entry t.shape from old) to new m) (is_file_third t.shape s.shaped from old to new m may) (is_third t.shape s.shaped from old to new m may) (is_device_third t.shape s.shaped from old to new m may))
      (KeepsHeld-then moved first (without_unused_found (entry t.shape to new) second) (KeepsHeld-stamped moved from stamp)
      (KeepsHeld-then first second (without_unused_found (entry t.shape to new) second) (KeepsHeld-stamped first to stamp)
      (KeepsHeld-swept_found second (entry t.shape to new) IsTreeBut-moved))))

-- the steps, one after the other: the old name goes, what has the new one goes, the new name is given, and two stamps
module _ (t0 t1 : FileTree) (from : ℕ) (old : List ℕ) (e1 : t1 ≡ with_shape t0 (without_entry t0.shape from old)) where
  pub shape_first : t1.shape ≡ without_entry t0.shape from old
  shape_first = ap (λ (t : FileTree). t.shape) e1

  module _ (t2 : FileTree) (to : ℕ) (new : List ℕ) (e2 : t2 ≡ with_shape t1 (without_entry t1.shape to new)) where
    pub shape_second : t2.shape ≡ without_entry (without_entry t0.shape from old) to new
    shape_second = ap (λ (t : FileTree). t.shape) e2 ∙ ap (λ v. without_entry v to new) shape_first

    module _ (t3 : FileTree) (m : ℕ) (e3 : t3 ≡ with_shape t2 (with_entry t2.shape to new m)) where
      tree_third : t3 ≡ with_shape t0 (with_entry (without_entry t0.shape from old) to new m)
      tree_third =
          e3 ∙ ap (λ t. with_shape t (with_entry t2.shape to new m)) (e2 ∙ ap (λ t. with_shape t (without_entry t1.shape to new)) e1)
          ∙ ap (λ v. with_shape t0 (with_entry v to new m)) shape_second
          ∙ ap (with_shape t0) (with_entry-cleared (without_entry t0.shape from old) to new m)

      pub shape_third : t3.shape ≡ with_entry (without_entry t0.shape from old) to new m
      shape_third = ap (λ (t : FileTree). t.shape) tree_third

      module _ (t4 : FileTree) (stamp : ℕ) (e4 : t4 ≡ tree_with_stamp t3 from stamp) where
        pub shape_fourth : t4.shape ≡ with_entry (without_entry t0.shape from old) to new m
        shape_fourth = ap (λ (t : FileTree). t.shape) e4 ∙ shape-with_attributes t3 from (with_stamp stamp) ∙ shape_third

        module _ (t5 : FileTree) (e5 : t5 ≡ tree_with_stamp t4 to stamp) where
          pub shape_fifth : t5.shape ≡ with_entry (without_entry t0.shape from old) to new m
          shape_fifth = ap (λ (t : FileTree). t.shape) e5 ∙ shape-with_attributes t4 to (with_stamp stamp) ∙ shape_fourth

          pub tree_fifth : t5 ≡ tree_with_stamp (tree_with_stamp (with_shape t0 (with_entry (without_entry t0.shape from old) to new m)) from stamp) to stamp
          tree_fifth = e5 ∙ ap (λ t. tree_with_stamp t to stamp) (e4 ∙ ap (λ t. tree_with_stamp t from stamp) tree_third)

          -- and the sweep of what was replaced
          module _ (s : IsTree t0) (may : IsMove t0.shape from old to new m) (replaced : Option ℕ) (is : replaced ≡ entry t0.shape to new) where
            pub sweeps : IsTreeBut replaced t5
            sweeps = subst (λ found. IsTreeBut found t5) (sym is) (subst (IsTreeBut (entry t0.shape to new)) (sym tree_fifth) (IsTreeBut-moved t0 s from old to new m may stamp))

            pub live_replaced : IfSome replaced (IsLive t5.shape)
            live_replaced = subst (λ v. IfSome replaced (IsLive v)) (sym shape_fifth) (if_found (IsLive (with_entry (without_entry t0.shape from old) to new m)) replaced (λ n e. live_third t0.shape s.shaped from old to new m may n (live_named t0.shape s.shaped to n new (sym is ∙ e))))

            pub tree_last : (t6 : FileTree) → t6 ≡ without_unused_found replaced t5 → t6 ≡ tree_after_rename t0 from old to new stamp
            tree_last t6 e6 =
                e6 ∙ ap (without_unused_found replaced) tree_fifth
                ∙ ap (λ found. without_unused_found found (tree_with_stamp (tree_with_stamp (with_shape t0 (with_entry (without_entry t0.shape from old) to new m)) from stamp) to stamp)) is
                ∙ sym (renamed-is t0 s from old to new m may stamp)
