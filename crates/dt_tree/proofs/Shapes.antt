-- Each change of a tree leaves its directories below the root, or removed.
use Rattle.std.proofs.Common.{arith, ◌≡◌, ◌≢◌, ℕ, zero, suc, ◌+◌, ◌≤◌, List, Option, Some, None, ◌⊎◌, inl, inr, refl, sym, ap, subst, ◌∙◌}
use Rattle.std.proofs.lemmas.Bool.{cases_eq}
use Rattle.std.specs.Prelude.{unwrap_or}
use Rattle.std.specs.FinMap.{empty}
use Rattle.dt_host.specs.World.{Forest, Node, dir_names, with_node, node_at, entry, with_entry, without_entry, without_node, IsDir, IsLive, IsBare}
use Rattle.dt_tables.specs.inner.Weight.{weight}
use Rattle.dt_tables.proofs.Found.{none_there, not_both}
use Rattle.dt_host.proofs.Spots.{IsDir-entry, IsLive-IsDir, entry-with_new, IsDir-with_new, IsDir-from_with_new, IsLive-with_new, at_with_entry, IsDir-with_entry, IsDir-from_with_entry, IsLive-with_entry, root-with_entry}
use Rattle.dt_host.proofs.Gone.{at_without_entry, IsDir-without_entry, IsDir-from_without_entry, IsLive-without_entry, root-without_entry, entry-without_node, IsLive-without_node, IsDir-without_node, IsDir-from_without_node}
use Rattle.dt_tree.specs.Shape.{one_for, name_count_of, LeadsUp, IsBelow, IsUnder, IsRemoved, IsShaped}
use Rattle.dt_tree.proofs.Namings.{same_name, one_for-same, one_for-other, names_of-with_entry, names_of-without_entry, names_of-without_node, names_of-with_new, named}

pub same_number : (found : Option ℕ) (n m : ℕ) → found ≡ Some n → found ≡ Some m → n ≡ m
same_number found n m a b = cc

pub itself : (v : Forest) (n : ℕ) → IsBelow v n n
unfolding LeadsUp
itself v n = (0, refl)

pub inside : (v : Forest) (d n above : ℕ) (name : List ℕ) → entry v d name ≡ Some n → IsBelow v d above → IsBelow v n above
unfolding LeadsUp
inside v d n above name e u = (suc u.0, (d, name, e, u.1))

-- going up in one forest, what holds below a step holds above it and each step is one of another forest
pub carry : (v w : Forest) (P : ℕ → Type 0) → w.root ≡ v.root → ((d n : ℕ) (name : List ℕ) → entry v d name ≡ Some n → P n → P d × (IsUnder w d → IsUnder w n)) → (k n : ℕ) → LeadsUp v k n v.root → P n → IsUnder w n
unfolding LeadsUp
carry v w P top step zero n u p = (0, u ∙ sym top)
carry v w P top step (suc k) n u p =
    let s = step u.0 n u.1 u.2 p in
    s.1 (carry v w P top step k u.0 u.3 s.0)

module _ (v : Forest) (s : IsShaped v) where
  -- a directory stands in one place
  pub one_spot : (n d e : ℕ) (a b : List ℕ) → IsDir v n → entry v d a ≡ Some n → entry v e b ≡ Some n → (d ≡ e) × (a ≡ b)
  one_spot n d e a b is p q = elim (cases_eq e d) [
    | inl same ↦ elim (same_name b a) [
      | inl alike ↦ (sym same, sym alike)
      | inr apart ↦ absurd (twice (λ _ alike. apart alike))
    ]
    | inr apart ↦ absurd (twice (λ same _. apart same))
  ]
    where
      twice : (e ≡ d → b ≡ a → ⊥) → ⊥
      twice apart =
          let kept : entry (with_entry v d a (n + 1)) e b ≡ Some n = at_with_entry v d a (n + 1) (λ found. found ≡ Some n) e b (λ same alike. absurd (apart same alike)) (λ _. q) in
          let more = named (with_entry v d a (n + 1)) e n b kept in
          let sum = names_of-with_entry v d n a (n + 1) in
          let one = ap (weight (one_for n)) p ∙ one_for-same n in
          let none = one_for-other n (n + 1) (omega arith) in
          let most = s.once n is in
          omega arith

  -- where a removed directory is below the root, it is the root
  pub root_if_both : (n : ℕ) → IsUnder v n → name_count_of v n ≡ 0 → n ≡ v.root
  unfolding LeadsUp
  root_if_both n u none = by_steps u.0 u.1
    where
      by_steps : (k : ℕ) → LeadsUp v k n v.root → n ≡ v.root
      by_steps zero e = e
      by_steps (suc k) e = let some = named v e.0 n e.1 e.2 in absurd (omega arith)

  -- the root has no name
  pub not_root : (d : ℕ) (name : List ℕ) (n : ℕ) → entry v d name ≡ Some n → n ≢ v.root
  not_root d name n e same =
      let some = named v d n name e in
      let none = ap (name_count_of v) same ∙ s.unnamed in
      omega arith

  -- going up from a directory takes one number of steps
  pub one_depth : (j k n : ℕ) → IsDir v n → LeadsUp v j n v.root → LeadsUp v k n v.root → j ≡ k
  unfolding LeadsUp
  one_depth zero zero n is a b = refl
  one_depth zero (suc k) n is a b = absurd (not_root b.0 b.1 n b.2 a)
  one_depth (suc j) zero n is a b = absurd (not_root a.0 a.1 n a.2 b)
  one_depth (suc j) (suc k) n is a b =
      let same = one_spot n a.0 b.0 a.1 b.1 is a.2 b.2 in
      ap suc (one_depth j k a.0 (IsDir-entry v a.0 a.1 n a.2) a.3 (subst (λ d. LeadsUp v k d v.root) (sym same.0) b.3))

  -- to take away a name, of a directory only where it has no entries
  module _ (d : ℕ) (a : List ℕ) (m : ℕ) (from : entry v d a ≡ Some m) (cleared : IsDir v m → IsBare v m) where
    kept : (q n : ℕ) (c : List ℕ) → entry v q c ≡ Some n → n ≢ m → entry (without_entry v d a) q c ≡ Some n
    kept q n c e apart = at_without_entry v d a (λ found. found ≡ Some n) q c (λ same alike. absurd (apart (same_number (entry v q c) n m e (ap (λ x. entry v x c) same ∙ ap (entry v d) alike ∙ from)))) (λ _. e)

    full : (q n : ℕ) (c : List ℕ) → entry v q c ≡ Some n → q ≢ m
    full q n c e same = not_both _ n (subst (λ x. entry v x c ≡ None) (sym same) (cleared (subst (IsDir v) same (IsDir-entry v q c n e)) c)) e

    bare_still : (q : ℕ) → IsBare v q → IsBare (without_entry v d a) q
    bare_still q bare c = at_without_entry v d a (λ found. found ≡ None) q c (λ _ _. refl) (λ _. bare c)

    fewer : (n : ℕ) → name_count_of (without_entry v d a) n + one_for n m ≡ name_count_of v n
    fewer n = let sum = names_of-without_entry v d n a in let one = ap (weight (one_for n)) from in omega arith

    pub shaped-without_entry : IsShaped (without_entry v d a)
    shaped-without_entry = record {
      root = subst (IsDir (without_entry v d a)) (sym (root-without_entry v d a)) (IsDir-without_entry v d a v.root s.root);
      named = λ n h. IsLive-without_entry v d a n (s.named n (omega (arith, fewer n)));
      unnamed = let none = ap (name_count_of (without_entry v d a)) (root-without_entry v d a) in omega (arith, fewer v.root, s.unnamed);
      once = λ n is. omega (arith, fewer n, s.once n (IsDir-from_without_entry v d a (IsDir-entry v d a m from) n is));
      placed = λ n is. by_place n (s.placed n (IsDir-from_without_entry v d a (IsDir-entry v d a m from) n is)) (IsDir-from_without_entry v d a (IsDir-entry v d a m from) n is);
    }
      where
        by_place : (n : ℕ) → IsUnder v n ⊎ IsRemoved v n → IsDir v n → IsUnder (without_entry v d a) n ⊎ IsRemoved (without_entry v d a) n
        by_place n (inl u) is = elim (cases_eq n m) [
          | inl same ↦ inr (record {
            nameless = let one = ap (one_for n) (sym same) ∙ one_for-same n in omega (arith, fewer n, s.once n is);
            bare = bare_still n (subst (IsBare v) (sym same) (cleared (subst (IsDir v) same is)));
          })
          | inr apart ↦ inl (carry v (without_entry v d a) (λ x. x ≢ m) (root-without_entry v d a) (λ q x c e h. (full q x c e, inside (without_entry v d a) q x _ c (kept q x c e h))) u.0 n u.1 apart)
        ]
        by_place n (inr r) is = inr (record { nameless = omega (arith, fewer n, r.nameless); bare = bare_still n r.bare })

  -- to give a node a new name: any node but the root; a directory only where it is removed
  module _ (d : ℕ) (a : List ℕ) (m : ℕ) (is_dir : IsDir v d) (under : IsUnder v d) (free : entry v d a ≡ None) (live : IsLive v m) (low : m ≢ v.root) (fresh : IsDir v m → IsRemoved v m) where
    one_more : (n : ℕ) → name_count_of (with_entry v d a m) n ≡ name_count_of v n + one_for n m
    one_more n = let sum = names_of-with_entry v d n a m in let none = ap (weight (one_for n)) free in omega arith

    stays : (q n : ℕ) (c : List ℕ) → entry v q c ≡ Some n → entry (with_entry v d a m) q c ≡ Some n
    stays q n c e = at_with_entry v d a m (λ found. found ≡ Some n) q c (λ same alike. absurd (not_both (entry v q c) n (ap (λ x. entry v x c) same ∙ ap (entry v d) alike ∙ free) e)) (λ _. e)

    up_still : (n : ℕ) → IsUnder v n → IsUnder (with_entry v d a m) n
    up_still n u = carry v (with_entry v d a m) (λ _. Unit {0}) (root-with_entry v d a m) (λ q x c e _. (tt, inside (with_entry v d a m) q x _ c (stays q x c e))) u.0 n u.1 tt

    there : entry (with_entry v d a m) d a ≡ Some m
    there = at_with_entry v d a m (λ found. found ≡ Some m) d a (λ _ _. refl) (λ apart. absurd (apart refl refl))

    pub shaped-with_entry : IsShaped (with_entry v d a m)
    shaped-with_entry = record {
      root = subst (IsDir (with_entry v d a m)) (sym (root-with_entry v d a m)) (IsDir-with_entry v d a m v.root s.root);
      named = λ n h. IsLive-with_entry v d a m n (alive n h);
      unnamed = let none = ap (name_count_of (with_entry v d a m)) (root-with_entry v d a m) in omega (arith, one_more v.root, s.unnamed, one_for-other v.root m (λ e. low (sym e)));
      once = λ n is. few n (IsDir-from_with_entry v d a m is_dir n is);
      placed = λ n is. by_place n (IsDir-from_with_entry v d a m is_dir n is) (s.placed n (IsDir-from_with_entry v d a m is_dir n is));
    }
      where
        alive : (n : ℕ) → 1 ≤ name_count_of (with_entry v d a m) n → IsLive v n
        alive n h = elim (cases_eq n m) [
          | inl same ↦ subst (IsLive v) (sym same) live
          | inr apart ↦ s.named n (omega (arith, one_more n, one_for-other n m apart))
        ]

        few : (n : ℕ) → IsDir v n → name_count_of (with_entry v d a m) n ≤ 1
        few n is = elim (cases_eq n m) [
          | inl same ↦ let none = (fresh (subst (IsDir v) same is)).nameless in let at = ap (name_count_of v) same in let one = ap (one_for n) (sym same) ∙ one_for-same n in omega (arith, one_more n)
          | inr apart ↦ omega (arith, one_more n, one_for-other n m apart, s.once n is)
        ]

        by_place : (n : ℕ) → IsDir v n → IsUnder v n ⊎ IsRemoved v n → IsUnder (with_entry v d a m) n ⊎ IsRemoved (with_entry v d a m) n
        by_place n is (inl u) = inl (up_still n u)
        by_place n is (inr r) = elim (cases_eq n m) [
          | inl same ↦ inl (subst (IsUnder (with_entry v d a m)) (sym same) (inside (with_entry v d a m) d m _ a there (up_still d under)))
          | inr apart ↦ elim (cases_eq n v.root) [
            | inl top ↦ inl (subst (λ x. IsBelow (with_entry v d a m) n x) (top ∙ sym (root-with_entry v d a m)) (itself _ n))
            | inr lower ↦ inr (record {
              nameless = omega (arith, one_more n, one_for-other n m apart, r.nameless);
              bare = λ c. at_with_entry v d a m (λ found. found ≡ None) n c (λ same _. absurd (lower (root_if_both n (subst (IsUnder v) (sym same) under) r.nameless))) (λ _. r.bare c);
            })
          ]
        ]

  -- a node goes that has neither a name nor an entry
  module _ (m : ℕ) (none : name_count_of v m ≡ 0) (bare : IsBare v m) (low : m ≢ v.root) where
    pub shaped-without_node : IsShaped (without_node v m)
    shaped-without_node = record {
      root = IsDir-without_node v m bare v.root (λ e. low (sym e)) s.root;
      named = λ n h. IsLive-without_node v m bare n (λ e. let at = ap (name_count_of v) e in omega (arith, same_count n)) (s.named n (omega (arith, same_count n)));
      unnamed = same_count v.root ∙ s.unnamed;
      once = λ n is. omega (arith, same_count n, s.once n (IsDir-from_without_node v m bare n is));
      placed = λ n is. by_place n (s.placed n (IsDir-from_without_node v m bare n is));
    }
      where
        same_count : (n : ℕ) → name_count_of (without_node v m) n ≡ name_count_of v n
        same_count n = names_of-without_node v m n bare

        by_place : (n : ℕ) → IsUnder v n ⊎ IsRemoved v n → IsUnder (without_node v m) n ⊎ IsRemoved (without_node v m) n
        by_place n (inl u) = inl (carry v (without_node v m) (λ _. Unit {0}) refl (λ q x c e _. (tt, inside (without_node v m) q x _ c (entry-without_node v m bare q c ∙ e))) u.0 n u.1 tt)
        by_place n (inr r) = inr (record { nameless = same_count n ∙ r.nameless; bare = λ c. entry-without_node v m bare n c ∙ r.bare c })

  -- a directory without a name that isn't the root has no entries, nor has a node of another kind
  pub bare_if_nameless : (n : ℕ) → name_count_of v n ≡ 0 → n ≢ v.root → IsBare v n
  bare_if_nameless n none low name = by_entry (entry v n name) refl
    where
      by_entry : (found : Option ℕ) → entry v n name ≡ found → found ≡ None
      by_entry None e = refl
      by_entry (Some x) e = elim (s.placed n (IsDir-entry v n name x e)) [
        | inl under ↦ absurd (low (root_if_both n under none))
        | inr removed ↦ absurd (not_both (entry v n name) x (removed.bare name) e)
      ]

  -- a new node without entries
  module _ (m : ℕ) (node : Node) (free : node_at v m ≡ None) (none : unwrap_or (dir_names node) empty ≡ empty) where
    pub nameless_if_free : name_count_of v m ≡ 0
    nameless_if_free = by_count (name_count_of v m) refl
      where
        by_count : (k : ℕ) → name_count_of v m ≡ k → k ≡ 0
        by_count zero e = refl
        by_count (suc k) e = absurd (none_there (node_at v m) free (s.named m (omega arith)))

    no_entry : (c : List ℕ) → entry v m c ≡ None
    no_entry c = by_entry (entry v m c) refl
      where
        by_entry : (found : Option ℕ) → entry v m c ≡ found → found ≡ None
        by_entry None e = refl
        by_entry (Some x) e = absurd (none_there (node_at v m) free (IsLive-IsDir v m (IsDir-entry v m c x e)))

    pub removed-with_new : IsRemoved (with_node v m node) m
    removed-with_new = record { nameless = names_of-with_new v m m node free none ∙ nameless_if_free; bare = λ c. entry-with_new v m node free none m c ∙ no_entry c }

    pub under-with_new : (n : ℕ) → IsUnder v n → IsUnder (with_node v m node) n
    under-with_new n u = carry v (with_node v m node) (λ _. Unit {0}) refl (λ q x c e _. (tt, inside (with_node v m node) q x _ c (entry-with_new v m node free none q c ∙ e))) u.0 n u.1 tt

    pub shaped-with_new : IsShaped (with_node v m node)
    shaped-with_new = record {
      root = IsDir-with_new v m node free none v.root s.root;
      named = λ n h. IsLive-with_new v m node free none n (s.named n (omega (arith, same_count n)));
      unnamed = same_count v.root ∙ s.unnamed;
      once = λ n is. elim (cases_eq n m) [
        | inl same ↦ let zero = ap (name_count_of v) same ∙ nameless_if_free in omega (arith, same_count n)
        | inr apart ↦ omega (arith, same_count n, s.once n (IsDir-from_with_new v m node free none n apart is))
      ];
      placed = λ n is. elim (cases_eq n m) [
        | inl same ↦ inr (subst (IsRemoved (with_node v m node)) (sym same) removed-with_new)
        | inr apart ↦ by_place n (s.placed n (IsDir-from_with_new v m node free none n apart is))
      ];
    }
      where
        same_count : (n : ℕ) → name_count_of (with_node v m node) n ≡ name_count_of v n
        same_count n = names_of-with_new v m n node free none

        by_place : (n : ℕ) → IsUnder v n ⊎ IsRemoved v n → IsUnder (with_node v m node) n ⊎ IsRemoved (with_node v m node) n
        by_place n (inl u) = inl (under-with_new n u)
        by_place n (inr r) = inr (record { nameless = same_count n ∙ r.nameless; bare = λ c. entry-with_new v m node free none n c ∙ r.bare c })
