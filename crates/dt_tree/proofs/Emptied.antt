-- A tree that goes from its host: first the names, then the nodes.
use Rattle.std.proofs.Common.{arith, ◌≡◌, ◌≢◌, ◌⊎◌, ℕ, ◌+◌, ◌≤◌, ◌<◌, ◌&&◌, Bool, true, false, cond, List, [], ◌∷◌, Option, Some, None, inl, inr, refl, sym, ap, subst, ◌∙◌}
use Rattle.std.proofs.lemmas.Bool.{cases_eq}
use Rattle.std.proofs.lemmas.Cmp.{tied_itself}
use Rattle.std.specs.Prelude.{T, Result, Ok, Err, OnOk, if◌then◌else◌, IsSome, is_some, unwrap_or, option_map, option_and_then}
use Rattle.std.specs.declared.cmp.Ordering.{Ordering}
use Rattle.std.specs.declared.cmp.Ordering.TheVariants.{Less, Equal, Greater}
use Rattle.std.specs.Ordering.{nat_cmp, is_eq, is_lt}
use Rattle.std.specs.Cmp.{nat_cmp_total}
use Rattle.std.specs.Cmp.Lexicographic.{slice_cmp, nat_list_cmp_total}
use Rattle.std.specs.FinMap.{FinMap, empty, find, is_sorted, entries, entries_sorted, get, get-entries, get-empty, same_map, nat_cmp-IsAntisymmetric}
use Rattle.std.specs.FinMap.Entries.{below_all}
use Rattle.dt_host.specs.World.{Forest, Node, Names, file, dir, link, device, node_at, dir_names, names_at, entry, with_node, without_entry, without_node, empty_forest, IsDir, IsLive, IsBare, IsNameless}
use Rattle.dt_host.specs.World.{World, with_forest, without_pipe}
use Rattle.dt_host.specs.Legal.{Forgets}
use Rattle.dt_host.proofs.Spots.{at_node, IsDir-entry, IsLive-IsDir}
use Rattle.dt_host.proofs.Gone.{at_without_entry, entry-without_node, IsLive-without_node, IsDir-without_node}
use Rattle.dt_tables.proofs.Found.{none_there, not_both}
use Rattle.std.proofs.lemmas.Option.{same_Some}
use Rattle.dt_tables.proofs.Conjuncts.{first, second}
use Rattle.dt_tables.proofs.Maps.{at_insert, at_remove, names_tie}
use Rattle.dt_tree.specs.declared.inode.Inode.{Inode}
use Rattle.dt_base.specs.declared.image.Device as base
use Rattle.dt_tree.specs.declared.inode.Kind.{Kind}
use Rattle.dt_tree.specs.declared.inode.Kind.TheVariants.{File, Dir, Link, Device}
use Rattle.dt_tree.specs.declared.limits.TheConstants.{ROOT}
use Rattle.dt_tree.specs.Table.{Table, real_of, vino_of, kind_of, renumbered_node, node_for, shape_of, Stands}
use Rattle.dt_tree.specs.inner.Emptied.{AreEntries, Thins, HasKinds, IsLeft, IsForgotten, IsEmptied}
use Rattle.dt_tree.proofs.Mirroring.{node_at-inode, node_at-shape, one_real, real_live, real_dir}

-- ---- the entries of one directory

pub all-entries : (v : Forest) (d : ℕ) (es : List (List ℕ × ℕ)) → IsDir v d → es ≡ entries (names_at v d) → AreEntries v d es
unfolding entry
all-entries v d es is same = record {
  dir = is;
  sorted = subst (λ l. T (is_sorted (slice_cmp nat_cmp) l)) (sym same) (entries_sorted (names_at v d));
  each = λ q. get-entries (names_at v d) q ∙ ap (find (slice_cmp nat_cmp) q) (sym same);
}

lesser : (r : Ordering) → T (is_lt r) → is_eq r ≡ false
lesser Less h = refl
lesser Equal h = absurd h
lesser Greater h = absurd h

none-below : (k : List ℕ) (es : List (List ℕ × ℕ)) → T (below_all (slice_cmp nat_cmp) k es) → find (slice_cmp nat_cmp) k es ≡ None
none-below k [] h = refl
none-below k (e ∷ es) h =
    ap (λ b. cond b (Some e.1) (find (slice_cmp nat_cmp) k es)) (lesser _ (first _ _ h)) ∙ none-below k es (second _ _ h)

found-first : (e : List ℕ × ℕ) (es : List (List ℕ × ℕ)) → find (slice_cmp nat_cmp) e.0 (e ∷ es) ≡ Some e.1
found-first e es = ap (λ r. cond (is_eq r) (Some e.1) (find (slice_cmp nat_cmp) e.0 es)) (tied_itself nat_list_cmp_total e.0)

-- the first is there
pub first-there : (v : Forest) (d : ℕ) (e : List ℕ × ℕ) (es : List (List ℕ × ℕ)) → AreEntries v d (e ∷ es) → IsSome (entry v d e.0)
first-there v d e es are = subst IsSome (sym (are.each e.0 ∙ found-first e es)) refl

untied : (q k : List ℕ) → q ≢ k → is_eq (slice_cmp nat_cmp q k) ≡ false
untied q k apart = by_order (slice_cmp nat_cmp q k) refl
  where
    by_order : (r : Ordering) → slice_cmp nat_cmp q k ≡ r → is_eq r ≡ false
    by_order Less e = refl
    by_order Equal e = absurd (apart (names_tie q k e))
    by_order Greater e = refl

-- without it the others are left
pub rest-left : (v : Forest) (d : ℕ) (e : List ℕ × ℕ) (es : List (List ℕ × ℕ)) → AreEntries v d (e ∷ es) → AreEntries (without_entry v d e.0) d es
unfolding without_entry
rest-left v d e es are = record {
  dir = at_node_dir;
  sorted = second _ _ are.sorted;
  each = λ q. at_without_entry v d e.0 (λ found. found ≡ find (slice_cmp nat_cmp) q es) d q
      (λ _ same. sym (ap (λ k. find (slice_cmp nat_cmp) k es) same ∙ none-below e.0 es (first _ _ are.sorted)))
      (λ apart. are.each q ∙ ap (λ b. cond b (Some e.1) (find (slice_cmp nat_cmp) q es)) (untied q e.0 (apart refl)));
}
  where
    at_node_dir : IsDir (without_entry v d e.0) d
    at_node_dir = at_node v d _ (λ found. IsSome (option_and_then dir_names found)) d (λ _. refl) (λ apart. absurd (apart refl))

-- where none are left it has none
pub bare-left : (v : Forest) (d : ℕ) (es : List (List ℕ × ℕ)) → es ≡ [] → AreEntries v d es → IsBare v d
bare-left v d es none are = λ name. are.each name ∙ ap (find (slice_cmp nat_cmp) name) none

-- ---- names that go

pub Thins-refl : (v : Forest) → Thins v v
Thins-refl v = record { root = refl; kinds = λ n. refl; bare = λ n b. b }

pub Thins-trans : (u v w : Forest) → Thins u v → Thins v w → Thins u w
Thins-trans u v w a b = record {
  root = b.root ∙ a.root;
  kinds = λ n. b.kinds n ∙ a.kinds n;
  bare = λ n is. b.bare n (a.bare n is);
}

dir_kind : (found : Option Node) → IsSome (option_and_then dir_names found) → option_map kind_of found ≡ Some Dir
dir_kind None h = cc
dir_kind (Some (file bytes)) h = cc
dir_kind (Some (dir names)) h = refl
dir_kind (Some (link target)) h = cc
dir_kind (Some (device which)) h = cc

kind_dir : (found : Option Node) → option_map kind_of found ≡ Some Dir → IsSome (option_and_then dir_names found)
kind_dir None h = cc
kind_dir (Some (file bytes)) h = cc
kind_dir (Some (dir names)) h = refl
kind_dir (Some (link target)) h = cc
kind_dir (Some (device which)) h = cc

pub Thins-unbound : (v : Forest) (d : ℕ) (name : List ℕ) → IsDir v d → Thins v (without_entry v d name)
unfolding without_entry
Thins-unbound v d name is = record {
  root = root;
  kinds = kinds;
  bare = λ n none c. at_without_entry v d name (λ found. found ≡ None) n c (λ _ _. refl) (λ _. none c);
}
  where
    root : (without_entry v d name).root ≡ v.root
    root = refl

    kinds : (n : ℕ) → option_map kind_of (node_at (without_entry v d name) n) ≡ option_map kind_of (node_at v n)
    kinds n = at_node v d _ (λ found. option_map kind_of found ≡ option_map kind_of (node_at v n)) n
        (λ same. sym (ap (λ x. option_map kind_of (node_at v x)) same ∙ dir_kind (node_at v d) is))
        (λ _. refl)

pub dir-thinned : (v w : Forest) (d : ℕ) → Thins v w → IsDir w d → IsDir v d
dir-thinned v w d thins is = kind_dir (node_at v d) (sym (thins.kinds d) ∙ dir_kind (node_at w d) is)

pub dir-of-kind : (t : Table) (v : Forest) (n : ℕ) (inode : Inode) → HasKinds t v → get t.inodes n ≡ Some inode → inode.kind ≡ Dir → IsDir v inode.real
dir-of-kind t v n inode kinds there is = kind_dir (node_at v inode.real) (kinds n inode there ∙ ap Some is)

pub not-dir : (kind : Kind) → (kind ≡ File) ⊎ ((kind ≡ Link) ⊎ ((which : base.Device) × (kind ≡ Device which))) → kind ≢ Dir
not-dir kind (inl same) is = let e : File ≡ Dir = sym same ∙ is in cc
not-dir kind (inr (inl same)) is = let e : Link ≡ Dir = sym same ∙ is in cc
not-dir kind (inr (inr other)) is = let e : Device other.0 ≡ Dir = sym other.1 ∙ is in cc

-- what is no directory has no entries
pub bare-of-kind : (t : Table) (v : Forest) (n : ℕ) (inode : Inode) → HasKinds t v → get t.inodes n ≡ Some inode → inode.kind ≢ Dir → IsBare v inode.real
bare-of-kind t v n inode kinds there other = λ name. by_entry name (entry v inode.real name) refl
  where
    by_entry : (name : List ℕ) (found : Option ℕ) → entry v inode.real name ≡ found → entry v inode.real name ≡ None
    by_entry name None e = e
    by_entry name (Some x) e =
        let is = dir_kind (node_at v inode.real) (IsDir-entry v inode.real name x e) in
        absurd (other (same_kind (sym (kinds n inode there) ∙ is)))
      where
        same_kind : Some inode.kind ≡ Some Dir → inode.kind ≡ Dir
        same_kind e = cc

same_kinds : (f : ℕ → ℕ) (found : Option Node) → option_map kind_of (option_map (λ node. renumbered_node f node) found) ≡ option_map kind_of found
same_kinds f None = refl
same_kinds f (Some (file bytes)) = refl
same_kinds f (Some (dir names)) = refl
same_kinds f (Some (link target)) = refl
same_kinds f (Some (device which)) = refl

pub has-kinds : (t : Table) (v : Forest) → Stands t v → HasKinds t v
has-kinds t v stands = λ n inode there.
    sym (same_kinds (vino_of t) (node_at v inode.real))
    ∙ ap (option_map kind_of) (sym (node_at-inode t v stands.mirrors.pairs n inode there))
    ∙ (let kept = stands.mirrors.kept n inode there in kept.kind)

pub kinds-thinned : (t : Table) (v w : Forest) → Thins v w → HasKinds t v → HasKinds t w
kinds-thinned t v w thins kinds = λ n inode there. thins.kinds inode.real ∙ kinds n inode there

-- ---- from names to nodes

live_kind : (found other : Option Node) → option_map kind_of found ≡ option_map kind_of other → IsSome other → IsSome found
live_kind None None e h = cc
live_kind None (Some y) e h = cc
live_kind (Some x) other e h = refl

module _ (t : Table) (v : Forest) (stands : Stands t v) where
  in_shape : (n : ℕ) (inode : Inode) → get t.inodes n ≡ Some inode → IsLive (shape_of t v) n
  in_shape n inode there = subst IsSome (sym (node_at-shape t v n ∙ ap (option_map (node_for t v)) there)) refl

  by_number : (n real : ℕ) (found : Option Inode) → get t.inodes n ≡ found → option_map (λ (inode : Inode). inode.real) found ≡ Some real → IsLeft t ROOT real
  by_number n real None at is = absurd (let e : None ≡ Some real = is in cc)
  by_number n real (Some inode) at is = record {
    number = n;
    inode = inode;
    there = at;
    same = same_Some inode.real real is;
    late = stands.tree.low n (in_shape n inode at);
  }

  known : (real : ℕ) → IsLive v real → IsLeft t ROOT real
  known real live = by_found (get t.by_real real) refl (stands.mirrors.pairs.live real ∙ live)
    where
      by_found : (found : Option ℕ) → get t.by_real real ≡ found → is_some (get t.by_real real) ≡ true → IsLeft t ROOT real
      by_found None at some = absurd (none_there (get t.by_real real) at some)
      by_found (Some n) at some = by_number n real (get t.inodes n) refl (stands.mirrors.pairs.back real n at)

  root_dir : IsDir v v.root
  root_dir = by_inode (get t.inodes ROOT) refl stands.mirrors.pairs.root
    where
      by_inode : (found : Option Inode) → get t.inodes ROOT ≡ found → option_map (λ (inode : Inode). inode.real) found ≡ Some v.root → IsDir v v.root
      by_inode None at is = absurd (let e : None ≡ Some v.root = is in cc)
      by_inode (Some inode) at is =
          subst (IsDir v) (same_Some inode.real v.root is)
          (real_dir t v stands.mirrors.pairs ROOT inode at (subst (IsDir (shape_of t v)) stands.tree.root stands.tree.shaped.root))

  -- names are gone from all nodes
  pub emptied : (w : Forest) → Thins v w
      → ((q : ℕ) (inode : Inode) → ROOT ≤ q → q < t.next → get t.inodes q ≡ Some inode → IsBare w inode.real) → IsEmptied t w
  emptied w thins done = record {
    live = λ n inode _ there. live_kind (node_at w inode.real) (node_at v inode.real) (thins.kinds inode.real) (real_live t v stands.mirrors.pairs n inode there);
    once = one_real t v stands.mirrors.pairs;
    left = λ real live. inr (known real (live_before real live));
    below = λ n inode there. stands.tree.fresh n (in_shape n inode there);
    root = stands.mirrors.pairs.root ∙ ap Some (sym thins.root);
    dir = subst (IsDir w) (sym thins.root) (kind_dir (node_at w v.root) (thins.kinds v.root ∙ dir_kind (node_at v v.root) root_dir));
    bare = λ d name. by_entry d name (entry w d name) refl;
  }
    where
      live_before : (real : ℕ) → IsLive w real → IsLive v real
      live_before real live = live_kind (node_at v real) (node_at w real) (sym (thins.kinds real)) live

      by_entry : (d : ℕ) (name : List ℕ) (found : Option ℕ) → entry w d name ≡ found → entry w d name ≡ None
      by_entry d name None e = e
      by_entry d name (Some x) e =
          let left = known d (live_before d (IsLive-IsDir w d (IsDir-entry w d name x e))) in
          let below = stands.tree.fresh left.number (in_shape left.number left.inode left.there) in
          let bare = done left.number left.inode left.late below left.there in
          ap (λ x. entry w x name) (sym left.same) ∙ bare name

-- ---- nodes that go

module _ (t : Table) (n : ℕ) (v : Forest) (is : IsForgotten t n v) where
  -- a node that the table has not
  pub none-forgotten : get t.inodes n ≡ None → IsForgotten t (n + 1) v
  none-forgotten none = record {
    live = λ m inode late there. is.live m inode (omega (arith, late)) there;
    once = is.once;
    left = λ real live. later real (is.left real live);
    below = is.below;
    root = is.root;
    dir = is.dir;
    bare = is.bare;
  }
    where
      later : (real : ℕ) → (real ≡ v.root) ⊎ IsLeft t n real → (real ≡ v.root) ⊎ IsLeft t (n + 1) real
      later real (inl root) = inl root
      later real (inr left) =
          let apart : left.number ≢ n = λ same. none_or_some left.inode (ap (get t.inodes) (sym same) ∙ left.there) in
          inr (record { number = left.number; inode = left.inode; there = left.there; same = left.same; late = omega (arith, left.late, apart) })
        where
          none_or_some : (inode : Inode) → get t.inodes n ≡ Some inode → ⊥
          none_or_some inode e = not_both (get t.inodes n) inode none e

  module _ (inode : Inode) (there : get t.inodes n ≡ Some inode) (low : n ≢ ROOT) where
    pub not-root : inode.real ≢ v.root
    not-root same = by_inode (get t.inodes ROOT) refl is.root
      where
        by_inode : (found : Option Inode) → get t.inodes ROOT ≡ found → option_map (λ (inode : Inode). inode.real) found ≡ Some v.root → ⊥
        by_inode None at e = let x : None ≡ Some v.root = e in cc
        by_inode (Some root) at e = low (is.once n ROOT inode root there at (same ∙ sym (same_Some root.real v.root e)))

    pub is-live : IsLive v inode.real
    is-live = is.live n inode (omega arith) there

    pub nameless : IsNameless v inode.real
    nameless d name e = not_both (entry v d name) inode.real (is.bare d name) e

    -- it goes
    pub one-forgotten : IsForgotten t (n + 1) (without_node v inode.real)
    one-forgotten = record {
      live = λ m other late at. IsLive-without_node v inode.real (is.bare inode.real) other.real
          (λ same. let e = is.once m n other inode at there same in absurd (omega (arith, late, e)))
          (is.live m other (omega (arith, late)) at);
      once = is.once;
      left = λ real live. at_remove nat_cmp_total nat_cmp-IsAntisymmetric (λ found. IsSome found → (real ≡ v.root) ⊎ IsLeft t (n + 1) real) v.nodes inode.real real
          (λ _ h. absurd (let x : false ≡ true = h in cc))
          (λ apart h. later real apart (is.left real h)) live;
      below = is.below;
      root = is.root;
      dir = IsDir-without_node v inode.real (is.bare inode.real) v.root (λ same. not-root (sym same)) is.dir;
      bare = λ d name. entry-without_node v inode.real (is.bare inode.real) d name ∙ is.bare d name;
    }
      where
        later : (real : ℕ) → real ≢ inode.real → (real ≡ v.root) ⊎ IsLeft t n real → (real ≡ v.root) ⊎ IsLeft t (n + 1) real
        later real apart (inl root) = inl root
        later real apart (inr left) =
            let other : left.number ≢ n = λ same. apart (sym left.same ∙ ap (λ (x : Inode). x.real) (same_Some left.inode inode (sym left.there ∙ ap (get t.inodes) same ∙ there))) in
            inr (record { number = left.number; inode = left.inode; there = left.there; same = left.same; late = omega (arith, left.late, other) })

-- what the host answers when one is to go
pub answered : {E : Type 0} (t : Table) (n real : ℕ) (old new : World) (r : Result (Unit {0}) E) → Forgets old real r new → get old.pipes real ≡ None
    → IsForgotten t n (without_node old.forest real) → OnOk r (IsForgotten t n new.forest)
answered t n real old new (Err e) legal none is = tt
answered t n real old new (Ok x) legal none is =
    subst (λ (w : World). IsForgotten t n w.forest) (sym legal)
    (subst (λ found. IsForgotten t n (if is_some found then without_pipe old real else with_forest old (without_node old.forest real)).forest) (sym none) is)

-- the root alone is to stay
pub first-forgotten : (t : Table) (v : Forest) → IsEmptied t v → IsForgotten t (ROOT + 1) v
first-forgotten t v is = record {
  live = λ n inode late there. is.live n inode (omega (arith, late)) there;
  once = is.once;
  left = λ real live. later real (is.left real live);
  below = is.below;
  root = is.root;
  dir = is.dir;
  bare = is.bare;
}
  where
    later : (real : ℕ) → (real ≡ v.root) ⊎ IsLeft t ROOT real → (real ≡ v.root) ⊎ IsLeft t (ROOT + 1) real
    later real (inl root) = inl root
    later real (inr left) = elim (cases_eq left.number ROOT) [
      | inl same ↦ inl (sym left.same ∙ same_Some left.inode.real v.root (ap (option_map (λ (x : Inode). x.real)) (sym left.there ∙ ap (get t.inodes) same) ∙ is.root))
      | inr apart ↦ inr (record { number = left.number; inode = left.inode; there = left.there; same = left.same; late = omega (arith, left.late, apart) })
    ]

-- the root alone is left
pub root-left : (t : Table) (n : ℕ) (v : Forest) → t.next ≤ n → IsForgotten t n v → v ≡ empty_forest v.root
unfolding entry names_at
root-left t n v past is = ap (λ nodes. record { nodes = nodes; root = v.root }) (same_map nat_cmp_total nat_cmp-IsAntisymmetric _ _ (λ q.
    at_insert nat_cmp_total nat_cmp-IsAntisymmetric (λ found. get v.nodes q ≡ found) empty v.root (dir empty) q
    (λ same. ap (get v.nodes) same ∙ root_node (node_at v v.root) refl is.dir)
    (λ apart. other q apart (get v.nodes q) refl ∙ sym (get-empty nat_cmp q))))
  where
    other : (q : ℕ) → q ≢ v.root → (found : Option Node) → get v.nodes q ≡ found → get v.nodes q ≡ None
    other q apart None e = e
    other q apart (Some node) e = absurd (elim (is.left q (subst IsSome (sym e) refl)) [
      | inl root ↦ apart root
      | inr left ↦ (let below = is.below left.number left.inode left.there in omega (arith, below, left.late, past))
    ])

    root_node : (found : Option Node) → node_at v v.root ≡ found → IsSome (option_and_then dir_names found) → node_at v v.root ≡ Some (dir empty)
    root_node None e h = absurd (let x : false ≡ true = h in cc)
    root_node (Some (file bytes)) e h = absurd (let x : false ≡ true = h in cc)
    root_node (Some (link target)) e h = absurd (let x : false ≡ true = h in cc)
    root_node (Some (device which)) e h = absurd (let x : false ≡ true = h in cc)
    root_node (Some (dir names)) e h = e ∙ ap (λ (m : Names). Some (dir m)) (same_map nat_list_cmp_total names_tie _ _ (λ name.
        ap (λ found. get (unwrap_or (option_and_then dir_names found) empty) name) (sym e) ∙ is.bare v.root name ∙ sym (get-empty (slice_cmp nat_cmp) name)))
