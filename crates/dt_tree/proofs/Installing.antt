-- An image, entry by entry: where each entry goes, and that it may be created there.
use Rattle.std.proofs.Common.{arith, ◌≡◌, ◌⊎◌, inl, inr, ℕ, ◌+◌, ◌≤◌, ◌<◌, List, [], length, take, get_or, Bool, true, false, ◌||◌, Option, Some, None, Ok, Err, refl, sym, ap, subst, ◌∙◌}
use Rattle.std.proofs.lemmas.Bool.{cases_eq, cases_lt, and_parts}
use Rattle.std.proofs.lemmas.Cmp.{tied_itself}
use Rattle.std.proofs.lemmas.Option.{slice_get_within, slice_get-get_or, get_or_from_slice_get}
use Rattle.std.proofs.lemmas.Slice.Eq.{bytes_eq-Decides}
use Rattle.std.specs.Prelude.{IsTrue, IsSome, slice_get, unwrap_or, option_and_then}
use Rattle.std.specs.List.{list_any}
use Rattle.std.specs.List.Sorted.{IsNonDecreasingBy, IsBinarySearchResult}
use Rattle.std.specs.Str.{bytes_eq}
use Rattle.std.specs.declared.cmp.Ordering.{Ordering}
use Rattle.std.specs.declared.cmp.Ordering.TheVariants.{Less, Equal, Greater}
use Rattle.std.specs.Ordering.{nat_cmp, ordering_index}
use Rattle.std.specs.Cmp.Lexicographic.{slice_cmp, nat_list_cmp_total}
use Rattle.std.specs.FinMap.{empty, get, len}
use Rattle.dt_base.specs.declared.image.Entry.{Entry}
use Rattle.dt_base.specs.declared.image.What.{What}
use Rattle.dt_base.specs.declared.image.What.TheVariants.{File, Dir, Link, Dev}
use Rattle.dt_base.specs.declared.limits.TheConstants.{ENTRY_LIMIT}
use Rattle.dt_base.specs.Path.{is_path, is_top, parent_of}
use Rattle.dt_base.specs.Image.{is_good_what, is_good_entry, is_dir, is_dir_at, has_parent, IsImage}
use Rattle.dt_host.specs.World.{Node, dir, dir_names, node_at, names_at, entry, IsDir}
use Rattle.dt_tables.proofs.Maps.{names_tie}
use Rattle.dt_tree.specs.Shape.{IsUnder, IsRemoved}
use Rattle.dt_tree.specs.FileTree.{FileTree, IsTree}
use Rattle.dt_tree.specs.ImageTree.{last_name, image_tree, names_below}
use Rattle.dt_tree.specs.Changes.{new_node, tree_with_new}
use Rattle.dt_tree.specs.inner.Created.{MayCreate}
use Rattle.dt_tree.specs.inner.Places.{IsInodeOfPath}
use Rattle.dt_tree.proofs.Shapes.{itself}
use Rattle.dt_tree.proofs.Paths.{begins, parent_before, last_good, top_parent}
use Rattle.dt_tree.proofs.Entries.{Before, all_at, any_index, taken, still_taken, take_next, rises, one_index, lower}
use Rattle.dt_tree.proofs.Images.{image_of, IsInodeAt, node_d, free, not_held, image_more}

dir_only : (what : What) → is_dir what ≡ true → what ≡ Dir
dir_only (File bytes) e = cc
dir_only Dir e = refl
dir_only (Link target) e = cc
dir_only (Dev which) e = cc

module _ (version : ℕ) (entries : List Entry) (is : IsImage (image_of version entries)) (i : ℕ) (e : Entry) (at : slice_get entries i ≡ Some e) where
  good_parts : (is_path e.path ≡ true) × (is_good_what version e.what e.mode ≡ true)
  good_parts = and_parts (is_path e.path) (is_good_what version e.what e.mode) (all_at (is_good_entry version) entries i e is.good at)

  low : i < ENTRY_LIMIT
  low = let within = slice_get_within entries i e at in let few = is.few in omega arith

  good_path_at : (k : ℕ) (x : Entry) → slice_get entries k ≡ Some x → is_path x.path ≡ true
  good_path_at k x at_k = (and_parts (is_path x.path) (is_good_what version x.what x.mode) (all_at (is_good_entry version) entries k x is.good at_k)).0

  paths : (k : ℕ) (x : Entry) → slice_get (take i entries) k ≡ Some x → IsTrue (is_path x.path)
  paths k x at_k = good_path_at k x (taken entries i k x at_k).0

  once : (j k : ℕ) (x y : Entry) → slice_get (take i entries) j ≡ Some x → slice_get (take i entries) k ≡ Some y → x.path ≡ y.path → j ≡ k
  once j k x y at_j at_k same = one_index entries is.rising j k x y (taken entries i j x at_j).0 (taken entries i k y at_k).0 same

  before : (k : ℕ) (x : Entry) → slice_get (take i entries) k ≡ Some x → Before x e
  before k x at_k = let there = taken entries i k x at_k in rises entries is.rising k i x e there.1 there.0 at

  module _ (n : ℕ) (leads : IsInodeOfPath entries (parent_of e.path) n) where
    place : IsInodeAt (take i entries) (parent_of e.path) n
    place = by_top (is_top e.path) refl (all_at (has_parent entries) entries i e is.parents at)
      where
        by_parent : (k : ℕ) × (x : Entry) × (slice_get entries k ≡ Some x) × (is_dir_at (parent_of e.path) x ≡ true) → IsInodeAt (take i entries) (parent_of e.path) n
        by_parent found =
            let x = found.1 in
            let parts = and_parts (is_dir x.what) (bytes_eq (parent_of e.path) x.path) found.3 in
            let same : parent_of e.path ≡ x.path = (bytes_eq-Decides (parent_of e.path) x.path).0 parts.1 in
            let first : Before x e = subst (λ p. slice_cmp nat_cmp p e.path ≡ Less) same (parent_before e.path good_parts.0) in
            let index = lower entries is.rising found.0 i x e found.2 at first in
            inr (found.0, x, still_taken entries i found.0 x found.2 index, dir_only x.what parts.0, sym same, leads.entry found.0 x found.2 (sym same))

        by_top : (b : Bool) → is_top e.path ≡ b → (b || list_any (is_dir_at (parent_of e.path)) entries) ≡ true → IsInodeAt (take i entries) (parent_of e.path) n
        by_top true top h = let none = top_parent e.path good_parts.0 top in inl (none, leads.root none)
        by_top false top h = by_parent (any_index (is_dir_at (parent_of e.path)) entries h)

    there : node_at (image_tree (image_of version (take i entries))).shape n ≡ Some (dir (names_below (take i entries) (parent_of e.path)))
    there = node_d (take i entries) e n place paths once before good_parts.0

    is_dir_there : IsDir (image_tree (image_of version (take i entries))).shape n
    is_dir_there = subst (λ found. IsSome (option_and_then dir_names found)) (sym there) refl

    under : IsTree (image_tree (image_of version (take i entries))) → IsUnder (image_tree (image_of version (take i entries))).shape n
    under s = by_place (s.shaped.placed n is_dir_there)
      where
        some_there : (found : Option Node) → found ≡ Some (dir (names_below (take i entries) (parent_of e.path))) → IsSome found
        some_there None h = cc
        some_there (Some x) h = refl

        by_place : IsUnder (image_tree (image_of version (take i entries))).shape n ⊎ IsRemoved (image_tree (image_of version (take i entries))).shape n → IsUnder (image_tree (image_of version (take i entries))).shape n
        by_place (inl u) = u
        by_place (inr r) = elim (cases_eq n 1) [
          | inl top ↦ subst (λ x. IsUnder (image_tree (image_of version (take i entries))).shape x) (sym top) (itself (image_tree (image_of version (take i entries))).shape 1)
          | inr apart ↦
              let used = s.used n (some_there (node_at (image_tree (image_of version (take i entries))).shape n) there) apart (λ h. cc) in
              let none = not_held (take i entries) n in
              let nameless = r.nameless in
              absurd (omega arith)
        ]

    name_free : entry (image_tree (image_of version (take i entries))).shape n (last_name e.path) ≡ None
    unfolding entry names_at
    name_free = ap (λ found. get (unwrap_or (option_and_then dir_names found) empty) (last_name e.path)) there ∙ free (take i entries) e n place paths once before good_parts.0

    pub may : (t : FileTree) → t ≡ image_tree (image_of version (take i entries)) → IsTree t → len t.shape.nodes ≡ i + 1 → MayCreate t n (last_name e.path) e.what e.mode
    may t same s nodes = record {
      is_dir = subst (λ (t : FileTree). IsDir t.shape n) (sym same) is_dir_there;
      under = subst (λ (t : FileTree). IsUnder t.shape n) (sym same) (under (subst IsTree same s));
      free = subst (λ (t : FileTree). entry t.shape n (last_name e.path) ≡ None) (sym same) name_free;
      named = last_good e.path good_parts.0;
      good = subst (λ (t : FileTree). IsTrue (is_good_what t.version e.what e.mode)) (sym same) good_parts.1;
      room = omega (arith, low);
    }

    pub more : image_tree (image_of version (take (i + 1) entries)) ≡ tree_with_new (image_tree (image_of version (take i entries))) n (last_name e.path) (new_node e.what) e.mode 0
    more = ap (λ some. image_tree (image_of version some)) (take_next entries i e at) ∙ image_more (take i entries) e n place paths once before good_parts.0 version

-- a search by paths
some_path : (version : ℕ) (entries : List Entry) → IsImage (image_of version entries) → (path : List ℕ) → length path ≡ 0 → (k : ℕ) (x : Entry) → slice_get entries k ≡ Some x → x.path ≡ path → ⊥
some_path version entries is path none k x at same =
    let first = begins x.path (and_parts (is_path x.path) (is_good_what version x.what x.mode) (all_at (is_good_entry version) entries k x is.good at)).0 in
    let size = ap length (sym same ∙ first.1) in
    omega arith

pub leads_root : (version : ℕ) (entries : List Entry) → IsImage (image_of version entries) → (path : List ℕ) → length path ≡ 0 → IsInodeOfPath entries path 1
leads_root version entries is path none = record { root = λ _. refl; entry = λ k x at same. absurd (some_path version entries is path none k x at same) }

goes_up : (a b path : List ℕ) (r : Ordering) → slice_cmp nat_cmp a b ≡ Less → slice_cmp nat_cmp b path ≡ r → ordering_index (slice_cmp nat_cmp a path) ≤ ordering_index r
goes_up a b path Less low e = let less = ap ordering_index (nat_list_cmp_total.trans a b path low e) in omega arith
goes_up a b path Equal low e = let same = names_tie b path e in let less = ap ordering_index (ap (slice_cmp nat_cmp a) (sym same) ∙ low) in omega arith
goes_up a b path Greater low e = most (slice_cmp nat_cmp a path)
  where
    most : (r : Ordering) → ordering_index r ≤ 2
    most Less = omega arith
    most Equal = omega arith
    most Greater = omega arith

module _ (version : ℕ) (entries : List Entry) (is : IsImage (image_of version entries)) (path : List ℕ) (some : 0 < length path) where
  not_root : path ≡ [] → ⊥
  not_root none = let size = ap length none in omega arith

  rise : IsNonDecreasingBy (λ (y : Entry). ordering_index (slice_cmp nat_cmp y.path path)) entries
  rise i j d h within = elim (cases_eq i j) [
    | inl same ↦ let index = ap (λ k. let x = get_or entries k d in ordering_index (slice_cmp nat_cmp x.path path)) same in omega arith
    | inr apart ↦
        let x = get_or entries i d in
        let y = get_or entries j d in
        goes_up x.path y.path path (slice_cmp nat_cmp y.path path) (rises entries is.rising i j x y (omega arith) (slice_get-get_or entries i d (omega arith)) (slice_get-get_or entries j d within)) refl
  ]

  pub leads_found : (i : ℕ) → i < length entries → IsBinarySearchResult (λ (y : Entry). slice_cmp nat_cmp y.path path) entries (Ok i) → IsInodeOfPath entries path (2 + i)
  leads_found i within found = record {
    root = λ none. absurd (not_root none);
    entry = λ k x at same.
        let y = get_or entries i x in
        let index = one_index entries is.rising i k y x (slice_get-get_or entries i x within) at (names_tie y.path path (found x) ∙ sym same) in
        omega arith;
  }

  pub leads_none : (i : ℕ) → IsBinarySearchResult (λ (y : Entry). slice_cmp nat_cmp y.path path) entries (Err i) → IsInodeOfPath entries path 1
  leads_none i none = record {
    root = λ _. refl;
    entry = λ k x at same. absurd (by_index k x at same (cases_lt k i));
  }
    where
      tied : (k : ℕ) (x : Entry) → slice_get entries k ≡ Some x → x.path ≡ path → (r : Ordering) → (let y = get_or entries k x in slice_cmp nat_cmp y.path path ≡ r) → r ≡ Equal
      tied k x at same r e = sym e ∙ ap (λ (y : Entry). slice_cmp nat_cmp y.path path) (get_or_from_slice_get entries k x x at) ∙ ap (λ p. slice_cmp nat_cmp p path) same ∙ tied_itself nat_list_cmp_total path

      by_index : (k : ℕ) (x : Entry) → slice_get entries k ≡ Some x → x.path ≡ path → (k < i) ⊎ (i ≤ k) → ⊥
      by_index k x at same (inl below) = clash (tied k x at same Less ((none rise).0 k x (omega arith) below))
        where
          clash : Less ≡ Equal → ⊥
          clash e = cc
      by_index k x at same (inr above) = clash (tied k x at same Greater ((none rise).1 k x above (slice_get_within entries k x at)))
        where
          clash : Greater ≡ Equal → ⊥
          clash e = cc
