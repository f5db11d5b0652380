-- A file's bytes changed: the directories stay, and what is written at the host is written in the tree.
use Rattle.std.proofs.Common.{arith, ◌≡◌, ℕ, ◌+◌, ◌-◌, ◌≤◌, List, [], ◌++◌, length, take, drop, replicate, Option, Some, None, ◌⊎◌, inl, inr, refl, sym, ap, subst, ◌∙◌, append-nil, length-append}
use Rattle.std.proofs.Math.Seq.{take-length}
use Rattle.std.proofs.lemmas.Bool.{cases_eq}
use Rattle.std.proofs.lemmas.List.{length-replicate, length-take-le, length-drop}
use Rattle.std.proofs.lemmas.Option.{same_Some}
use Rattle.std.specs.Prelude.{true, IsSome, is_some, IfSome, OnOk, Result, Ok, Err, unwrap_or, option_map, option_and_then}
use Rattle.std.specs.Cmp.Lexicographic.{slice_cmp, nat_list_cmp_total}
use Rattle.std.specs.Ordering.{nat_cmp}
use Rattle.std.specs.FinMap.{empty, get, len, get-empty, len-empty}
use Rattle.dt_base.specs.declared.limits.TheConstants.{MODE_LIMIT}
use Rattle.dt_base.specs.Profile.{file_limit}
use Rattle.dt_base.specs.Bytes.{with_bytes_at, with_trailing_zeros, with_length}
use Rattle.dt_host.specs.World.{World, Forest, Node, file, dir, link, device, node_at, dir_names, file_bytes, file_at, names_at, entry, content, with_node, with_bytes, with_forest, IsDir, IsFile, IsLive, node_device, IsDevice}
use Rattle.dt_host.specs.Legal.{with_write, with_size, Cuts, WritesAll}
use Rattle.dt_tables.specs.Total.{total}
use Rattle.dt_host.proofs.Changes.{apart_from_file, device_apart_from_file}
use Rattle.dt_tables.proofs.Totals.{total-empty}
use Rattle.dt_host.proofs.Worlds.{content-with_bytes, with_bytes-with_bytes, with_bytes-content}
use Rattle.dt_host.proofs.Spots.{IsDir-entry, at_node, entry_other, entry_here, is_some-with_node, len-with_node}
use Rattle.dt_tree.specs.declared.inode.Inode.{Inode}
use Rattle.dt_tree.specs.Shape.{one_for, name_count_of, name_count, IsUnder, IsRemoved, IsShaped}
use Rattle.dt_tree.specs.FileTree.{Attributes, FileTree, IsGoodNode, IsTree}
use Rattle.dt_tree.specs.Changes.{with_shape, tree_with_stamp, tree_after_write, tree_after_truncate}
use Rattle.dt_tree.specs.Calls.{KeepsHeld}
use Rattle.dt_tree.specs.inner.Files.{with_content, with_padding, with_padded_write}
use Rattle.dt_tree.specs.Table.{Table, shape_of, tree_of, kind_of, IsUp, IsInodeOf, IsMirror, Stands}
use Rattle.dt_tree.proofs.Namings.{names_of-with_node, name_count-with_node}
use Rattle.dt_tree.proofs.Shapes.{carry, inside}
use Rattle.dt_tree.proofs.Mirroring.{shape-with_node, file_at-inode}
use Rattle.dt_tree.proofs.Linked.{pairs-same_nodes}
use Rattle.dt_tree.proofs.Changing.{IsTreeBut-stamped, IsTreeBut-with_shape}
use Rattle.dt_tree.proofs.Holding.{KeepsHeld-then, KeepsHeld-stamped, KeepsHeld-with_shape}
use Rattle.dt_tree.proofs.Looked.{content-inode}

-- a file's node, by its bytes
file_node : (found : Option Node) → IsSome (option_and_then file_bytes found) → (bytes : List ℕ) × (found ≡ Some (file bytes))
file_node None h = cc
file_node (Some (file bytes)) h = (bytes, refl)
file_node (Some (dir names)) h = cc
file_node (Some (link target)) h = cc
file_node (Some (device which)) h = cc

module _ (v : Forest) (n : ℕ) (bytes : List ℕ) (is : IsFile v n) where
  live_file : IsLive v n
  live_file = subst (λ found. IsSome found) (sym (file_node (node_at v n) is).1) refl

  none_there : (c : List ℕ) → entry v n c ≡ None
  none_there c = by_entry (entry v n c) refl
    where
      by_entry : (found : Option ℕ) → entry v n c ≡ found → found ≡ None
      by_entry None e = refl
      by_entry (Some x) e = absurd (apart_from_file v n n (IsDir-entry v n c x e) is refl)

  -- the entries stay
  pub entry-with_file : (q : ℕ) (c : List ℕ) → entry (with_node v n (file bytes)) q c ≡ entry v q c
  entry-with_file q c = elim (cases_eq q n) [
    | inl same ↦ ap (λ x. entry (with_node v n (file bytes)) x c) same ∙ entry_here v n (file bytes) c ∙ get-empty (slice_cmp nat_cmp) c ∙ sym (ap (λ x. entry v x c) same ∙ none_there c)
    | inr apart ↦ entry_other v n (file bytes) q c apart
  ]

  no_names : names_at v n ≡ empty
  unfolding names_at
  no_names = ap (λ found. unwrap_or (option_and_then dir_names found) empty) (file_node (node_at v n) is).1

  -- so do the counts
  pub names_of-with_file : (k : ℕ) → name_count_of (with_node v n (file bytes)) k ≡ name_count_of v k
  names_of-with_file k =
      let sum = names_of-with_node v n k (file bytes) in
      let none = total-empty nat_list_cmp_total (one_for k) in
      let before = ap (total (one_for k)) no_names in
      omega arith

  pub name_count-with_file : name_count (with_node v n (file bytes)) ≡ name_count v
  name_count-with_file =
      let sum = name_count-with_node v n (file bytes) in
      let none = len-empty (slice_cmp nat_cmp) ℕ in
      let before = ap (λ names. len names) no_names in
      omega arith

  dir_back : (q : ℕ) → IsDir (with_node v n (file bytes)) q → IsDir v q
  dir_back q = at_node v n (file bytes) (λ found. IsSome (option_and_then dir_names found) → IsDir v q) q (λ _ h. cc) (λ _ h. h)

  pub IsDir-with_file : (q : ℕ) → IsDir v q → IsDir (with_node v n (file bytes)) q
  IsDir-with_file q h = at_node v n (file bytes) (λ found. IsSome (option_and_then dir_names found)) q (λ same. absurd (apart_from_file v q n h is same)) (λ _. h)

  pub IsDevice-with_file : (q : ℕ) → IsDevice v q → IsDevice (with_node v n (file bytes)) q
  IsDevice-with_file q h = at_node v n (file bytes) (λ found. IsSome (option_and_then node_device found)) q (λ same. absurd (device_apart_from_file v q n h is same)) (λ _. h)

  pub IsFile-with_file : (q : ℕ) → IsFile v q → IsFile (with_node v n (file bytes)) q
  IsFile-with_file q h = at_node v n (file bytes) (λ found. IsSome (option_and_then file_bytes found)) q (λ _. refl) (λ _. h)

  live_still : (q : ℕ) → IsLive v q → IsLive (with_node v n (file bytes)) q
  live_still q h = at_node v n (file bytes) (λ found. IsSome found) q (λ _. refl) (λ _. h)

  pub same_nodes : (q : ℕ) → is_some (node_at (with_node v n (file bytes)) q) ≡ is_some (node_at v q)
  same_nodes = is_some-with_node v n (file bytes) live_file

  pub shaped-with_file : IsShaped v → IsShaped (with_node v n (file bytes))
  shaped-with_file s = record {
    root = IsDir-with_file v.root s.root;
    named = λ k h. live_still k (s.named k (omega (arith, names_of-with_file k)));
    unnamed = names_of-with_file v.root ∙ s.unnamed;
    once = λ k h. omega (arith, names_of-with_file k, s.once k (dir_back k h));
    placed = λ k h. by_place k (s.placed k (dir_back k h));
  }
    where
      by_place : (k : ℕ) → IsUnder v k ⊎ IsRemoved v k → IsUnder (with_node v n (file bytes)) k ⊎ IsRemoved (with_node v n (file bytes)) k
      by_place k (inl u) = inl (carry v (with_node v n (file bytes)) (λ _. Unit {0}) refl (λ q x c e _. (tt, inside (with_node v n (file bytes)) q x _ c (entry-with_file q c ∙ e))) u.0 k u.1 tt)
      by_place k (inr r) = inr (record { nameless = names_of-with_file k ∙ r.nameless; bare = λ c. entry-with_file k c ∙ r.bare c })

-- a tree with other bytes in a file is a tree
pub IsTree-with_bytes : (t : FileTree) (n : ℕ) (bytes : List ℕ) → IsTree t → IsFile t.shape n → length bytes ≤ file_limit t.version → IsTree (with_shape t (with_bytes t.shape n bytes))
unfolding with_bytes
IsTree-with_bytes t n bytes s is fits =
    IsTreeBut-with_shape None t (with_node t.shape n (file bytes)) s
    (shaped-with_file t.shape n bytes is s.shaped)
    refl
    (same_nodes t.shape n bytes is)
    (len-with_node t.shape n (file bytes) (live_file t.shape n bytes is))
    (λ q node a. at_node t.shape n (file bytes) (λ found. found ≡ Some node → get t.attributes q ≡ Some a → IsGoodNode t.version node a.mode) q
    (λ same e kept. subst (λ x. IsGoodNode t.version x a.mode) (same_Some (file bytes) node e) (fits, mode q same a kept))
    (λ _ e kept. s.good q node a e kept))
    (omega (arith, name_count-with_file t.shape n bytes is, s.few_names))
    (λ q _. omega (arith, names_of-with_file t.shape n bytes is q))
  where
    mode : (q : ℕ) → q ≡ n → (a : Attributes) → get t.attributes q ≡ Some a → a.mode ≤ MODE_LIMIT
    mode q same a kept = let old = file_node (node_at t.shape n) is in (s.good q (file old.0) a (ap (node_at t.shape) same ∙ old.1) kept).1

-- bytes written at the host are written in the tree
module _ (t : Table) (v : Forest) (n : ℕ) (inode : Inode) (bytes : List ℕ) (s : IsMirror t v) (at : get t.inodes n ≡ Some inode) (is : IsFile (shape_of t v) n) where
  pub tree-with_bytes : tree_of t (with_bytes v inode.real bytes) ≡ with_shape (tree_of t v) (with_bytes (shape_of t v) n bytes)
  unfolding with_bytes
  tree-with_bytes = ap (with_shape (tree_of t v)) (shape-with_node t v s.pairs n inode (file bytes) at)

  pub real_file : IsFile v inode.real
  real_file = subst (λ found. IsSome found) (file_at-inode t v s.pairs n inode at) is

  pub mirrors-with_bytes : IsMirror t (with_bytes v inode.real bytes)
  unfolding with_bytes
  mirrors-with_bytes = record {
    pairs = pairs-same_nodes t v (with_node v inode.real (file bytes)) s.pairs refl (same_nodes v inode.real bytes real_file) (λ d real name e. by_found _ _ (same_nodes v inode.real bytes real_file real) (s.pairs.closed d real name (sym (entry-with_file v inode.real bytes real_file d name) ∙ e)));
    kept = λ q other e. subst (λ shape. IsInodeOf shape q other) (sym (shape-with_node t v s.pairs n inode (file bytes) at)) (keeps q other (s.kept q other e));
    counted = s.counted ∙ sym (ap (λ shape. name_count shape) (shape-with_node t v s.pairs n inode (file bytes) at) ∙ name_count-with_file (shape_of t v) n bytes is);
  }
    where
      by_found : (a b : Option Node) → is_some a ≡ is_some b → IsSome b → IsSome a
      by_found None b e h = cc
      by_found (Some x) b e h = refl

      up_still : (q : ℕ) (up : Option ℕ) → IsUp (shape_of t v) q up → IsUp (with_node (shape_of t v) n (file bytes)) q up
      up_still q None u = names_of-with_file (shape_of t v) n bytes is q ∙ u
      up_still q (Some d) u = (u.0, entry-with_file (shape_of t v) n bytes is d u.0 ∙ u.1)

      keeps : (q : ℕ) (other : Inode) → IsInodeOf (shape_of t v) q other → IsInodeOf (with_node (shape_of t v) n (file bytes)) q other
      keeps q other k = record {
        kind = at_node (shape_of t v) n (file bytes) (λ found. option_map kind_of found ≡ Some other.kind) q
            (λ same. sym (ap (λ x. option_map kind_of (node_at (shape_of t v) x)) same ∙ ap (option_map kind_of) (file_node (node_at (shape_of t v) n) is).1) ∙ k.kind)
            (λ _. k.kind);
        names = k.names ∙ sym (names_of-with_file (shape_of t v) n bytes is q);
        up = λ e. up_still q other.up (k.up e);
      }

-- bytes that are long enough stay as they are
pub padded-long : (old : List ℕ) (size : ℕ) → size ≤ length old → with_trailing_zeros old size ≡ old
padded-long old size h = let none : size - length old ≡ 0 = omega arith in ap (λ k. old ++ replicate k 0) none ∙ append-nil old

length-padded : (old : List ℕ) (size : ℕ) → length (with_trailing_zeros old size) ≡ length old + (size - length old)
length-padded old size = length-append old (replicate (size - length old) 0) ∙ ap (λ k. length old + k) (length-replicate {A = ℕ} (size - length old) 0)

-- shorter ones are resized
pub padded-short : (old : List ℕ) (size : ℕ) → length old ≤ size → with_length old size ≡ with_trailing_zeros old size
padded-short old size h =
    let all : length (with_trailing_zeros old size) ≡ size = omega (arith, length-padded old size) in
    ap (λ k. take k (with_trailing_zeros old size)) (sym all) ∙ take-length (with_trailing_zeros old size)

pub reaches : (old : List ℕ) (size : ℕ) → size ≤ length (with_trailing_zeros old size)
reaches old size = omega (arith, length-padded old size)

-- a file that is written or cut stays within its limit
pub fits-written : (old : List ℕ) (off limit : ℕ) (bytes : List ℕ) → length old ≤ limit → off + length bytes ≤ limit → length (with_bytes_at (with_trailing_zeros old off) off bytes) ≤ limit
fits-written old off limit bytes a b =
    let all = length-padded old off in
    let x = length-append (take off (with_trailing_zeros old off) ++ bytes) (drop (off + length bytes) (with_trailing_zeros old off)) in
    let y = length-append (take off (with_trailing_zeros old off)) bytes in
    let z : length (take off (with_trailing_zeros old off)) ≡ off = length-take-le off (with_trailing_zeros old off) (reaches old off) in
    let w : length (drop (off + length bytes) (with_trailing_zeros old off)) ≡ length (with_trailing_zeros old off) - (off + length bytes) = length-drop (off + length bytes) (with_trailing_zeros old off) in
    omega arith

pub fits-resized : (old : List ℕ) (size limit : ℕ) → size ≤ limit → length (with_length old size) ≤ limit
fits-resized old size limit h =
    let all : length (take size (with_trailing_zeros old size)) ≡ size = length-take-le size (with_trailing_zeros old size) (reaches old size) in
    omega arith

-- the size that is told
pub size-content : (v : Forest) (n size : ℕ) → IsFile v n → IfSome (file_at v n) (λ bytes. size ≡ length bytes) → size ≡ length (content v n)
unfolding content
size-content v n size is told = by_found (file_at v n) is told
  where
    by_found : (found : Option (List ℕ)) → IsSome found → IfSome found (λ bytes. size ≡ length bytes) → size ≡ length (unwrap_or found [])
    by_found None h e = cc
    by_found (Some bytes) h e = e

-- the gap before a write
pub padding-none : (w : World) (n off : ℕ) → IsFile w.forest n → off ≤ length (content w.forest n) → w ≡ with_padding w n off
padding-none w n off is h =
    sym (ap (with_content w n) (padded-long (content w.forest n) off h) ∙ ap (with_forest w) (with_bytes-content w.forest n is))

pub cut-pads : {A E : Type 0} (old mid new : World) (n off : ℕ) (r : Result A E) → mid ≡ old → length (content old.forest n) ≤ off → Cuts mid n off r new → OnOk r (new ≡ with_padding old n off)
cut-pads old mid new n off (Ok _) same h e = e ∙ ap (λ w. with_size w n off) same ∙ ap (with_content old n) (padded-short (content old.forest n) off h)
cut-pads old mid new n off (Err _) same h e = tt

-- and the write after it
pub writes-padded : {A E : Type 0} (old mid new : World) (n off : ℕ) (bytes : List ℕ) (r : Result A E) → mid ≡ with_padding old n off → WritesAll mid n off bytes r new → OnOk r (new ≡ with_padded_write old n off bytes)
writes-padded old mid new n off bytes (Ok _) a b =
    b
    ∙ ap (λ w. with_write w n off bytes) a
    ∙ ap (λ found. with_content (with_padding old n off) n (with_bytes_at found off bytes)) (content-with_bytes old.forest n (with_trailing_zeros (content old.forest n) off))
    ∙ ap (with_forest old) (with_bytes-with_bytes old.forest n (with_trailing_zeros (content old.forest n) off) (with_bytes_at (with_trailing_zeros (content old.forest n) off) off bytes))
writes-padded old mid new n off bytes (Err _) a b = tt

-- a file of a tree is within the limit
content-fits : (t : FileTree) (n : ℕ) → IsTree t → IsFile t.shape n → length (content t.shape n) ≤ file_limit t.version
unfolding content
content-fits t n s is =
    let node = file_node (node_at t.shape n) is in
    let kept = by_found (get t.attributes n) (s.same n ∙ ap is_some node.1) in
    subst (λ found. length (unwrap_or (option_and_then file_bytes found) []) ≤ file_limit t.version) (sym node.1) (s.good n (file node.0) kept.0 node.1 kept.1).0
  where
    by_found : (found : Option Attributes) → is_some found ≡ true → (a : Attributes) × (found ≡ Some a)
    by_found None e = cc
    by_found (Some a) e = (a, refl)

-- a file tree after a write or a cut
pub IsTree-written : (t : FileTree) (n off : ℕ) (bytes : List ℕ) (stamp : ℕ) → IsTree t → IsFile t.shape n → off + length bytes ≤ file_limit t.version → IsTree (tree_after_write t n off bytes stamp)
unfolding tree_after_write
IsTree-written t n off bytes stamp s is h = IsTreeBut-stamped None _ n stamp (IsTree-with_bytes t n _ s is (fits-written (content t.shape n) off (file_limit t.version) bytes (content-fits t n s is) h))

pub IsTree-truncated : (t : FileTree) (n size stamp : ℕ) → IsTree t → IsFile t.shape n → size ≤ file_limit t.version → IsTree (tree_after_truncate t n size stamp)
unfolding tree_after_truncate
IsTree-truncated t n size stamp s is h = IsTreeBut-stamped None _ n stamp (IsTree-with_bytes t n _ s is (fits-resized (content t.shape n) size (file_limit t.version) h))

keeps-with_bytes : (t : FileTree) (n : ℕ) (bytes : List ℕ) (stamp : ℕ) → IsFile t.shape n → KeepsHeld t (tree_with_stamp (with_shape t (with_bytes t.shape n bytes)) n stamp)
unfolding with_bytes
keeps-with_bytes t n bytes stamp is =
    let new : FileTree = with_shape t (with_bytes t.shape n bytes) in
    KeepsHeld-then t new (tree_with_stamp new n stamp)
    (KeepsHeld-with_shape t (with_bytes t.shape n bytes) (IsFile-with_file t.shape n bytes is) (IsDir-with_file t.shape n bytes is) (IsDevice-with_file t.shape n bytes is))
    (KeepsHeld-stamped new n stamp)

pub keeps-written : (t : FileTree) (n off : ℕ) (bytes : List ℕ) (stamp : ℕ) → IsFile t.shape n → KeepsHeld t (tree_after_write t n off bytes stamp)
unfolding tree_after_write
keeps-written t n off bytes stamp is = keeps-with_bytes t n _ stamp is

pub keeps-truncated : (t : FileTree) (n size stamp : ℕ) → IsFile t.shape n → KeepsHeld t (tree_after_truncate t n size stamp)
unfolding tree_after_truncate
keeps-truncated t n size stamp is = keeps-with_bytes t n _ stamp is

-- what was written at the host, and a stamp
module _ (old new : Table) (w after : World) (n : ℕ) (inode : Inode) (stamp : ℕ) (s : Stands old w.forest) (at : get old.inodes n ≡ Some inode) (is : IsFile (shape_of old w.forest) n) (mirrors : (v : Forest) → IsMirror old v → IsMirror new v) (tree : (v : Forest) → IsMirror old v → tree_of new v ≡ tree_with_stamp (tree_of old v) n stamp) where
  still : (bytes : List ℕ) → after ≡ with_content w inode.real bytes → IsMirror old after.forest
  still bytes e = subst (λ (w : World). IsMirror old w.forest) (sym e) (mirrors-with_bytes old w.forest n inode bytes s.mirrors at is)

  same_tree : (bytes : List ℕ) → after ≡ with_content w inode.real bytes → tree_of new after.forest ≡ tree_with_stamp (with_shape (tree_of old w.forest) (with_bytes (shape_of old w.forest) n bytes)) n stamp
  same_tree bytes e =
      tree after.forest (still bytes e)
      ∙ ap (λ (w : World). tree_with_stamp (tree_of old w.forest) n stamp) e
      ∙ ap (λ t. tree_with_stamp t n stamp) (tree-with_bytes old w.forest n inode bytes s.mirrors at is)

  pub tree-written : (off : ℕ) (bytes : List ℕ) → after ≡ with_padded_write w inode.real off bytes → tree_of new after.forest ≡ tree_after_write (tree_of old w.forest) n off bytes stamp
  unfolding tree_after_write
  tree-written off bytes e =
      same_tree (with_bytes_at (with_trailing_zeros (content w.forest inode.real) off) off bytes) e
      ∙ ap (λ x. tree_with_stamp (with_shape (tree_of old w.forest) (with_bytes (shape_of old w.forest) n (with_bytes_at (with_trailing_zeros x off) off bytes))) n stamp) (sym (content-inode old w.forest s.mirrors.pairs n inode at))

  pub stands-written : (off : ℕ) (bytes : List ℕ) → off + length bytes ≤ file_limit old.version → after ≡ with_padded_write w inode.real off bytes → Stands new after.forest
  stands-written off bytes fits e = record {
    mirrors = mirrors after.forest (still (with_bytes_at (with_trailing_zeros (content w.forest inode.real) off) off bytes) e);
    tree = subst IsTree (sym (tree-written off bytes e)) (IsTree-written (tree_of old w.forest) n off bytes stamp s.tree is fits);
  }

  pub tree-truncated : (size : ℕ) → after ≡ with_size w inode.real size → tree_of new after.forest ≡ tree_after_truncate (tree_of old w.forest) n size stamp
  unfolding tree_after_truncate
  tree-truncated size e =
      same_tree (with_length (content w.forest inode.real) size) e
      ∙ ap (λ x. tree_with_stamp (with_shape (tree_of old w.forest) (with_bytes (shape_of old w.forest) n (with_length x size))) n stamp) (sym (content-inode old w.forest s.mirrors.pairs n inode at))

  pub stands-truncated : (size : ℕ) → size ≤ file_limit old.version → after ≡ with_size w inode.real size → Stands new after.forest
  stands-truncated size fits e = record {
    mirrors = mirrors after.forest (still (with_length (content w.forest inode.real) size) e);
    tree = subst IsTree (sym (tree-truncated size e)) (IsTree-truncated (tree_of old w.forest) n size stamp s.tree is fits);
  }
