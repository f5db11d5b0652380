-- An export that is read back gives the image of the tree.
use Rattle.std.proofs.Common.{◌≡◌, ℕ, ◌≤◌, true, false, ◌||◌, ◌==◌, nat_le, nat_lt, List, [], ◌∷◌, map, length, Option, Some, None, is_some, Ok, refl, sym, ap, subst, ◌∙◌, arith}
use Rattle.std.proofs.lemmas.Bool.{and_from, and_parts, le-leb, leb-true, eqb-true, ltb-false}
use Rattle.std.proofs.lemmas.List.{length-map}
use Rattle.std.proofs.lemmas.List.Elements.{All-head, All-tail, All-weaker, All-contains, All-contains_itself}
use Rattle.std.proofs.lemmas.List.Folds.{list_all-map}
use Rattle.std.specs.Prelude.{T, IfSome, unwrap_or, option_and_then}
use Rattle.std.specs.List.{All, Contains, list_all}
use Rattle.std.specs.Ordering.{nat_cmp}
use Rattle.std.specs.Cmp.Lexicographic.{slice_cmp}
use Rattle.std.specs.FinMap.{get, entries_sorted}
use Rattle.std.specs.FinMap.Entries.{is_sorted}
use Rattle.dt_base.specs.declared.image.What.{What}
use Rattle.dt_base.specs.declared.image.What.TheVariants.{File, Dir, Link, Dev}
use Rattle.dt_base.specs.declared.limits.TheConstants.{PATH_LIMIT, ENTRY_LIMIT, MODE_LIMIT, LINK_MODE}
use Rattle.dt_base.specs.Image.{is_target, is_good_what}
use Rattle.dt_base.specs.Profile.{file_limit}
use Rattle.dt_base.specs.declared.image.Entry.{Entry}
use Rattle.dt_image.proofs.Indexed.{parts}
use Rattle.dt_base.specs.Path.{is_path, is_top, parent_of}
use Rattle.dt_host.specs.Store.{StoreFiles}
use Rattle.dt_host.specs.World.{Node, file, dir, link, device, node_at, file_bytes, file_at, IsLive}
use Rattle.dt_tree.specs.declared.limits.TheConstants.{NODE_LIMIT}
use Rattle.dt_tree.specs.FileTree.{FileTree, IsTree}
use Rattle.dt_image.specs.Index.{is_good_source, is_good, index_of}
use Rattle.dt_image.specs.ImageOf.{name_below, has_listed_parent, has_blob, is_within_limit, source_mode, source_what, entry_with, with_blobs, image_from, image_from_index, image_by, image_of, value_of}
use Rattle.dt_image.specs.Paths.{paths_to, paths_of}
use Rattle.dt_image.proofs.Children.{live_paths}
use Rattle.dt_tree.specs.ImageTree.{what_of}
use Rattle.dt_export.specs.ExportedImage.{mode_at, what_at, entry_at, exported_image, has_long_path, has_too_many_paths, path_refusal}
use Rattle.dt_export.specs.ExportedIndex.{blob_name, exported_index}
use Rattle.dt_export.specs.inner.Held.{HasExport}
use Rattle.dt_export.proofs.BlobNames.{blob_good}
use Rattle.dt_export.proofs.Exported.{each_not, short_and_few, led, each, good_node, good_path, parent_entry}
use Rattle.dt_export.proofs.ReadEntries.{source_of, read_at, index_read, once_read, dirs_read, order_read}

-- the bytes that an image has of a file are the file's
file_held : (t : FileTree) (n : ℕ) (bytes : List ℕ) → IsLive t.shape n → what_at t n ≡ File bytes → file_at t.shape n ≡ Some bytes
file_held t n bytes live is = by_node (node_at t.shape n) live is
  where
    by_node : (found : Option Node) → is_some found ≡ true → what_of (unwrap_or found (file [])) ≡ File bytes → option_and_then file_bytes found ≡ Some bytes
    by_node None there is = absurd (cc)
    by_node (Some (file other)) there is = let same : other ≡ bytes = cc in ap Some same
    by_node (Some (dir names)) there is = absurd (cc)
    by_node (Some (link target)) there is = absurd (cc)
    by_node (Some (device which)) there is = absurd (cc)

source_good : (version inode mode : ℕ) (what : What) → is_good_what version what mode ≡ true → is_good_source (source_of inode mode what) ≡ true
source_good version inode mode (File bytes) good = blob_good inode
source_good version inode mode Dir good = refl
source_good version inode mode (Link target) good = (and_parts (is_target target) (mode == LINK_MODE) good).0
source_good version inode mode (Dev which) good = refl

same_mode : (version inode mode : ℕ) (what : What) → is_good_what version what mode ≡ true → source_mode (source_of inode mode what) ≡ mode
same_mode version inode mode (File bytes) good = refl
same_mode version inode mode Dir good = refl
same_mode version inode mode (Link target) good = sym (eqb-true mode LINK_MODE (and_parts (is_target target) (mode == LINK_MODE) good).1)
same_mode version inode mode (Dev which) good = refl

module _ (files : StoreFiles) (folder : List ℕ) where
  -- if that is a file, its bytes are in the blob of this inode
  abbrev HasBlobOf : ℕ → What → Type 0
  HasBlobOf inode what = (bytes : List ℕ) → what ≡ File bytes → get files (name_below folder (blob_name inode)) ≡ Some bytes

  there : (inode mode : ℕ) (what : What) → HasBlobOf inode what → has_blob files folder (source_of inode mode what) ≡ true
  there inode mode (File bytes) held = ap is_some (held bytes refl)
  there inode mode Dir held = refl
  there inode mode (Link target) held = refl
  there inode mode (Dev which) held = refl

  within : (version inode mode : ℕ) (what : What) → HasBlobOf inode what → is_good_what version what mode ≡ true → is_within_limit files folder version (source_of inode mode what) ≡ true
  within version inode mode (File bytes) held good =
      ap (λ found. nat_le (length (unwrap_or found [])) (file_limit version)) (held bytes refl) ∙ (and_parts (nat_le (length bytes) (file_limit version)) (nat_le mode MODE_LIMIT) good).0
  within version inode mode Dir held good = refl
  within version inode mode (Link target) held good = refl
  within version inode mode (Dev which) held good = refl

  same_what : (inode mode : ℕ) (what : What) → HasBlobOf inode what → source_what files folder (source_of inode mode what) ≡ what
  same_what inode mode (File bytes) held = ap (λ found. File (unwrap_or found [])) (held bytes refl)
  same_what inode mode Dir held = refl
  same_what inode mode (Link target) held = refl
  same_what inode mode (Dev which) held = refl

  module _ (t : FileTree) where
    -- what holds of the blob and of the node of each path
    abbrev IsHeld : List ℕ × ℕ → Type 0
    IsHeld at = HasBlobOf at.1 (what_at t at.1)

    abbrev IsFit : List ℕ × ℕ → Type 0
    IsFit at = is_good_what t.version (what_at t at.1) (mode_at t at.1) ≡ true

    all_there : (ats : List (List ℕ × ℕ)) → All IsHeld ats → list_all (λ entry. has_blob files folder entry.source) (map (read_at t) ats) ≡ true
    all_there [] held = refl
    all_there (at ∷ ats) held =
        and_from (has_blob files folder (source_of at.1 (mode_at t at.1) (what_at t at.1))) (list_all (λ entry. has_blob files folder entry.source) (map (read_at t) ats))
        (there at.1 (mode_at t at.1) (what_at t at.1) (All-head IsHeld at ats held)) (all_there ats (All-tail IsHeld at ats held))

    all_within : (ats : List (List ℕ × ℕ)) → All IsHeld ats → All IsFit ats → list_all (λ entry. is_within_limit files folder t.version entry.source) (map (read_at t) ats) ≡ true
    all_within [] held fit = refl
    all_within (at ∷ ats) held fit =
        and_from (is_within_limit files folder t.version (source_of at.1 (mode_at t at.1) (what_at t at.1))) (list_all (λ entry. is_within_limit files folder t.version entry.source) (map (read_at t) ats))
        (within t.version at.1 (mode_at t at.1) (what_at t at.1) (All-head IsHeld at ats held) (All-head IsFit at ats fit)) (all_within ats (All-tail IsHeld at ats held) (All-tail IsFit at ats fit))

    same_entry : (at : List ℕ × ℕ) → IsHeld at → IsFit at → entry_with files folder (read_at t at) ≡ entry_at t at
    same_entry at held fit =
        let mode = same_mode t.version at.1 (mode_at t at.1) (what_at t at.1) fit in
        let what = same_what at.1 (mode_at t at.1) (what_at t at.1) held in
        λ i. record { path = at.0; mode = mode i; what = what i }

    same_entries : (ats : List (List ℕ × ℕ)) → All IsHeld ats → All IsFit ats → map (entry_with files folder) (map (read_at t) ats) ≡ map (entry_at t) ats
    same_entries [] held fit = refl
    same_entries (at ∷ ats) held fit =
        let first = same_entry at (All-head IsHeld at ats held) (All-head IsFit at ats fit) in
        let rest = same_entries ats (All-tail IsHeld at ats held) (All-tail IsFit at ats fit) in
        λ i. first i ∷ rest i

    blobs_read : All IsHeld (paths_of t.shape) → All IsFit (paths_of t.shape) → has_too_many_paths (paths_of t.shape) ≡ false → with_blobs files folder None t.version (map (read_at t) (paths_of t.shape)) ≡ Ok (exported_image t, [])
    unfolding with_blobs
    blobs_read held fit few =
        let count = length-map (paths_of t.shape) (read_at t) in
        let short = le-leb (length (map (read_at t) (paths_of t.shape))) ENTRY_LIMIT (omega (arith, count, ltb-false ENTRY_LIMIT (length (paths_of t.shape)) few)) in
        rw (all_there (paths_of t.shape) held, all_within (paths_of t.shape) held fit, short) (ap (λ (entries : List Entry). Ok (record { version = t.version; entries = entries }, [])) (same_entries (paths_of t.shape) held fit))

module _ (t : FileTree) (s : IsTree t) where
  live : All (λ at. IsLive t.shape at.1) (paths_of t.shape)
  live = live_paths t.shape s.shaped

  fit : All (λ at. is_good_what t.version (what_at t at.1) (mode_at t at.1) ≡ true) (paths_of t.shape)
  fit = All-weaker (λ (at : List ℕ × ℕ). IsLive t.shape at.1) (λ at. is_good_what t.version (what_at t at.1) (mode_at t at.1) ≡ true) (λ at there. good_node t s at.1 there) (paths_of t.shape) live

  rising_paths : T (is_sorted (slice_cmp nat_cmp) (paths_of t.shape))
  unfolding paths_of
  rising_paths = entries_sorted (paths_to t.shape NODE_LIMIT)

  held : (files : StoreFiles) (folder text : List ℕ) → HasExport files folder text t → All (IsHeld files folder t) (paths_of t.shape)
  held files folder text has =
      All-weaker (Contains (paths_of t.shape)) (IsHeld files folder t)
      (λ at there bytes is.
      let here = file_held t at.1 bytes (All-contains (λ (at : List ℕ × ℕ). IsLive t.shape at.1) (paths_of t.shape) at live there) is in
      subst (λ found. IfSome found (λ bytes. get files (name_below folder (blob_name at.1)) ≡ Some bytes)) here (has.blobs at.0 at.1 there))
      (paths_of t.shape) (All-contains_itself (paths_of t.shape))

  module _ (short : has_long_path (paths_of t.shape) ≡ false) where
    not_long : All (λ at. nat_lt PATH_LIMIT (length at.0) ≡ false) (paths_of t.shape)
    not_long = each_not (λ (at : List ℕ × ℕ). nat_lt PATH_LIMIT (length at.0)) (paths_of t.shape) short

    good_read : list_all is_good (map (read_at t) (paths_of t.shape)) ≡ true
    good_read =
        list_all-map is_good (read_at t) (paths_of t.shape)
        ∙ each t s (λ at. is_good (read_at t at))
        (λ at to there short. and_from (is_path at.0) (is_good_source (source_of at.1 (mode_at t at.1) (what_at t at.1))) (ap is_path to.2 ∙ good_path t s at to short) (source_good t.version at.1 (mode_at t at.1) (what_at t at.1) (good_node t s at.1 there)))
        (paths_of t.shape) (led t s) live not_long

    parents_read : list_all (has_listed_parent (map (read_at t) (paths_of t.shape))) (map (read_at t) (paths_of t.shape)) ≡ true
    parents_read =
        list_all-map (has_listed_parent (map (read_at t) (paths_of t.shape))) (read_at t) (paths_of t.shape)
        ∙ each t s (λ at. has_listed_parent (map (read_at t) (paths_of t.shape)) (read_at t at))
        (λ at to there short. ap (λ b. is_top at.0 || b) (dirs_read t (parent_of at.0) (paths_of t.shape)) ∙ parent_entry t s at to there short)
        (paths_of t.shape) (led t s) live not_long

    image_read : (files : StoreFiles) (folder text : List ℕ) → HasExport files folder text t → has_too_many_paths (paths_of t.shape) ≡ false → image_from files folder None (parts t.version (map (read_at t) (paths_of t.shape))) ≡ Ok (exported_image t, [])
    unfolding image_from
    image_read files folder text has few =
        rw (good_read, once_read t (paths_of t.shape) rising_paths, parents_read, order_read t (paths_of t.shape) rising_paths) (blobs_read files folder t (held files folder text has) fit few)

  -- where a store has the export of a tree, the tree's image is read
  pub read_back : (files : StoreFiles) (folder text : List ℕ) → path_refusal (paths_of t.shape) ≡ None → value_of text ≡ Some (exported_index t.version t) → HasExport files folder text t → image_of files folder None ≡ Ok (exported_image t, [])
  read_back files folder text none value has =
      let kept = short_and_few (paths_of t.shape) none in
      ap (image_by files folder None) has.index
      ∙ ap (λ found. image_from_index files folder None (option_and_then index_of found)) value
      ∙ ap (image_from_index files folder None) (index_read t s.version fit)
      ∙ image_read kept.0 files folder text has kept.1
