-- The entries that are read from the index of a tree.
use Rattle.std.proofs.Common.{◌≡◌, ℕ, ◌≤◌, false, cond, ◌&&◌, ◌||◌, List, [], ◌∷◌, ◌++◌, map, fold, Some, refl, sym, ap, subst, ◌∙◌, append_assoc, append-nil, true, ◌==◌, length, arith}
use Rattle.std.proofs.lemmas.Bool.{or_from, le-leb, leb-true, eqb-true, and_parts}
use Rattle.std.proofs.lemmas.List.Elements.{All-head, All-tail}
use Rattle.std.proofs.lemmas.Map.Text.{is_eq-slice_cmp}
use Rattle.std.specs.Prelude.{T, option_and_then, option_map, nat_le}
use Rattle.std.specs.List.{All, list_any}
use Rattle.std.specs.Str.{bytes_eq}
use Rattle.std.specs.Ordering.{nat_cmp, is_lt, is_eq, ordering_reverse}
use Rattle.std.specs.declared.cmp.Ordering.{Ordering}
use Rattle.std.specs.declared.cmp.Ordering.TheVariants.{Less, Equal, Greater}
use Rattle.std.specs.Cmp.Lexicographic.{slice_cmp, nat_list_cmp_total}
use Rattle.std.specs.FinMap.Entries.{below_all, is_sorted}
use Rattle.serde_json.specs.View.{items_of}
use Rattle.dt_base.specs.declared.image.What.{What}
use Rattle.dt_base.specs.declared.image.What.TheVariants.{File, Dir, Link, Dev}
use Rattle.dt_base.specs.declared.limits.TheConstants.{MODE_LIMIT, LINK_MODE}
use Rattle.dt_base.specs.declared.image.Device.TheVariants.{Null, Zero, Random}
use Rattle.dt_base.specs.Profile.{is_version, file_limit, has_devices}
use Rattle.dt_base.specs.Image.{is_dir, is_dir_at, is_target, is_good_what}
use Rattle.dt_tables.proofs.Conjuncts.{first, second}
use Rattle.dt_tree.specs.FileTree.{FileTree}
use Rattle.dt_image.specs.Index.{Source, file, dir, link, dev, IndexEntry, entry_of, entries_of, versioned_items, index_of, file_of, dir_of, link_of, dev_of}
use Rattle.dt_image.proofs.Indexed.{parts}
use Rattle.dt_image.specs.ImageOf.{has_path, has_twice, is_dir_source, is_dir_of_path, with_index_entry, sorted_entries}
use Rattle.dt_image.specs.Paths.{paths_of}
use Rattle.dt_export.specs.ExportedImage.{mode_at, what_at, entry_at}
use Rattle.dt_export.specs.ExportedIndex.{blob_name, what_object, object_at, exported_index}

-- what is read of what stands at a path
abbrev pub source_of : ℕ → ℕ → What → Source
source_of inode mode (File bytes) = file mode (blob_name inode)
source_of inode mode Dir = dir mode
source_of inode mode (Link target) = link target
source_of inode mode (Dev which) = dev mode which

-- the entry that is read of a path
abbrev pub read_at : FileTree → List ℕ × ℕ → IndexEntry
read_at t at = record { path = at.0; source = source_of at.1 (mode_at t at.1) (what_at t at.1) }

pub small_mode : (version : ℕ) (what : What) (mode : ℕ) → is_good_what version what mode ≡ true → mode ≤ MODE_LIMIT
small_mode version (File bytes) mode good = leb-true mode MODE_LIMIT (and_parts (nat_le (length bytes) (file_limit version)) (nat_le mode MODE_LIMIT) good).1
small_mode version Dir mode good = leb-true mode MODE_LIMIT good
small_mode version (Link target) mode good = let same = eqb-true mode LINK_MODE (and_parts (is_target target) (mode == LINK_MODE) good).1 in omega (arith, same)
small_mode version (Dev which) mode good = leb-true mode MODE_LIMIT (and_parts (has_devices version) (nat_le mode MODE_LIMIT) good).1

entry_read : (version inode mode : ℕ) (path : List ℕ) (what : What) → is_good_what version what mode ≡ true → entry_of version (what_object inode mode path what) ≡ Some (record { path = path; source = source_of inode mode what })
unfolding entry_of file_of dir_of link_of dev_of
entry_read version inode mode path (File bytes) good = rw (le-leb mode MODE_LIMIT (small_mode version (File bytes) mode good))
entry_read version inode mode path Dir good = rw (le-leb mode MODE_LIMIT (small_mode version Dir mode good))
entry_read version inode mode path (Link target) good = refl
entry_read version inode mode path (Dev Null) good = rw ((and_parts (has_devices version) (nat_le mode MODE_LIMIT) good).0, le-leb mode MODE_LIMIT (small_mode version (Dev Null) mode good))
entry_read version inode mode path (Dev Zero) good = rw ((and_parts (has_devices version) (nat_le mode MODE_LIMIT) good).0, le-leb mode MODE_LIMIT (small_mode version (Dev Zero) mode good))
entry_read version inode mode path (Dev Random) good = rw ((and_parts (has_devices version) (nat_le mode MODE_LIMIT) good).0, le-leb mode MODE_LIMIT (small_mode version (Dev Random) mode good))

entries_read : (version : ℕ) (t : FileTree) (ats : List (List ℕ × ℕ)) → All (λ at. is_good_what version (what_at t at.1) (mode_at t at.1) ≡ true) ats → entries_of version (items_of (map (object_at t) ats)) ≡ Some (map (read_at t) ats)
entries_read version t [] good = refl
entries_read version t (at ∷ ats) good =
    let here = entry_read version at.1 (mode_at t at.1) at.0 (what_at t at.1) (All-head (λ (at : List ℕ × ℕ). is_good_what version (what_at t at.1) (mode_at t at.1) ≡ true) at ats good) in
    let rest = entries_read version t ats (All-tail (λ (at : List ℕ × ℕ). is_good_what version (what_at t at.1) (mode_at t at.1) ≡ true) at ats good) in
    ap (option_and_then (λ entry. option_and_then (λ entries. Some (entry ∷ entries)) (entries_of version (items_of (map (object_at t) ats))))) here
    ∙ ap (option_and_then (λ entries. Some (read_at t at ∷ entries))) rest

-- the index is read as that version with those entries
pub index_read : (t : FileTree) → is_version t.version ≡ true → All (λ at. is_good_what t.version (what_at t at.1) (mode_at t at.1) ≡ true) (paths_of t.shape) → index_of (exported_index t.version t) ≡ Some (parts t.version (map (read_at t) (paths_of t.shape)))
unfolding index_of versioned_items
index_read t known good = rw known (ap (option_map (parts t.version)) (entries_read t.version t (paths_of t.shape) good))

less : (r : Ordering) → T (is_lt r) → r ≡ Less
less Less h = refl
less Equal h = absurd h
less Greater h = absurd h

-- paths that rise stand once
none_same : (t : FileTree) (path : List ℕ) (ats : List (List ℕ × ℕ)) → T (below_all (slice_cmp nat_cmp) path ats) → list_any (has_path path) (map (read_at t) ats) ≡ false
none_same t path [] h = refl
none_same t path (at ∷ ats) h =
    or_from (bytes_eq path at.0) (list_any (has_path path) (map (read_at t) ats))
    (sym (is_eq-slice_cmp path at.0) ∙ ap is_eq (less (slice_cmp nat_cmp path at.0) (first _ _ h))) (none_same t path ats (second _ _ h))

pub once_read : (t : FileTree) (ats : List (List ℕ × ℕ)) → T (is_sorted (slice_cmp nat_cmp) ats) → has_twice (map (read_at t) ats) ≡ false
once_read t [] h = refl
once_read t (at ∷ ats) h = or_from (list_any (has_path at.0) (map (read_at t) ats)) (has_twice (map (read_at t) ats)) (none_same t at.0 ats (first _ _ h)) (once_read t ats (second _ _ h))

same_kind : (inode mode : ℕ) (what : What) → is_dir_source (source_of inode mode what) ≡ is_dir what
same_kind inode mode (File bytes) = refl
same_kind inode mode Dir = refl
same_kind inode mode (Link target) = refl
same_kind inode mode (Dev which) = refl

-- the directories are those of the image
pub dirs_read : (t : FileTree) (path : List ℕ) (ats : List (List ℕ × ℕ)) → list_any (is_dir_of_path path) (map (read_at t) ats) ≡ list_any (is_dir_at path) (map (entry_at t) ats)
dirs_read t path [] = refl
dirs_read t path (at ∷ ats) =
    ap (λ b. (b && bytes_eq path at.0) || list_any (is_dir_of_path path) (map (read_at t) ats)) (same_kind at.1 (mode_at t at.1) (what_at t at.1))
    ∙ ap (λ rest. is_dir_at path (entry_at t at) || rest) (dirs_read t path ats)

below_later : (path : List ℕ) (done : List (List ℕ × ℕ)) (at : List ℕ × ℕ) (ats : List (List ℕ × ℕ)) → T (below_all (slice_cmp nat_cmp) path (done ++ at ∷ ats)) → slice_cmp nat_cmp path at.0 ≡ Less
below_later path [] at ats h = less (slice_cmp nat_cmp path at.0) (first _ _ h)
below_later path (x ∷ done) at ats h = below_later path done at ats (second _ _ h)

-- what comes after all others goes last
placed_last : (t : FileTree) (done : List (List ℕ × ℕ)) (at : List ℕ × ℕ) (ats : List (List ℕ × ℕ)) → T (is_sorted (slice_cmp nat_cmp) (done ++ at ∷ ats)) → with_index_entry (map (read_at t) done) (read_at t at) ≡ map (read_at t) (done ++ at ∷ [])
placed_last t [] at ats h = refl
placed_last t (x ∷ done) at ats h =
    let after : is_lt (slice_cmp nat_cmp at.0 x.0) ≡ false = ap is_lt (nat_list_cmp_total.antisymm at.0 x.0 ∙ ap ordering_reverse (below_later x.0 done at ats (first _ _ h))) in
    ap (λ b. cond b (read_at t at ∷ read_at t x ∷ map (read_at t) done) (read_at t x ∷ with_index_entry (map (read_at t) done) (read_at t at))) after
    ∙ ap (λ rest. read_at t x ∷ rest) (placed_last t done at ats (second _ _ h))

sorted_from : (t : FileTree) (done ats : List (List ℕ × ℕ)) → T (is_sorted (slice_cmp nat_cmp) (done ++ ats)) → fold with_index_entry (map (read_at t) done) (map (read_at t) ats) ≡ map (read_at t) (done ++ ats)
sorted_from t done [] h = ap (map (read_at t)) (sym (append-nil done))
sorted_from t done (at ∷ ats) h =
    let same = append_assoc done (at ∷ []) ats in
    ap (λ next. fold with_index_entry next (map (read_at t) ats)) (placed_last t done at ats h)
    ∙ sorted_from t (done ++ at ∷ []) ats (subst (λ all. T (is_sorted (slice_cmp nat_cmp) all)) (sym same) h)
    ∙ ap (map (read_at t)) same

-- paths that rise stand in order
pub order_read : (t : FileTree) (ats : List (List ℕ × ℕ)) → T (is_sorted (slice_cmp nat_cmp) ats) → sorted_entries (map (read_at t) ats) ≡ map (read_at t) ats
unfolding sorted_entries
order_read t ats h = sorted_from t [] ats h
