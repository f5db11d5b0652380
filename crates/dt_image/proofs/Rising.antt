-- Entries that stand in order, each in a directory of these, make an image.
use Rattle.std.proofs.Common.{◌≡◌, ℕ, ◌≤◌, Bool, true, ◌&&◌, ◌||◌, List, [], ◌∷◌, length, map, IsTrue, refl, sym, ap, ◌∙◌, arith}
use Rattle.std.specs.List.{list_all, list_any}
use Rattle.std.specs.List.Sorted.{IsStrictlySortedBy}
use Rattle.std.specs.Str.{bytes_eq}
use Rattle.std.specs.Ordering.{nat_cmp, is_lt}
use Rattle.std.specs.Cmp.Lexicographic.{slice_cmp}
use Rattle.std.proofs.lemmas.List.{length-map}
use Rattle.std.proofs.lemmas.Bool.{and_from}
use Rattle.dt_base.specs.declared.image.Entry.{Entry}
use Rattle.dt_base.specs.declared.limits.TheConstants.{ENTRY_LIMIT}
use Rattle.dt_base.specs.Image.{IsImage, is_good_entry, is_rising, has_parent, is_dir_at}
use Rattle.dt_base.specs.Profile.{is_version}
use Rattle.dt_base.specs.Path.{is_top, parent_of}
use Rattle.dt_image.specs.declared.index.EntryRef.{EntryRef}
use Rattle.dt_image.specs.declared.blobs.Measured.{Measured}
use Rattle.dt_image.specs.ImageOf.{is_dir_of_path, has_listed_parent}
use Rattle.dt_image.specs.inner.IndexView.{entry_in, path_cmp, path_kind, path_kind_of}

-- the paths rise in byte order
abbrev rise : List (List ℕ × Bool) → Bool
rise [] = true
rise (first ∷ []) = true
rise (first ∷ second ∷ rest) = is_lt (slice_cmp nat_cmp first.0 second.0) && rise (second ∷ rest)

rise-entries : (entries : List Entry) → is_rising entries ≡ rise (map path_kind entries)
rise-entries [] = refl
rise-entries (first ∷ []) = refl
rise-entries (first ∷ second ∷ rest) = ap (λ more. is_lt (slice_cmp nat_cmp first.path second.path) && more) (rise-entries (second ∷ rest))

-- where the entries of an index stand
abbrev pub spots : List EntryRef → List (List ℕ × Bool)
spots order = map (λ entry. path_kind_of (entry_in entry)) order

rise-order : (order : List EntryRef) → IsStrictlySortedBy path_cmp order → rise (spots order) ≡ true
unfolding IsStrictlySortedBy
rise-order [] rising = refl
rise-order (first ∷ []) rising = refl
rise-order (first ∷ second ∷ rest) rising =
    and_from (is_lt (slice_cmp nat_cmp first.path.now second.path.now)) (rise (spots (second ∷ rest))) (ap is_lt rising.0.0) (rise-order (second ∷ rest) rising.1)

spots_of : (blobs : List Measured) → spots (map (λ blob. blob.entry) blobs) ≡ map (λ blob. path_kind_of (entry_in blob.entry)) blobs
spots_of [] = refl
spots_of (blob ∷ blobs) = ap (λ rest. path_kind_of (entry_in blob.entry) ∷ rest) (spots_of blobs)

-- a directory is at that path
abbrev dir_in : List ℕ → List ℕ × Bool → Bool
dir_in path s = s.1 && bytes_eq path s.0

-- the root or a directory of these has it
abbrev parent_in : List (List ℕ × Bool) → List ℕ × Bool → Bool
parent_in all s = is_top s.0 || list_any (dir_in (parent_of s.0)) all

dirs-entries : (path : List ℕ) (all : List Entry) → list_any (is_dir_at path) all ≡ list_any (dir_in path) (map path_kind all)
dirs-entries path [] = refl
dirs-entries path (entry ∷ all) = ap (λ rest. is_dir_at path entry || rest) (dirs-entries path all)

dirs-order : (path : List ℕ) (all : List EntryRef) → list_any (is_dir_of_path path) (map entry_in all) ≡ list_any (dir_in path) (spots all)
dirs-order path [] = refl
dirs-order path (entry ∷ all) = ap (λ rest. is_dir_of_path path (entry_in entry) || rest) (dirs-order path all)

parents-entries : (all entries : List Entry) → list_all (has_parent all) entries ≡ list_all (parent_in (map path_kind all)) (map path_kind entries)
parents-entries all [] = refl
parents-entries all (entry ∷ entries) =
    ap (λ found. (is_top entry.path || found) && list_all (has_parent all) entries) (dirs-entries (parent_of entry.path) all)
    ∙ ap (λ rest. parent_in (map path_kind all) (path_kind entry) && rest) (parents-entries all entries)

parents-order : (all order : List EntryRef) → list_all (λ entry. has_listed_parent (map entry_in all) (entry_in entry)) order ≡ list_all (parent_in (spots all)) (spots order)
parents-order all [] = refl
parents-order all (entry ∷ order) =
    ap (λ found. (is_top entry.path.now || found) && list_all (λ entry. has_listed_parent (map entry_in all) (entry_in entry)) order) (dirs-order (parent_of entry.path.now) all)
    ∙ ap (λ rest. parent_in (spots all) (path_kind_of (entry_in entry)) && rest) (parents-order all order)

pub IsImage-made : (version : ℕ) (entries : List Entry) (blobs : List Measured) (order : List EntryRef) → map (λ blob. blob.entry) blobs ≡ order
    → map path_kind entries ≡ map (λ blob. path_kind_of (entry_in blob.entry)) blobs → length blobs ≤ ENTRY_LIMIT
    → IsTrue (is_version version) → IsTrue (list_all (is_good_entry version) entries) → list_all (λ entry. has_listed_parent (map entry_in order) (entry_in entry)) order ≡ true
    → IsStrictlySortedBy path_cmp order → IsImage (record { version = version; entries = entries })
IsImage-made version entries blobs order same spotted few known good parents rising =
    let many : length entries ≡ length blobs = sym (length-map entries path_kind) ∙ ap length spotted ∙ length-map blobs (λ blob. path_kind_of (entry_in blob.entry)) in
    let at : map path_kind entries ≡ spots order = spotted ∙ sym (spots_of blobs) ∙ ap spots same in
    record {
      version = known;
      few = omega (arith, many);
      good = good;
      rising = rise-entries entries ∙ ap rise at ∙ rise-order order rising;
      parents = parents-entries entries entries ∙ ap (λ s. list_all (parent_in s) s) at ∙ sym (parents-order order order) ∙ parents;
    }
