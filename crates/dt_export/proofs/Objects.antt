-- The objects of an index, and whether bytes are a text.
use Rattle.std.proofs.Common.{◌≡◌, ℕ, Bool, true, false, List, [], ◌∷◌, map, ◌<◌, ◌≤◌, length, Ok, Err, refl, arith}
use Rattle.std.proofs.lemmas.Bool.{lt-ltb, le-ltb}
use Rattle.std.specs.List.{list_all}
use Rattle.std.proofs.lemmas.Str.{IsUtf8-from_is_utf8}
use Rattle.std.specs.Str.{IsUtf8, is_utf8}
use Rattle.serde_json.specs.Data.{depth, items_depth}
use Rattle.serde_json.specs.View.{items_of}
use Rattle.serde_json.specs.Written.{has_float, items_have_float, compact_text}
use Rattle.dt_base.specs.declared.image.What.{What}
use Rattle.dt_base.specs.declared.image.What.TheVariants.{File, Dir, Link, Dev}
use Rattle.dt_base.specs.declared.limits.TheConstants.{INDEX_LIMIT}
use Rattle.dt_export.specs.declared.refusal.ExportRefusal.TheVariants.{NotText, BigIndex}
use Rattle.dt_tree.specs.FileTree.{FileTree}
use Rattle.dt_export.specs.ExportedImage.{mode_at, what_at, exported_entries}
use Rattle.dt_export.specs.ExportedIndex.{what_object, object_at, exported_index, is_text_entry, index_text}

no_float : (inode mode : ℕ) (path : List ℕ) (what : What) → has_float (what_object inode mode path what) ≡ false
no_float inode mode path (File bytes) = refl
no_float inode mode path Dir = refl
no_float inode mode path (Link target) = refl
no_float inode mode path (Dev which) = refl

-- none has a float
pub no_floats : (t : FileTree) (ats : List (List ℕ × ℕ)) → items_have_float (items_of (map (object_at t) ats)) ≡ false
no_floats t [] = refl
no_floats t (at ∷ ats) = rw (no_float at.1 (mode_at t at.1) at.0 (what_at t at.1)) (no_floats t ats)

flat : (inode mode : ℕ) (path : List ℕ) (what : What) → depth (what_object inode mode path what) ≤ 1
flat inode mode path (File bytes) = omega arith
flat inode mode path Dir = omega arith
flat inode mode path (Link target) = omega arith
flat inode mode path (Dev which) = omega arith

-- none has an array or an object inside
pub all_flat : (t : FileTree) (ats : List (List ℕ × ℕ)) → items_depth (items_of (map (object_at t) ats)) ≤ 1
all_flat t [] = omega arith
all_flat t (at ∷ ats) = omega (arith, flat at.1 (mode_at t at.1) at.0 (what_at t at.1), all_flat t ats)

-- what the definition gives in each case
module _ (version : ℕ) (t : FileTree) where
  pub other_index : list_all is_text_entry (exported_entries t) ≡ false → index_text version t ≡ Err NotText
  unfolding index_text
  other_index other = rw other

  pub big_index : list_all is_text_entry (exported_entries t) ≡ true → INDEX_LIMIT < length (compact_text (exported_index version t)) → index_text version t ≡ Err BigIndex
  unfolding index_text
  big_index text big = rw (text, lt-ltb INDEX_LIMIT (length (compact_text (exported_index version t))) big)

  pub some_index : list_all is_text_entry (exported_entries t) ≡ true → length (compact_text (exported_index version t)) ≤ INDEX_LIMIT → index_text version t ≡ Ok (compact_text (exported_index version t))
  unfolding index_text
  some_index text short = rw (text, le-ltb INDEX_LIMIT (length (compact_text (exported_index version t))) short)

-- what is no UTF-8 fails the test
pub no_text : (bytes : List ℕ) → (IsUtf8 bytes → ⊥) → is_utf8 bytes ≡ false
no_text bytes other = by_test (is_utf8 bytes) refl
  where
    by_test : (b : Bool) → is_utf8 bytes ≡ b → b ≡ false
    by_test true is = absurd (other (IsUtf8-from_is_utf8 bytes is))
    by_test false is = refl
