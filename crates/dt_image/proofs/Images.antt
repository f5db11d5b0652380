-- How bytes, sizes and entries lead to an image.
use Rattle.std.proofs.Common.{◌≡◌, ℕ, ◌<◌, ◌≤◌, Bool, true, false, nat_le, List, length, codes, Option, Some, None, option_map, Err, IfSome, refl, arith}
use Rattle.std.specs.Str.{IsUtf8, is_utf8}
use Rattle.std.proofs.lemmas.Str.{IsUtf8-from_is_utf8, is_utf8-from_IsUtf8}
use Rattle.std.specs.FinMap.{get}
use Rattle.std.proofs.lemmas.Bool.{le-leb, lt-leb}
use Rattle.std.proofs.Math.Bool.{and-false}
use Rattle.serde_json.specs.Read.{read}
use Rattle.dt_base.specs.declared.limits.TheConstants.{INDEX_LIMIT}
use Rattle.dt_base.specs.declared.refusal.Refusal.TheVariants.{BadIndex}
use Rattle.dt_base.specs.declared.refusal.Refusal.{Refusal}
use Rattle.dt_host.specs.Store.{StoreFiles, size_of}
use Rattle.dt_image.specs.ImageOf.{value_of, image_by, image_of, name_below}

pub value_of_text : (bytes : List ℕ) → length bytes ≤ INDEX_LIMIT → IsUtf8 bytes → value_of bytes ≡ read bytes
unfolding value_of
value_of_text bytes short text = rw (le-leb (length bytes) INDEX_LIMIT short, is_utf8-from_IsUtf8 bytes text)

not_text : (bytes : List ℕ) (b : Bool) → is_utf8 bytes ≡ b → (IsUtf8 bytes → ⊥) → is_utf8 bytes ≡ false
not_text bytes true e other = absurd (other (IsUtf8-from_is_utf8 bytes e))
not_text bytes false e other = e

pub value_of_no_text : (bytes : List ℕ) → (IsUtf8 bytes → ⊥) → value_of bytes ≡ None
unfolding value_of
value_of_no_text bytes other = rw (not_text bytes (is_utf8 bytes) refl other, and-false (nat_le (length bytes) INDEX_LIMIT))

pub value_of_long : (bytes : List ℕ) → INDEX_LIMIT < length bytes → value_of bytes ≡ None
unfolding value_of
value_of_long bytes long = rw (lt-leb (length bytes) INDEX_LIMIT long)

long_index : (files : StoreFiles) (folder : List ℕ) (input : Option (List ℕ)) (found : Option (List ℕ)) (size : ℕ) → Some size ≡ option_map length found → INDEX_LIMIT < size → image_by files folder input found ≡ Err BadIndex
long_index files folder input None size e long = absurd (cc)
long_index files folder input (Some bytes) size e long =
    let same : size ≡ length bytes = cc in
    rw (value_of_long bytes (omega arith))

pub too_long : (told : Option StoreFiles) (name : List ℕ) (size : ℕ) → IfSome told (λ files. Some size ≡ size_of files name) → INDEX_LIMIT < size
    → IfSome told (λ files. (folder : List ℕ) (input : Option (List ℕ)) → image_by files folder input (get files name) ≡ Err BadIndex)
too_long None name size h long = tt
too_long (Some files) name size h long = λ folder input. long_index files folder input (get files name) size h long

pub by_name : (told : Option StoreFiles) (name folder : List ℕ) (r : Refusal) → name ≡ name_below folder (codes "image.json")
    → IfSome told (λ files. (any : List ℕ) (input : Option (List ℕ)) → image_by files any input (get files name) ≡ Err r) → IfSome told (λ files. (input : Option (List ℕ)) → image_of files folder input ≡ Err r)
by_name None name folder r e h = tt
by_name (Some files) name folder r e h = λ input. rw e at (h folder input)
