-- Sizes of blobs, and what they say of an image.
use Rattle.std.proofs.Common.{◌≡◌, ℕ, ◌<◌, Bool, true, false, not, cond, ◌&&◌, nat_le, List, [], ◌∷◌, length, map, get_or, Option, Some, None, Result, Ok, Err, IsTrue, refl, sym, ap, subst, ◌∙◌, arith}
use Rattle.std.specs.Prelude.{IfSome, is_some, unwrap_or, option_map}
use Rattle.std.specs.List.{list_all, All}
use Rattle.std.proofs.lemmas.List.Elements.{All-nil, All-cons, All-head, All-tail}
use Rattle.std.proofs.lemmas.List.Folds.{list_all-map, list_all_at}
use Rattle.std.proofs.lemmas.List.{length-map}
use Rattle.std.proofs.lemmas.Bool.{and_parts, le-leb}
use Rattle.dt_base.specs.declared.image.Entry.{Entry}
use Rattle.dt_base.specs.declared.refusal.Refusal.{Refusal}
use Rattle.dt_base.specs.declared.refusal.Refusal.TheVariants.{NoBlob, TooBig, TooMany}
use Rattle.dt_base.specs.declared.limits.TheConstants.{ENTRY_LIMIT}
use Rattle.dt_base.specs.Image.{ImageParts}
use Rattle.dt_base.specs.Profile.{file_limit}
use Rattle.dt_host.specs.Store.{StoreFiles}
use Rattle.dt_image.specs.declared.index.EntryRef.{EntryRef}
use Rattle.dt_image.specs.declared.blobs.Measured.{Measured}
use Rattle.dt_image.specs.Index.{Source, file, dir, link, dev, IndexEntry}
use Rattle.dt_image.specs.ImageOf.{has_blob, is_within_limit, entry_with, named_input, image_with_input, with_blobs}
use Rattle.dt_image.specs.inner.IndexView.{source_in, entry_in, blob_size, is_sound, HasSize}

-- what the code counts of a blob
abbrev pub is_small : ℕ → Measured → Bool
is_small version blob = nat_le blob.size (file_limit version)

-- the entries of these
abbrev pub entries_of : List Measured → List EntryRef
entries_of blobs = map (λ blob. blob.entry) blobs

there : (found : Option (List ℕ)) (size : ℕ) → option_map length found ≡ Some size → is_some found ≡ true
there None size e = absurd (cc)
there (Some bytes) size e = refl

as_long : (found : Option (List ℕ)) (size : ℕ) → option_map length found ≡ Some size → length (unwrap_or found []) ≡ size
as_long None size e = absurd (cc)
as_long (Some bytes) size e = cc

module _ (held : StoreFiles) (folder : List ℕ) (version : ℕ) where
  has_by : (source : Source) (size : ℕ) → blob_size held folder source ≡ Some size → has_blob held folder source ≡ true
  has_by (file mode blob) size e = there _ size e
  has_by (dir mode) size e = refl
  has_by (link target) size e = refl
  has_by (dev mode device) size e = refl

  none_fits : (size : ℕ) → 0 ≡ size → true ≡ nat_le size (file_limit version)
  none_fits size same = sym (le-leb size (file_limit version) (omega arith))

  fits_by : (source : Source) (size : ℕ) → blob_size held folder source ≡ Some size → is_within_limit held folder version source ≡ nat_le size (file_limit version)
  fits_by (file mode blob) size e = ap (λ n. nat_le n (file_limit version)) (as_long _ size e)
  fits_by (dir mode) size e = let same : 0 ≡ size = cc in none_fits size same
  fits_by (link target) size e = let same : 0 ≡ size = cc in none_fits size same
  fits_by (dev mode device) size e = let same : 0 ≡ size = cc in none_fits size same

  abbrev has : IndexEntry → Bool
  has entry = has_blob held folder entry.source

  abbrev fit : IndexEntry → Bool
  fit entry = is_within_limit held folder version entry.source

  all_there : (blobs : List Measured) → All (HasSize held folder) blobs → list_all has (map entry_in (entries_of blobs)) ≡ true
  all_there [] sizes = refl
  all_there (blob ∷ blobs) sizes =
      let here = has_by (source_in blob.entry.source) blob.size (All-head (HasSize held folder) blob blobs sizes) in
      ap (λ b. b && list_all has (map entry_in (entries_of blobs))) here ∙ all_there blobs (All-tail (HasSize held folder) blob blobs sizes)

  all_fit : (blobs : List Measured) → All (HasSize held folder) blobs → list_all fit (map entry_in (entries_of blobs)) ≡ list_all (is_small version) blobs
  all_fit [] sizes = refl
  all_fit (blob ∷ blobs) sizes =
      let here = fits_by (source_in blob.entry.source) blob.size (All-head (HasSize held folder) blob blobs sizes) in
      ap (λ b. b && list_all fit (map entry_in (entries_of blobs))) here
      ∙ ap (λ rest. is_small version blob && rest) (all_fit blobs (All-tail (HasSize held folder) blob blobs sizes))

  shown : (blobs : List Measured) → map (entry_with held folder) (map entry_in (entries_of blobs)) ≡ map (λ blob. entry_with held folder (entry_in blob.entry)) blobs
  shown [] = refl
  shown (blob ∷ blobs) = ap (λ rest. entry_with held folder (entry_in blob.entry) ∷ rest) (shown blobs)

  as_many : (blobs : List Measured) → length (map entry_in (entries_of blobs)) ≡ length blobs
  as_many blobs = length-map (entries_of blobs) entry_in ∙ length-map blobs (λ blob. blob.entry)

  -- the image of entries, from what the tests say
  abbrev chosen : Result (List ℕ) Refusal → Bool → Bool → Bool → List Entry → Result (ImageParts × List ℕ) Refusal
  chosen input all small few entries =
      cond (not all) (Err NoBlob) (cond (not small) (Err TooBig) (cond few (image_with_input (record { version = version; entries = entries }) input) (Err TooMany)))

  with_blobs_by : (input : Option (List ℕ)) (blobs : List Measured) → All (HasSize held folder) blobs
      → with_blobs held folder input version (map entry_in (entries_of blobs)) ≡ chosen (named_input held folder input) true (list_all (is_small version) blobs) (nat_le (length blobs) ENTRY_LIMIT) (map (λ blob. entry_with held folder (entry_in blob.entry)) blobs)
  unfolding with_blobs
  with_blobs_by input blobs sizes =
      let order = map entry_in (entries_of blobs) in
      ap (λ all. chosen (named_input held folder input) all (list_all fit order) (nat_le (length order) ENTRY_LIMIT) (map (entry_with held folder) order)) (all_there blobs sizes)
      ∙ ap (λ small. chosen (named_input held folder input) true small (nat_le (length order) ENTRY_LIMIT) (map (entry_with held folder) order)) (all_fit blobs sizes)
      ∙ ap (λ n. chosen (named_input held folder input) true (list_all (is_small version) blobs) (nat_le n ENTRY_LIMIT) (map (entry_with held folder) order)) (as_many blobs)
      ∙ ap (chosen (named_input held folder input) true (list_all (is_small version) blobs) (nat_le (length blobs) ENTRY_LIMIT)) (shown blobs)

  with_blobs_missing : (input : Option (List ℕ)) (order : List EntryRef) → list_all has (map entry_in order) ≡ false → with_blobs held folder input version (map entry_in order) ≡ Err NoBlob
  unfolding with_blobs
  with_blobs_missing input order missing = ap (λ all. chosen (named_input held folder input) all (list_all fit (map entry_in order)) (nat_le (length (map entry_in order)) ENTRY_LIMIT) (map (entry_with held folder) (map entry_in order))) missing

-- a blob that an entry lacks
pub missing_at : (told now : Option StoreFiles) (folder : List ℕ) (order : List EntryRef) (i : ℕ) (d : EntryRef) → i < length order → now ≡ told
    → IfSome now (λ held. has_blob held folder (source_in (get_or order i d).source) ≡ false) → IfSome told (λ held. list_all (λ entry. has_blob held folder entry.source) (map entry_in order) ≡ false)
missing_at None now folder order i d within same here = tt
missing_at (Some held) now folder order i d within same here =
    let lacks = subst (λ told. IfSome told (λ held. has_blob held folder (source_in (get_or order i d).source) ≡ false)) same here in
    list_all-map (λ entry. has_blob held folder entry.source) entry_in order ∙ list_all_at (λ entry. has_blob held folder (source_in entry.source)) order i d within lacks

pub told_missing : (told : Option StoreFiles) (folder : List ℕ) (input : Option (List ℕ)) (version : ℕ) (order : List EntryRef) (r : Refusal) → r ≡ NoBlob
    → IfSome told (λ held. list_all (λ entry. has_blob held folder entry.source) (map entry_in order) ≡ false) → IfSome told (λ held. with_blobs held folder input version (map entry_in order) ≡ Err r)
told_missing None folder input version order r is missing = tt
told_missing (Some held) folder input version order r is missing = with_blobs_missing held folder version input order missing ∙ ap Err (sym is)

pub told_big : (told : Option StoreFiles) (folder : List ℕ) (input : Option (List ℕ)) (version : ℕ) (blobs : List Measured) (order : List EntryRef) → entries_of blobs ≡ order
    → IfSome told (λ held. All (HasSize held folder) blobs) → list_all (is_small version) blobs ≡ false → IfSome told (λ held. with_blobs held folder input version (map entry_in order) ≡ Err TooBig)
told_big None folder input version blobs order same sizes big = tt
told_big (Some held) folder input version blobs order same sizes big =
    ap (λ order. with_blobs held folder input version (map entry_in order)) (sym same)
    ∙ with_blobs_by held folder version input blobs sizes
    ∙ ap (λ small. chosen held folder version (named_input held folder input) true small (nat_le (length blobs) ENTRY_LIMIT) (map (λ blob. entry_with held folder (entry_in blob.entry)) blobs)) big

pub told_many : (told : Option StoreFiles) (folder : List ℕ) (input : Option (List ℕ)) (version : ℕ) (blobs : List Measured) (order : List EntryRef) → entries_of blobs ≡ order
    → IfSome told (λ held. All (HasSize held folder) blobs) → list_all (is_small version) blobs ≡ true → nat_le (length blobs) ENTRY_LIMIT ≡ false → IfSome told (λ held. with_blobs held folder input version (map entry_in order) ≡ Err TooMany)
told_many None folder input version blobs order same sizes small many = tt
told_many (Some held) folder input version blobs order same sizes small many =
    ap (λ order. with_blobs held folder input version (map entry_in order)) (sym same)
    ∙ with_blobs_by held folder version input blobs sizes
    ∙ ap (λ b. chosen held folder version (named_input held folder input) true b (nat_le (length blobs) ENTRY_LIMIT) (map (λ blob. entry_with held folder (entry_in blob.entry)) blobs)) small
    ∙ ap (λ few. chosen held folder version (named_input held folder input) true true few (map (λ blob. entry_with held folder (entry_in blob.entry)) blobs)) many

pub told_with_blobs : (told now later : Option StoreFiles) (folder : List ℕ) (input : Option (List ℕ)) (version : ℕ) (blobs read : List Measured) (order : List EntryRef) (image : ImageParts) (entries : List Entry) (bytes : List ℕ) → entries_of blobs ≡ order
    → IfSome told (λ held. All (HasSize held folder) blobs) → list_all (is_small version) blobs ≡ true → nat_le (length blobs) ENTRY_LIMIT ≡ true
    → now ≡ told → later ≡ told → read ≡ blobs → image ≡ record { version = version; entries = entries }
    → IfSome now (λ held. entries ≡ map (λ blob. entry_with held folder (entry_in blob.entry)) read)
    → IfSome later (λ held. named_input held folder input ≡ Ok bytes)
    → IfSome told (λ held. with_blobs held folder input version (map entry_in order) ≡ Ok (image, bytes))
told_with_blobs None now later folder input version blobs read order image entries bytes same sizes small few stays still all is made found = tt
told_with_blobs (Some held) now later folder input version blobs read order image entries bytes same sizes small few stays still all is made found =
    let from = subst (λ told. IfSome told (λ held. entries ≡ map (λ blob. entry_with held folder (entry_in blob.entry)) read)) stays made in
    let given = subst (λ told. IfSome told (λ held. named_input held folder input ≡ Ok bytes)) still found in
    let shown = map (λ blob. entry_with held folder (entry_in blob.entry)) blobs in
    ap (λ order. with_blobs held folder input version (map entry_in order)) (sym same)
    ∙ with_blobs_by held folder version input blobs sizes
    ∙ ap (λ b. chosen held folder version (named_input held folder input) true b (nat_le (length blobs) ENTRY_LIMIT) shown) small
    ∙ ap (λ b. chosen held folder version (named_input held folder input) true true b shown) few
    ∙ ap (image_with_input (record { version = version; entries = shown })) given
    ∙ ap (λ (entries : List Entry). Ok (record { version = version; entries = entries }, bytes)) (sym (from ∙ ap (map (λ blob. entry_with held folder (entry_in blob.entry))) all))
    ∙ ap (λ (image : ImageParts). Ok (image, bytes)) (sym is)

-- the input is refused
pub told_no_input : (told now : Option StoreFiles) (folder : List ℕ) (input : Option (List ℕ)) (version : ℕ) (blobs : List Measured) (order : List EntryRef) (r : Refusal) → entries_of blobs ≡ order
    → IfSome told (λ held. All (HasSize held folder) blobs) → list_all (is_small version) blobs ≡ true → nat_le (length blobs) ENTRY_LIMIT ≡ true
    → now ≡ told → IfSome now (λ held. named_input held folder input ≡ Err r) → IfSome told (λ held. with_blobs held folder input version (map entry_in order) ≡ Err r)
told_no_input None now folder input version blobs order r same sizes small few stays refused = tt
told_no_input (Some held) now folder input version blobs order r same sizes small few stays refused =
    let given = subst (λ told. IfSome told (λ held. named_input held folder input ≡ Err r)) stays refused in
    let shown = map (λ blob. entry_with held folder (entry_in blob.entry)) blobs in
    ap (λ order. with_blobs held folder input version (map entry_in order)) (sym same)
    ∙ with_blobs_by held folder version input blobs sizes
    ∙ ap (λ b. chosen held folder version (named_input held folder input) true b (nat_le (length blobs) ENTRY_LIMIT) shown) small
    ∙ ap (λ b. chosen held folder version (named_input held folder input) true true b shown) few
    ∙ ap (image_with_input (record { version = version; entries = shown })) given

sound_each : (version : ℕ) (blobs : List Measured) → list_all (is_sound version) (map entry_in (entries_of blobs)) ≡ true → All (λ blob. IsTrue (is_sound version (entry_in blob.entry))) blobs
sound_each version [] sound = All-nil (λ blob. IsTrue (is_sound version (entry_in blob.entry)))
sound_each version (blob ∷ blobs) sound =
    All-cons (λ blob. IsTrue (is_sound version (entry_in blob.entry))) blob blobs
    (and_parts (is_sound version (entry_in blob.entry)) (list_all (is_sound version) (map entry_in (entries_of blobs))) sound).0
    (sound_each version blobs (and_parts (is_sound version (entry_in blob.entry)) (list_all (is_sound version) (map entry_in (entries_of blobs))) sound).1)

pub sound_all : (version : ℕ) (blobs : List Measured) (order : List EntryRef) → entries_of blobs ≡ order → list_all (is_sound version) (map entry_in order) ≡ true → All (λ blob. IsTrue (is_sound version (entry_in blob.entry))) blobs
sound_all version blobs order same sound = sound_each version blobs (ap (λ order. list_all (is_sound version) (map entry_in order)) same ∙ sound)
