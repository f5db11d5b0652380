-- From the entries of an index to an image.
use Rattle.std.proofs.Common.{◌≡◌, ℕ, Bool, true, false, not, cond, ◌&&◌, ◌||◌, List, [], ◌∷◌, Option, Some, None, Result, Ok, Err, refl, sym, ap, subst, ◌∙◌}
use Rattle.std.specs.Prelude.{IfSome, IfOk, option_and_then, codes}
use Rattle.std.specs.List.{list_all}
use Rattle.std.specs.FinMap.{get}
use Rattle.std.proofs.lemmas.Bool.{and_from, and_parts}
use Rattle.serde_json.specs.Data.{Data}
use Rattle.dt_base.specs.declared.refusal.Refusal.{Refusal}
use Rattle.dt_base.specs.declared.refusal.Refusal.TheVariants.{BadPath, Twice, NoParent}
use Rattle.dt_base.specs.Path.{is_path, is_top, parent_of}
use Rattle.dt_host.specs.Store.{StoreFiles}
use Rattle.dt_image.specs.Index.{IndexEntry, is_good, is_good_source, index_of, IndexParts}
use Rattle.dt_image.specs.ImageOf.{has_twice, is_dir_of_path, has_listed_parent, sorted_entries, with_blobs, image_from, image_from_index, image_by, image_of, value_of, name_below}
use Rattle.dt_image.specs.inner.IndexView.{has_mode, is_listed, is_sound, image_in_order}
use Rattle.dt_image.proofs.Sorting.{list_any-sorted, list_all-sorted}
use Rattle.dt_base.specs.Image.{ImageParts}

sound_by : (path source mode : Bool) → mode ≡ true → (path && source) ≡ true → (path && (source && mode)) ≡ true
sound_by true true mode listed good = listed
sound_by true false mode listed good = absurd (cc)
sound_by false source mode listed good = absurd (cc)

sound_listed : (version : ℕ) (entries : List IndexEntry) → list_all (is_listed version) entries ≡ true → list_all is_good entries ≡ true → list_all (is_sound version) entries ≡ true
sound_listed version [] listed good = refl
sound_listed version (entry ∷ entries) listed good =
    and_from (is_sound version entry) (list_all (is_sound version) entries)
    (sound_by (is_path entry.path) (is_good_source entry.source) (has_mode version entry.source) (and_parts (is_listed version entry) (list_all (is_listed version) entries) listed).0 (and_parts (is_good entry) (list_all is_good entries) good).0)
    (sound_listed version entries (and_parts (is_listed version entry) (list_all (is_listed version) entries) listed).1 (and_parts (is_good entry) (list_all is_good entries) good).1)

-- good entries of an index are good in any order
pub sound_sorted : (version : ℕ) (entries order : List IndexEntry) → order ≡ sorted_entries entries → list_all (is_listed version) entries ≡ true → list_all is_good entries ≡ true → list_all (is_sound version) order ≡ true
sound_sorted version entries order is listed good = ap (list_all (is_sound version)) is ∙ list_all-sorted (is_sound version) entries ∙ sound_listed version entries listed good

same_all : (p q : IndexEntry → Bool) → ((entry : IndexEntry) → p entry ≡ q entry) → (entries : List IndexEntry) → list_all p entries ≡ list_all q entries
same_all p q same [] = refl
same_all p q same (entry ∷ entries) = ap (λ b. b && list_all p entries) (same entry) ∙ ap (λ rest. q entry && rest) (same_all p q same entries)

-- whether all stand in directories does not depend on their order
parents_sorted : (entries : List IndexEntry) → list_all (has_listed_parent (sorted_entries entries)) (sorted_entries entries) ≡ list_all (has_listed_parent entries) entries
parents_sorted entries =
    list_all-sorted (has_listed_parent (sorted_entries entries)) entries
    ∙ same_all (has_listed_parent (sorted_entries entries)) (has_listed_parent entries) (λ entry. ap (λ found. is_top entry.path || found) (list_any-sorted (is_dir_of_path (parent_of entry.path)) entries)) entries

-- the index of that version with these entries
abbrev pub parts : ℕ → List IndexEntry → IndexParts
parts version entries = record { version = version; entries = entries }

-- the image of an index, from what the tests say
abbrev indexed : Bool → Bool → Bool → Result (ImageParts × List ℕ) Refusal → Result (ImageParts × List ℕ) Refusal
indexed good twice parents rest = cond (not good) (Err BadPath) (cond twice (Err Twice) (cond (not parents) (Err NoParent) rest))

bad : (held : StoreFiles) (folder : List ℕ) (input : Option (List ℕ)) (version : ℕ) (entries : List IndexEntry) → list_all is_good entries ≡ false → image_from held folder input (parts version entries) ≡ Err BadPath
unfolding image_from
bad held folder input version entries other = ap (λ good. indexed good (has_twice entries) (list_all (has_listed_parent entries) entries) (with_blobs held folder input version (sorted_entries entries))) other

twice : (held : StoreFiles) (folder : List ℕ) (input : Option (List ℕ)) (version : ℕ) (entries : List IndexEntry) → list_all is_good entries ≡ true → has_twice entries ≡ true → image_from held folder input (parts version entries) ≡ Err Twice
unfolding image_from
twice held folder input version entries good again =
    ap (λ b. indexed b (has_twice entries) (list_all (has_listed_parent entries) entries) (with_blobs held folder input version (sorted_entries entries))) good
    ∙ ap (λ b. indexed true b (list_all (has_listed_parent entries) entries) (with_blobs held folder input version (sorted_entries entries))) again

once : (held : StoreFiles) (folder : List ℕ) (input : Option (List ℕ)) (version : ℕ) (entries order : List IndexEntry) → list_all is_good entries ≡ true → has_twice entries ≡ false → order ≡ sorted_entries entries → image_from held folder input (parts version entries) ≡ image_in_order held folder input version order
unfolding image_from
once held folder input version entries order good other is =
    ap (λ b. indexed b (has_twice entries) (list_all (has_listed_parent entries) entries) (with_blobs held folder input version (sorted_entries entries))) good
    ∙ ap (λ b. indexed true b (list_all (has_listed_parent entries) entries) (with_blobs held folder input version (sorted_entries entries))) other
    ∙ ap (λ b. cond (not b) (Err NoParent) (with_blobs held folder input version (sorted_entries entries))) (sym (parents_sorted entries))
    ∙ ap (image_in_order held folder input version) (sym is)

pub told_bad : (told : Option StoreFiles) (folder : List ℕ) (input : Option (List ℕ)) (version : ℕ) (entries : List IndexEntry) → list_all is_good entries ≡ false → IfSome told (λ held. image_from held folder input (parts version entries) ≡ Err BadPath)
told_bad None folder input version entries other = tt
told_bad (Some held) folder input version entries other = bad held folder input version entries other

pub told_twice : (told : Option StoreFiles) (folder : List ℕ) (input : Option (List ℕ)) (version : ℕ) (entries : List IndexEntry) → list_all is_good entries ≡ true → has_twice entries ≡ true → IfSome told (λ held. image_from held folder input (parts version entries) ≡ Err Twice)
told_twice None folder input version entries good again = tt
told_twice (Some held) folder input version entries good again = twice held folder input version entries good again

pub told_once : (told : Option StoreFiles) (folder : List ℕ) (input : Option (List ℕ)) (version : ℕ) (entries order : List IndexEntry) (answer : Result (ImageParts × List ℕ) Refusal) → list_all is_good entries ≡ true → has_twice entries ≡ false → order ≡ sorted_entries entries
    → IfSome told (λ held. image_in_order held folder input version order ≡ answer) → IfSome told (λ held. image_from held folder input (parts version entries) ≡ answer)
told_once None folder input version entries order answer good other is made = tt
told_once (Some held) folder input version entries order answer good other is made = once held folder input version entries order good other is ∙ made

pub told_once_ok : {E : Type 0} (told : Option StoreFiles) (folder : List ℕ) (input : Option (List ℕ)) (version : ℕ) (entries order : List IndexEntry) (answer : Result (ImageParts × List ℕ) E) → list_all is_good entries ≡ true → has_twice entries ≡ false → order ≡ sorted_entries entries
    → IfSome told (λ held. IfOk answer (λ image. image_in_order held folder input version order ≡ Ok image)) → IfSome told (λ held. IfOk answer (λ image. image_from held folder input (parts version entries) ≡ Ok image))
told_once_ok None folder input version entries order answer good other is made = tt
told_once_ok (Some held) folder input version entries order (Ok image) good other is made = once held folder input version entries order good other is ∙ made
told_once_ok (Some held) folder input version entries order (Err e) good other is made = tt

-- the image of entries in order, by whether all stand in directories
pub told_dirs : (told : Option StoreFiles) (folder : List ℕ) (input : Option (List ℕ)) (version : ℕ) (order : List IndexEntry) (answer : Result (ImageParts × List ℕ) Refusal) → list_all (has_listed_parent order) order ≡ true
    → IfSome told (λ held. with_blobs held folder input version order ≡ answer) → IfSome told (λ held. image_in_order held folder input version order ≡ answer)
told_dirs None folder input version order answer all made = tt
told_dirs (Some held) folder input version order answer all made = ap (λ b. cond (not b) (Err NoParent) (with_blobs held folder input version order)) all ∙ made

pub told_dirs_ok : {E : Type 0} (told : Option StoreFiles) (folder : List ℕ) (input : Option (List ℕ)) (version : ℕ) (order : List IndexEntry) (answer : Result (ImageParts × List ℕ) E) → list_all (has_listed_parent order) order ≡ true
    → IfSome told (λ held. IfOk answer (λ image. with_blobs held folder input version order ≡ Ok image)) → IfSome told (λ held. IfOk answer (λ image. image_in_order held folder input version order ≡ Ok image))
told_dirs_ok None folder input version order answer all made = tt
told_dirs_ok (Some held) folder input version order (Ok image) all made = ap (λ b. cond (not b) (Err NoParent) (with_blobs held folder input version order)) all ∙ made
told_dirs_ok (Some held) folder input version order (Err e) all made = tt

pub told_no_dir : (told : Option StoreFiles) (folder : List ℕ) (input : Option (List ℕ)) (version : ℕ) (order : List IndexEntry) → list_all (has_listed_parent order) order ≡ false → IfSome told (λ held. image_in_order held folder input version order ≡ Err NoParent)
told_no_dir None folder input version order other = tt
told_no_dir (Some held) folder input version order other = ap (λ b. cond (not b) (Err NoParent) (with_blobs held folder input version order)) other

pub not_twice : (b : Bool) → true ≡ not b → b ≡ false
not_twice true e = cc
not_twice false e = refl

pub is_twice : (b : Bool) → false ≡ not b → b ≡ true
is_twice true e = refl
is_twice false e = cc

-- the image of a folder whose index lists these entries
pub told_index : (told now : Option StoreFiles) (folder bytes : List ℕ) (input : Option (List ℕ)) (value : Data) (index : IndexParts) (answer : Result (ImageParts × List ℕ) Refusal) → now ≡ told
    → IfSome told (λ held. get held (name_below folder (codes "image.json")) ≡ Some bytes) → value_of bytes ≡ Some value → Some index ≡ index_of value
    → IfSome now (λ held. image_from held folder input index ≡ answer) → IfSome told (λ held. image_of held folder input ≡ answer)
told_index None now folder bytes input value index answer stays at read lists made = tt
told_index (Some held) now folder bytes input value index answer stays at read lists made =
    ap (image_by held folder input) at
    ∙ ap (λ found. image_from_index held folder input (option_and_then index_of found)) read
    ∙ ap (image_from_index held folder input) (sym lists)
    ∙ subst (λ told. IfSome told (λ held. image_from held folder input index ≡ answer)) stays made

-- what is refused with each input is refused with this one
pub at_input : (told : Option StoreFiles) (folder : List ℕ) (input : Option (List ℕ)) (r : Refusal)
    → IfSome told (λ files. (input : Option (List ℕ)) → image_of files folder input ≡ Err r) → IfSome told (λ files. image_of files folder input ≡ Err r)
at_input None folder input r refused = tt
at_input (Some files) folder input r refused = refused input
