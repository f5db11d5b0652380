-- What is told of a store while the files of an export are put.
use Rattle.std.proofs.Common.{◌≡◌, ℕ, ◌+◌, ◌<◌, List, [], ◌∷◌, ◌++◌, map, take, drop, length, get_or, true, Option, Some, None, Result, Ok, Err, refl, sym, ap, subst, ◌∙◌, ⊎_elim}
use Rattle.std.proofs.lemmas.Bool.{and_parts}
use Rattle.std.proofs.lemmas.List.{take_more, take-append-drop, drop_more, map-append}
use Rattle.std.proofs.lemmas.List.Elements.{All-weaker, filter_passes}
use Rattle.std.proofs.lemmas.List.Sums.{fold-append}
use Rattle.std.specs.Prelude.{codes, ◌&&◌, OnOk, OnErr}
use Rattle.std.specs.List.{All}
use Rattle.std.specs.Cmp.Lexicographic.{nat_list_cmp_total}
use Rattle.std.specs.FinMap.{entries}
use Rattle.dt_host.specs.Store.{StoreFiles}
use Rattle.dt_host.specs.World.{IsFile, content}
use Rattle.dt_tables.proofs.Maps.{get-insert_other, names_tie}
use Rattle.dt_tree.specs.FileTree.{FileTree}
use Rattle.dt_image.specs.ImageOf.{name_below}
use Rattle.dt_export.specs.ExportedIndex.{blob_name}
use Rattle.dt_export.specs.ExportedFiles.{is_file, has_path, exported_inodes, blob_at, with_file_in, with_files}
use Rattle.dt_host.specs.Store.{told_with, StoresPart}
use Rattle.dt_run.specs.Exports.{ChangesFolder}
use Rattle.dt_run.specs.inner.Exporting.{told_with_blobs, PutsBlobs}

module _ (folder : List ℕ) where
  pub folder_stays : (told now : Option StoreFiles) → now ≡ told → ChangesFolder folder told now
  folder_stays told now same = subst (ChangesFolder folder told) (sym same) (itself told)
    where
      itself : (told : Option StoreFiles) → ChangesFolder folder told told
      itself None = refl
      itself (Some files) = λ name no_index no_blob. refl

  pub folder_then : (a b c : Option StoreFiles) → ChangesFolder folder a b → ChangesFolder folder b c → ChangesFolder folder a c
  folder_then None b c one two = subst (λ b. ChangesFolder folder b c) one two
  folder_then (Some files) None c one two = absurd one
  folder_then (Some files) (Some mid) None one two = absurd two
  folder_then (Some files) (Some mid) (Some now) one two = λ name no_index no_blob. two name no_index no_blob ∙ one name no_index no_blob

  pub blob-changes : (told : Option StoreFiles) (n : ℕ) (name bytes : List ℕ) → name ≡ name_below folder (blob_name n) → ChangesFolder folder told (told_with told name bytes)
  blob-changes None n name bytes is = refl
  blob-changes (Some files) n name bytes is = λ other no_index no_blob.
      get-insert_other nat_list_cmp_total names_tie files name bytes other (λ same. no_blob n (same ∙ is))

  pub index-changes : (told : Option StoreFiles) (name bytes : List ℕ) → name ≡ name_below folder (codes "image.json") → ChangesFolder folder told (told_with told name bytes)
  index-changes None name bytes is = refl
  index-changes (Some files) name bytes is = λ other no_index no_blob.
      get-insert_other nat_list_cmp_total names_tie files name bytes other (λ same. no_index (same ∙ is))

  -- whatever a call that puts a file answers
  pub put-changes : {A E : Type 0} (r : Result A E) (told now : Option StoreFiles) (name bytes : List ℕ) → ((some : List ℕ) → ChangesFolder folder told (told_with told name some))
      → OnOk r (now ≡ told_with told name bytes) → OnErr r (StoresPart told now name bytes) → ChangesFolder folder told now
  put-changes (Ok x) told now name bytes changes ok err = subst (ChangesFolder folder told) (sym ok) (changes bytes)
  put-changes (Err e) told now name bytes changes ok err =
      ⊎_elim (folder_stays told now) (λ some. subst (ChangesFolder folder told) (sym some.prefix) (changes (take some.count bytes))) err

  -- one more blob
  pub blobs-next : (told : Option StoreFiles) (t : FileTree) (inodes : List ℕ) (k n other : ℕ) → k < length inodes → n ≡ get_or inodes k other
      → told_with (told_with_blobs told folder t (take k inodes)) (name_below folder (blob_name n)) (content t.shape n) ≡ told_with_blobs told folder t (take (k + 1) inodes)
  blobs-next None t inodes k n other within is = refl
  blobs-next (Some files) t inodes k n other within is =
      let next : take (k + 1) inodes ≡ take k inodes ++ n ∷ [] = take_more inodes k other within ∙ ap (λ m. take k inodes ++ m ∷ []) (sym is) in
      ap Some (sym (
      ap (λ ns. with_files files folder (map (blob_at t) ns)) next
      ∙ ap (with_files files folder) (map-append (blob_at t) (take k inodes) (n ∷ []))
      ∙ fold-append (with_file_in folder) files (map (blob_at t) (take k inodes)) (blob_at t n ∷ [])
      ))

  -- the next one failed
  pub blobs-stop : (told mid now : Option StoreFiles) (t : FileTree) (inodes : List ℕ) (k n other : ℕ) → k < length inodes → n ≡ get_or inodes k other
      → mid ≡ told_with_blobs told folder t (take k inodes) → StoresPart mid now (name_below folder (blob_name n)) (content t.shape n) → PutsBlobs t folder inodes told now
  blobs-stop told mid now t inodes k n other within is so_far part = record {
    before = take k inodes;
    next = n;
    rest = drop (k + 1) inodes;
    split =
        sym (take-append-drop k inodes)
        ∙ ap (λ ns. take k inodes ++ ns) (drop_more inodes k other within)
        ∙ ap (λ m. take k inodes ++ m ∷ drop (k + 1) inodes) (sym is);
    part = subst (λ from. StoresPart from now (name_below folder (blob_name n)) (content t.shape n)) so_far part;
  }

-- a part of a file, by another word for its name and its bytes
pub part-same : (told now : Option StoreFiles) (name other bytes others : List ℕ) → name ≡ other → bytes ≡ others → StoresPart told now name bytes → StoresPart told now other others
part-same told now name other bytes others is are part =
    subst (λ name. StoresPart told now name others) is (subst (λ bytes. StoresPart told now name bytes) are part)

-- what holds where a call fails
pub on_fail : {A E : Type 0} (r : Result A E) (P : Type 0) → P → OnErr r P
on_fail (Ok x) P holds = tt
on_fail (Err e) P holds = holds

pub if_fail : {A E : Type 0} (r : Result A E) (P Q : Type 0) → OnErr r P → (P → Q) → OnErr r Q
if_fail (Ok x) P Q fails on = tt
if_fail (Err e) P Q fails on = on fails

-- the inodes of an export are files
pub exported-files : (t : FileTree) → All (IsFile t.shape) (exported_inodes t)
exported-files t =
    All-weaker (λ n. (is_file t.shape n && has_path t.shape n) ≡ true) (IsFile t.shape)
    (λ n is. (and_parts (is_file t.shape n) (has_path t.shape n) is).0) (exported_inodes t)
    (filter_passes (λ n. is_file t.shape n && has_path t.shape n) (map (λ e. e.0) (entries t.shape.nodes)))
