-- An export that was put, or was not.
use Rattle.std.proofs.Common.{◌≡◌, ℕ, List, [], ◌∷◌, ◌++◌, map, Option, Some, None, Result, Ok, Err, refl, sym, ap, subst, ◌∙◌, ⊎_elim, inl, inr}
use Rattle.std.proofs.lemmas.List.{append_assoc, map-append}
use Rattle.std.specs.Prelude.{◌⊎◌, IsOk, IfSome, IsErrAnd, option_map, codes, ⊤}
use Rattle.dt_host.specs.Sink.{added}
use Rattle.dt_host.specs.Store.{StoreFiles, StoresPart}
use Rattle.dt_host.specs.declared.error.StoreErr.{StoreErr}
use Rattle.dt_host.specs.declared.error.StoreErr.TheVariants.{Failed as StoreCallFailed, NoMemory as NoStoreMemory}
use Rattle.dt_tree.specs.FileTree.{FileTree}
use Rattle.dt_image.specs.ImageOf.{name_below}
use Rattle.dt_host.proofs.Growth.{adds_all}
use Rattle.dt_export.specs.declared.refusal.ExportRefusal.{ExportRefusal}
use Rattle.dt_export.specs.declared.refusal.ExportErr.{ExportErr}
use Rattle.dt_export.specs.declared.refusal.ExportErr.TheVariants.{Refused as ExportRefused, Host as ExportHostFailed, NoMemory as NoExportMemory}
use Rattle.dt_export.specs.ExportedFiles.{exported_text, exported_files, exported_inodes, blob_at, with_files}
use Rattle.dt_export.specs.ReadBack.{IsReadAs}
use Rattle.dt_engine.specs.Completed.{Written}
use Rattle.dt_run.specs.declared.failure.Failure.{Failure}
use Rattle.dt_run.specs.declared.failure.Failure.TheVariants.{Usage, Image, Export, Store, Host, Output, NoMemory}
use Rattle.dt_steps.specs.Steps.{Steps}
use Rattle.dt_run.specs.Outcome.{some_steps, written_alone, exported, files_with_index}
use Rattle.dt_run.specs.Exports.{HasPut, IsReadBack, PutsSome, PutsPart, told_with_files}
use Rattle.dt_run.specs.inner.Exporting.{told_with_blobs, export_of, PutsTree, PutsBlobs, IsPutFault, FailsPut, FailsExport}
use Rattle.dt_run.specs.inner.Failures.{failure_of_export, failure_of_store}

alone : (told : Option StoreFiles) → told ≡ option_map (λ files. files) told
alone None = refl
alone (Some files) = refl

nothing : (now : Option StoreFiles) → IfSome now (λ files. ⊤)
nothing None = tt
nothing (Some files) = tt

-- where nothing is exported the store stays
pub stays-put : (written : Written) (told now : Option StoreFiles) → now ≡ told → HasPut (written_alone written) told now
stays-put written told now same = record { accepted = tt; files = same ∙ alone told; image = nothing now }

-- likewise after steps
pub steps-put : (steps : Steps) (told now : Option StoreFiles) → now ≡ told → HasPut (some_steps steps) told now
steps-put steps told now same = record { accepted = tt; files = same ∙ alone told; image = nothing now }

-- ---- a tree that is put

module _ (t : FileTree) (folder : List ℕ) (told now : Option StoreFiles) where
  module _ (text : List ℕ) (index : exported_text t.version t ≡ Ok text) where
    -- some of the blobs
    pub blobs-some : PutsBlobs t folder (exported_inodes t) told now → PutsSome t (export_of t folder) told now
    blobs-some p = record {
      text = text;
      index = index;
      before = map (blob_at t) p.before;
      next = blob_at t p.next;
      rest = map (blob_at t) p.rest ++ (codes "image.json", text) ∷ [];
      split =
          ap (λ ns. map (blob_at t) ns ++ (codes "image.json", text) ∷ []) p.split
          ∙ ap (λ puts. puts ++ (codes "image.json", text) ∷ []) (map-append (blob_at t) p.before (p.next ∷ p.rest))
          ∙ append_assoc (map (blob_at t) p.before) (blob_at t p.next ∷ map (blob_at t) p.rest) ((codes "image.json", text) ∷ []);
      part = p.part;
    }

    -- all blobs, and some of the index
    pub index-some : (mid : Option StoreFiles) → mid ≡ told_with_blobs told folder t (exported_inodes t) → StoresPart mid now (name_below folder (codes "image.json")) text → PutsSome t (export_of t folder) told now
    index-some mid is part = record {
      text = text;
      index = index;
      before = map (blob_at t) (exported_inodes t);
      next = (codes "image.json", text);
      rest = [];
      split = refl;
      part = subst (λ from. StoresPart from now (name_below folder (codes "image.json")) text) is part;
    }

  pub fails-prepare : (e : ExportErr) → now ≡ told → ((r : ExportRefusal) → e ≡ ExportRefused r → exported_text t.version t ≡ Err r) → FailsPut (failure_of_export e) t folder told now
  fails-prepare (ExportRefused r) stays refused = (refused r refl, stays)
  fails-prepare ExportHostFailed stays refused = inl stays
  fails-prepare NoExportMemory stays refused = inl stays

  pub fails-blobs : (f : Failure) → IsPutFault f → PutsSome t (export_of t folder) told now → FailsPut f t folder told now
  fails-blobs Usage fault some = absurd fault
  fails-blobs (Image refusal) fault some = absurd fault
  fails-blobs (Export refusal) fault some = absurd fault
  fails-blobs Store fault some = some
  fails-blobs Host fault some = inr some
  fails-blobs Output fault some = absurd fault
  fails-blobs NoMemory fault some = inr some

  pub fails-index : (e : StoreErr) → PutsSome t (export_of t folder) told now → FailsPut (failure_of_store e) t folder told now
  fails-index StoreCallFailed some = some
  fails-index NoStoreMemory some = inr some

-- ---- a run whose tree is put

module _ (folder : List ℕ) (written : Written) where
  read-back : (told now : Option StoreFiles) (p : PutsTree written.run.last.tree folder told now)
      → IfSome now (λ files. IsReadBack written.run.last.tree (export_of written.run.last.tree folder) (exported_text written.run.last.tree.version written.run.last.tree) files)
  unfolding IsReadAs
  read-back told now p = by_told told p.files
    where
      by_told : (told : Option StoreFiles) → now ≡ told_with_files told folder (exported_files written.run.last.tree p.text) → IfSome now (λ files. IsReadBack written.run.last.tree (export_of written.run.last.tree folder) (exported_text written.run.last.tree.version written.run.last.tree) files)
      by_told None is = subst (λ now. IfSome now (λ files. IsReadBack written.run.last.tree (export_of written.run.last.tree folder) (exported_text written.run.last.tree.version written.run.last.tree) files)) (sym is) tt
      by_told (Some files) is =
          subst (λ now. IfSome now (λ files. IsReadBack written.run.last.tree (export_of written.run.last.tree folder) (exported_text written.run.last.tree.version written.run.last.tree) files)) (sym is)
          (subst (λ index. IsReadBack written.run.last.tree (export_of written.run.last.tree folder) index (with_files files folder (exported_files written.run.last.tree p.text))) (sym p.index)
          (record { image = p.image; exported = p.exported; read = p.read files folder }))

  -- an export that was put is read as the image of the tree
  pub tree-put : (told now : Option StoreFiles) → PutsTree written.run.last.tree folder told now → HasPut (exported folder written) told now
  tree-put told now p = record {
    accepted = subst (λ index. IsOk index) (sym p.index) refl;
    files = p.files ∙ ap (λ index. option_map (files_with_index written.run.last.tree folder index) told) (sym p.index);
    image = read-back told now p;
  }

  -- where the export was not put, after the whole report
  pub fails-put : (f : Failure) (old new : Option (List ℕ)) (told now : Option StoreFiles) → FailsPut f written.run.last.tree folder told now → new ≡ added old written.text → FailsExport f (exported folder written) old new
  fails-put Usage old new told now fails report = absurd fails
  fails-put (Image refusal) old new told now fails report = absurd fails
  fails-put (Export refusal) old new told now fails report = record { is = fails.0; report = report }
  fails-put Store old new told now fails report = (subst (λ index. IsOk index) (sym fails.index) refl, report)
  fails-put Host old new told now fails report = adds_all old new written.text report
  fails-put Output old new told now fails report = absurd fails
  fails-put NoMemory old new told now fails report = adds_all old new written.text report

  -- the store holds what it held, or some of the export
  pub some-put : (f : Failure) (old new : Option (List ℕ)) (told now : Option StoreFiles) → FailsPut f written.run.last.tree folder told now → new ≡ added old written.text → (now ≡ told) ⊎ PutsPart old new told now (exported folder written)
  some-put Usage old new told now fails report = absurd fails
  some-put (Image refusal) old new told now fails report = absurd fails
  some-put (Export refusal) old new told now fails report = inl fails.1
  some-put Store old new told now fails report = inr (record { report = report; some = fails })
  some-put Host old new told now fails report = ⊎_elim inl (λ some. inr (record { report = report; some = some })) fails
  some-put Output old new told now fails report = absurd fails
  some-put NoMemory old new told now fails report = ⊎_elim inl (λ some. inr (record { report = report; some = some })) fails

-- a refusal that is passed on is the one that was met
pub own-refusal : {A : Type 0} (r : Result A Failure) (f : Failure) (refusal : ExportRefusal) → IsErrAnd r (λ found. found ≡ f) → r ≡ Err (Export refusal) → f ≡ Export refusal
own-refusal (Ok x) f refusal passed is = absurd (cc)
own-refusal (Err found) f refusal passed is = let same : found ≡ Export refusal = cc in sym passed ∙ same
