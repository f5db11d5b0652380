use Rattle.std.proofs.Common.{◌≡◌, ◌≤◌, map, take, IsTrue}
use Rattle.std.specs.Prelude.{IfSome}
use Rattle.std.specs.List.{list_all}
use Rattle.dt_base.specs.Image.{is_good_entry}
use Rattle.dt_image.specs.ImageOf.{entry_with}
use Rattle.dt_image.specs.inner.IndexView.{entry_in, path_kind, path_kind_of}
use Rattle.dt_image.proofs.blobs.read.Given as goal

-- the entries are those measured so far, and the store tells what it told
abbrev pub invariant-loop-blob : goal.invariant-loop-blob
invariant-loop-blob g l = record {
  stays : g.S.Store.told l.store ≡ g.S.Store.told l.fn.store;
  later : g.S.Store.count l.fn.store ≤ g.S.Store.count l.store;
  entries : IfSome (g.S.Store.told l.fn.store) (λ held. l.entries.items ≡ map (λ blob. entry_with held l.folder (entry_in blob.entry)) (take l.blob-index l.blobs));
  spots : map path_kind l.entries.items ≡ map (λ blob. path_kind_of (entry_in blob.entry)) (take l.blob-index l.blobs);
  good : IsTrue (list_all (is_good_entry l.version) l.entries.items);
}
