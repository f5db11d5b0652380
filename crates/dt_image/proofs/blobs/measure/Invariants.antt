use Rattle.std.proofs.Common.{◌≡◌, ◌≤◌, map, take}
use Rattle.std.specs.Prelude.{IfSome}
use Rattle.std.specs.List.{All}
use Rattle.dt_image.specs.inner.IndexView.{HasSize}
use Rattle.dt_image.proofs.blobs.measure.Given as goal

-- each entry so far has a blob of that size, and the store tells what it told
abbrev pub invariant-loop-entry : goal.invariant-loop-entry
invariant-loop-entry g l = record {
  stays : g.S.Store.told l.store ≡ g.S.Store.told l.fn.store;
  later : g.S.Store.count l.fn.store ≤ g.S.Store.count l.store;
  entries : map (λ blob. blob.entry) l.blobs.items ≡ take l.entry-index l.order;
  sizes : IfSome (g.S.Store.told l.fn.store) (λ held. All (HasSize held l.folder) l.blobs.items);
}
