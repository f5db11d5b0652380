-- Inner words: no public clause cites these. The size of the blob that is named as standard input.
use Rattle.std.specs.Prelude.{◌≡◌, ℕ, List, Option, None, Some, IsTrue}
use Rattle.dt_host.specs.Store.{StoreFiles, size_of}
use Rattle.dt_image.specs.Index.{is_blob_name}
use Rattle.dt_image.specs.ImageOf.{name_below}

-- the blob has a good name and that size; where none is named it counts as 0
abbrev pub HasInputSize : StoreFiles → List ℕ → Option (List ℕ) → ℕ → Type 0
HasInputSize held folder None size = size ≡ 0
HasInputSize held folder (Some blob) size =
    IsTrue (is_blob_name blob) × (size_of held (name_below folder blob) ≡ Some size)
