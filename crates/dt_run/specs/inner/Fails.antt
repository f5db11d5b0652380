-- What stands behind a failure, before its line is written.
use Rattle.std.specs.Prelude.{◌≡◌, ◌⊎◌, ℕ, List, Option, Some, Err}
use Rattle.dt_host.specs.Store.{StoreFiles}
use Rattle.dt_run.specs.declared.failure.Failure.{Failure}
use Rattle.dt_run.specs.declared.failure.Failure.TheVariants.{Usage, Image, Export, Store, Host, Output, NoMemory}
use Rattle.dt_run.specs.Wanted.{wanted, ReadsStore, IsRefusedFor}
use Rattle.dt_run.specs.SomeRun.{AddsTextPart, AddsExportText}
use Rattle.dt_run.specs.Exports.{RefusesExport}

-- words or image are refused before anything was written; or an export is refused; or the store failed before anything was
-- written, or after the report of an export; or a run was begun; or memory was wanting before a run or in it
abbrev pub HasFailureCause : Failure → Option StoreFiles → List (List ℕ) → Option (List ℕ) → Option (List ℕ) → Type 0
HasFailureCause Usage told words old new = (wanted told words ≡ Some (Err Usage)) × (new ≡ old)
HasFailureCause (Image refusal) told words old new = IsRefusedFor refusal told words × (new ≡ old)
HasFailureCause (Export refusal) told words old new = RefusesExport refusal told words old new
HasFailureCause Store told words old new = ReadsStore words × ((new ≡ old) ⊎ AddsExportText told words old new)
HasFailureCause Host told words old new = AddsTextPart told words old new
HasFailureCause Output told words old new = AddsTextPart told words old new
HasFailureCause NoMemory told words old new = AddsTextPart told words old new ⊎ (new ≡ old)
