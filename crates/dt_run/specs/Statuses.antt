-- What each status of the program says of what was written, and why it comes.
use Rattle.std.specs.Prelude.{◌≡◌, ◌⊎◌, ◌||◌, ◌==◌, ℕ, Bool, List, [], Option, Result, Err, nat_le, if◌then◌else◌}
use Rattle.dt_base.specs.declared.refusal.Refusal.{Refusal}
use Rattle.dt_host.specs.Cause.{HasRisen}
use Rattle.dt_host.specs.Sink.{added, AddsPart}
use Rattle.dt_run.specs.declared.failure.Failure.{Failure}
use Rattle.dt_run.specs.declared.failure.Failure.TheVariants.{Usage, Image, Export, Store, Host, Output}
use Rattle.dt_engine.specs.declared.status.TheConstants.{ENDED_ZERO, ENDED_OTHERWISE, NOT_ENDED}
use Rattle.dt_run.specs.declared.status.TheConstants.{WORDS_REFUSED, IMAGE_REFUSED, STORE_FAULT, HOST_FAULT, OUTPUT_FAULT, EXPORT_REFUSED}
use Rattle.dt_run.specs.Failure.{failure_line}
use Rattle.dt_host.specs.Store.{StoreFiles}
use Rattle.dt_export.specs.declared.refusal.ExportRefusal.{ExportRefusal}
use Rattle.dt_export.specs.declared.refusal.ExportRefusal.TheVariants.{Exists}
use Rattle.dt_run.specs.Outcome.{Outcome}
use Rattle.dt_run.specs.Wanted.{IsRefusedFor}
use Rattle.dt_run.specs.Exports.{RefusesExport}

-- the status of a run that was completed, and its export put where one is asked for; or of steps
abbrev pub is_run_status : ℕ → Bool
is_run_status status = (status == ENDED_ZERO) || (status == ENDED_OTHERWISE) || (status == NOT_ENDED)

-- a status that the program ends with
abbrev pub is_status : ℕ → Bool
is_status status = nat_le status EXPORT_REFUSED || (status == NOT_ENDED)

-- a status at which nothing was written: words or image were refused
abbrev pub precedes_run : ℕ → Bool
precedes_run status = (status == WORDS_REFUSED) || (status == IMAGE_REFUSED)

-- a status at which nothing was put into any store: something was refused, or the sink of the report failed
abbrev pub precedes_export : ℕ → Bool
precedes_export status = precedes_run status || (status == EXPORT_REFUSED) || (status == OUTPUT_FAULT)

-- a status at which a run was begun, and it, or its export, was not completed: the host or the sink failed
abbrev pub fails_run : ℕ → Bool
fails_run status = (status == HOST_FAULT) || (status == OUTPUT_FAULT)

-- no call failed, as far as the count shows: it did not rise, and doesn't stand at its last value
abbrev pub Stayed : ℕ → ℕ → Type 0
Stayed before now = ¬ HasRisen before now

-- what is wanted is an image that is refused
pub record RefusesImage (found : Result Outcome Failure) : Type 0 where
  pub refusal : Refusal
  pub refused : found ≡ Err (Image refusal)

-- what is wanted is an export to a folder that has an index already
abbrev pub RefusesFolder : Result Outcome Failure → Type 0
RefusesFolder found = found ≡ Err (Export Exists)

-- the line of a status: none at 0, 1 and 10; those of refusals of an image and of an export have a number, and at 7 it is
-- any failure's (`AddsSomeLine`)
abbrev pub status_line : ℕ → List ℕ
status_line status =
    if status == WORDS_REFUSED then failure_line Usage
    else if status == STORE_FAULT then failure_line Store
    else if status == HOST_FAULT then failure_line Host
    else if status == OUTPUT_FAULT then failure_line Output
    else []

-- a line was added whole, or a prefix of it and then the stream failed
pub record AddsLine (line : List ℕ) (old new : Option (List ℕ)) (before now : ℕ) : Type 0 where
  pub part : AddsPart old new line
  pub whole : (new ≡ added old line) ⊎ HasRisen before now

-- a prefix of some failure's line was added
pub record AddsSomeLine (old new : Option (List ℕ)) : Type 0 where
  pub failure : Failure
  pub part : AddsPart old new (failure_line failure)

-- the line of a refusal of the image was added, and that refusal has its cause
pub record AddsRefusal (told : Option StoreFiles) (words : List (List ℕ)) (old new : Option (List ℕ)) (before now : ℕ) : Type 0 where
  pub refusal : Refusal
  pub refused : IsRefusedFor refusal told words
  pub line : AddsLine (failure_line (Image refusal)) old new before now

-- the line of the refusal of an export was added, and that refusal has its cause
pub record AddsExportRefusal (told : Option StoreFiles) (words : List (List ℕ)) (out out_now old new : Option (List ℕ)) (before now : ℕ) : Type 0 where
  pub refusal : ExportRefusal
  pub refused : RefusesExport refusal told words out out_now
  pub line : AddsLine (failure_line (Export refusal)) old new before now
