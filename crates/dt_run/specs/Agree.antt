-- What two runs of the same words on the same files have in common.
use Rattle.std.specs.Prelude.{◌≡◌, ◌==◌, ◌||◌, ℕ, Bool, List, Option, None, option_map, IsTrue}
use Rattle.dt_host.specs.Cause.{HasCause}
use Rattle.dt_host.specs.Sink.{added, AddsPart}
use Rattle.dt_options.specs.Arguments.{default_workers}
use Rattle.dt_options.specs.Options.{Form, run_form, export_form, demo_form, steps_form, form_of}
use Rattle.dt_run.specs.Statuses.{is_status, is_run_status, AddsLine}
use Rattle.dt_run.specs.declared.status.TheConstants.{WORDS_REFUSED, IMAGE_REFUSED, STORE_FAULT, HOST_FAULT, OUTPUT_FAULT, EXPORT_REFUSED}

-- what is asked for without the number of workers and the number by which the host is disturbed
abbrev pub without_choices : Form → Form
without_choices (run_form request) = run_form (record request { workers = default_workers; host = None })
without_choices (export_form request) =
    export_form (record request { run = record request.run { workers = default_workers; host = None } })
without_choices (demo_form request) = demo_form (record request { workers = default_workers; host = None })
without_choices (steps_form request) = steps_form (record request { workers = default_workers; host = None })

-- both ask for a run of the same image, command, seed and budget, or for its export to the same folder, or for a
-- demonstration of the same number, or for steps that the same file lists on the same image, with the same seed and budget,
-- or both are refused
abbrev pub AskTheSame : List (List ℕ) → List (List ℕ) → Type 0
AskTheSame words other = option_map without_choices (form_of words) ≡ option_map without_choices (form_of other)

-- the status of a completed run, or of words, an image or an export that are refused; every other one is a fault's, or want
-- of memory's
abbrev pub is_decided : ℕ → Bool
is_decided status = is_run_status status || (status == WORDS_REFUSED) || (status == IMAGE_REFUSED) || (status == EXPORT_REFUSED)

-- to both, as far as they tell it, prefixes of the same bytes were added, and all of these where the status is decided
pub record AddAlike (status other : ℕ) (old new other_old other_new : Option (List ℕ)) : Type 0 where
  pub bytes : List ℕ
  pub part : AddsPart old new bytes
  pub other_part : AddsPart other_old other_new bytes
  pub whole : IsTrue (is_decided status) → new ≡ added old bytes
  pub other_whole : IsTrue (is_decided other) → other_new ≡ added other_old bytes

-- both got the same line, each the whole of it or a prefix, after which it failed
pub record AddLineAlike (old new : Option (List ℕ)) (before now : ℕ) (other_old other_new : Option (List ℕ)) (other_before other_now : ℕ) : Type 0 where
  pub line : List ℕ
  pub one : AddsLine line old new before now
  pub other : AddsLine line other_old other_new other_before other_now

-- a status, and why it comes where it is a fault's: a call of the store, the host or the output failed, by the counts s0 and s1
-- of the store's faults before and after, h0 and h1 of the host's, o0 and o1 of the output's
pub record IsCaused (status s0 s1 h0 h1 o0 o1 : ℕ) : Type 0 where
  pub known : IsTrue (is_status status)
  pub store : HasCause s0 s1 (status ≡ STORE_FAULT)
  pub host : HasCause h0 h1 (status ≡ HOST_FAULT)
  pub output : HasCause o0 o1 (status ≡ OUTPUT_FAULT)
