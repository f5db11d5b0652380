-- What follows from a failure and the status that was answered for it.
use Rattle.std.proofs.Common.{◌≡◌, ◌≢◌, ℕ, Bool, true, false, List, Option, Some, None, Result, Ok, Err, refl, sym, ap, subst, ◌∙◌, ⊎_elim, inl, inr}
use Rattle.std.specs.Prelude.{IsTrue, IfOk, IfSome, ◌⊎◌}
use Rattle.dt_base.specs.declared.refusal.Refusal.{Refusal}
use Rattle.dt_export.specs.declared.refusal.ExportRefusal.{ExportRefusal}
use Rattle.dt_host.specs.Sink.{added}
use Rattle.dt_host.proofs.Growth.{adds_all}
use Rattle.dt_host.specs.Store.{StoreFiles}
use Rattle.dt_export.specs.declared.refusal.ExportRefusal.TheVariants.{Exists}
use Rattle.dt_host.specs.World.{World}
use Rattle.dt_run.specs.declared.failure.Failure.{Failure}
use Rattle.dt_run.specs.declared.failure.Failure.TheVariants.{Usage, Image, Export, Store, Host, Output, NoMemory}
use Rattle.dt_run.specs.Failure.{failure_status}
use Rattle.dt_run.specs.Outcome.{Outcome, text_of, status_of_outcome, IsCompleted}
use Rattle.dt_run.specs.Wanted.{wanted, outcome_on, ReadsStore, IsRefusedFor}
use Rattle.dt_run.specs.SomeRun.{SomeRun, AddsTextPart, AddsExportText}
use Rattle.dt_run.specs.Exports.{HasPut, IsRefusedLate, RefusesExport}
use Rattle.dt_run.specs.Statuses.{RefusesImage, RefusesFolder, precedes_run, fails_run}
use Rattle.dt_run.specs.inner.Fails.{HasFailureCause}
use Rattle.dt_run.proofs.Wanting.{not_refused}
use Rattle.dt_run.proofs.Ran.{late-status}
use Rattle.dt_run.proofs.Outcomes.{completed-status}

-- what was answered for a failure: its status, or want of memory's
abbrev pub Answers : Failure → ℕ → Type 0
Answers f status = (status ≡ failure_status f) ⊎ (status ≡ 7)

-- the status that was answered is the failure's, where it isn't 7
pub own_status : (f : Failure) (status : ℕ) → Answers f status → status ≢ 7 → status ≡ failure_status f
own_status f status by other = ⊎_elim (λ e. e) (λ e. absurd (other e)) by

if_some : {A : Type 0} {P Q : A → Type 0} (found : Option A) → IfSome found P → ((x : A) → P x → Q x) → IfSome found Q
if_some None h on = tt
if_some (Some x) h on = on x h

each_some : {A : Type 0} {Q : A → Type 0} (found : Option A) → ((x : A) → Q x) → IfSome found Q
each_some None on = tt
each_some (Some x) on = on x

-- a run is no refusal
run_unless : {P : Outcome → Type 0} (told : Option StoreFiles) (words : List (List ℕ)) (f : Failure) → SomeRun told words P → wanted told words ≡ Some (Err f) → ⊥
run_unless told words f run is =
    let bad : Err f ≡ Ok (outcome_on run.form (run.image, run.input) run.commands) = subst (λ found. IfSome found (λ w. w ≡ Ok (outcome_on run.form (run.image, run.input) run.commands))) is run.is_wanted in cc

-- all that is written is a prefix of it
whole-part : (told : Option StoreFiles) (words : List (List ℕ)) (old new : Option (List ℕ)) → {P : Outcome → Type 0} → ((outcome : Outcome) → P outcome → new ≡ added old (text_of outcome)) → SomeRun told words P → AddsTextPart told words old new
whole-part told words old new whole s = record {
  form = s.form;
  parsed = s.parsed;
  image = s.image;
  input = s.input;
  named = s.named;
  good = s.good;
  commands = s.commands;
  listed = s.listed;
  is_wanted = s.is_wanted;
  holds = adds_all old new _ (whole _ s.holds);
}

-- whatever failed, a run was begun or nothing was written
pub part_or_nothing : (told : Option StoreFiles) (words : List (List ℕ)) (old new : Option (List ℕ)) (f : Failure) → HasFailureCause f told words old new → AddsTextPart told words old new ⊎ (new ≡ old)
part_or_nothing told words old new Usage fails = inr fails.1
part_or_nothing told words old new (Image refusal) fails = inr fails.1
part_or_nothing told words old new (Export refusal) fails =
    ⊎_elim (λ once. inr once.nothing) (λ late. inl (whole-part told words old new (λ outcome late. late.report) late)) fails
part_or_nothing told words old new Store fails =
    ⊎_elim (λ none. inr none) (λ whole. inl (whole-part told words old new (λ outcome whole. whole.1) whole)) fails.1
part_or_nothing told words old new Host fails = inl fails
part_or_nothing told words old new Output fails = inl fails
part_or_nothing told words old new NoMemory fails = fails

-- the refusal of an image that was answered
pub record Refuses (told : Option StoreFiles) (words : List (List ℕ)) (f : Failure) : Type 0 where
  pub refusal : Refusal
  pub is : f ≡ Image refusal
  pub refused : IsRefusedFor refusal told words

-- the refusal of an export that was answered
pub record RefusesTo (told : Option StoreFiles) (words : List (List ℕ)) (old new : Option (List ℕ)) (f : Failure) : Type 0 where
  pub refusal : ExportRefusal
  pub is : f ≡ Export refusal
  pub refused : RefusesExport refusal told words old new

-- what holds at the failure's status, where it is one of these, holds at the one that was answered
pub at_status : (these : ℕ → Bool) → these 7 ≡ false → (status : ℕ) (f : Failure) (S : Type 0) → Answers f status → (IsTrue (these (failure_status f)) → S) → IsTrue (these status) → S
at_status these not_seven status f S by holds is =
    let own = own_status f status by (λ seven. let bad : true ≡ false = sym is ∙ ap these seven ∙ not_seven in cc) in
    holds (subst (λ s. IsTrue (these s)) own is)

-- the failure at 4 is that of the store
own_store : (f : Failure) → failure_status f ≡ 4 → f ≡ Store
own_store Usage is = absurd (cc)
own_store (Image refusal) is = absurd (cc)
own_store (Export refusal) is = absurd (cc)
own_store Store is = refl
own_store Host is = absurd (cc)
own_store Output is = absurd (cc)
own_store NoMemory is = absurd (cc)

pub store_failed : (status : ℕ) (f : Failure) → Answers f status → status ≡ 4 → f ≡ Store
store_failed status f by four = own_store f (sym (own_status f status by (λ seven. let bad : 4 ≡ 7 = sym four ∙ seven in cc)) ∙ four)

module _ (status : ℕ) (told : Option StoreFiles) (words : List (List ℕ)) (old new : Option (List ℕ)) where
  own_part : (f : Failure) → IsTrue (fails_run (failure_status f)) → HasFailureCause f told words old new → AddsTextPart told words old new
  own_part Usage is fails = absurd (cc)
  own_part (Image refusal) is fails = absurd (cc)
  own_part (Export refusal) is fails = absurd (cc)
  own_part Store is fails = absurd (cc)
  own_part Host is fails = fails
  own_part Output is fails = fails
  own_part NoMemory is fails = absurd (cc)

  pub part : (f : Failure) → Answers f status → HasFailureCause f told words old new → IsTrue (fails_run status) → AddsTextPart told words old new
  part f by fails late =
      let own = own_status f status by (λ seven. let bad : IsTrue (fails_run 7) = subst (λ s. IsTrue (fails_run s)) seven late in cc) in
      own_part f (subst (λ s. IsTrue (fails_run s)) own late) fails

  own_nothing : (f : Failure) → IsTrue (precedes_run (failure_status f)) → HasFailureCause f told words old new → new ≡ old
  own_nothing Usage is fails = fails.1
  own_nothing (Image refusal) is fails = fails.1
  own_nothing (Export refusal) is fails = absurd (cc)
  own_nothing Store is fails = absurd (cc)
  own_nothing Host is fails = absurd (cc)
  own_nothing Output is fails = absurd (cc)
  own_nothing NoMemory is fails = absurd (cc)

  pub nothing : (f : Failure) → Answers f status → HasFailureCause f told words old new → IsTrue (precedes_run status) → new ≡ old
  nothing f by fails early =
      let own = own_status f status by (λ seven. let bad : IsTrue (precedes_run 7) = subst (λ s. IsTrue (precedes_run s)) seven early in cc) in
      own_nothing f (subst (λ s. IsTrue (precedes_run s)) own early) fails

  own_usage : (f : Failure) → failure_status f ≡ 2 → HasFailureCause f told words old new → wanted told words ≡ Some (Err Usage)
  own_usage Usage is fails = fails.0
  own_usage (Image refusal) is fails = absurd (cc)
  own_usage (Export refusal) is fails = absurd (cc)
  own_usage Store is fails = absurd (cc)
  own_usage Host is fails = absurd (cc)
  own_usage Output is fails = absurd (cc)
  own_usage NoMemory is fails = absurd (cc)

  pub usage : (f : Failure) → Answers f status → HasFailureCause f told words old new → status ≡ 2 → wanted told words ≡ Some (Err Usage)
  usage f by fails two =
      own_usage f (sym (own_status f status by (λ seven. let bad : 2 ≡ 7 = sym two ∙ seven in cc)) ∙ two) fails

  own_reads : (f : Failure) → failure_status f ≡ 4 → HasFailureCause f told words old new → ReadsStore words
  own_reads Usage is fails = absurd (cc)
  own_reads (Image refusal) is fails = absurd (cc)
  own_reads (Export refusal) is fails = absurd (cc)
  own_reads Store is fails = fails.0
  own_reads Host is fails = absurd (cc)
  own_reads Output is fails = absurd (cc)
  own_reads NoMemory is fails = absurd (cc)

  pub reads : (f : Failure) → Answers f status → HasFailureCause f told words old new → status ≡ 4 → ReadsStore words
  reads f by fails four =
      own_reads f (sym (own_status f status by (λ seven. let bad : 4 ≡ 7 = sym four ∙ seven in cc)) ∙ four) fails

  own_stored : (f : Failure) → failure_status f ≡ 4 → HasFailureCause f told words old new → (new ≡ old) ⊎ AddsExportText told words old new
  own_stored Usage is fails = absurd (cc)
  own_stored (Image refusal) is fails = absurd (cc)
  own_stored (Export refusal) is fails = absurd (cc)
  own_stored Store is fails = fails.1
  own_stored Host is fails = absurd (cc)
  own_stored Output is fails = absurd (cc)
  own_stored NoMemory is fails = absurd (cc)

  pub stored : (f : Failure) → Answers f status → HasFailureCause f told words old new → status ≡ 4 → (new ≡ old) ⊎ AddsExportText told words old new
  stored f by fails four =
      own_stored f (sym (own_status f status by (λ seven. let bad : 4 ≡ 7 = sym four ∙ seven in cc)) ∙ four) fails

  own_image : (f : Failure) → failure_status f ≡ 3 → HasFailureCause f told words old new → Refuses told words f
  own_image Usage is fails = absurd (cc)
  own_image (Image refusal) is fails = record { refusal = refusal; is = refl; refused = fails.0 }
  own_image (Export refusal) is fails = absurd (cc)
  own_image Store is fails = absurd (cc)
  own_image Host is fails = absurd (cc)
  own_image Output is fails = absurd (cc)
  own_image NoMemory is fails = absurd (cc)

  pub image : (f : Failure) → Answers f status → HasFailureCause f told words old new → status ≡ 3 → Refuses told words f
  image f by fails three =
      own_image f (sym (own_status f status by (λ seven. let bad : 3 ≡ 7 = sym three ∙ seven in cc)) ∙ three) fails

  own_export : (f : Failure) → failure_status f ≡ 8 → HasFailureCause f told words old new → RefusesTo told words old new f
  own_export Usage is fails = absurd (cc)
  own_export (Image refusal) is fails = absurd (cc)
  own_export (Export refusal) is fails = record { refusal = refusal; is = refl; refused = fails }
  own_export Store is fails = absurd (cc)
  own_export Host is fails = absurd (cc)
  own_export Output is fails = absurd (cc)
  own_export NoMemory is fails = absurd (cc)

  pub export : (f : Failure) → Answers f status → HasFailureCause f told words old new → status ≡ 8 → RefusesTo told words old new f
  export f by fails eight =
      own_export f (sym (own_status f status by (λ seven. let bad : 8 ≡ 7 = sym eight ∙ seven in cc)) ∙ eight) fails

  -- another failure is not what is wanted
  other_than : (Q : Result Outcome Failure → Type 0) (f : Failure) → (Q (Err f) → ⊥) → (R : Type 0) → IfSome (wanted told words) (λ found. found ≡ Err f) → IfSome (wanted told words) (λ found. Q found → R)
  other_than Q f unlike R first = if_some (wanted told words) first (λ found is q. absurd (unlike (subst Q is q)))

  -- nor is a run
  no_run : (Q : Result Outcome Failure → Type 0) → ((outcome : Outcome) → Q (Ok outcome) → ⊥) → {P : Outcome → Type 0} (R : Type 0) → SomeRun told words P → IfSome (wanted told words) (λ found. Q found → R)
  no_run Q unlike R some = if_some (wanted told words) some.is_wanted (λ found is q. absurd (unlike _ (subst Q is q)))

  known-usage : wanted told words ≡ Some (Err Usage) → IfSome (wanted told words) (λ found. found ≡ Err Usage)
  known-usage is = subst (λ w. IfSome w (λ found. found ≡ Err Usage)) (sym is) refl

  -- where the words are refused
  pub refused_words : (f : Failure) → Answers f status → HasFailureCause f told words old new → wanted told words ≡ Some (Err Usage) → (status ≡ 2) ⊎ (status ≡ 7)
  refused_words Usage by fails is = by
  refused_words (Image refusal) by fails is =
      absurd (let bad : Err Usage ≡ Err (Image refusal) = subst (λ found. IfSome found (λ w. w ≡ Err (Image refusal))) is fails.0.first in cc)
  refused_words (Export refusal) by fails is =
      ⊎_elim
      (λ once. absurd (let bad : Err Usage ≡ Err (Export Exists) = subst (λ found. IfSome found (λ w. w ≡ Err (Export Exists))) is once.first in cc))
      (λ late. absurd (run_unless told words Usage late is)) fails
  refused_words Store by fails is = absurd (not_refused told words fails.0 is)
  refused_words Host by fails is = absurd (run_unless told words Usage fails is)
  refused_words Output by fails is = absurd (run_unless told words Usage fails is)
  refused_words NoMemory by fails is = inr (⊎_elim (λ e. e) (λ e. e) by)

  no_image_run : (outcome : Outcome) → RefusesImage (Ok outcome) → ⊥
  no_image_run outcome r = let bad = r.refused in cc

  -- where the image is refused, and the store didn't fail
  pub refused_image : (f : Failure) (StoreRose : Type 0) → Answers f status → HasFailureCause f told words old new → (f ≡ Store → StoreRose) → ¬ StoreRose → IfSome (wanted told words) (λ found. RefusesImage found → (status ≡ 3) ⊎ (status ≡ 7))
  refused_image Usage S by fails store none = other_than RefusesImage Usage (λ r. let bad = r.refused in cc) _ (known-usage fails.0)
  refused_image (Image refusal) S by fails store none = each_some (wanted told words) (λ found r. by)
  refused_image (Export refusal) S by fails store none =
      ⊎_elim (λ once. other_than RefusesImage (Export Exists) (λ r. let bad = r.refused in cc) _ once.first) (λ late. no_run RefusesImage no_image_run _ late) fails
  refused_image Store S by fails store none = absurd (none (store refl))
  refused_image Host S by fails store none = no_run RefusesImage no_image_run _ fails
  refused_image Output S by fails store none = no_run RefusesImage no_image_run _ fails
  refused_image NoMemory S by fails store none = each_some (wanted told words) (λ found r. inr (⊎_elim (λ e. e) (λ e. e) by))

  no_folder_run : (outcome : Outcome) → RefusesFolder (Ok outcome) → ⊥
  no_folder_run outcome r = cc

  -- where the folder of an export has an index, and the store didn't fail
  pub refused_folder : (f : Failure) (StoreRose : Type 0) → Answers f status → HasFailureCause f told words old new → (f ≡ Store → StoreRose) → ¬ StoreRose → IfSome (wanted told words) (λ found. RefusesFolder found → (status ≡ 8) ⊎ (status ≡ 7))
  refused_folder Usage S by fails store none = other_than RefusesFolder Usage (λ r. cc) _ (known-usage fails.0)
  refused_folder (Image refusal) S by fails store none = other_than RefusesFolder (Image refusal) (λ r. cc) _ fails.0.first
  refused_folder (Export refusal) S by fails store none = each_some (wanted told words) (λ found r. by)
  refused_folder Store S by fails store none = absurd (none (store refl))
  refused_folder Host S by fails store none = no_run RefusesFolder no_folder_run _ fails
  refused_folder Output S by fails store none = no_run RefusesFolder no_folder_run _ fails
  refused_folder NoMemory S by fails store none = each_some (wanted told words) (λ found r. inr (⊎_elim (λ e. e) (λ e. e) by))

  -- the status of what is wanted was answered, or want of memory's
  abbrev Ends : Result Outcome Failure → Type 0
  Ends found = IfOk found (λ outcome. (status ≡ status_of_outcome outcome) ⊎ (status ≡ 7))

  ends-refused : (f : Failure) → IfSome (wanted told words) (λ found. found ≡ Err f) → IfSome (wanted told words) Ends
  ends-refused f first = if_some (wanted told words) first (λ found is. subst Ends (sym is) tt)

  ends-late : (refusal : ExportRefusal) → (status ≡ 8) ⊎ (status ≡ 7) → SomeRun told words (IsRefusedLate refusal old new) → IfSome (wanted told words) Ends
  ends-late refusal by late =
      if_some (wanted told words) late.is_wanted
      (λ found is. subst Ends (sym is) (⊎_elim (λ eight. inl (eight ∙ sym (late-status _ refusal old new late.holds))) (λ seven. inr seven) by))

  each-ends : (found : Result Outcome Failure) → status ≡ 7 → Ends found
  each-ends (Ok outcome) seven = inr seven
  each-ends (Err f) seven = tt

  -- where words and image are accepted, and no call failed
  pub complete : (f : Failure) (StoreRose HostRose OutRose : Type 0) → Answers f status → HasFailureCause f told words old new → (f ≡ Store → StoreRose) → (f ≡ Host → HostRose) → (f ≡ Output → OutRose) → ¬ StoreRose → ¬ HostRose → ¬ OutRose → IfSome (wanted told words) Ends
  complete Usage S H O by fails store host output no_store no_host no_output = ends-refused Usage (known-usage fails.0)
  complete (Image refusal) S H O by fails store host output no_store no_host no_output = ends-refused (Image refusal) fails.0.first
  complete (Export refusal) S H O by fails store host output no_store no_host no_output =
      ⊎_elim (λ once. ends-refused (Export Exists) once.first) (λ late. ends-late refusal by late) fails
  complete Store S H O by fails store host output no_store no_host no_output = absurd (no_store (store refl))
  complete Host S H O by fails store host output no_store no_host no_output = absurd (no_host (host refl))
  complete Output S H O by fails store host output no_store no_host no_output = absurd (no_output (output refl))
  complete NoMemory S H O by fails store host output no_store no_host no_output =
      each_some (wanted told words) (λ found. each-ends found (⊎_elim (λ e. e) (λ e. e) by))

-- where a run was completed nothing was refused
pub not_refused_words : {P : Outcome → Type 0} (told : Option StoreFiles) (words : List (List ℕ)) → SomeRun told words P → wanted told words ≡ Some (Err Usage) → ⊥
not_refused_words told words run is = run_unless told words Usage run is

pub not_refused_image : {P : Outcome → Type 0} (Q : Type 0) (told : Option StoreFiles) (words : List (List ℕ)) → SomeRun told words P → IfSome (wanted told words) (λ found. RefusesImage found → Q)
not_refused_image Q told words run =
    if_some (wanted told words) run.is_wanted (λ found is r. absurd (let bad = sym is ∙ r.refused in cc))

pub not_refused_folder : {P : Outcome → Type 0} (Q : Type 0) (told : Option StoreFiles) (words : List (List ℕ)) → SomeRun told words P → IfSome (wanted told words) (λ found. RefusesFolder found → Q)
not_refused_folder Q told words run =
    if_some (wanted told words) run.is_wanted (λ found is r. absurd (let bad = sym is ∙ r in cc))

-- and its status is that of what is wanted
pub completed : (status : ℕ) (told now : Option StoreFiles) (words : List (List ℕ)) (old new : Option (List ℕ)) (w : World) → SomeRun told words (λ outcome. IsCompleted outcome status old new w × HasPut outcome told now) → IfSome (wanted told words) (λ found. IfOk found (λ outcome. (status ≡ status_of_outcome outcome) ⊎ (status ≡ 7)))
completed status told now words old new w run =
    if_some (wanted told words) run.is_wanted
    (λ found is. subst (λ found. IfOk found (λ outcome. (status ≡ status_of_outcome outcome) ⊎ (status ≡ 7))) (sym is) (inl (completed-status status old new w _ told now run.holds.0 run.holds.1)))
