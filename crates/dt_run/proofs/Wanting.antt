-- What is wanted, by the words' request and the image that was read.
use Rattle.std.proofs.Common.{◌≡◌, ◌≢◌, ℕ, Bool, true, false, cond, List, [], Option, Some, None, Result, Ok, Err, refl, sym, ap, subst, ◌∙◌, inl, inr}
use Rattle.std.specs.Prelude.{IsSome, IfSome, IfOk, IfErr, IsErrAnd, option_and_then}
use Rattle.dt_base.specs.declared.refusal.Refusal.{Refusal}
use Rattle.dt_base.specs.declared.refusal.Refusal.TheVariants.{BadSteps}
use Rattle.dt_base.specs.declared.refusal.ImageErr.{ImageErr}
use Rattle.dt_base.specs.declared.refusal.ImageErr.TheVariants.{Refused as ImageRefused, Store as StoreFailed, NoMemory as NoImageMemory}
use Rattle.dt_base.specs.Image.{ImageParts, IsImage}
use Rattle.dt_host.specs.Store.{StoreFiles}
use Rattle.dt_host.specs.declared.error.StoreErr.{StoreErr}
use Rattle.dt_host.specs.declared.error.StoreErr.TheVariants.{Failed as StoreCallFailed, NoMemory as NoStoreMemory}
use Rattle.dt_export.specs.declared.refusal.ExportRefusal.TheVariants.{Exists}
use Rattle.dt_export.specs.ExportedFiles.{has_index}
use Rattle.dt_asm.specs.Demo.{demo_image}
use Rattle.dt_asm.proofs.Demonstration.{demo_image_is}
use Rattle.dt_base.specs.Command.{Words}
use Rattle.dt_export.specs.Steps.{steps_at, IsListed}
use Rattle.dt_options.specs.Options.{Request, ExportRequest, DemoRequest, StepsRequest, Form, run_form, export_form, demo_form, steps_form, form_of}
use Rattle.dt_options.specs.declared.options.UsageErr.{UsageErr}
use Rattle.dt_options.specs.declared.options.UsageErr.TheVariants.{Refused as WordsRefused, NoMemory as NoWordsMemory}
use Rattle.dt_image.specs.ImageOf.{image_of}
use Rattle.dt_engine.specs.declared.error.RunErr.{RunErr}
use Rattle.dt_engine.specs.declared.error.RunErr.TheVariants.{Host as HostFailed, Sink as SinkFailed, NoMemory as NoRunMemory}
use Rattle.dt_run.specs.declared.failure.Failure.{Failure}
use Rattle.dt_run.specs.declared.failure.Failure.TheVariants.{Usage, Image, Export, Store, Host, Output, NoMemory}
use Rattle.dt_run.specs.Written.{demonstrated}
use Rattle.dt_host.specs.Sink.{AddsPart}
use Rattle.dt_steps.specs.declared.error.StepsErr.{StepsErr}
use Rattle.dt_steps.specs.declared.error.StepsErr.TheVariants.{Run as RunFailed, LongPath, TooMany}
use Rattle.dt_steps.specs.Cache.{CacheView}
use Rattle.dt_steps.specs.Answered.{answer_of, Answers}
use Rattle.dt_steps.specs.Steps.{Steps, steps_on}
use Rattle.dt_run.specs.Outcome.{Outcome, some_steps, written_alone, exported}
use Rattle.dt_run.specs.Wanted.{reported_on, outcome_on, run_or_refusal, export_or_refusal, steps_or_refusal, wanted, form_outcome, image_folder, request_of_export, ReadsStore, AsksExport, request_of_steps, AsksSteps}
use Rattle.dt_run.specs.SomeRun.{SomeRun, AddsTextPart}
use Rattle.dt_run.specs.Exports.{MayPut, ChangesFolder}
use Rattle.dt_run.specs.inner.Exporting.{FailsExport}
use Rattle.dt_run.specs.inner.Fails.{HasFailureCause}
use Rattle.dt_run.specs.inner.Listing.{FailsSteps}
use Rattle.dt_run.specs.inner.Failures.{failure_of_usage, failure_of_image, failure_of_run, failure_of_steps, failure_of_store}

-- what a form wants, for words that have it
wanted-form : (told : Option StoreFiles) (words : List (List ℕ)) (form : Option Form) → form_of words ≡ form → wanted told words ≡ form_outcome form told
unfolding wanted
wanted-form told words form is = ap (λ found. form_outcome found told) is

-- words that ask for a run are not refused
pub not_refused : (told : Option StoreFiles) (words : List (List ℕ)) → ReadsStore words → wanted told words ≡ Some (Err Usage) → ⊥
unfolding wanted
not_refused told words some is = by_form (form_of words) told some is
  where
    by_found : (request : Request) (found : Result (ImageParts × List ℕ) Refusal) → run_or_refusal request found ≡ Err Usage → ⊥
    by_found request (Ok image) is = cc
    by_found request (Err refusal) is = cc

    by_free : (request : ExportRequest) (image : ImageParts × List ℕ) (b : Bool) → cond b (Err (Export Exists)) (Ok (exported request.to (reported_on request.run image))) ≡ Err Usage → ⊥
    by_free request image true is = cc
    by_free request image false is = cc

    by_folder : (request : ExportRequest) (files : StoreFiles) (found : Result (ImageParts × List ℕ) Refusal) → export_or_refusal request files found ≡ Err Usage → ⊥
    by_folder request files (Ok image) is = by_free request image (has_index files request.to) is
    by_folder request files (Err refusal) is = cc

    by_listed : (request : StepsRequest) (found : Result (ImageParts × List ℕ) Refusal) (commands : Option (List Words)) → steps_or_refusal request found commands ≡ Err Usage → ⊥
    by_listed request (Err refusal) commands is = cc
    by_listed request (Ok image) None is = cc
    by_listed request (Ok image) (Some commands) is = cc

    by_form : (form : Option Form) (told : Option StoreFiles) → IsSome (option_and_then image_folder form) → form_outcome form told ≡ Some (Err Usage) → ⊥
    by_form None told some is = cc
    by_form (Some (run_form request)) None some is = cc
    by_form (Some (run_form request)) (Some files) some is = by_found request (image_of files request.image request.input) (cc)
    by_form (Some (export_form request)) None some is = cc
    by_form (Some (export_form request)) (Some files) some is = by_folder request files (image_of files request.run.image request.run.input) (cc)
    by_form (Some (demo_form request)) told some is = cc
    by_form (Some (steps_form request)) None some is = cc
    by_form (Some (steps_form request)) (Some files) some is = by_listed request (image_of files request.image None) (steps_at files request.image request.file) (cc)

-- the run on the image that was read is wanted
read_run : (told : Option StoreFiles) (request : Request) (image : ImageParts × List ℕ) → IfSome told (λ files. image_of files request.image request.input ≡ Ok image) → IfSome (form_outcome (Some (run_form request)) told) (λ found. found ≡ Ok (written_alone (reported_on request image)))
read_run None request image read = tt
read_run (Some files) request image read = rw read

-- the refusal of the image is wanted
read_refusal : (told : Option StoreFiles) (request : Request) (refusal : Refusal) → IfSome told (λ files. image_of files request.image request.input ≡ Err refusal) → IfSome (form_outcome (Some (run_form request)) told) (λ found. found ≡ Err (Image refusal))
read_refusal None request refusal read = tt
read_refusal (Some files) request refusal read = rw read

-- likewise with its export, to a folder that has no index
read_export : (told : Option StoreFiles) (request : ExportRequest) (image : ImageParts × List ℕ) → IfSome told (λ files. image_of files request.run.image request.run.input ≡ Ok image) → IfSome told (λ files. has_index files request.to ≡ false) → IfSome (form_outcome (Some (export_form request)) told) (λ found. found ≡ Ok (exported request.to (reported_on request.run image)))
read_export None request image read free = tt
read_export (Some files) request image read free =
    ap (export_or_refusal request files) read
    ∙ ap (λ b. cond b (Err (Export Exists)) (Ok (exported request.to (reported_on request.run image)))) free

export_refused : (told : Option StoreFiles) (request : ExportRequest) (refusal : Refusal) → IfSome told (λ files. image_of files request.run.image request.run.input ≡ Err refusal) → IfSome (form_outcome (Some (export_form request)) told) (λ found. found ≡ Err (Image refusal))
export_refused None request refusal read = tt
export_refused (Some files) request refusal read = ap (export_or_refusal request files) read

folder_refused : (told : Option StoreFiles) (request : ExportRequest) (image : ImageParts × List ℕ) → IfSome told (λ files. image_of files request.run.image request.run.input ≡ Ok image) → IfSome told (λ files. has_index files request.to ≡ true) → IfSome (form_outcome (Some (export_form request)) told) (λ found. found ≡ Err (Export Exists))
folder_refused None request image read taken = tt
folder_refused (Some files) request image read taken =
    ap (export_or_refusal request files) read
    ∙ ap (λ b. cond b (Err (Export Exists)) (Ok (exported request.to (reported_on request.run image)))) taken

pub some_run : (told : Option StoreFiles) (words : List (List ℕ)) (request : Request) (folder : List ℕ) (image : ImageParts × List ℕ) (P : Outcome → Type 0) → form_of words ≡ Some (run_form request) → folder ≡ request.image → IsImage image.0 → IfSome told (λ files. image_of files folder request.input ≡ Ok image) → (request.input ≡ None → image.1 ≡ [])
    → P (written_alone (reported_on request image)) → SomeRun told words P
some_run told words request folder image P is at good read unnamed holds = record {
  form = run_form request;
  parsed = is;
  image = image.0;
  good = good;
  input = image.1;
  named = unnamed;
  commands = [];
  listed = tt;
  is_wanted = subst (λ found. IfSome found (λ w. w ≡ Ok (written_alone (reported_on request image)))) (sym (wanted-form told words (Some (run_form request)) is)) (read_run told request image (subst (λ name. IfSome told (λ files. image_of files name request.input ≡ Ok image)) at read));
  holds = holds;
}

-- a demonstration is wanted, whatever the files are
pub some_demo : (told : Option StoreFiles) (words : List (List ℕ)) (request : DemoRequest) (P : Outcome → Type 0) → form_of words ≡ Some (demo_form request) → P (written_alone (demonstrated request.number)) → SomeRun told words P
some_demo told words request P is holds = record {
  form = demo_form request;
  parsed = is;
  image = demo_image request.number;
  good = demo_image_is request.number;
  input = [];
  named = tt;
  commands = [];
  listed = tt;
  is_wanted = subst (λ found. IfSome found (λ w. w ≡ Ok (written_alone (demonstrated request.number)))) (sym (wanted-form told words (Some (demo_form request)) is)) refl;
  holds = holds;
}

-- what was answered on an error is the failure that it stands for
pub on_err : {A : Type 0} (r : Result A Failure) (P : Failure → Type 0) (f : Failure) → IsErrAnd r (λ found. found ≡ f) → P f → IfErr r P
on_err (Ok x) P f is h = tt
on_err (Err found) P f is h = subst P (sym is) h

-- what follows of each failure, and of each value, follows of an answer
pub each_err : {A : Type 0} (r : Result A Failure) (P Q : Failure → Type 0) → IfErr r P → ((f : Failure) → P f → Q f) → IfErr r Q
each_err (Ok x) P Q h on = tt
each_err (Err f) P Q h on = on f h

pub each_ok : {A : Type 0} (r : Result A Failure) (P Q : A → Type 0) → IfOk r P → ((x : A) → P x → Q x) → IfOk r Q
each_ok (Ok x) P Q h on = on x h
each_ok (Err f) P Q h on = tt

-- where the words are refused, or memory was wanting for them
pub fails_words : (e : UsageErr) (told : Option StoreFiles) (words : List (List ℕ)) (out : Option (List ℕ)) → (e ≡ WordsRefused → form_of words ≡ None) → HasFailureCause (failure_of_usage e) told words out out
fails_words WordsRefused told words out refused = (wanted-form told words None (refused refl), refl)
fails_words NoWordsMemory told words out refused = inr refl

-- where the image was not read
pub fails_image : (e : ImageErr) (told : Option StoreFiles) (words : List (List ℕ)) (request : Request) (folder : List ℕ) (out : Option (List ℕ)) → form_of words ≡ Some (run_form request) → folder ≡ request.image → ((refusal : Refusal) → e ≡ ImageRefused refusal → IfSome told (λ files. image_of files folder request.input ≡ Err refusal)) → e ≢ ImageRefused BadSteps → HasFailureCause (failure_of_image e) told words out out
fails_image (ImageRefused refusal) told words request folder out is at refused own =
    let read = subst (λ name. IfSome told (λ files. image_of files name request.input ≡ Err refusal)) at (refused refusal refl) in (
      record {
        first = subst (λ found. IfSome found (λ run. run ≡ Err (Image refusal))) (sym (wanted-form told words (Some (run_form request)) is)) (read_refusal told request refusal read);
        steps = λ bad. absurd (own (ap ImageRefused bad));
      },
      refl,
    )
fails_image StoreFailed told words request folder out is at refused own = (subst (λ form. IsSome (option_and_then image_folder form)) (sym is) refl, inl refl)
fails_image NoImageMemory told words request folder out is at refused own = inr refl

-- where the run on the image was not completed
pub fails_run_of : (e : RunErr) (told : Option StoreFiles) (words : List (List ℕ)) (old new : Option (List ℕ)) → AddsTextPart told words old new → HasFailureCause (failure_of_run e) told words old new
fails_run_of HostFailed told words old new part = part
fails_run_of SinkFailed told words old new part = part
fails_run_of NoRunMemory told words old new part = inl part

-- ---- an export

module _ (told : Option StoreFiles) (words : List (List ℕ)) (request : ExportRequest) (folder : List ℕ) (asked : form_of words ≡ Some (export_form request)) (at : folder ≡ request.run.image) where
  reads : IsSome (option_and_then image_folder (form_of words))
  reads = subst (λ form. IsSome (option_and_then image_folder form)) (sym asked) refl

  asks : AsksExport words
  asks = subst (λ form. IsSome (option_and_then request_of_export form)) (sym asked) refl

  -- where the image was not read
  pub fails_export_image : (e : ImageErr) (out : Option (List ℕ)) → ((refusal : Refusal) → e ≡ ImageRefused refusal → IfSome told (λ files. image_of files folder request.run.input ≡ Err refusal)) → e ≢ ImageRefused BadSteps → HasFailureCause (failure_of_image e) told words out out
  fails_export_image (ImageRefused refusal) out refused own =
      let read = subst (λ name. IfSome told (λ files. image_of files name request.run.input ≡ Err refusal)) at (refused refusal refl) in (
        record {
          first = subst (λ found. IfSome found (λ run. run ≡ Err (Image refusal))) (sym (wanted-form told words (Some (export_form request)) asked)) (export_refused told request refusal read);
          steps = λ bad. absurd (own (ap ImageRefused bad));
        },
        refl,
      )
  fails_export_image StoreFailed out refused own = (reads, inl refl)
  fails_export_image NoImageMemory out refused own = inr refl

  -- where the store failed before the run
  pub fails_folder : (e : StoreErr) (out : Option (List ℕ)) → HasFailureCause (failure_of_store e) told words out out
  fails_folder StoreCallFailed out = (reads, inl refl)
  fails_folder NoStoreMemory out = inr refl

  module _ (image : ImageParts × List ℕ) (read : IfSome told (λ files. image_of files folder request.run.input ≡ Ok image)) (unnamed : request.run.input ≡ None → image.1 ≡ []) where
    read-at : IfSome told (λ files. image_of files request.run.image request.run.input ≡ Ok image)
    read-at = subst (λ name. IfSome told (λ files. image_of files name request.run.input ≡ Ok image)) at read

    -- where the folder has an index
    pub fails_taken : (out : Option (List ℕ)) → IfSome told (λ files. has_index files request.to ≡ true) → HasFailureCause (Export Exists) told words out out
    fails_taken out taken = inl (record {
      asked = asks;
      is = refl;
      first = subst (λ found. IfSome found (λ run. run ≡ Err (Export Exists))) (sym (wanted-form told words (Some (export_form request)) asked)) (folder_refused told request image read-at taken);
      nothing = refl;
    })

    -- the run on the image that was read, with its export, is wanted
    pub some_export : (P : Outcome → Type 0) → IsImage image.0 → IfSome told (λ files. has_index files request.to ≡ false) → P (exported request.to (reported_on request.run image)) → SomeRun told words P
    some_export P good free holds = record {
      form = export_form request;
      parsed = asked;
      image = image.0;
      good = good;
      input = image.1;
      named = unnamed;
      commands = [];
      listed = tt;
      is_wanted = subst (λ found. IfSome found (λ w. w ≡ Ok (exported request.to (reported_on request.run image)))) (sym (wanted-form told words (Some (export_form request)) asked)) (read_export told request image read-at free);
      holds = holds;
    }

    -- where it was not completed
    pub fails_export : (f : Failure) (old new : Option (List ℕ)) → IsImage image.0 → IfSome told (λ files. has_index files request.to ≡ false) → FailsExport f (exported request.to (reported_on request.run image)) old new → HasFailureCause f told words old new
    fails_export Usage old new good free fails = absurd fails
    fails_export (Image refusal) old new good free fails = absurd fails
    fails_export (Export refusal) old new good free fails = inr (some_export _ good free fails)
    fails_export Store old new good free fails = (reads, inr (some_export _ good free fails))
    fails_export Host old new good free fails = some_export _ good free fails
    fails_export Output old new good free fails = some_export _ good free fails
    fails_export NoMemory old new good free fails = inl (some_export _ good free fails)

-- ---- steps

-- why steps came to no status
pub fails_steps_of : (e : StepsErr) (steps : Steps) (old new : Option (List ℕ)) (before after : CacheView) → IfSome (answer_of (Err e)) (Answers steps old new before after)
    → AddsPart old new steps.output → FailsSteps (failure_of_steps e) steps old new
fails_steps_of (RunFailed HostFailed) steps old new before after answers part = part
fails_steps_of (RunFailed SinkFailed) steps old new before after answers part = part
fails_steps_of (RunFailed NoRunMemory) steps old new before after answers part = part
fails_steps_of LongPath steps old new before after answers part = record { answer = answers.answer; report = answers.output }
fails_steps_of TooMany steps old new before after answers part = record { answer = answers.answer; report = answers.output }

module _ (told : Option StoreFiles) (words : List (List ℕ)) (request : StepsRequest) (folder : List ℕ) (asked : form_of words ≡ Some (steps_form request)) (at : folder ≡ request.image) where
  reads-listed : IsSome (option_and_then image_folder (form_of words))
  reads-listed = subst (λ form. IsSome (option_and_then image_folder form)) (sym asked) refl

  asks-steps : AsksSteps words
  asks-steps = subst (λ form. IsSome (option_and_then request_of_steps form)) (sym asked) refl

  wanted-listed : (P : Result Outcome Failure → Type 0) → IfSome (form_outcome (Some (steps_form request)) told) P → IfSome (wanted told words) P
  wanted-listed P h = subst (λ found. IfSome found P) (sym (wanted-form told words (Some (steps_form request)) asked)) h

  -- where the image was not read
  pub fails_steps_image : (e : ImageErr) (out : Option (List ℕ)) → ((refusal : Refusal) → e ≡ ImageRefused refusal → IfSome told (λ files. image_of files folder None ≡ Err refusal)) → HasFailureCause (failure_of_image e) told words out out
  fails_steps_image (ImageRefused refusal) out refused = (
    record {
      first = wanted-listed (λ found. found ≡ Err (Image refusal)) (by_told told (subst (λ name. IfSome told (λ files. image_of files name None ≡ Err refusal)) at (refused refusal refl)));
      steps = λ bad. asks-steps;
    },
    refl,
  )
    where
      by_told : (told : Option StoreFiles) → IfSome told (λ files. image_of files request.image None ≡ Err refusal) → IfSome (form_outcome (Some (steps_form request)) told) (λ found. found ≡ Err (Image refusal))
      by_told None read = tt
      by_told (Some files) read = ap (λ found. steps_or_refusal request found (steps_at files request.image request.file)) read
  fails_steps_image StoreFailed out refused = (reads-listed, inl refl)
  fails_steps_image NoImageMemory out refused = inr refl

  module _ (image : ImageParts × List ℕ) (read : IfSome told (λ files. image_of files folder None ≡ Ok image)) where
    image-at : IfSome told (λ files. image_of files request.image None ≡ Ok image)
    image-at = subst (λ name. IfSome told (λ files. image_of files name None ≡ Ok image)) at read

    -- where the file was not read, or lists no commands
    pub fails_file : (e : ImageErr) (out : Option (List ℕ)) → ((refusal : Refusal) → e ≡ ImageRefused refusal → (refusal ≡ BadSteps) × IfSome told (λ files. steps_at files request.image request.file ≡ None))
        → HasFailureCause (failure_of_image e) told words out out
    fails_file (ImageRefused refusal) out refused =
        let why = refused refusal refl in (
          record {
            first = subst (λ r. IfSome (wanted told words) (λ found. found ≡ Err (Image r))) (sym why.0) (wanted-listed (λ found. found ≡ Err (Image BadSteps)) (by_told told image-at why.1));
            steps = λ bad. asks-steps;
          },
          refl,
        )
      where
        by_told : (told : Option StoreFiles) → IfSome told (λ files. image_of files request.image None ≡ Ok image) → IfSome told (λ files. steps_at files request.image request.file ≡ None)
            → IfSome (form_outcome (Some (steps_form request)) told) (λ found. found ≡ Err (Image BadSteps))
        by_told None read none = tt
        by_told (Some files) read none =
            ap (λ found. steps_or_refusal request found (steps_at files request.image request.file)) read ∙ ap (steps_or_refusal request (Ok image)) none
    fails_file StoreFailed out refused = (reads-listed, inl refl)
    fails_file NoImageMemory out refused = inr refl

    module _ (good : IsImage image.0) (commands : List Words) (is_listed : IsListed commands) (listed : IfSome told (λ files. steps_at files request.image request.file ≡ Some commands)) where
      -- the steps that the file lists are wanted
      pub some_listed : (P : Outcome → Type 0) → P (some_steps (steps_on image.0 commands request.seed request.budget)) → SomeRun told words P
      some_listed P holds = record {
        form = steps_form request;
        parsed = asked;
        image = image.0;
        good = good;
        input = image.1;
        named = tt;
        commands = commands;
        listed = is_listed;
        is_wanted = wanted-listed (λ found. found ≡ Ok (some_steps (steps_on image.0 commands request.seed request.budget))) (by_told told image-at listed);
        holds = holds;
      }
        where
          by_told : (told : Option StoreFiles) → IfSome told (λ files. image_of files request.image None ≡ Ok image) → IfSome told (λ files. steps_at files request.image request.file ≡ Some commands)
              → IfSome (form_outcome (Some (steps_form request)) told) (λ found. found ≡ Ok (some_steps (steps_on image.0 commands request.seed request.budget)))
          by_told None read is = tt
          by_told (Some files) read is =
              ap (λ found. steps_or_refusal request found (steps_at files request.image request.file)) read ∙ ap (steps_or_refusal request (Ok image)) is

      -- where they came to no status
      pub fails_listed : (f : Failure) (old new : Option (List ℕ)) → FailsSteps f (steps_on image.0 commands request.seed request.budget) old new → HasFailureCause f told words old new
      fails_listed Usage old new fails = absurd fails
      fails_listed (Image refusal) old new fails = absurd fails
      fails_listed (Export refusal) old new fails = inr (some_listed _ (record { is = fails.answer; report = fails.report }))
      fails_listed Store old new fails = absurd fails
      fails_listed Host old new fails = some_listed _ fails
      fails_listed Output old new fails = some_listed _ fails
      fails_listed NoMemory old new fails = inl (some_listed _ fails)

-- whether a folder has an index, as it was found after the store was read
pub index-is : (told now : Option StoreFiles) (folder to : List ℕ) (found b : Bool) → now ≡ told → folder ≡ to → IfSome now (λ files. found ≡ has_index files folder) → found ≡ b → IfSome told (λ files. has_index files to ≡ b)
index-is told now folder to found b same at ok is =
    subst (λ told. IfSome told (λ files. has_index files to ≡ b)) same
    (subst (λ name. IfSome now (λ files. has_index files name ≡ b)) at (by_told now ok))
  where
    by_told : (now : Option StoreFiles) → IfSome now (λ files. found ≡ has_index files folder) → IfSome now (λ files. has_index files folder ≡ b)
    by_told None ok = tt
    by_told (Some files) ok = sym ok ∙ is

-- the steps that a file lists, as they were read after the image was
pub steps-is : (told now : Option StoreFiles) (folder image name file : List ℕ) (found : Option (List Words)) → now ≡ told → folder ≡ image → name ≡ file
    → IfSome now (λ files. steps_at files folder name ≡ found) → IfSome told (λ files. steps_at files image file ≡ found)
steps-is told now folder image name file found same at called is =
    subst (λ told. IfSome told (λ files. steps_at files image file ≡ found)) same
    (subst (λ name. IfSome now (λ files. steps_at files image name ≡ found)) called
    (subst (λ folder. IfSome now (λ files. steps_at files folder name ≡ found)) at is))

-- ---- the host

-- where a run is wanted nothing is refused
pub run_unasked : {P : Outcome → Type 0} (Q : Type 0) (told : Option StoreFiles) (words : List (List ℕ)) → SomeRun told words P → IfSome (wanted told words) (λ what. IfErr what (λ _. Q))
run_unasked Q told words run = by_wanted (wanted told words) run.is_wanted
  where
    by_wanted : (found : Option (Result Outcome Failure)) → IfSome found (λ what. what ≡ Ok (outcome_on run.form (run.image, run.input) run.commands)) → IfSome found (λ what. IfErr what (λ _. Q))
    by_wanted None is = tt
    by_wanted (Some (Ok outcome)) is = tt
    by_wanted (Some (Err f)) is = absurd (cc)

-- ---- the store

-- where it stays, whatever the words ask for
pub may_stay : (told : Option StoreFiles) (form : Option Form) → MayPut form told told
may_stay told None = refl
may_stay told (Some (run_form request)) = refl
may_stay told (Some (export_form request)) = folder_stays told
  where
    folder_stays : (told : Option StoreFiles) → ChangesFolder request.to told told
    folder_stays None = refl
    folder_stays (Some files) = λ name no_index no_blob. refl
may_stay told (Some (demo_form request)) = refl
may_stay told (Some (steps_form request)) = refl

-- what an export may change
pub may_put : (told now : Option StoreFiles) (words : List (List ℕ)) (request : ExportRequest) → form_of words ≡ Some (export_form request) → ChangesFolder request.to told now → MayPut (form_of words) told now
may_put told now words request asked changes = subst (λ form. MayPut form told now) (sym asked) changes
