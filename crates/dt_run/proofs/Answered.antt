-- What was answered to what is wanted, and what two answers to the same have in common.
use Rattle.std.proofs.Common.{◌≡◌, ◌||◌, ◌==◌, ℕ, Bool, true, false, List, [], Option, Some, None, Result, Ok, Err, refl, sym, ap, subst, ◌∙◌, ⊎_elim, inl, inr, arith}
use Rattle.std.proofs.lemmas.Bool.{eqb-true}
use Rattle.std.proofs.lemmas.Bool.Decides.{nat_tests}
use Rattle.std.specs.Prelude.{◌⊎◌, ◌≢◌, IsTrue, IsSome, IfSome, option_map}
use Rattle.dt_base.specs.Image.{ImageParts}
use Rattle.dt_base.specs.declared.refusal.Refusal.{Refusal}
use Rattle.dt_host.specs.Sink.{added, AddsPart}
use Rattle.dt_host.specs.Store.{StoreFiles}
use Rattle.dt_host.specs.World.{World}
use Rattle.dt_host.proofs.Growth.{added-nil, adds_none, adds_all}
use Rattle.dt_image.specs.ImageOf.{image_of}
use Rattle.dt_options.specs.Arguments.{default_workers}
use Rattle.dt_base.specs.Command.{Words}
use Rattle.dt_export.specs.Steps.{steps_at}
use Rattle.dt_options.specs.Options.{Request, ExportRequest, StepsRequest, Form, run_form, export_form, demo_form, steps_form, form_of}
use Rattle.dt_run.specs.declared.failure.Failure.{Failure}
use Rattle.dt_run.specs.declared.failure.Failure.TheVariants.{Usage, Image, Export, Store, Host, Output, NoMemory}
use Rattle.dt_run.specs.Failure.{failure_status, failure_line}
use Rattle.dt_engine.specs.HoldsTree.{HoldSame}
use Rattle.dt_export.specs.declared.refusal.ExportRefusal.{ExportRefusal}
use Rattle.dt_export.specs.declared.refusal.ExportRefusal.TheVariants.{Exists}
use Rattle.dt_run.specs.Outcome.{Outcome, text_of, files_after, IsCompleted}
use Rattle.dt_run.specs.SomeRun.{SomeRun, AddsTextPart, AddsExportText}
use Rattle.dt_run.specs.Exports.{HasPut, IsRefusedLate}
use Rattle.dt_run.specs.Statuses.{is_status, is_run_status, precedes_run, fails_run, status_line, AddsLine, AddsRefusal, AddsExportRefusal}
use Rattle.dt_run.specs.Wanted.{outcome_on, run_or_refusal, export_or_refusal, steps_or_refusal, wanted, form_outcome}
use Rattle.dt_run.proofs.Ran.{never}
use Rattle.dt_run.proofs.Outcomes.{completed-report, completed-same, completed-late, completed-trees, completed-line, refused-line, outcome_line}
use Rattle.dt_run.proofs.Lines.{run_line}
use Rattle.dt_run.specs.Agree.{without_choices, AskTheSame, is_decided}

-- what is wanted of known files is known
pub known-wanted : (told : Option StoreFiles) (words : List (List ℕ)) → IsSome told → IsSome (wanted told words)
unfolding wanted
known-wanted told words known = by_form (form_of words) told known
  where
    by_form : (form : Option Form) (told : Option StoreFiles) → IsSome told → IsSome (form_outcome form told)
    by_form None told known = refl
    by_form (Some (run_form request)) None known = cc
    by_form (Some (run_form request)) (Some files) known = refl
    by_form (Some (export_form request)) None known = cc
    by_form (Some (export_form request)) (Some files) known = refl
    by_form (Some (demo_form request)) told known = refl
    by_form (Some (steps_form request)) None known = cc
    by_form (Some (steps_form request)) (Some files) known = refl

-- the numbers of workers and of the host have no part in what is wanted
unchosen-run : (request : Request) (workers : ℕ) (host : Option ℕ) (found : Result (ImageParts × List ℕ) Refusal) → run_or_refusal request found ≡ run_or_refusal (record request { workers = workers; host = host }) found
unchosen-run request workers host (Ok entries) = refl
unchosen-run request workers host (Err refusal) = refl

unchosen-export : (request : ExportRequest) (workers : ℕ) (host : Option ℕ) (files : StoreFiles) (found : Result (ImageParts × List ℕ) Refusal) → export_or_refusal request files found ≡ export_or_refusal (record request { run = record request.run { workers = workers; host = host } }) files found
unchosen-export request workers host files (Ok entries) = refl
unchosen-export request workers host files (Err refusal) = refl

unchosen-steps : (request : StepsRequest) (workers : ℕ) (host : Option ℕ) (found : Result (ImageParts × List ℕ) Refusal) (commands : Option (List Words)) → steps_or_refusal request found commands ≡ steps_or_refusal (record request { workers = workers; host = host }) found commands
unchosen-steps request workers host (Err refusal) commands = refl
unchosen-steps request workers host (Ok entries) None = refl
unchosen-steps request workers host (Ok entries) (Some commands) = refl

unchosen-wanted : (form : Option Form) (told : Option StoreFiles) → form_outcome form told ≡ form_outcome (option_map without_choices form) told
unchosen-wanted None told = refl
unchosen-wanted (Some (run_form request)) None = refl
unchosen-wanted (Some (run_form request)) (Some files) = ap Some (unchosen-run request default_workers None (image_of files request.image request.input))
unchosen-wanted (Some (export_form request)) None = refl
unchosen-wanted (Some (export_form request)) (Some files) = ap Some (unchosen-export request default_workers None files (image_of files request.run.image request.run.input))
unchosen-wanted (Some (demo_form request)) told = refl
unchosen-wanted (Some (steps_form request)) None = refl
unchosen-wanted (Some (steps_form request)) (Some files) = ap Some (unchosen-steps request default_workers None (image_of files request.image None) (steps_at files request.image request.file))

pub same-wanted : (told other_told : Option StoreFiles) (words other : List (List ℕ)) → other_told ≡ told → AskTheSame words other → wanted other_told other ≡ wanted told words
unfolding wanted
same-wanted told other_told words other same alike =
    ap (λ t. form_outcome (form_of other) t) same
    ∙ unchosen-wanted (form_of other) told
    ∙ ap (λ form. form_outcome form told) (sym alike)
    ∙ sym (unchosen-wanted (form_of words) told)

pub the : {X : Type 0} (found : Option X) → IsSome found → X
the None is = absurd (cc)
the (Some x) is = x

pub the-is : {X : Type 0} (found : Option X) (is : IsSome found) → found ≡ Some (the found is)
unfolding the
the-is None is = cc
the-is (Some x) is = refl

-- what is wanted was answered: the run was completed and its export put; or its export was refused, after it; or the
-- refusal's status came and nothing was added
pub record AnsweredLate (outcome : Outcome) (status : ℕ) (old new : Option (List ℕ)) : Type 0 where
  pub eight : status ≡ 8
  pub refusal : ExportRefusal
  pub late : IsRefusedLate refusal old new outcome

abbrev pub Answered : Result Outcome Failure → ℕ → Option (List ℕ) → Option (List ℕ) → World → Option StoreFiles → Option StoreFiles → Type 0
Answered (Ok outcome) status old new w told now = (IsTrue (is_run_status status) × IsCompleted outcome status old new w × HasPut outcome told now) ⊎ AnsweredLate outcome status old new
Answered (Err f) status old new w told now = (status ≡ failure_status f) × (new ≡ old)

-- the bytes that such an answer adds
abbrev pub bytes_of : Result Outcome Failure → List ℕ
bytes_of (Ok outcome) = text_of outcome
bytes_of (Err f) = []

-- the line that it has
abbrev pub line_of : Result Outcome Failure → List ℕ
line_of (Ok outcome) = outcome_line outcome
line_of (Err f) = failure_line f

either : (a b : Bool) → IsTrue (a || b) → IsTrue a ⊎ IsTrue b
either true b h = inl refl
either false b h = inr h

-- the status of no failure is a run's
no_run : (f : Failure) → IsTrue (is_run_status (failure_status f)) → ⊥
no_run Usage is = cc
no_run (Image refusal) is = cc
no_run (Export refusal) is = cc
no_run Store is = cc
no_run Host is = cc
no_run Output is = cc
no_run NoMemory is = cc

the_run : {P : Outcome → Type 0} (told : Option StoreFiles) (words : List (List ℕ)) (found : Result Outcome Failure) → wanted told words ≡ Some found → (s : SomeRun told words P) → found ≡ Ok (outcome_on s.form (s.image, s.input) s.commands)
the_run told words found is s = subst (λ known. IfSome known (λ f. f ≡ Ok (outcome_on s.form (s.image, s.input) s.commands))) is s.is_wanted

-- what one call says of its answer
module _ (told now : Option StoreFiles) (words : List (List ℕ)) (found : Result Outcome Failure) (is : wanted told words ≡ Some found)
    (status : ℕ) (old new err err_now : Option (List ℕ)) (before after : ℕ) (w : World)
    (some_image : IsTrue (is_run_status status) → SomeRun told words (λ outcome. IsCompleted outcome status old new w × HasPut outcome told now))
    (usage : status ≡ 2 → wanted told words ≡ Some (Err Usage))
    (image_line : status ≡ 3 → AddsRefusal told words err err_now before after)
    (export_line : status ≡ 8 → AddsExportRefusal told words old new err err_now before after)
    (nothing : IsTrue (precedes_run status) → new ≡ old) where
  pub by_run : IsTrue (is_run_status status) → Answered found status old new w told now
  by_run run = let s = some_image run in subst (λ f. Answered f status old new w told now) (sym (the_run told words found is s)) (inl (run, s.holds.0, s.holds.1))

  by_usage : status ≡ 2 → Answered found status old new w told now
  by_usage two =
      let known : Some found ≡ Some (Err Usage) = sym is ∙ usage two in
      let same : found ≡ Err Usage = cc in
      subst (λ f. Answered f status old new w told now) (sym same) (two, nothing (subst (λ s. IsTrue (precedes_run s)) (sym two) refl))

  by_image : status ≡ 3 → Answered found status old new w told now
  by_image three =
      let r = image_line three in
      let refused : found ≡ Err (Image r.refusal) = subst (λ known. IfSome known (λ f. f ≡ Err (Image r.refusal))) is r.refused.first in
      subst (λ f. Answered f status old new w told now) (sym refused) (three, nothing (subst (λ s. IsTrue (precedes_run s)) (sym three) refl))

  by_export : status ≡ 8 → Answered found status old new w told now
  by_export eight =
      let r = export_line eight in
      ⊎_elim
      (λ once.
      let refused : found ≡ Err (Export Exists) = subst (λ known. IfSome known (λ f. f ≡ Err (Export Exists))) is once.first in
      subst (λ f. Answered f status old new w told now) (sym refused) (eight, once.nothing))
      (λ s. subst (λ f. Answered f status old new w told now) (sym (the_run told words found is s)) (inr (record { eight = eight; refusal = r.refusal; late = s.holds })))
      r.refused

  pub answered : IsTrue (is_decided status) → Answered found status old new w told now
  answered h =
      ⊎_elim
      (λ third. ⊎_elim (λ first. ⊎_elim by_run (λ two. by_usage (eqb-true status 2 two)) (either (is_run_status status) (status == 2) first))
      (λ three. by_image (eqb-true status 3 three))
      (either (is_run_status status || (status == 2)) (status == 3) third))
      (λ eight. by_export (eqb-true status 8 eight))
      (either (is_run_status status || (status == 2) || (status == 3)) (status == 8) h)

-- the bytes that an answer added are those of what is wanted
pub adds : (found : Result Outcome Failure) (status : ℕ) (old new : Option (List ℕ)) (w : World) (told now : Option StoreFiles) → Answered found status old new w told now → new ≡ added old (bytes_of found)
adds (Ok outcome) status old new w told now a = ⊎_elim (λ ran. completed-report status old new w outcome ran.1) (λ late. late.late.report) a
adds (Err f) status old new w told now a = a.1 ∙ sym (added-nil old)

pub agree-status : (found : Result Outcome Failure) (status other : ℕ) (old new p q : Option (List ℕ)) (v w : World) (told now s t : Option StoreFiles) → Answered found status old new v told now → Answered found other p q w s t → status ≡ other
agree-status (Ok outcome) status other old new p q v w told now s t a b =
    ⊎_elim
    (λ one. ⊎_elim (λ two. completed-same outcome status other old new p q v w one.1 two.1)
    (λ two. absurd (completed-late status old new v outcome told now two.refusal p q one.1 one.2 two.late)) b)
    (λ one. ⊎_elim (λ two. absurd (completed-late other p q w outcome s t one.refusal old new two.1 two.2 one.late))
    (λ two. one.eight ∙ sym two.eight) b)
    a
agree-status (Err f) status other old new p q v w told now s t a b = a.0 ∙ sym b.0

-- an answer with the status of a run
finished : (found : Result Outcome Failure) (status : ℕ) (old new : Option (List ℕ)) (w : World) (told now : Option StoreFiles) {X : Type 0} → IsTrue (is_run_status status) → Answered found status old new w told now
    → ((outcome : Outcome) → found ≡ Ok outcome → IsCompleted outcome status old new w → HasPut outcome told now → X) → X
finished (Ok outcome) status old new w told now run_status a on =
    ⊎_elim (λ ran. on outcome refl ran.1 ran.2) (λ late. absurd (let bad : IsTrue (is_run_status 8) = subst (λ s. IsTrue (is_run_status s)) late.eight run_status in cc)) a
finished (Err f) status old new w told now run_status a on = absurd (no_run f (subst (λ s. IsTrue (is_run_status s)) a.0 run_status))

same_outcome : (found : Result Outcome Failure) (a b : Outcome) → found ≡ Ok a → found ≡ Ok b → a ≡ b
same_outcome found a b is other = let same : ◌≡◌ {A = Result Outcome Failure} (Ok a) (Ok b) = sym is ∙ other in cc

agree-trees : (a b : Outcome) (status other : ℕ) (old new p q : Option (List ℕ)) (v w : World) → a ≡ b → IsCompleted a status old new v → IsCompleted b other p q w → HoldSame v.forest w.forest
agree-trees a b status other old new p q v w same one two =
    completed-trees b status other old new p q v w (subst (λ (x : Outcome). IsCompleted x status old new v) same one) two

module _ (found : Result Outcome Failure) (status other : ℕ) (old new p q : Option (List ℕ)) (v w : World) (told now s t : Option StoreFiles)
    (run : IsTrue (is_run_status status)) (other_run : IsTrue (is_run_status other))
    (a : Answered found status old new v told now) (b : Answered found other p q w s t) where
  pub agree-tree : HoldSame v.forest w.forest
  agree-tree =
      finished found status old new v told now run a
      (λ x is_x one put_one. finished found other p q w s t other_run b
      (λ y is_y two put_two. agree-trees x y status other old new p q v w (same_outcome found x y is_x is_y) one two))

  pub agree-files : s ≡ told → now ≡ t
  agree-files same =
      finished found status old new v told now run a
      (λ x is_x one put_one. finished found other p q w s t other_run b
      (λ y is_y two put_two.
      put_one.files ∙ (λ i. option_map (files_after (same_outcome found x y is_x is_y i)) (sym same i)) ∙ sym put_two.files))

-- the line of an answer is that of what is wanted
module _ (told now : Option StoreFiles) (words : List (List ℕ)) (status : ℕ) (old new err err_now : Option (List ℕ)) (before after : ℕ) (w : World)
    (decided : IsTrue (is_decided status))
    (line : status ≢ 3 → status ≢ 8 → status ≢ 7 → AddsLine (status_line status) err err_now before after)
    (image_line : status ≡ 3 → AddsRefusal told words err err_now before after)
    (export_line : status ≡ 8 → AddsExportRefusal told words old new err err_now before after) where
  undecided : (k : ℕ) → is_decided k ≡ false → status ≡ k → ⊥
  undecided k none same = let bad : true ≡ false = sym decided ∙ ap is_decided same ∙ none in cc

  tells-run : (outcome : Outcome) → IsTrue (is_run_status status) → IsCompleted outcome status old new w → HasPut outcome told now → AddsLine (outcome_line outcome) err err_now before after
  tells-run outcome ran done put =
      subst (λ text. AddsLine text err err_now before after) (run_line status ran ∙ sym (completed-line outcome told now status old new w done put))
      (line (never status 3 ran refl) (never status 8 ran refl) (never status 7 ran refl))

  tells-late : (outcome : Outcome) → wanted told words ≡ Some (Ok outcome) → AnsweredLate outcome status old new → AddsLine (outcome_line outcome) err err_now before after
  tells-late outcome is a =
      let r = export_line a.eight in
      ⊎_elim
      (λ once. absurd (let bad : Ok outcome ≡ Err (Export Exists) = subst (λ known. IfSome known (λ f. f ≡ Err (Export Exists))) is once.first in cc))
      (λ s.
      let same = same_outcome (Ok outcome) outcome (outcome_on s.form (s.image, s.input) s.commands) refl (the_run told words (Ok outcome) is s) in
      let there = subst (λ x. IsRefusedLate r.refusal old new x) (sym same) s.holds in
      subst (λ text. AddsLine text err err_now before after) (sym (refused-line outcome r.refusal there.is)) r.line)
      r.refused

  pub tells : (found : Result Outcome Failure) → wanted told words ≡ Some found → Answered found status old new w told now → AddsLine (line_of found) err err_now before after
  tells (Ok outcome) is a = ⊎_elim (λ ran. tells-run outcome ran.0 ran.1 ran.2) (λ late. tells-late outcome is late) a
  tells (Err Usage) is a =
      subst (λ text. AddsLine text err err_now before after) (ap status_line a.0)
      (line (λ three. let bad : 2 ≡ 3 = sym a.0 ∙ three in cc) (λ eight. let bad : 2 ≡ 8 = sym a.0 ∙ eight in cc) (λ seven. let bad : 2 ≡ 7 = sym a.0 ∙ seven in cc))
  tells (Err (Image refusal)) is a =
      let r = image_line a.0 in
      let first : Err (Image refusal) ≡ Err (Image r.refusal) = subst (λ known. IfSome known (λ f. f ≡ Err (Image r.refusal))) is r.refused.first in
      let same : r.refusal ≡ refusal = cc in
      subst (λ x. AddsLine (failure_line (Image x)) err err_now before after) same r.line
  tells (Err (Export refusal)) is a =
      let r = export_line a.0 in
      ⊎_elim
      (λ once.
      let first : Err (Export refusal) ≡ Err (Export Exists) = subst (λ known. IfSome known (λ f. f ≡ Err (Export Exists))) is once.first in
      let same : Exists ≡ refusal = cc in
      subst (λ x. AddsLine (failure_line (Export x)) err err_now before after) (once.is ∙ same) r.line)
      (λ s. absurd (let bad : Err (Export refusal) ≡ Ok (outcome_on s.form (s.image, s.input) s.commands) = the_run told words (Err (Export refusal)) is s in cc))
      r.refused
  tells (Err Store) is a = absurd (undecided 4 refl a.0)
  tells (Err Host) is a = absurd (undecided 5 refl a.0)
  tells (Err Output) is a = absurd (undecided 6 refl a.0)
  tells (Err NoMemory) is a = absurd (undecided 7 refl a.0)

some-part : (told : Option StoreFiles) (words : List (List ℕ)) (found : Result Outcome Failure) (old new : Option (List ℕ)) → wanted told words ≡ Some found → AddsTextPart told words old new → AddsPart old new (bytes_of found)
some-part told words found old new is s = subst (λ f. AddsPart old new (bytes_of f)) (sym (the_run told words found is s)) s.holds

all-part : (told : Option StoreFiles) (words : List (List ℕ)) (found : Result Outcome Failure) (old new : Option (List ℕ)) → wanted told words ≡ Some found → AddsExportText told words old new → AddsPart old new (bytes_of found)
all-part told words found old new is s = subst (λ f. AddsPart old new (bytes_of f)) (sym (the_run told words found is s)) (adds_all old new _ s.holds.1)

nothing-part : (old new : Option (List ℕ)) (bytes : List ℕ) → new ≡ old → AddsPart old new bytes
nothing-part old new bytes is = subst (λ now. AddsPart old now bytes) (sym is) (adds_none old bytes)

-- whatever is answered, a prefix of the bytes of what is wanted was added
pub adds-part : (told now : Option StoreFiles) (words : List (List ℕ)) (found : Result Outcome Failure) → wanted told words ≡ Some found →
    (status : ℕ) (old new : Option (List ℕ)) (w : World) → IsTrue (is_status status) →
    (IsTrue (is_decided status) → Answered found status old new w told now) →
    (IsTrue (fails_run status) → AddsTextPart told words old new) →
    (status ≡ 7 → AddsTextPart told words old new ⊎ (new ≡ old)) →
    (status ≡ 4 → (new ≡ old) ⊎ AddsExportText told words old new) → AddsPart old new (bytes_of found)
adds-part told now words found is status old new w some answer part memory stored =
    by_kind (is_decided status) refl (fails_run status) refl (status == 7) refl (status == 4) refl
  where
    by_kind : (a : Bool) → is_decided status ≡ a → (f : Bool) → fails_run status ≡ f → (m : Bool) → (status == 7) ≡ m → (k : Bool) → (status == 4) ≡ k → AddsPart old new (bytes_of found)
    by_kind true decided f fails m is_seven k is_four = adds_all old new (bytes_of found) (adds found status old new w told now (answer decided))
    by_kind false decided true fails m is_seven k is_four = some-part told words found old new is (part fails)
    by_kind false decided false fails true is_seven k is_four =
        ⊎_elim (some-part told words found old new is) (nothing-part old new (bytes_of found)) (memory (eqb-true status 7 is_seven))
    by_kind false decided false fails false is_seven true is_four =
        ⊎_elim (nothing-part old new (bytes_of found)) (all-part told words found old new is) (stored (eqb-true status 4 is_four))
    by_kind false decided false fails false is_seven false is_four = absurd (grind (arith, nat_tests, some, decided, fails, is_seven, is_four))
