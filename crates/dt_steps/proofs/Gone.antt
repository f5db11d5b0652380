-- Steps of which the first were run.
use Rattle.std.proofs.Common.{arith, ◌≡◌, ◌≢◌, ℕ, ◌+◌, ◌≤◌, ◌==◌, ◌<◌, List, [], ◌∷◌, ◌++◌, length, take, drop, get_or, Option, refl, sym, ap, subst, ◌∙◌, append-nil, append_assoc, length-append}
use Rattle.std.proofs.lemmas.List.{take-append-le, take_all, drop_all, drop_at}
use Rattle.std.proofs.lemmas.Bool.{eq-eqb, ne_eqb}
use Rattle.std.proofs.lemmas.List.Elements.{All-head, All-drop}
use Rattle.std.specs.Prelude.{Result, Ok, Err, IsErrAnd, IfSome, if◌then◌else◌}
use Rattle.std.specs.List.{All}
use Rattle.dt_base.specs.Image.{ImageParts}
use Rattle.dt_base.specs.Command.{Words}
use Rattle.dt_base.proofs.Lists.{drop-at}
use Rattle.dt_export.specs.declared.refusal.ExportRefusal.{ExportRefusal}
use Rattle.dt_host.specs.Sink.{added, AddsPart}
use Rattle.dt_host.proofs.Growth.{added-nil, added-added, adds_none}
use Rattle.dt_engine.specs.declared.status.TheConstants.{ENDED_ZERO}
use Rattle.dt_engine.specs.Run.{Run, status_of_run}
use Rattle.dt_steps.specs.declared.error.StepsErr.{StepsErr}
use Rattle.dt_steps.specs.declared.input.StepInput.{StepInput}
use Rattle.dt_steps.specs.declared.step.NoImage.{NoImage}
use Rattle.dt_steps.specs.declared.step.NoImage.TheVariants.{LongPath, TooMany}
use Rattle.dt_steps.specs.declared.step.Step.{Step}
use Rattle.dt_steps.specs.Steps.{Steps, input_of, run_of_step, image_after, step_text, steps_text, no_step, step_before, steps_from, steps_on}
use Rattle.dt_steps.specs.Cache.{CacheView, IsAfterStep, IsAfterSteps, Knows}
use Rattle.dt_steps.specs.Answered.{answer_of, Answers, IsAfterSome}
use Rattle.dt_steps.specs.inner.Errors.{steps_err_of_none}
use Rattle.dt_steps.specs.inner.Going.{HasGone}
use Rattle.dt_steps.specs.inner.Left.{IsStep, image_or_refusal, refusal_of}
use Rattle.dt_steps.proofs.Ran.{in-line, after-line}

pub gone-first : (whole : Steps) (told : Option (List ℕ)) (cache : CacheView) → HasGone whole whole 1 told told cache cache
gone-first whole told cache = record {
  run = [];
  text = [];
  counted = refl;
  texts = refl;
  inputs = refl;
  output = refl;
  answer = refl;
  wrote = sym (added-nil told);
  behind = refl;
}

-- one step more
after-more : (run : List StepInput) (input : StepInput) (old mid new : CacheView) → IsAfterSteps run old mid → IsAfterStep input mid new
    → IsAfterSteps (run ++ input ∷ []) old new
after-more [] input old mid new is step = (new, subst (λ c. IsAfterStep input c new) is step, refl)
after-more (first ∷ run) input old mid new is step = (is.0, is.1, after-more run input is.0 mid new is.2 step)

texts-more : (number : ℕ) (run : List StepInput) (input : StepInput) → steps_text number (run ++ input ∷ []) ≡ steps_text number run ++ step_text (number + length run) input.image.version (run_of_step input)
texts-more number [] input = append-nil (step_text number input.image.version (run_of_step input)) ∙ ap (λ n. step_text n input.image.version (run_of_step input)) (omega arith)
texts-more number (first ∷ run) input =
    ap (λ text. step_text number first.image.version (run_of_step first) ++ text) (
    texts-more (number + 1) run input ∙ ap (λ n. steps_text (number + 1) run ++ step_text n input.image.version (run_of_step input)) (omega arith)
    )
    ∙ sym (append_assoc (step_text number first.image.version (run_of_step first)) (steps_text (number + 1) run) (step_text (number + length (first ∷ run)) input.image.version (run_of_step input)))

pub gone-step : (whole rest : Steps) (number : ℕ) (input : StepInput) (told now new : Option (List ℕ)) (cache mid after : CacheView)
    → HasGone whole (step_before input (step_text number input.image.version (run_of_step input)) rest) number told now cache mid → new ≡ added now (step_text number input.image.version (run_of_step input)) → IsAfterStep input mid after
    → HasGone whole rest (number + 1) told new cache after
gone-step whole rest number input told now new cache mid after gone wrote step =
    let text = step_text number input.image.version (run_of_step input) in
    record {
      run = gone.run ++ input ∷ [];
      text = gone.text ++ text;
      counted = omega (arith, gone.counted, length-append gone.run (input ∷ []));
      texts =
          ap (λ first. first ++ text) gone.texts
          ∙ ap (λ n. steps_text 1 gone.run ++ step_text n input.image.version (run_of_step input)) (omega (arith, gone.counted))
          ∙ sym (texts-more 1 gone.run input);
      inputs = gone.inputs ∙ sym (append_assoc gone.run (input ∷ []) rest.run);
      output = gone.output ∙ sym (append_assoc gone.text text rest.output);
      answer = gone.answer;
      wrote = wrote ∙ ap (λ told. added told text) gone.wrote ∙ added-added told gone.text text;
      behind = after-more gone.run input cache mid after gone.behind step;
    }

-- none is left
pub gone-all : (whole : Steps) (answer : Result ℕ ExportRefusal) (number : ℕ) (told now : Option (List ℕ)) (cache after : CacheView)
    → HasGone whole (no_step answer) number told now cache after → Answers whole told now cache after answer
gone-all whole answer number told now cache after gone = record {
  answer = gone.answer;
  output = gone.wrote ∙ ap (added told) (sym (gone.output ∙ append-nil gone.text));
  cache = subst (λ run. IsAfterSteps run cache after) (sym (gone.inputs ∙ append-nil gone.run)) gone.behind;
}

-- what was written so far, and of the next step
pub gone-part : (whole rest : Steps) (number : ℕ) (told now : Option (List ℕ)) (cache after : CacheView) → HasGone whole rest number told now cache after
    → AddsPart told now whole.output
gone-part whole rest number told now cache after gone = subst (AddsPart told now) (sym gone.output) (record {
  count = length gone.text;
  within = omega (arith, length-append gone.text rest.output);
  prefix = gone.wrote ∙ ap (added told) (sym (take-append-le (length gone.text) gone.text rest.output (omega arith) ∙ take_all (length gone.text) gone.text (omega arith)));
})

pub gone-next : (whole rest : Steps) (number : ℕ) (input : StepInput) (text : List ℕ) (told now new : Option (List ℕ)) (cache after : CacheView)
    → HasGone whole (step_before input text rest) number told now cache after → AddsPart now new text → AddsPart told new whole.output
gone-next whole rest number input text told now new cache after gone part =
    subst (AddsPart told new) (sym gone.output)
    (after-line told now new gone.text (text ++ rest.output) gone.wrote (in-line now new text rest.output part))

-- the cache has whole steps behind it, all that is written of these, and of the next one a part
some-after : (whole rest : Steps) (number : ℕ) (told now new : Option (List ℕ)) (cache after : CacheView) (gone : HasGone whole rest number told now cache after)
    → AddsPart now new (steps_text (length gone.run + 1) (take 1 rest.run)) → IsAfterSome whole.run told new cache after
some-after whole rest number told now new cache after gone part =
    let first : take (length gone.run) whole.run ≡ gone.run = ap (take (length gone.run)) gone.inputs ∙ take-append-le (length gone.run) gone.run rest.run (omega arith) ∙ take_all (length gone.run) gone.run (omega arith) in
    let left : drop (length gone.run) whole.run ≡ rest.run = ap (drop (length gone.run)) gone.inputs ∙ drop_at gone.run rest.run (length gone.run) refl in
    let told_now : now ≡ added told (steps_text 1 (take (length gone.run) whole.run)) = gone.wrote ∙ ap (added told) (gone.texts ∙ ap (steps_text 1) (sym first)) in
    record {
      count = length gone.run;
      within = omega (arith, ap length gone.inputs, length-append gone.run rest.run);
      cache = subst (λ run. IsAfterSteps run cache after) (sym first) gone.behind;
      output =
          subst (λ from. AddsPart from new (steps_text (length gone.run + 1) (take 1 (drop (length gone.run) whole.run)))) told_now
          (subst (λ run. AddsPart now new (steps_text (length gone.run + 1) (take 1 run))) (sym left) part);
    }

pub gone-some : (whole rest : Steps) (number : ℕ) (told now : Option (List ℕ)) (cache after : CacheView) → HasGone whole rest number told now cache after
    → IsAfterSome whole.run told now cache after
gone-some whole rest number told now cache after gone = some-after whole rest number told now now cache after gone (adds_none now _)

pub gone-some-next : (whole rest : Steps) (number : ℕ) (input : StepInput) (told now new : Option (List ℕ)) (cache after : CacheView)
    → HasGone whole (step_before input (step_text number input.image.version (run_of_step input)) rest) number told now cache after → AddsPart now new (step_text number input.image.version (run_of_step input))
    → IsAfterSome whole.run told new cache after
gone-some-next whole rest number input told now new cache after gone part =
    let next = step_before input (step_text number input.image.version (run_of_step input)) rest in
    some-after whole next number told now new cache after gone
    (subst (AddsPart now new) (ap (λ n. step_text n input.image.version (run_of_step input)) gone.counted ∙ sym (append-nil (step_text (length gone.run + 1) input.image.version (run_of_step input)))) part)

-- where the cache had all steps from the start, it knows the next one
pub knows-next : (whole rest : Steps) (number : ℕ) (input : StepInput) (text : List ℕ) (told now : Option (List ℕ)) (cache mid : CacheView)
    → HasGone whole (step_before input text rest) number told now cache mid → All (Knows cache) whole.run → mid ≡ cache → Knows mid input
knows-next whole rest number input text told now cache mid gone known same =
    let all = subst (All (Knows cache)) gone.inputs known in
    let last = subst (All (Knows cache)) (drop_at gone.run (input ∷ rest.run) (length gone.run) refl)
    (All-drop (Knows cache) (length gone.run) (gone.run ++ input ∷ rest.run) all) in
    subst (λ c. Knows c input) (sym same) (All-head (Knows cache) input rest.run last)

-- ---- the loop over the commands

-- what follows a step, which is the last one where its status is not 0
abbrev pub rest-of : ℕ → ℕ → ℕ → Run → List Words → Steps
rest-of seed budget number run commands =
    if status_of_run run == ENDED_ZERO then steps_from seed budget (number + 1) (image_after run) commands
    else no_step (Ok (status_of_run run))

by-other : (status : ℕ) (on off : Steps) → status ≢ ENDED_ZERO → (if status == ENDED_ZERO then on else off) ≡ off
by-other status on off other = ap (λ b. if b then on else off) (ne_eqb status ENDED_ZERO other)

by-zero : (status : ℕ) (on off : Steps) → status ≡ ENDED_ZERO → (if status == ENDED_ZERO then on else off) ≡ on
by-zero status on off zero = ap (λ b. if b then on else off) (eq-eqb status ENDED_ZERO zero)

module _ (seed budget : ℕ) where
  pub gone-start : (image first : ImageParts) (commands : List Words) (told : Option (List ℕ)) (cache : CacheView) → first ≡ image
      → HasGone (steps_on image commands seed budget) (steps_on first commands seed budget) 1 told told cache cache
  gone-start image first commands told cache same =
      subst (λ from. HasGone (steps_on image commands seed budget) (steps_on from commands seed budget) 1 told told cache cache) (sym same)
      (gone-first (steps_on image commands seed budget) told cache)

  none-left : (number : ℕ) (from : Result ImageParts ExportRefusal) → steps_from seed budget number from [] ≡ no_step (Ok ENDED_ZERO)
  unfolding steps_from
  none-left number from = refl

  refused-first : (number : ℕ) (refusal : ExportRefusal) (command : Words) (rest : List Words)
      → steps_from seed budget number (Err refusal) (command ∷ rest) ≡ no_step (Err refusal)
  unfolding steps_from
  refused-first number refusal command rest = refl

  next-first : (number : ℕ) (image : ImageParts) (command : Words) (rest : List Words)
      → steps_from seed budget number (Ok image) (command ∷ rest)
      ≡ (let input = input_of seed budget image command in
      step_before input (step_text number input.image.version (run_of_step input)) (rest-of seed budget number (run_of_step input) rest))
  unfolding steps_from
  next-first number image command rest = refl

  module _ (commands : List Words) (i : ℕ) (next : Result ImageParts NoImage) (whole : Steps) (told now : Option (List ℕ)) (cache mid : CacheView)
      (gone : HasGone whole (steps_from seed budget (i + 1) (image_or_refusal next) (drop i commands)) (i + 1) told now cache mid) where
    -- no command is left
    pub gone-end : length commands ≤ i → HasGone whole (no_step (Ok ENDED_ZERO)) (i + 1) told now cache mid
    gone-end past =
        subst (λ rest. HasGone whole rest (i + 1) told now cache mid)
        (ap (steps_from seed budget (i + 1) (image_or_refusal next)) (drop_all i commands past) ∙ none-left (i + 1) (image_or_refusal next)) gone

    -- there is no image for the next one
    pub gone-refused : (none : NoImage) (d : Words) → i < length commands → next ≡ Err none → HasGone whole (no_step (Err (refusal_of none))) (i + 1) told now cache mid
    gone-refused none d within is =
        subst (λ rest. HasGone whole rest (i + 1) told now cache mid)
        (ap (λ n. steps_from seed budget (i + 1) (image_or_refusal n) (drop i commands)) is
        ∙ ap (steps_from seed budget (i + 1) (Err (refusal_of none))) (drop-at commands i (get_or commands i d) d within refl)
        ∙ refused-first (i + 1) (refusal_of none) (get_or commands i d) (drop (i + 1) commands)) gone

    -- the next one has an image
    pub gone-turn : (image : ImageParts) (command found : Words) → i < length commands → next ≡ Ok image → command ≡ found → found ≡ get_or commands i found
        → (let input = input_of seed budget image command in
        HasGone whole (step_before input (step_text (i + 1) input.image.version (run_of_step input)) (rest-of seed budget (i + 1) (run_of_step input) (drop (i + 1) commands))) (i + 1) told now cache mid)
    gone-turn image command found within is same at =
        subst (λ rest. HasGone whole rest (i + 1) told now cache mid)
        (ap (λ n. steps_from seed budget (i + 1) (image_or_refusal n) (drop i commands)) is
        ∙ ap (steps_from seed budget (i + 1) (Ok image)) (drop-at commands i found found within at ∙ ap (λ c. c ∷ drop (i + 1) commands) (sym same))
        ∙ next-first (i + 1) image command (drop (i + 1) commands)) gone

  module _ (number : ℕ) (input : StepInput) (commands : List Words) (step : Step) (is : IsStep (run_of_step input) step) (whole : Steps)
      (told now new : Option (List ℕ)) (cache mid after : CacheView)
      (turn : HasGone whole (step_before input (step_text number input.image.version (run_of_step input)) (rest-of seed budget number (run_of_step input) commands)) number told now cache mid)
      (wrote : new ≡ added now (step_text number input.image.version (run_of_step input))) (behind : IsAfterStep input mid after) where
    -- a status that is not 0 ends the steps
    pub turn-ends : step.status ≢ ENDED_ZERO → HasGone whole (no_step (Ok step.status)) (number + 1) told new cache after
    turn-ends fails =
        let ends = by-other (status_of_run (run_of_step input)) (steps_from seed budget (number + 1) (image_after (run_of_step input)) commands) (no_step (Ok (status_of_run (run_of_step input)))) (λ zero. fails (is.status ∙ zero))
        ∙ ap (λ status. no_step (Ok status)) (sym is.status) in
        gone-step whole (no_step (Ok step.status)) number input told now new cache mid after
        (subst (λ rest. HasGone whole (step_before input (step_text number input.image.version (run_of_step input)) rest) number told now cache mid) ends turn) wrote behind

    -- and after 0 the others follow
    pub turn-follows : step.status ≡ ENDED_ZERO → HasGone whole (steps_from seed budget (number + 1) (image_or_refusal step.left) commands) (number + 1) told new cache after
    turn-follows zero =
        let follows = by-zero (status_of_run (run_of_step input)) (steps_from seed budget (number + 1) (image_after (run_of_step input)) commands) (no_step (Ok (status_of_run (run_of_step input)))) (sym is.status ∙ zero)
        ∙ ap (λ image. steps_from seed budget (number + 1) image commands) (sym is.left) in
        gone-step whole (steps_from seed budget (number + 1) (image_or_refusal step.left) commands) number input told now new cache mid after
        (subst (λ rest. HasGone whole (step_before input (step_text number input.image.version (run_of_step input)) rest) number told now cache mid) follows turn) wrote behind

-- the answer of steps whose next one has no image
pub refused-answer : (whole : Steps) (told now : Option (List ℕ)) (cache after : CacheView) (none : NoImage) (result : Result ℕ StepsErr)
    → IsErrAnd result (λ r. r ≡ steps_err_of_none none) → Answers whole told now cache after (Err (refusal_of none))
    → IfSome (answer_of result) (Answers whole told now cache after)
refused-answer whole told now cache after none (Ok status) is answers = absurd is
refused-answer whole told now cache after LongPath (Err e) is answers =
    subst (λ error. IfSome (answer_of (Err error)) (Answers whole told now cache after)) (sym is) answers
refused-answer whole told now cache after TooMany (Err e) is answers =
    subst (λ error. IfSome (answer_of (Err error)) (Answers whole told now cache after)) (sym is) answers
