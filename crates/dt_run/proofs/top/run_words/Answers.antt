use Rattle.std.proofs.Common.{◌≡◌, ℕ, List, true, false, Some, None, Err, refl, sym, ap, subst, ◌∙◌, ⊎_elim, inl, inr}
use Rattle.std.specs.Prelude.{◌⊎◌, map, string_bytes, IfSome, IfOk, IfErr, OnErr, ⊤}
use Rattle.dt_base.specs.Image.{ImageParts, IsImage}
use Rattle.dt_host.specs.Sink.{AddsPart}
use Rattle.dt_options.specs.declared.options.RunOptions.{RunOptions}
use Rattle.dt_options.specs.Options.{as_form, as_request, as_export_request, as_demo_request, as_steps_request}
use Rattle.dt_engine.specs.Completed.{Written, reported, Completes, Finishes}
use Rattle.dt_engine.specs.Run.{run_of, report_of}
use Rattle.dt_export.specs.Steps.{steps_at, IsListed}
use Rattle.dt_steps.specs.Steps.{steps_on}
use Rattle.dt_run.specs.Outcome.{exported, IsCompleted, FinishesSteps}
use Rattle.dt_run.specs.Wanted.{reported_on}
use Rattle.dt_run.specs.SomeRun.{SomeRun}
use Rattle.dt_run.specs.Exports.{HasPut, PutsPart}
use Rattle.dt_run.specs.inner.Exporting.{FailsExport}
use Rattle.dt_run.specs.inner.Fails.{HasFailureCause}
use Rattle.dt_run.specs.inner.Listing.{FailsSteps}
use Rattle.dt_run.proofs.Changes.{if_fail}
use Rattle.dt_run.proofs.Putting.{stays-put, steps-put}
use Rattle.dt_run.proofs.Wanting.{some_run, some_demo, some_export, on_err, fails_words, fails_image, fails_run_of, fails_export_image, fails_taken, fails_export, fails_steps_image, fails_file, some_listed, fails_listed, steps-is, run_unasked, index-is, each_ok, each_err}
use Rattle.dt_run.proofs.top.run_words.Goals as goal

pub returns-in_err-options-clause-failed : goal.returns-in_err-options-clause-failed
returns-in_err-options-clause-failed g c =
    on_err _ _ _ c.from_residual.ensures.1 (fails_words _ _ _ _ (λ is. c.in_err-options.ensures.refused (ap Err is)))

pub returns-in_err-image-in-Run-clause-failed : goal.returns-in_err-image-in-Run-clause-failed
returns-in_err-image-in-Run-clause-failed g c =
    let asked = c.in_ok-options.ensures.ok ∙ ap (λ options. Some (as_form options)) c.in-Run.is in
    on_err _ _ _ c.from_residual-in_err-image-in-Run.ensures.1
    (fails_image _ _ _ (as_request c.in-Run.options) _ _ asked refl (λ r is. c.in_err-image-in-Run.ensures.refused r (ap Err is)) (λ is. c.in_err-image-in-Run.ensures.no_steps (ap Err is)))

pub returns-in_err-run_image-in-Run-clause-failed : goal.returns-in_err-run_image-in-Run-clause-failed
returns-in_err-run_image-in-Run-clause-failed g c =
    let asked = c.in_ok-options.ensures.ok ∙ ap (λ options. Some (as_form options)) c.in-Run.is in
    on_err _ _ _ c.from_residual-in_err-run_image-in-Run.ensures.1
    (fails_run_of _ _ _ _ _
    (some_run _ _ (as_request c.in-Run.options) _ (c.in_ok-image-in-Run.image, c.in_ok-image-in-Run.input) _ asked refl (subst IsImage c.image.view_is c.image.invariant) c.in_ok-image-in-Run.ensures.ok c.in_ok-image-in-Run.ensures.unnamed
    (subst (λ (o : RunOptions). AddsPart (g.O.Sink.told c.args.out.now) (g.O.Sink.told c.run_image.new.out) (report_of c.in_ok-image-in-Run.image.version (run_of c.in_ok-image-in-Run.image o.command o.seed o.budget))) c.with_input-options.ensures c.run_image.ensures.part)))

pub returns-in_err-demonstrate-in-Demo-clause-failed : goal.returns-in_err-demonstrate-in-Demo-clause-failed
returns-in_err-demonstrate-in-Demo-clause-failed g c =
    let asked = c.in_ok-options.ensures.ok ∙ ap (λ options. Some (as_form options)) c.in-Demo.is in
    on_err _ _ _ c.from_residual-in_err-demonstrate-in-Demo.ensures.1
    (fails_run_of _ _ _ _ _ (some_demo _ _ (as_demo_request c.in-Demo.options) _ asked c.demonstrate.ensures.part))

pub returns-in_ok-run_image-in-Run-clause-completed : goal.returns-in_ok-run_image-in-Run-clause-completed
returns-in_ok-run_image-in-Run-clause-completed g c =
    let asked = c.in_ok-options.ensures.ok ∙ ap (λ options. Some (as_form options)) c.in-Run.is in
    some_run _ _ (as_request c.in-Run.options) _ (c.in_ok-image-in-Run.image, c.in_ok-image-in-Run.input) _ asked refl (subst IsImage c.image.view_is c.image.invariant) c.in_ok-image-in-Run.ensures.ok c.in_ok-image-in-Run.ensures.unnamed (
      subst (λ (o : RunOptions). Completes c.in_ok-image-in-Run.image.version (run_of c.in_ok-image-in-Run.image o.command o.seed o.budget) c.in_ok-run_image-in-Run.field-0.status (g.O.Sink.told c.args.out.now) (g.O.Sink.told c.run_image.new.out) (g.H.Host.view c.run_image.new.host)) c.with_input-options.ensures c.in_ok-run_image-in-Run.ensures.completed,
      stays-put _ _ _ c.read_run_image.ensures.asks.stays,
    )

pub returns-in_ok-demonstrate-in-Demo-clause-completed : goal.returns-in_ok-demonstrate-in-Demo-clause-completed
returns-in_ok-demonstrate-in-Demo-clause-completed g c =
    let asked = c.in_ok-options.ensures.ok ∙ ap (λ options. Some (as_form options)) c.in-Demo.is in
    some_demo _ _ (as_demo_request c.in-Demo.options) _ asked (c.in_ok-demonstrate-in-Demo.ensures.completed, stays-put _ _ _ refl)

pub returns-in_err-image-in-Export-clause-failed : goal.returns-in_err-image-in-Export-clause-failed
returns-in_err-image-in-Export-clause-failed g c =
    let asked = c.in_ok-options.ensures.ok ∙ ap (λ options. Some (as_form options)) c.in-Export.is in
    on_err _ _ _ c.from_residual-in_err-image-in-Export.ensures.1
    (fails_export_image _ _ (as_export_request c.in-Export.options) _ asked refl _ _ (λ r is. c.in_err-image-in-Export.ensures.refused r (ap Err is)) (λ is. c.in_err-image-in-Export.ensures.no_steps (ap Err is)))

pub returns-then-branch-clause-failed : goal.returns-then-branch-clause-failed
returns-then-branch-clause-failed g c =
    let options = c.in-Export.options in
    let told = g.S.Store.told c.args.store.now in
    let asked = c.in_ok-options.ensures.ok ∙ ap (λ options. Some (as_form options)) c.in-Export.is in
    let taken = index-is told (g.S.Store.told c.read_run_image-in-Export.new.store) c.as_str.result.now options.to c.in_ok-has_index-in-Export.field-0 true
    c.read_run_image-in-Export.ensures.asks.stays c.as_str.ensures c.in_ok-has_index-in-Export.ensures.ok c.if-branch.true in
    fails_taken told _ (as_export_request options) _ asked refl (c.in_ok-image-in-Export.image, c.in_ok-image-in-Export.input) c.in_ok-image-in-Export.ensures.ok c.in_ok-image-in-Export.ensures.unnamed _ taken

pub returns-else-branch-clause-completed : goal.returns-else-branch-clause-completed
returns-else-branch-clause-completed g c =
    let options = c.in-Export.options in
    let request = as_export_request options in
    let words = map string_bytes c.args.words.now in
    let told = g.S.Store.told c.args.store.now in
    let read = g.S.Store.told c.has_index.new.store in
    let now = g.S.Store.told c.run_export.new.store in
    let old = g.O.Sink.told c.args.out.now in
    let new = g.O.Sink.told c.run_export.new.out in
    let world = g.H.Host.view c.run_export.new.host in
    let image = c.in_ok-image-in-Export.image in
    let found : ImageParts × List ℕ = (image, c.in_ok-image-in-Export.input) in
    let written : RunOptions → Written = λ o. reported image.version (run_of image o.command o.seed o.budget) in
    let run = reported_on request.run found in
    let asked = c.in_ok-options.ensures.ok ∙ ap (λ options. Some (as_form options)) c.in-Export.is in
    let free = index-is told (g.S.Store.told c.read_run_image-in-Export.new.store) c.as_str.result.now options.to c.in_ok-has_index-in-Export.field-0 false
    c.read_run_image-in-Export.ensures.asks.stays c.as_str.ensures c.in_ok-has_index-in-Export.ensures.ok c.if-branch.false in
    let same : read ≡ told = c.has_index.ensures.asks.stays ∙ c.read_run_image-in-Export.ensures.asks.stays in
    each_ok c.run_export.result (λ status. Finishes run status old new world × HasPut (exported options.to run) read now)
    (λ status. SomeRun told words (λ outcome. IsCompleted outcome status old new world × HasPut outcome told now))
    (subst (λ (o : RunOptions). IfOk c.run_export.result (λ status. Finishes (written o) status old new world × HasPut (exported options.to (written o)) read now)) c.with_input-run.ensures c.run_export.ensures.completed)
    (λ status ran. some_export told words request _ asked refl found c.in_ok-image-in-Export.ensures.ok c.in_ok-image-in-Export.ensures.unnamed
    (λ outcome. IsCompleted outcome status old new world × HasPut outcome told now)
    (subst IsImage c.image-in-Export.view_is c.image-in-Export.invariant) free
    (ran.0, subst (λ told. HasPut (exported options.to run) told now) same ran.1))

pub returns-else-branch-clause-failed : goal.returns-else-branch-clause-failed
returns-else-branch-clause-failed g c =
    let options = c.in-Export.options in
    let request = as_export_request options in
    let words = map string_bytes c.args.words.now in
    let told = g.S.Store.told c.args.store.now in
    let old = g.O.Sink.told c.args.out.now in
    let new = g.O.Sink.told c.run_export.new.out in
    let image = c.in_ok-image-in-Export.image in
    let found : ImageParts × List ℕ = (image, c.in_ok-image-in-Export.input) in
    let written : RunOptions → Written = λ o. reported image.version (run_of image o.command o.seed o.budget) in
    let run = reported_on request.run found in
    let asked = c.in_ok-options.ensures.ok ∙ ap (λ options. Some (as_form options)) c.in-Export.is in
    let free = index-is told (g.S.Store.told c.read_run_image-in-Export.new.store) c.as_str.result.now options.to c.in_ok-has_index-in-Export.field-0 false
    c.read_run_image-in-Export.ensures.asks.stays c.as_str.ensures c.in_ok-has_index-in-Export.ensures.ok c.if-branch.false in
    each_err c.run_export.result (λ f. FailsExport f (exported options.to run) old new) (λ f. HasFailureCause f told words old new)
    (subst (λ (o : RunOptions). IfErr c.run_export.result (λ f. FailsExport f (exported options.to (written o)) old new)) c.with_input-run.ensures c.run_export.ensures.failed)
    (λ f fails. fails_export told words request _ asked refl found c.in_ok-image-in-Export.ensures.ok c.in_ok-image-in-Export.ensures.unnamed f old new
    (subst IsImage c.image-in-Export.view_is c.image-in-Export.invariant) free fails)

pub returns-else-branch-clause-begun : goal.returns-else-branch-clause-begun
returns-else-branch-clause-begun g c =
    let options = c.in-Export.options in
    let request = as_export_request options in
    let words = map string_bytes c.args.words.now in
    let told = g.S.Store.told c.args.store.now in
    let read = g.S.Store.told c.has_index.new.store in
    let now = g.S.Store.told c.run_export.new.store in
    let old = g.O.Sink.told c.args.out.now in
    let new = g.O.Sink.told c.run_export.new.out in
    let image = c.in_ok-image-in-Export.image in
    let found : ImageParts × List ℕ = (image, c.in_ok-image-in-Export.input) in
    let written : RunOptions → Written = λ o. reported image.version (run_of image o.command o.seed o.budget) in
    let run = reported_on request.run found in
    let asked = c.in_ok-options.ensures.ok ∙ ap (λ options. Some (as_form options)) c.in-Export.is in
    let free = index-is told (g.S.Store.told c.read_run_image-in-Export.new.store) c.as_str.result.now options.to c.in_ok-has_index-in-Export.field-0 false
    c.read_run_image-in-Export.ensures.asks.stays c.as_str.ensures c.in_ok-has_index-in-Export.ensures.ok c.if-branch.false in
    let good = subst IsImage c.image-in-Export.view_is c.image-in-Export.invariant in
    let same : read ≡ told = c.has_index.ensures.asks.stays ∙ c.read_run_image-in-Export.ensures.asks.stays in
    if_fail c.run_export.result _ _
    (subst (λ (o : RunOptions). OnErr c.run_export.result ((now ≡ read) ⊎ PutsPart old new read now (exported options.to (written o)))) c.with_input-run.ensures c.run_export.ensures.begun)
    (⊎_elim (λ stays. inl (stays ∙ same))
    (λ part. inr (some_export told words request _ asked refl found c.in_ok-image-in-Export.ensures.ok c.in_ok-image-in-Export.ensures.unnamed (PutsPart old new told now) good free
    (subst (λ told. PutsPart old new told now (exported options.to run)) same part))))

pub returns-else-branch-clause-refused_unasked : goal.returns-else-branch-clause-refused_unasked
returns-else-branch-clause-refused_unasked g c =
    let options = c.in-Export.options in
    let request = as_export_request options in
    let words = map string_bytes c.args.words.now in
    let told = g.S.Store.told c.args.store.now in
    let found : ImageParts × List ℕ = (c.in_ok-image-in-Export.image, c.in_ok-image-in-Export.input) in
    let asked = c.in_ok-options.ensures.ok ∙ ap (λ options. Some (as_form options)) c.in-Export.is in
    let free = index-is told (g.S.Store.told c.read_run_image-in-Export.new.store) c.as_str.result.now options.to c.in_ok-has_index-in-Export.field-0 false
    c.read_run_image-in-Export.ensures.asks.stays c.as_str.ensures c.in_ok-has_index-in-Export.ensures.ok c.if-branch.false in
    let good = subst IsImage c.image-in-Export.view_is c.image-in-Export.invariant in
    run_unasked _ told words (some_export told words request _ asked refl found c.in_ok-image-in-Export.ensures.ok c.in_ok-image-in-Export.ensures.unnamed (λ outcome. ⊤) good free tt)

pub returns-in_err-run_image-in-Run-clause-refused_unasked : goal.returns-in_err-run_image-in-Run-clause-refused_unasked
returns-in_err-run_image-in-Run-clause-refused_unasked g c =
    let asked = c.in_ok-options.ensures.ok ∙ ap (λ options. Some (as_form options)) c.in-Run.is in
    run_unasked _ _ _ (some_run _ _ (as_request c.in-Run.options) _ (c.in_ok-image-in-Run.image, c.in_ok-image-in-Run.input) (λ outcome. ⊤) asked refl (subst IsImage c.image.view_is c.image.invariant) c.in_ok-image-in-Run.ensures.ok c.in_ok-image-in-Run.ensures.unnamed tt)

pub returns-in_ok-run_image-in-Run-clause-refused_unasked : goal.returns-in_ok-run_image-in-Run-clause-refused_unasked
returns-in_ok-run_image-in-Run-clause-refused_unasked g c =
    let asked = c.in_ok-options.ensures.ok ∙ ap (λ options. Some (as_form options)) c.in-Run.is in
    run_unasked _ _ _ (some_run _ _ (as_request c.in-Run.options) _ (c.in_ok-image-in-Run.image, c.in_ok-image-in-Run.input) (λ outcome. ⊤) asked refl (subst IsImage c.image.view_is c.image.invariant) c.in_ok-image-in-Run.ensures.ok c.in_ok-image-in-Run.ensures.unnamed tt)

pub returns-in_err-demonstrate-in-Demo-clause-refused_unasked : goal.returns-in_err-demonstrate-in-Demo-clause-refused_unasked
returns-in_err-demonstrate-in-Demo-clause-refused_unasked g c =
    let asked = c.in_ok-options.ensures.ok ∙ ap (λ options. Some (as_form options)) c.in-Demo.is in
    run_unasked _ _ _ (some_demo _ _ (as_demo_request c.in-Demo.options) (λ outcome. ⊤) asked tt)

pub returns-in_ok-demonstrate-in-Demo-clause-refused_unasked : goal.returns-in_ok-demonstrate-in-Demo-clause-refused_unasked
returns-in_ok-demonstrate-in-Demo-clause-refused_unasked g c =
    let asked = c.in_ok-options.ensures.ok ∙ ap (λ options. Some (as_form options)) c.in-Demo.is in
    run_unasked _ _ _ (some_demo _ _ (as_demo_request c.in-Demo.options) (λ outcome. ⊤) asked tt)

-- ---- steps

pub returns-in_err-image-in-Steps-clause-failed : goal.returns-in_err-image-in-Steps-clause-failed
returns-in_err-image-in-Steps-clause-failed g c =
    let asked = c.in_ok-options.ensures.ok ∙ ap (λ options. Some (as_form options)) c.in-Steps.is in
    on_err _ _ _ c.from_residual-in_err-image-in-Steps.ensures.1
    (fails_steps_image _ _ (as_steps_request c.in-Steps.options) _ asked c.as_str-in-Steps.ensures _ _ (λ r is. c.in_err-image-in-Steps.ensures.refused r (ap Err is)))

pub returns-in_err-commands-in-Steps-clause-failed : goal.returns-in_err-commands-in-Steps-clause-failed
returns-in_err-commands-in-Steps-clause-failed g c =
    let options = c.in-Steps.options in
    let request = as_steps_request options in
    let words = map string_bytes c.args.words.now in
    let told = g.S.Store.told c.args.store.now in
    let asked = c.in_ok-options.ensures.ok ∙ ap (λ options. Some (as_form options)) c.in-Steps.is in
    let image = c.in_ok-image-in-Steps.image in
    let found : ImageParts × List ℕ = (image, c.in_ok-image-in-Steps._input) in
    on_err _ _ _ c.from_residual-in_err-commands-in-Steps.ensures.1
    (fails_file told words request _ asked c.as_str-in-Steps.ensures found c.in_ok-image-in-Steps.ensures.ok _ _
    (λ r is.
    let why = c.in_err-commands-in-Steps.ensures.refused r (ap Err is) in
    (why.0, steps-is told _ _ _ _ _ None c.read_image.ensures.asks.stays c.as_str-folder.ensures c.as_str-in-Steps-2.ensures why.1)))

pub returns-in_ok-commands-in-Steps-clause-completed : goal.returns-in_ok-commands-in-Steps-clause-completed
returns-in_ok-commands-in-Steps-clause-completed g c =
    let options = c.in-Steps.options in
    let request = as_steps_request options in
    let words = map string_bytes c.args.words.now in
    let told = g.S.Store.told c.args.store.now in
    let asked = c.in_ok-options.ensures.ok ∙ ap (λ options. Some (as_form options)) c.in-Steps.is in
    let image = c.in_ok-image-in-Steps.image in
    let found : ImageParts × List ℕ = (image, c.in_ok-image-in-Steps._input) in
    let commands = c.deref.result.now in
    let good = subst IsImage c.image-in-Steps.view_is c.image-in-Steps.invariant in
    let is_listed = subst IsListed (sym c.deref.ensures.value) c.in_ok-commands-in-Steps.ensures.listed in
    let listed = subst (λ found. IfSome told (λ files. steps_at files request.image request.file ≡ Some found)) (sym c.deref.ensures.value)
    (steps-is told _ _ _ _ _ _ c.read_image.ensures.asks.stays c.as_str-folder.ensures c.as_str-in-Steps-2.ensures c.in_ok-commands-in-Steps.ensures.ok) in
    let old = g.O.Sink.told c.args.out.now in
    let new = g.O.Sink.told c.run_listed.new.out in
    let steps = steps_on image commands request.seed request.budget in
    let now = g.S.Store.told c.read_steps.new.store in
    let world = g.H.Host.view c.run_listed.new.host in
    let same : now ≡ told = c.read_steps.ensures.asks.stays ∙ c.read_image.ensures.asks.stays in
    each_ok c.run_listed.result (λ status. FinishesSteps steps status old new world)
    (λ status. SomeRun told words (λ outcome. IsCompleted outcome status old new world × HasPut outcome told now))
    c.run_listed.ensures.completed
    (λ status done. some_listed told words request _ asked c.as_str-in-Steps.ensures found c.in_ok-image-in-Steps.ensures.ok good commands is_listed listed
    (λ outcome. IsCompleted outcome status old new world × HasPut outcome told now) (done, steps-put steps told now same))

pub returns-in_ok-commands-in-Steps-clause-failed : goal.returns-in_ok-commands-in-Steps-clause-failed
returns-in_ok-commands-in-Steps-clause-failed g c =
    let options = c.in-Steps.options in
    let request = as_steps_request options in
    let words = map string_bytes c.args.words.now in
    let told = g.S.Store.told c.args.store.now in
    let asked = c.in_ok-options.ensures.ok ∙ ap (λ options. Some (as_form options)) c.in-Steps.is in
    let image = c.in_ok-image-in-Steps.image in
    let found : ImageParts × List ℕ = (image, c.in_ok-image-in-Steps._input) in
    let commands = c.deref.result.now in
    let good = subst IsImage c.image-in-Steps.view_is c.image-in-Steps.invariant in
    let is_listed = subst IsListed (sym c.deref.ensures.value) c.in_ok-commands-in-Steps.ensures.listed in
    let listed = subst (λ found. IfSome told (λ files. steps_at files request.image request.file ≡ Some found)) (sym c.deref.ensures.value)
    (steps-is told _ _ _ _ _ _ c.read_image.ensures.asks.stays c.as_str-folder.ensures c.as_str-in-Steps-2.ensures c.in_ok-commands-in-Steps.ensures.ok) in
    let old = g.O.Sink.told c.args.out.now in
    let new = g.O.Sink.told c.run_listed.new.out in
    let steps = steps_on image commands request.seed request.budget in
    each_err c.run_listed.result (λ f. FailsSteps f steps old new) (λ f. HasFailureCause f told words old new)
    c.run_listed.ensures.failed
    (λ f fails. fails_listed told words request _ asked c.as_str-in-Steps.ensures found c.in_ok-image-in-Steps.ensures.ok good commands is_listed listed f old new fails)

pub returns-in_ok-commands-in-Steps-clause-refused_unasked : goal.returns-in_ok-commands-in-Steps-clause-refused_unasked
returns-in_ok-commands-in-Steps-clause-refused_unasked g c =
    let options = c.in-Steps.options in
    let request = as_steps_request options in
    let words = map string_bytes c.args.words.now in
    let told = g.S.Store.told c.args.store.now in
    let asked = c.in_ok-options.ensures.ok ∙ ap (λ options. Some (as_form options)) c.in-Steps.is in
    let image = c.in_ok-image-in-Steps.image in
    let found : ImageParts × List ℕ = (image, c.in_ok-image-in-Steps._input) in
    let commands = c.deref.result.now in
    let good = subst IsImage c.image-in-Steps.view_is c.image-in-Steps.invariant in
    let is_listed = subst IsListed (sym c.deref.ensures.value) c.in_ok-commands-in-Steps.ensures.listed in
    let listed = subst (λ found. IfSome told (λ files. steps_at files request.image request.file ≡ Some found)) (sym c.deref.ensures.value)
    (steps-is told _ _ _ _ _ _ c.read_image.ensures.asks.stays c.as_str-folder.ensures c.as_str-in-Steps-2.ensures c.in_ok-commands-in-Steps.ensures.ok) in
    run_unasked _ told words
    (some_listed told words request _ asked c.as_str-in-Steps.ensures found c.in_ok-image-in-Steps.ensures.ok good commands is_listed listed (λ outcome. ⊤) tt)
