use Rattle.std.proofs.Common.{◌≡◌, true, false, Err, refl, sym, ap, ◌∙◌}
use Rattle.dt_run.specs.declared.status.TheConstants.{WORDS_REFUSED, STORE_FAULT, HOST_FAULT, OUTPUT_FAULT, OUT_OF_MEMORY}
use Rattle.dt_run.specs.Statuses.{precedes_run, precedes_export}
use Rattle.dt_run.proofs.Ran as ran
use Rattle.dt_run.proofs.Outcomes as outcomes
use Rattle.dt_run.proofs.Failing as failing
use Rattle.dt_run.proofs.Lines.{own_line, refusal_line, export_line, no_line, no_refusal, no_export_refusal}
use Rattle.dt_run.proofs.top.dettrace.Goals as goal

pub returns-in-Ok-clause-statuses : goal.returns-in-Ok-clause-statuses
returns-in-Ok-clause-statuses g c = ran.ends_with c.in-Ok.status (outcomes.status-of _ _ _ _ _ _ _ c.in-Ok.ensures.completed)

pub returns-in-Ok-clause-part : goal.returns-in-Ok-clause-part
returns-in-Ok-clause-part g c = λ late. absurd (ran.not_failed c.in-Ok.status (outcomes.status-of _ _ _ _ _ _ _ c.in-Ok.ensures.completed) late)

pub returns-in-Ok-clause-memory : goal.returns-in-Ok-clause-memory
returns-in-Ok-clause-memory g c = λ is. absurd (ran.never c.in-Ok.status OUT_OF_MEMORY (outcomes.status-of _ _ _ _ _ _ _ c.in-Ok.ensures.completed) refl is)

pub returns-in-Ok-clause-nothing : goal.returns-in-Ok-clause-nothing
returns-in-Ok-clause-nothing g c = λ early. absurd (ran.not_before c.in-Ok.status (outcomes.status-of _ _ _ _ _ _ _ c.in-Ok.ensures.completed) early)

pub returns-in-Ok-clause-usage : goal.returns-in-Ok-clause-usage
returns-in-Ok-clause-usage g c = λ is. absurd (ran.never c.in-Ok.status WORDS_REFUSED (outcomes.status-of _ _ _ _ _ _ _ c.in-Ok.ensures.completed) refl is)

pub returns-in-Ok-clause-store : goal.returns-in-Ok-clause-store
returns-in-Ok-clause-store g c = record {
  later = c.run_words.ensures.store.later;
  rose = λ is. absurd (ran.never c.in-Ok.status STORE_FAULT (outcomes.status-of _ _ _ _ _ _ _ c.in-Ok.ensures.completed) refl is);
}

pub returns-in-Ok-clause-reads : goal.returns-in-Ok-clause-reads
returns-in-Ok-clause-reads g c = λ is. absurd (ran.never c.in-Ok.status STORE_FAULT (outcomes.status-of _ _ _ _ _ _ _ c.in-Ok.ensures.completed) refl is)

pub returns-in-Ok-clause-host : goal.returns-in-Ok-clause-host
returns-in-Ok-clause-host g c = record {
  later = c.run_words.ensures.host.later;
  rose = λ is. absurd (ran.never c.in-Ok.status HOST_FAULT (outcomes.status-of _ _ _ _ _ _ _ c.in-Ok.ensures.completed) refl is);
}

pub returns-in-Ok-clause-output : goal.returns-in-Ok-clause-output
returns-in-Ok-clause-output g c = record {
  later = c.run_words.ensures.output.later;
  rose = λ is. absurd (ran.never c.in-Ok.status OUTPUT_FAULT (outcomes.status-of _ _ _ _ _ _ _ c.in-Ok.ensures.completed) refl is);
}

pub returns-in-Ok-clause-line : goal.returns-in-Ok-clause-line
returns-in-Ok-clause-line g c = λ _ _ _. no_line c.in-Ok.status (g.E.Sink.told c.args.err.now) (g.E.Sink.count c.args.err.now) (outcomes.status-of _ _ _ _ _ _ _ c.in-Ok.ensures.completed)

pub returns-in-Ok-clause-image_line : goal.returns-in-Ok-clause-image_line
returns-in-Ok-clause-image_line g c = λ three. absurd (no_refusal c.in-Ok.status (outcomes.status-of _ _ _ _ _ _ _ c.in-Ok.ensures.completed) three)

pub returns-in-Ok-clause-export_line : goal.returns-in-Ok-clause-export_line
returns-in-Ok-clause-export_line g c = λ eight. absurd (no_export_refusal c.in-Ok.status (outcomes.status-of _ _ _ _ _ _ _ c.in-Ok.ensures.completed) eight)

pub returns-in-Ok-clause-stored : goal.returns-in-Ok-clause-stored
returns-in-Ok-clause-stored g c = λ is. absurd (ran.never c.in-Ok.status STORE_FAULT (outcomes.status-of _ _ _ _ _ _ _ c.in-Ok.ensures.completed) refl is)

pub returns-in-Ok-clause-untouched : goal.returns-in-Ok-clause-untouched
returns-in-Ok-clause-untouched g c = λ early. absurd (ran.not_export c.in-Ok.status (outcomes.status-of _ _ _ _ _ _ _ c.in-Ok.ensures.completed) early)

pub returns-in-Ok-clause-begun : goal.returns-in-Ok-clause-begun
returns-in-Ok-clause-begun g c = λ not. absurd (let bad : true ≡ false = sym (outcomes.status-of _ _ _ _ _ _ _ c.in-Ok.ensures.completed) ∙ not in cc)

pub returns-in-Ok-clause-unasked : goal.returns-in-Ok-clause-unasked
returns-in-Ok-clause-unasked g c = λ early. absurd (ran.not_before c.in-Ok.status (outcomes.status-of _ _ _ _ _ _ _ c.in-Ok.ensures.completed) early)

pub returns-in-Ok-clause-memory_line : goal.returns-in-Ok-clause-memory_line
returns-in-Ok-clause-memory_line g c = λ is. absurd (ran.never c.in-Ok.status OUT_OF_MEMORY (outcomes.status-of _ _ _ _ _ _ _ c.in-Ok.ensures.completed) refl is)

pub returns-in-Ok-clause-unread_unasked : goal.returns-in-Ok-clause-unread_unasked
returns-in-Ok-clause-unread_unasked g c = λ is. absurd (ran.never c.in-Ok.status STORE_FAULT (outcomes.status-of _ _ _ _ _ _ _ c.in-Ok.ensures.completed) refl is)

pub returns-in-Ok-clause-refused_folder : goal.returns-in-Ok-clause-refused_folder
returns-in-Ok-clause-refused_folder g c = λ _. failing.not_refused_folder _ _ _ c.in-Ok.ensures.completed

pub returns-in-Ok-clause-complete : goal.returns-in-Ok-clause-complete
returns-in-Ok-clause-complete g c = λ _ _ _. failing.completed c.in-Ok.status _ _ _ _ _ _ c.in-Ok.ensures.completed

pub returns-in-Ok-clause-refused_words : goal.returns-in-Ok-clause-refused_words
returns-in-Ok-clause-refused_words g c = λ is. absurd (failing.not_refused_words _ _ c.in-Ok.ensures.completed is)

pub returns-in-Ok-clause-refused_image : goal.returns-in-Ok-clause-refused_image
returns-in-Ok-clause-refused_image g c = λ _. failing.not_refused_image _ _ _ c.in-Ok.ensures.completed

pub returns-in-Err-clause-part : goal.returns-in-Err-clause-part
returns-in-Err-clause-part g c = failing.part _ _ _ _ _ _ c.write_failure.ensures.status c.in-Err.ensures.failed

pub returns-in-Err-clause-memory : goal.returns-in-Err-clause-memory
returns-in-Err-clause-memory g c = λ _. failing.part_or_nothing _ _ _ _ _ c.in-Err.ensures.failed

pub returns-in-Err-clause-nothing : goal.returns-in-Err-clause-nothing
returns-in-Err-clause-nothing g c = failing.nothing _ _ _ _ _ _ c.write_failure.ensures.status c.in-Err.ensures.failed

pub returns-in-Err-clause-stored : goal.returns-in-Err-clause-stored
returns-in-Err-clause-stored g c = failing.stored _ _ _ _ _ _ c.write_failure.ensures.status c.in-Err.ensures.failed

pub returns-in-Err-clause-untouched : goal.returns-in-Err-clause-untouched
returns-in-Err-clause-untouched g c = failing.at_status precedes_export refl _ _ _ c.write_failure.ensures.status c.in-Err.ensures.untouched

pub returns-in-Err-clause-begun : goal.returns-in-Err-clause-begun
returns-in-Err-clause-begun g c = λ _. c.in-Err.ensures.begun

pub returns-in-Err-clause-unasked : goal.returns-in-Err-clause-unasked
returns-in-Err-clause-unasked g c = failing.at_status precedes_run refl _ _ _ c.write_failure.ensures.status c.in-Err.ensures.unasked

pub returns-in-Err-clause-unread_unasked : goal.returns-in-Err-clause-unread_unasked
returns-in-Err-clause-unread_unasked g c = λ four.
    c.in-Err.ensures.unread_unasked (ap Err (failing.store_failed _ _ c.write_failure.ensures.status four))

pub returns-in-Err-clause-refused_folder : goal.returns-in-Err-clause-refused_folder
returns-in-Err-clause-refused_folder g c = λ none.
    failing.refused_folder _ _ _ _ _ _ _ c.write_failure.ensures.status c.in-Err.ensures.failed (λ is. c.in-Err.ensures.store.rose (ap Err is)) none

pub returns-in-Err-clause-export_line : goal.returns-in-Err-clause-export_line
returns-in-Err-clause-export_line g c = λ eight.
    export_line _ _ _ _ _ _ _ _ _ _ c.write_failure.ensures.status c.in-Err.ensures.failed eight (c.write_failure.ensures.line (λ seven. let bad : 8 ≡ 7 = sym eight ∙ seven in cc))

pub returns-in-Err-clause-usage : goal.returns-in-Err-clause-usage
returns-in-Err-clause-usage g c = failing.usage _ _ _ _ _ _ c.write_failure.ensures.status c.in-Err.ensures.failed

pub returns-in-Err-clause-reads : goal.returns-in-Err-clause-reads
returns-in-Err-clause-reads g c = failing.reads _ _ _ _ _ _ c.write_failure.ensures.status c.in-Err.ensures.failed

pub returns-in-Err-clause-complete : goal.returns-in-Err-clause-complete
returns-in-Err-clause-complete g c =
    failing.complete _ _ _ _ _ _ _ _ _ c.write_failure.ensures.status c.in-Err.ensures.failed
    (λ is. c.in-Err.ensures.store.rose (ap Err is)) (λ is. c.in-Err.ensures.host.rose (ap Err is)) (λ is. c.in-Err.ensures.output.rose (ap Err is))

pub returns-in-Err-clause-refused_words : goal.returns-in-Err-clause-refused_words
returns-in-Err-clause-refused_words g c = failing.refused_words _ _ _ _ _ _ c.write_failure.ensures.status c.in-Err.ensures.failed

pub returns-in-Err-clause-refused_image : goal.returns-in-Err-clause-refused_image
returns-in-Err-clause-refused_image g c = λ none.
    failing.refused_image _ _ _ _ _ _ _ c.write_failure.ensures.status c.in-Err.ensures.failed (λ is. c.in-Err.ensures.store.rose (ap Err is)) none

pub returns-in-Err-clause-line : goal.returns-in-Err-clause-line
returns-in-Err-clause-line g c = λ no_image no_export other. own_line _ _ _ _ _ _ c.write_failure.ensures.status no_image no_export other (c.write_failure.ensures.line other)

pub returns-in-Err-clause-image_line : goal.returns-in-Err-clause-image_line
returns-in-Err-clause-image_line g c = λ three.
    refusal_line _ _ _ _ _ _ _ _ _ _ c.write_failure.ensures.status c.in-Err.ensures.failed three (c.write_failure.ensures.line (λ seven. let bad : 3 ≡ 7 = sym three ∙ seven in cc))
