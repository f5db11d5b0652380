use Rattle.std.proofs.Common.{◌+◌, Ok, Err, [], drop, refl, sym, ap, subst, ◌∙◌, arith}
use Rattle.dt_steps.specs.Steps.{input_of, run_of_step, step_text, no_step, steps_on}
use Rattle.dt_steps.specs.Answered.{IsAfterSome}
use Rattle.dt_steps.specs.inner.Left.{refusal_of}
use Rattle.dt_steps.proofs.Gone.{gone-start, gone-end, gone-refused, gone-turn, gone-all, gone-part, gone-next, gone-some, gone-some-next, knows-next, rest-of, turn-ends, turn-follows, refused-answer}
use Rattle.dt_steps.proofs.steps.run_steps.Goals as goal

pub loop-index-init : goal.loop-index-init
loop-index-init g c = record {
  gone = gone-start c.args.seed c.args.budget c.args.image.now c.in_ok-copy.field-0 c.args.commands.now (g.O.Sink.told c.args.out.now)
      c.args.cache.now c.in_ok-copy.ensures;
  empty = c.requires.empty;
  known = λ all. (refl, refl);
  host = omega arith;
  sink = omega arith;
}

-- ---- there is no image to run on

pub returns-in_err-next-clause-answers : goal.returns-in_err-next-clause-answers
returns-in_err-next-clause-answers g c =
    let l = c.loop-index in
    let whole = steps_on c.args.image.now c.args.commands.now c.args.seed c.args.budget in
    let told = g.O.Sink.told c.args.out.now in
    let none = c.in_err-next.field-0.0 in
    let gone = gone-refused c.args.seed c.args.budget c.args.commands.now l.index l.next whole told (g.O.Sink.told l.out)
    c.args.cache.now l.cache l.invariant.gone none (record { args = []; env = []; input = [] }) c.loop-index-test.true c.in_err-next.was in
    refused-answer whole told (g.O.Sink.told l.out) c.args.cache.now l.cache none c.from_residual-in_err-next.result c.from_residual-in_err-next.ensures.1
    (gone-all whole (Err (refusal_of none)) (l.index + 1) told (g.O.Sink.told l.out) c.args.cache.now l.cache gone)

pub returns-in_err-next-clause-part : goal.returns-in_err-next-clause-part
returns-in_err-next-clause-part g c =
    let l = c.loop-index in
    let whole = steps_on c.args.image.now c.args.commands.now c.args.seed c.args.budget in
    let told = g.O.Sink.told c.args.out.now in
    let none = c.in_err-next.field-0.0 in
    let gone = gone-refused c.args.seed c.args.budget c.args.commands.now l.index l.next whole told (g.O.Sink.told l.out)
    c.args.cache.now l.cache l.invariant.gone none (record { args = []; env = []; input = [] }) c.loop-index-test.true c.in_err-next.was in
    gone-part whole (no_step (Err (refusal_of none))) (l.index + 1) told (g.O.Sink.told l.out) c.args.cache.now l.cache gone

pub returns-in_err-next-clause-cache : goal.returns-in_err-next-clause-cache
returns-in_err-next-clause-cache g c =
    let l = c.loop-index in
    let whole = steps_on c.args.image.now c.args.commands.now c.args.seed c.args.budget in
    let told = g.O.Sink.told c.args.out.now in
    let none = c.in_err-next.field-0.0 in
    let gone = gone-refused c.args.seed c.args.budget c.args.commands.now l.index l.next whole told (g.O.Sink.told l.out)
    c.args.cache.now l.cache l.invariant.gone none (record { args = []; env = []; input = [] }) c.loop-index-test.true c.in_err-next.was in
    gone-some whole (no_step (Err (refusal_of none))) (l.index + 1) told (g.O.Sink.told l.out) c.args.cache.now l.cache gone

-- ---- memory was wanting

pub returns-in_err-copy-2-clause-part : goal.returns-in_err-copy-2-clause-part
returns-in_err-copy-2-clause-part g c =
    gone-part _ _ _ _ _ _ _ c.loop-index.invariant.gone

pub returns-in_err-copy-2-clause-cache : goal.returns-in_err-copy-2-clause-cache
returns-in_err-copy-2-clause-cache g c =
    gone-some _ _ _ _ _ _ _ c.loop-index.invariant.gone

-- ---- the step failed

pub returns-in_err-step-clause-part : goal.returns-in_err-step-clause-part
returns-in_err-step-clause-part g c =
    let l = c.loop-index in
    let whole = steps_on c.args.image.now c.args.commands.now c.args.seed c.args.budget in
    let told = g.O.Sink.told c.args.out.now in
    let input = input_of c.args.seed c.args.budget c.in_ok-next.field-0 c.in_ok-copy-2.field-0 in
    let text = step_text (l.index + 1) input.image.version (run_of_step input) in
    let rest = rest-of c.args.seed c.args.budget (l.index + 1) (run_of_step input) (drop (l.index + 1) c.args.commands.now) in
    let turn = gone-turn c.args.seed c.args.budget c.args.commands.now l.index l.next whole told (g.O.Sink.told l.out)
    c.args.cache.now l.cache l.invariant.gone c.in_ok-next.field-0 c.in_ok-copy-2.field-0 c.index-commands-index.result
    c.loop-index-test.true c.in_ok-next.was c.in_ok-copy-2.ensures c.index-commands-index.is in
    gone-next whole rest (l.index + 1) input text told (g.O.Sink.told l.out) (g.O.Sink.told c.take_step.new.out) c.args.cache.now l.cache turn c.take_step.ensures.part

pub returns-in_err-step-clause-cache : goal.returns-in_err-step-clause-cache
returns-in_err-step-clause-cache g c =
    let l = c.loop-index in
    let whole = steps_on c.args.image.now c.args.commands.now c.args.seed c.args.budget in
    let told = g.O.Sink.told c.args.out.now in
    let input = input_of c.args.seed c.args.budget c.in_ok-next.field-0 c.in_ok-copy-2.field-0 in
    let rest = rest-of c.args.seed c.args.budget (l.index + 1) (run_of_step input) (drop (l.index + 1) c.args.commands.now) in
    let turn = gone-turn c.args.seed c.args.budget c.args.commands.now l.index l.next whole told (g.O.Sink.told l.out)
    c.args.cache.now l.cache l.invariant.gone c.in_ok-next.field-0 c.in_ok-copy-2.field-0 c.index-commands-index.result
    c.loop-index-test.true c.in_ok-next.was c.in_ok-copy-2.ensures c.index-commands-index.is in
    subst (IsAfterSome whole.run told (g.O.Sink.told c.take_step.new.out) c.args.cache.now) (sym c.in_err-step.ensures.err)
    (gone-some-next whole rest (l.index + 1) input told (g.O.Sink.told l.out) (g.O.Sink.told c.take_step.new.out) c.args.cache.now l.cache turn c.take_step.ensures.part)

pub returns-in_err-step-clause-known : goal.returns-in_err-step-clause-known
returns-in_err-step-clause-known g c =
    let l = c.loop-index in
    let whole = steps_on c.args.image.now c.args.commands.now c.args.seed c.args.budget in
    let told = g.O.Sink.told c.args.out.now in
    let input = input_of c.args.seed c.args.budget c.in_ok-next.field-0 c.in_ok-copy-2.field-0 in
    let text = step_text (l.index + 1) input.image.version (run_of_step input) in
    let rest = rest-of c.args.seed c.args.budget (l.index + 1) (run_of_step input) (drop (l.index + 1) c.args.commands.now) in
    let turn = gone-turn c.args.seed c.args.budget c.args.commands.now l.index l.next whole told (g.O.Sink.told l.out)
    c.args.cache.now l.cache l.invariant.gone c.in_ok-next.field-0 c.in_ok-copy-2.field-0 c.index-commands-index.result
    c.loop-index-test.true c.in_ok-next.was c.in_ok-copy-2.ensures c.index-commands-index.is in
    λ all.
    let before = l.invariant.known all in
    let knows = knows-next whole rest (l.index + 1) input text told (g.O.Sink.told l.out) c.args.cache.now l.cache turn all before.1 in
    let same = c.take_step.ensures.known knows ∙ before.0 in
    (ap g.H.Host.view same, ap g.H.Host.count same)

-- ---- it is the last one

pub returns-then-step-ne-ENDED_ZERO-clause-answers : goal.returns-then-step-ne-ENDED_ZERO-clause-answers
returns-then-step-ne-ENDED_ZERO-clause-answers g c =
    let l = c.loop-index in
    let whole = steps_on c.args.image.now c.args.commands.now c.args.seed c.args.budget in
    let told = g.O.Sink.told c.args.out.now in
    let input = input_of c.args.seed c.args.budget c.in_ok-next.field-0 c.in_ok-copy-2.field-0 in
    let text = step_text (l.index + 1) input.image.version (run_of_step input) in
    let rest = rest-of c.args.seed c.args.budget (l.index + 1) (run_of_step input) (drop (l.index + 1) c.args.commands.now) in
    let turn = gone-turn c.args.seed c.args.budget c.args.commands.now l.index l.next whole told (g.O.Sink.told l.out)
    c.args.cache.now l.cache l.invariant.gone c.in_ok-next.field-0 c.in_ok-copy-2.field-0 c.index-commands-index.result
    c.loop-index-test.true c.in_ok-next.was c.in_ok-copy-2.ensures c.index-commands-index.is in
    let gone = turn-ends c.args.seed c.args.budget (l.index + 1) input (drop (l.index + 1) c.args.commands.now)
    c.in_ok-step.step c.in_ok-step.ensures.step whole told (g.O.Sink.told l.out) (g.O.Sink.told c.take_step.new.out)
    c.args.cache.now l.cache c.take_step.new.cache turn c.in_ok-step.ensures.wrote c.in_ok-step.ensures.after c.if-step-ne-ENDED_ZERO.true in
    gone-all whole (Ok c.in_ok-step.step.status) (l.index + 1 + 1) told (g.O.Sink.told c.take_step.new.out) c.args.cache.now c.take_step.new.cache gone

pub returns-then-step-ne-ENDED_ZERO-clause-part : goal.returns-then-step-ne-ENDED_ZERO-clause-part
returns-then-step-ne-ENDED_ZERO-clause-part g c =
    let l = c.loop-index in
    let whole = steps_on c.args.image.now c.args.commands.now c.args.seed c.args.budget in
    let told = g.O.Sink.told c.args.out.now in
    let input = input_of c.args.seed c.args.budget c.in_ok-next.field-0 c.in_ok-copy-2.field-0 in
    let text = step_text (l.index + 1) input.image.version (run_of_step input) in
    let rest = rest-of c.args.seed c.args.budget (l.index + 1) (run_of_step input) (drop (l.index + 1) c.args.commands.now) in
    let turn = gone-turn c.args.seed c.args.budget c.args.commands.now l.index l.next whole told (g.O.Sink.told l.out)
    c.args.cache.now l.cache l.invariant.gone c.in_ok-next.field-0 c.in_ok-copy-2.field-0 c.index-commands-index.result
    c.loop-index-test.true c.in_ok-next.was c.in_ok-copy-2.ensures c.index-commands-index.is in
    let gone = turn-ends c.args.seed c.args.budget (l.index + 1) input (drop (l.index + 1) c.args.commands.now)
    c.in_ok-step.step c.in_ok-step.ensures.step whole told (g.O.Sink.told l.out) (g.O.Sink.told c.take_step.new.out)
    c.args.cache.now l.cache c.take_step.new.cache turn c.in_ok-step.ensures.wrote c.in_ok-step.ensures.after c.if-step-ne-ENDED_ZERO.true in
    gone-part whole (no_step (Ok c.in_ok-step.step.status)) (l.index + 1 + 1) told (g.O.Sink.told c.take_step.new.out) c.args.cache.now c.take_step.new.cache gone

pub returns-then-step-ne-ENDED_ZERO-clause-cache : goal.returns-then-step-ne-ENDED_ZERO-clause-cache
returns-then-step-ne-ENDED_ZERO-clause-cache g c =
    let l = c.loop-index in
    let whole = steps_on c.args.image.now c.args.commands.now c.args.seed c.args.budget in
    let told = g.O.Sink.told c.args.out.now in
    let input = input_of c.args.seed c.args.budget c.in_ok-next.field-0 c.in_ok-copy-2.field-0 in
    let text = step_text (l.index + 1) input.image.version (run_of_step input) in
    let rest = rest-of c.args.seed c.args.budget (l.index + 1) (run_of_step input) (drop (l.index + 1) c.args.commands.now) in
    let turn = gone-turn c.args.seed c.args.budget c.args.commands.now l.index l.next whole told (g.O.Sink.told l.out)
    c.args.cache.now l.cache l.invariant.gone c.in_ok-next.field-0 c.in_ok-copy-2.field-0 c.index-commands-index.result
    c.loop-index-test.true c.in_ok-next.was c.in_ok-copy-2.ensures c.index-commands-index.is in
    let gone = turn-ends c.args.seed c.args.budget (l.index + 1) input (drop (l.index + 1) c.args.commands.now)
    c.in_ok-step.step c.in_ok-step.ensures.step whole told (g.O.Sink.told l.out) (g.O.Sink.told c.take_step.new.out)
    c.args.cache.now l.cache c.take_step.new.cache turn c.in_ok-step.ensures.wrote c.in_ok-step.ensures.after c.if-step-ne-ENDED_ZERO.true in
    gone-some whole (no_step (Ok c.in_ok-step.step.status)) (l.index + 1 + 1) told (g.O.Sink.told c.take_step.new.out) c.args.cache.now c.take_step.new.cache gone

pub returns-then-step-ne-ENDED_ZERO-clause-known : goal.returns-then-step-ne-ENDED_ZERO-clause-known
returns-then-step-ne-ENDED_ZERO-clause-known g c =
    let l = c.loop-index in
    let whole = steps_on c.args.image.now c.args.commands.now c.args.seed c.args.budget in
    let told = g.O.Sink.told c.args.out.now in
    let input = input_of c.args.seed c.args.budget c.in_ok-next.field-0 c.in_ok-copy-2.field-0 in
    let text = step_text (l.index + 1) input.image.version (run_of_step input) in
    let rest = rest-of c.args.seed c.args.budget (l.index + 1) (run_of_step input) (drop (l.index + 1) c.args.commands.now) in
    let turn = gone-turn c.args.seed c.args.budget c.args.commands.now l.index l.next whole told (g.O.Sink.told l.out)
    c.args.cache.now l.cache l.invariant.gone c.in_ok-next.field-0 c.in_ok-copy-2.field-0 c.index-commands-index.result
    c.loop-index-test.true c.in_ok-next.was c.in_ok-copy-2.ensures c.index-commands-index.is in
    λ all.
    let before = l.invariant.known all in
    let knows = knows-next whole rest (l.index + 1) input text told (g.O.Sink.told l.out) c.args.cache.now l.cache turn all before.1 in
    let same = c.take_step.ensures.known knows ∙ before.0 in
    (ap g.H.Host.view same, ap g.H.Host.count same)

-- ---- another one may follow

pub loop-index-preserved : goal.loop-index-preserved
loop-index-preserved g c =
    let l = c.loop-index in
    let whole = steps_on c.args.image.now c.args.commands.now c.args.seed c.args.budget in
    let told = g.O.Sink.told c.args.out.now in
    let input = input_of c.args.seed c.args.budget c.in_ok-next.field-0 c.in_ok-copy-2.field-0 in
    let text = step_text (l.index + 1) input.image.version (run_of_step input) in
    let rest = rest-of c.args.seed c.args.budget (l.index + 1) (run_of_step input) (drop (l.index + 1) c.args.commands.now) in
    let turn = gone-turn c.args.seed c.args.budget c.args.commands.now l.index l.next whole told (g.O.Sink.told l.out)
    c.args.cache.now l.cache l.invariant.gone c.in_ok-next.field-0 c.in_ok-copy-2.field-0 c.index-commands-index.result
    c.loop-index-test.true c.in_ok-next.was c.in_ok-copy-2.ensures c.index-commands-index.is in
    record {
      gone = turn-follows c.args.seed c.args.budget (l.index + 1) input (drop (l.index + 1) c.args.commands.now)
          c.in_ok-step.step c.in_ok-step.ensures.step whole told (g.O.Sink.told l.out) (g.O.Sink.told c.take_step.new.out)
          c.args.cache.now l.cache c.take_step.new.cache turn c.in_ok-step.ensures.wrote c.in_ok-step.ensures.after c.if-step-ne-ENDED_ZERO.false;
      empty = c.in_ok-step.ensures.empty;
      known = λ all.
          let before = l.invariant.known all in
          let knows = knows-next whole rest (l.index + 1) input text told (g.O.Sink.told l.out) c.args.cache.now l.cache turn all before.1 in
          (c.take_step.ensures.known knows ∙ before.0, c.in_ok-step.ensures.after.found knows ∙ before.1);
      host = omega (arith, l.invariant.host, c.take_step.ensures.host.later);
      sink = omega (arith, l.invariant.sink, c.take_step.ensures.sink.later);
    }

-- ---- none is left

pub returns-clause-answers : goal.returns-clause-answers
returns-clause-answers g c =
    let l = c.loop-index in
    let whole = steps_on c.args.image.now c.args.commands.now c.args.seed c.args.budget in
    let told = g.O.Sink.told c.args.out.now in
    let gone = gone-end c.args.seed c.args.budget c.args.commands.now l.index l.next whole told (g.O.Sink.told l.out)
    c.args.cache.now l.cache l.invariant.gone c.loop-index-test.false in
    gone-all whole (Ok 0) (l.index + 1) told (g.O.Sink.told l.out) c.args.cache.now l.cache gone

pub returns-clause-part : goal.returns-clause-part
returns-clause-part g c =
    let l = c.loop-index in
    let whole = steps_on c.args.image.now c.args.commands.now c.args.seed c.args.budget in
    let told = g.O.Sink.told c.args.out.now in
    let gone = gone-end c.args.seed c.args.budget c.args.commands.now l.index l.next whole told (g.O.Sink.told l.out)
    c.args.cache.now l.cache l.invariant.gone c.loop-index-test.false in
    gone-part whole (no_step (Ok 0)) (l.index + 1) told (g.O.Sink.told l.out) c.args.cache.now l.cache gone

pub returns-clause-cache : goal.returns-clause-cache
returns-clause-cache g c =
    let l = c.loop-index in
    let whole = steps_on c.args.image.now c.args.commands.now c.args.seed c.args.budget in
    let told = g.O.Sink.told c.args.out.now in
    let gone = gone-end c.args.seed c.args.budget c.args.commands.now l.index l.next whole told (g.O.Sink.told l.out)
    c.args.cache.now l.cache l.invariant.gone c.loop-index-test.false in
    gone-some whole (no_step (Ok 0)) (l.index + 1) told (g.O.Sink.told l.out) c.args.cache.now l.cache gone
