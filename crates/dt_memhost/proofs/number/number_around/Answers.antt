use Rattle.std.proofs.Common.{◌≡◌, ℕ, suc, ◌+◌, ◌-◌, ◌%◌, ◌<◌, false, true, ◌∙◌, sym, ap, arith, add_assoc}
use Rattle.dt_memhost.specs.inner.Live.{has_number}
use Rattle.dt_memhost.specs.Number.{next_free}
use Rattle.dt_memhost.proofs.Numbered.{around-live, around-free, around-none}
use Rattle.dt_memhost.proofs.number.number_around.Goals as goal

one_left : (limit step : ℕ) → step < limit → limit - step ≡ suc (limit - (step + 1))
one_left limit step h = omega arith

pub returns-then-not-contains_key : goal.returns-then-not-contains_key
returns-then-not-contains_key g c =
    let live = has_number c.args.live.now in
    let limit = c.from-limit.result in
    let start = c.args.word + c.loop-step.step in
    let at : c.from.result + c.loop-step.step ≡ start = ap (λ w. w + c.loop-step.step) c.from.ensures in
    let free : live (1 + start % limit) ≡ false = rw at at (sym c.contains_key.ensures ∙ c.if-not-contains_key.true) in
    rw (at, ← c.from-limit.ensures) (sym (c.loop-step.invariant ∙ ap (next_free live limit start) (one_left limit c.loop-step.step c.loop-step-test.true) ∙ around-free live limit start _ free))

pub loop-step-preserved : goal.loop-step-preserved
loop-step-preserved g c =
    let live = has_number c.args.live.now in
    let limit = c.from-limit.result in
    let start = c.args.word + c.loop-step.step in
    let at : c.from.result + c.loop-step.step ≡ start = ap (λ w. w + c.loop-step.step) c.from.ensures in
    let taken : live (1 + start % limit) ≡ true = rw at at (sym c.contains_key.ensures ∙ c.if-not-contains_key.false) in
    c.loop-step.invariant
    ∙ ap (next_free live limit start) (one_left limit c.loop-step.step c.loop-step-test.true)
    ∙ around-live live limit start _ taken
    ∙ ap (λ p. next_free live limit p (limit - (c.loop-step.step + 1))) (add_assoc c.args.word c.loop-step.step 1)

pub returns : goal.returns
returns g c = rw (← c.from-limit.ensures) (sym (c.loop-step.invariant ∙ around-none _ _ _ _ (omega arith)))
