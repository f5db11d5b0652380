use Rattle.std.proofs.Common.{◌≡◌, ℕ, ◌+◌, ◌<◌, true, sym, ◌∙◌, arith, below_more}
use Rattle.dt_memhost.specs.inner.Live.{has_number}
use Rattle.dt_memhost.proofs.Numbered.{row_of_live}
use Rattle.dt_memhost.proofs.number.number_above.Goals as goal

pub returns-then-not-contains_key : goal.returns-then-not-contains_key
returns-then-not-contains_key g c = record {
  above = omega (arith, c.loop-number.auto.number-counter);
  free = sym c.contains_key.ensures ∙ c.if-not-contains_key.true;
  least = λ q above below. c.loop-number.invariant q (omega arith) below;
}

pub loop-number-preserved : goal.loop-number-preserved
loop-number-preserved g c =
    let live = has_number c.args.live.now in
    let here = sym c.contains_key.ensures ∙ c.if-not-contains_key.false in
    λ q above below. below_more (λ (n : ℕ). c.from-limit.result < n → live n ≡ true) c.loop-number.number-counter (λ n b a. c.loop-number.invariant n a b) (λ _. here) q below above

pub unreachable-requires : goal.unreachable-requires
unreachable-requires g c =
    let start = c.from-limit.result + 1 in
    let many = row_of_live c.args.live.now start (c.len.result + 1) (λ q h. c.loop-number.invariant (start + q) (omega arith) (omega (arith, c.loop-number-test.false))) in
    omega (arith, many, c.len.ensures.len)
