use Rattle.std.proofs.Common.{◌∙◌, sym, arith}
use Rattle.dt_signals.specs.Signals.{is_deliverable}
use Rattle.dt_signals.proofs.Sets.{nothing-deliverable, search-on, search-found, search-end}
use Rattle.dt_signals.proofs.signals.Sig.deliverable.Goals as goal

pub returns-then-self-eq0-clause-lowest : goal.returns-then-self-eq0-clause-lowest
returns-then-self-eq0-clause-lowest c = sym (nothing-deliverable c.args.self.now (omega arith) c.if-self-eq0.true)

pub returns-then-is_deliverable-clause-lowest : goal.returns-then-is_deliverable-clause-lowest
returns-then-is_deliverable-clause-lowest c =
    sym (search-found (is_deliverable c.args.self.now) c.loop-index.index c.loop-index-test.true (sym c.is_deliverable.ensures ∙ c.if-is_deliverable.true)) ∙ c.loop-index.invariant

pub loop-index-preserved : goal.loop-index-preserved
loop-index-preserved c =
    search-on (is_deliverable c.args.self.now) c.loop-index.index c.loop-index-test.true (sym c.is_deliverable.ensures ∙ c.if-is_deliverable.false) ∙ c.loop-index.invariant

pub returns-clause-lowest : goal.returns-clause-lowest
returns-clause-lowest c = sym (search-end (is_deliverable c.args.self.now) c.loop-index.index c.loop-index-test.false) ∙ c.loop-index.invariant
