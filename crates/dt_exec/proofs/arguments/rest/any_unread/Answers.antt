use Rattle.std.proofs.Common.{◌+◌, slice_index_or, sym, ap, subst, refl, ◌∙◌, arith}
use Rattle.std.specs.Prelude.{is_err}
use Rattle.dt_exec.specs.inner.Rest.{is_unread}
use Rattle.dt_exec.proofs.Ended.{Ended, among, passed, word_ended}
use Rattle.dt_exec.proofs.arguments.rest.any_unread.Goals as goal

-- a word that begins among bytes that were looked through
pub loop-at-preserved-then-at-start : goal.loop-at-preserved-then-at-start
loop-at-preserved-then-at-start c =
    let at = slice_index_or c.args.addresses.now c.loop-at.at-index 0 in
    record {
      ended = c.loop-at.invariant.ended;
      rest = passed (is_unread c.args.space.now) c.args.addresses.now c.loop-at.at-index c.loop-at-test.true
          (among c.args.space.now c.loop-at.start c.loop-at.count at _ c.loop-at.invariant.ended (c.type_inv.addresses c.loop-at.at-index).fits c.loop-at.auto.start-fits.fits refl (omega arith))
          ∙ c.loop-at.invariant.rest;
    }

-- one that was read
pub loop-at-preserved : goal.loop-at-preserved
loop-at-preserved c =
    let at = slice_index_or c.args.addresses.now c.loop-at.at-index 0 in
    let read = sym c.in-Ok.is ∙ c.in_ok-word.ensures.value in
    record {
      ended = subst (λ n. Ended c.args.space.now at (n + 1)) (sym c.len.ensures) (word_ended c.args.space.now at c.in-Ok.word (c.type_inv.addresses c.loop-at.at-index).fits read);
      rest = passed (is_unread c.args.space.now) c.args.addresses.now c.loop-at.at-index c.loop-at-test.true (ap is_err (sym read)) ∙ c.loop-at.invariant.rest;
    }
