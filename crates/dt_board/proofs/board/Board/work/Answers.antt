use Rattle.std.proofs.Common.{◌≡◌, ◌∙◌, ◌+◌, cond, ℕ, refl, ap, sym, arith}
use Rattle.dt_board.proofs.Sweeps.{swept_more, ones_le}
use Rattle.dt_board.proofs.board.Board.work.Goals as goal
use Rattle.dt_board.proofs.board.Board.work.Goals.{then-visit, else-visit}

pub overflow_add-done : goal.overflow_add-done
overflow_add-done g c = omega (arith, c.loop-place.invariant.found, c.loop-place.invariant.all, ones_le c.loop-place.invariant.words)

pub loop-place-preserved : goal.loop-place-preserved
loop-place-preserved g c = elim c.if-visit.branch [
  | then-visit w ↦ swept_more _ _ _ _ _ _ _ _ c.loop-place.invariant c.visit.ensures refl (w.done-is ∙ ap {B = ℕ} (λ b. c.loop-place.done + cond b 1 0) (sym w.if-visit.true))
  | else-visit w ↦ swept_more _ _ _ _ _ _ _ _ c.loop-place.invariant c.visit.ensures refl (w.done-is ∙ (zero_more ∙ ap {B = ℕ} (λ b. c.loop-place.done + cond b 1 0) (sym w.if-visit.false)))
]
  where
    zero_more : c.loop-place.done ≡ c.loop-place.done + 0
    zero_more = omega arith
