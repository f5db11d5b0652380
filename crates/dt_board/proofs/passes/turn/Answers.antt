use Rattle.std.proofs.Common.{◌∙◌, ap, arith}
use Rattle.atomic_table.specs.Table.{turned}
use Rattle.dt_board.specs.Steps.{SeatState}
use Rattle.dt_board.proofs.Shelf.{rotated-more}
use Rattle.dt_board.proofs.passes.turn.Goals as goal

pub loop-preserved : goal.loop-preserved
loop-preserved c = (
  c.turn.ensures.0 ∙ c.loop.invariant.0,
  c.turn.ensures.1 ∙ c.loop.invariant.1,
  c.turn.ensures.2 ∙ (ap (λ (m : SeatState). (m.0, turned m.1)) c.loop.invariant.2 ∙ λ i. (c.args.seat.now.me.0, rotated-more c.loop.counter c.args.seat.now.me.1 (omega arith) i)),
)
