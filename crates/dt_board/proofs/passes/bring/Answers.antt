use Rattle.std.proofs.Common.{◌∙◌, ap, sym}
use Rattle.dt_board.specs.inner.Held.{held, has, rotated}
use Rattle.dt_board.proofs.Shelf.{held-rotated, has-rotated}
use Rattle.dt_board.proofs.passes.bring.Goals as goal

pub returns-clause-holds : goal.returns-clause-holds
returns-clause-holds c =
    ap (λ m. held m.1) c.turn.ensures.turned
    ∙ (held-rotated c.index_of-index.result c.args.seat.now.me.1 ∙ (ap (rotated c.index_of-index.result) c.requires.holds ∙ sym c.rotate_left.ensures.items))

pub returns-clause-all : goal.returns-clause-all
returns-clause-all c other = ap (has other) c.rotate_left.ensures.items ∙ has-rotated c.index_of-index.result other c.args.order.now.items
