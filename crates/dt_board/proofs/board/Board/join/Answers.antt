use Rattle.std.proofs.Common.{rules, ◌∙◌, sym, ap}
use Rattle.dt_board.proofs.Rule.{joins, Engine≢Opening}
use Rattle.dt_board.proofs.Seats.{idle}
use Rattle.dt_board.proofs.board.Board.join.Goals as goal

pub join_seat-requires : goal.join_seat-requires
join_seat-requires c =
    let me = idle _ _ c.worker.invariant (ap (λ v. v.claimed) c.worker.view_is ∙ c.requires.none.1) in
    (search rules, search rules, ap (λ m. m.1) me, search rules, joins _ _ _ _ _ (λ e. Engine≢Opening _ _ (sym c.pass.invariant.view ∙ e)) (ap (λ m. m.0) me))
