use Rattle.std.proofs.Common.{rules, ◌≡◌, ◌∙◌, ap, sym, refl, ◌∷◌, length, drop, Some, slice_set, true, arith}
use Rattle.std.specs.VecDeque.{deque_capacity}
use Rattle.atomic_table.specs.Table.{rest}
use Rattle.dt_board.specs.Board.{is_put}
use Rattle.dt_board.specs.Steps.{SeatState, with_mark}
use Rattle.dt_board.specs.Passes.{puts_of, tries_of}
use Rattle.dt_board.specs.inner.Held.{IsEngine, has}
use Rattle.dt_board.proofs.Rule.{puts_job}
use Rattle.dt_board.proofs.Shelf.{puts_is, put_keeps, front_is}
use Rattle.dt_board.proofs.board.Board.put.Goals as goal

pub exchange-requires : goal.exchange-requires
exchange-requires c = (search rules, front_is _ _ _ (c.bring.ensures.holds ∙ c.bring.ensures.front))

pub store-requires : goal.store-requires
store-requires c =
    let free = ap (λ v. is_put v.puts c.args.place) c.pass.view_is ∙ c.requires.free in
    let me = c.exchange.ensures.3 ∙ λ i. ((c.bring.ensures.seat.2 ∙ c.pass.invariant.view) i, (c.args.place, Some c.args.job) ∷ rest c.bring.new.seat.me.1) in
    (search rules, search rules, puts_job _ _ _ _ _ _ _ _ me (c.exchange.ensures.1 ∙ (c.bring.ensures.seat.1 ∙ c.pass.invariant.first)) c.requires.place free c.pass.invariant.wide c.requires.open)

-- what the pass is afterwards
kept : (c : goal.After-pop_front) → IsEngine c.store.new.seat.id c.store.new.seat.me (drop 1 c.bring.new.order.items) (deque_capacity c.bring.new.order)
    × (puts_of c.store.new.seat.me.0 ≡ slice_set (puts_of c.pass.inside.seat.me.0) c.args.place true) × (tries_of c.store.new.seat.me.0 ≡ tries_of c.pass.inside.seat.me.0)
kept c =
    let free = ap (λ v. is_put v.puts c.args.place) c.pass.view_is ∙ c.requires.free in
    let me = (c.store.ensures.2 c.args.place refl).1 ∙ (ap (λ (m : SeatState). (with_mark m.0 c.args.place true, rest m.1)) c.exchange.ensures.3 ∙ λ i. (with_mark (c.bring.ensures.seat.2 i) c.args.place true, rest c.bring.new.seat.me.1)) in
    put_keeps c.pass.inside.seat.id c.store.new.seat.id c.pass.inside.seat.me c.store.new.seat.me c.pass.inside.order.items (drop 1 c.bring.new.order.items) _ _ c.args.place c.bring.new.seat.me.1
    c.pass.invariant (c.store.ensures.1 ∙ (c.exchange.ensures.1 ∙ c.bring.ensures.seat.1)) c.requires.place free
    (c.bring.ensures.holds ∙ c.bring.ensures.front)
    (λ q. ap (has q) (sym c.bring.ensures.front) ∙ c.bring.ensures.all q)
    (omega (arith, ap length c.bring.ensures.front, c.bring.ensures.room.0, c.bring.new.order.ok.0, c.pass.inside.order.ok.0))
    (omega (arith, c.bring.ensures.room.1))
    me

pub invariant_of-pass : goal.invariant_of-pass
invariant_of-pass c = rw (c.pop_front.ensures.rest, c.pop_front.ensures.capacity) (kept c).0

pub returns : goal.returns
returns c =
    let k = kept c in
    puts_is _ _ _ _ _ _ (search rules) (k.1 ∙ ap (λ v. slice_set v.puts c.args.place true) c.pass.view_is) (k.2 ∙ ap (λ v. v.tries) c.pass.view_is)
