use Rattle.std.proofs.Common.{rules, ◌∙◌, ap, refl, ◌∷◌, ◌++◌, [], Some, None, slice_set, false, arith}
use Rattle.atomic_table.specs.Table.{rest}
use Rattle.dt_board.specs.Board.{is_put}
use Rattle.dt_board.specs.Steps.{SeatState}
use Rattle.dt_board.proofs.Rule.{takes_job}
use Rattle.dt_board.proofs.Seats.{in_front, front_slot, same_job}
use Rattle.dt_board.proofs.Shelf.{puts_is, try_keeps, take_keeps, has_room}
use Rattle.dt_board.proofs.board.Board.take.Goals as goal

pub compare_exchange-found-requires : goal.compare_exchange-found-requires
compare_exchange-found-requires c =
    let there = ap (λ v. is_put v.puts c.args.place) c.pass.view_is ∙ c.requires.put in
    (search rules, search rules, takes_job _ _ _ _ _ _ c.pass.invariant.view c.pass.invariant.first c.requires.place there c.pass.invariant.wide)

pub invariant_of-pass : goal.invariant_of-pass
invariant_of-pass c = (try_keeps _ _ _ _ _ _ _ _ c.pass.invariant c.compare_exchange-found.ensures.1 (((c.compare_exchange-found.ensures.2 c.args.place refl).1 c.if-found-ne-FINISHED.true).1)).0

pub returns-then-found-ne-FINISHED : goal.returns-then-found-ne-FINISHED
returns-then-found-ne-FINISHED c =
    let k = try_keeps _ _ _ _ _ _ _ _ c.pass.invariant c.compare_exchange-found.ensures.1 (((c.compare_exchange-found.ensures.2 c.args.place refl).1 c.if-found-ne-FINISHED.true).1) in (
      ((c.compare_exchange-found.ensures.2 c.args.place refl).1 c.if-found-ne-FINISHED.true).0,
      puts_is _ _ _ _ _ _ (search rules) (k.1 ∙ ap (λ v. v.puts) c.pass.view_is) (k.2 ∙ ap (λ v. v.tries ++ (c.args.place, c.compare_exchange-found.result) ∷ []) c.pass.view_is),
    )

pub push_front_reserved-requires : goal.push_front_reserved-requires
push_front_reserved-requires c =
    let there = ap (λ v. is_put v.puts c.args.place) c.pass.view_is ∙ c.requires.put in
    omega (arith, has_room _ _ _ _ _ c.pass.invariant c.requires.place there, c.pass.inside.order.ok.0)

pub exchange-requires : goal.exchange-requires
exchange-requires c =
    let t = (c.compare_exchange-found.ensures.2 c.args.place refl).0 c.if-found-ne-FINISHED.false in
    (search rules, (Some t.0, in_front _ _ _ (ap (λ m. m.1) t.2)))

pub unwrap-requires : goal.unwrap-requires
unwrap-requires c =
    let t = (c.compare_exchange-found.ensures.2 c.args.place refl).0 c.if-found-ne-FINISHED.false in
    let same = front_slot _ _ _ _ _ _ _ (ap (λ m. m.1) t.2) c.exchange.ensures.2 in
    rw same refl

pub invariant_of-pass-2 : goal.invariant_of-pass-2
invariant_of-pass-2 c =
    let t = (c.compare_exchange-found.ensures.2 c.args.place refl).0 c.if-found-ne-FINISHED.false in
    let there = ap (λ v. is_put v.puts c.args.place) c.pass.view_is ∙ c.requires.put in
    let after = c.exchange.ensures.3 ∙ ap (λ (m : SeatState). (m.0, (c.args.place, None) ∷ rest m.1)) t.2 in
    let k = take_keeps _ _ _ _ _ _ _ _ _ c.pass.invariant (c.exchange.ensures.1 ∙ c.compare_exchange-found.ensures.1) c.requires.place there after in
    rw (c.push_front_reserved.ensures.items, c.push_front_reserved.ensures.capacity) k.0

pub returns : goal.returns
returns c =
    let t = (c.compare_exchange-found.ensures.2 c.args.place refl).0 c.if-found-ne-FINISHED.false in
    let same = front_slot _ _ _ _ _ _ _ (ap (λ m. m.1) t.2) c.exchange.ensures.2 in
    let there = ap (λ v. is_put v.puts c.args.place) c.pass.view_is ∙ c.requires.put in
    let after = c.exchange.ensures.3 ∙ ap (λ (m : SeatState). (m.0, (c.args.place, None) ∷ rest m.1)) t.2 in
    let k = take_keeps _ _ _ _ _ _ _ _ _ c.pass.invariant (c.exchange.ensures.1 ∙ c.compare_exchange-found.ensures.1) c.requires.place there after in (
      same_job _ _ _ _ c.unwrap.ensures same t.1,
      puts_is _ _ _ _ _ _ (search rules) (k.1 ∙ ap (λ v. slice_set v.puts c.args.place false) c.pass.view_is) (k.2 ∙ λ i. (ap (λ v. v.tries) c.pass.view_is i) ++ (c.args.place, c.if-found-ne-FINISHED.false i) ∷ []),
    )
