use Rattle.std.proofs.Common.{rules, ◌∙◌, ap, refl, ◌∷◌, ◌++◌, [], Some, None}
use Rattle.dt_board.proofs.Rule.{claims_job}
use Rattle.dt_board.proofs.Seats.{idle, in_front, front_slot, worker_is, work_is, claimed_at, missed_at, swapped, same_job}
use Rattle.dt_board.specs.Passes.{tries_of}
use Rattle.dt_board.proofs.board.Board.claim.Goals as goal

pub compare_exchange-found-requires : goal.compare_exchange-found-requires
compare_exchange-found-requires c =
    let me = idle c.pass.inside.seat.me c.pass.inside.claimed c.pass.invariant (ap (λ v. v.claimed) c.pass.view_is ∙ c.requires.none.1) in
    (search rules, search rules, claims_job _ _ _ _ _ me c.requires.place)

pub exchange-requires : goal.exchange-requires
exchange-requires c =
    let t = (c.compare_exchange-found.ensures.2 c.args.place refl).0 c.if-found-ne-WAITING.false in
    (search rules, (Some t.0, in_front _ _ _ (ap (λ m. m.1) t.2)))

pub unwrap-requires : goal.unwrap-requires
unwrap-requires c =
    let t = (c.compare_exchange-found.ensures.2 c.args.place refl).0 c.if-found-ne-WAITING.false in
    let same = front_slot _ _ _ _ _ _ _ (ap (λ m. m.1) t.2) c.exchange.ensures.2 in
    rw same refl

pub returns : goal.returns
returns c =
    let t = (c.compare_exchange-found.ensures.2 c.args.place refl).0 c.if-found-ne-WAITING.false in
    let same = front_slot _ _ _ _ _ _ _ (ap (λ m. m.1) t.2) c.exchange.ensures.2 in
    let me = idle c.pass.inside.seat.me c.pass.inside.claimed c.pass.invariant (ap (λ v. v.claimed) c.pass.view_is ∙ c.requires.none.1) in
    let after = swapped _ _ _ _ _ _ _ (claimed_at _ _ _ _ _ me t.2) c.exchange.ensures.3 in (
      same_job _ _ _ _ c.unwrap.ensures same t.1,
      work_is _ _ _ _ _ _ (search rules) refl (ap (λ m. tries_of m.0) after ∙ λ i. (ap (λ v. v.tries) c.pass.view_is i) ++ (c.args.place, c.if-found-ne-WAITING.false i) ∷ []),
    )

pub invariant_of-pass : goal.invariant_of-pass
invariant_of-pass c =
    let none = ap (λ v. v.claimed) c.pass.view_is ∙ c.requires.none.1 in
    let me = idle c.pass.inside.seat.me c.pass.inside.claimed c.pass.invariant none in
    rw none (worker_is _ None _ [] (missed_at _ _ _ _ me ((c.compare_exchange-found.ensures.2 c.args.place refl).1 c.if-found-ne-WAITING.true)) refl)

pub invariant_of-pass-2 : goal.invariant_of-pass-2
invariant_of-pass-2 c =
    let t = (c.compare_exchange-found.ensures.2 c.args.place refl).0 c.if-found-ne-WAITING.false in
    let me = idle c.pass.inside.seat.me c.pass.inside.claimed c.pass.invariant (ap (λ v. v.claimed) c.pass.view_is ∙ c.requires.none.1) in
    let after = swapped _ _ _ _ _ _ _ (claimed_at _ _ _ _ _ me t.2) c.exchange.ensures.3 in
    worker_is _ _ _ _ after (c.requires.place, (None, refl))

pub returns-then-found-ne-WAITING : goal.returns-then-found-ne-WAITING
returns-then-found-ne-WAITING c =
    let none = ap (λ v. v.claimed) c.pass.view_is ∙ c.requires.none.1 in
    let me = idle c.pass.inside.seat.me c.pass.inside.claimed c.pass.invariant none in
    let after = missed_at _ _ _ _ me ((c.compare_exchange-found.ensures.2 c.args.place refl).1 c.if-found-ne-WAITING.true) in
    (c.if-found-ne-WAITING.true, work_is _ _ _ _ _ _ (search rules) (ap (λ v. v.claimed) c.pass.view_is) (ap (λ m. tries_of m.0) after ∙ ap (λ v. v.tries ++ (c.args.place, c.compare_exchange-found.result) ∷ []) c.pass.view_is))
