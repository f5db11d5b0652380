use Rattle.std.proofs.Common.{ap, ◌∙◌, arith}
use Rattle.std.specs.Prelude.{is_some}
use Rattle.std.specs.FinMap.{FinMap, get}
use Rattle.std.specs.Ordering.{nat_cmp}
use Rattle.dt_host.specs.World.{World}
use Rattle.dt_pipes.specs.declared.pipe.Pipe.{Pipe}
use Rattle.dt_pipes.specs.Table.{Table, table_of}
use Rattle.dt_pipes.proofs.Standing.{pipes_of-remove, stands-remove}
use Rattle.dt_pipes.proofs.Alike.{some-remove, seen-without, pipes_of-alike, stands-alike, pipes-without}
use Rattle.dt_pipes.proofs.pipes.Pipes.remove.Goals as goal

pub returns-clause-pipes : goal.returns-clause-pipes
returns-clause-pipes g c =
    let t = c.args.self.now in
    let w = g.H.Host.view c.args.host.now in
    let now = seen-without t c.self.inside.pipes _ _ c.args.q c.self.inside.next c.self.view_is c.take.ensures.map c.from.ensures in
    let live = c.get-real.ensures.live w.pipes c.requires.stands in
    let left = ap (λ (w : World). w.pipes) c.in_ok-forget.ensures.legal ∙ pipes-without w _ live in
    pipes_of-alike _ _ _ _ now left ∙ pipes_of-remove t w.pipes c.args.q c.get-real.result t.next c.requires.stands c.get-real.ensures.found

pub returns-clause-there : goal.returns-clause-there
returns-clause-there g c = λ r.
    let t = c.args.self.now in
    let now = seen-without t c.self.inside.pipes _ _ c.args.q c.self.inside.next c.self.view_is c.take.ensures.map c.from.ensures in
    ap (λ (m : FinMap nat_cmp Pipe). is_some (get m r)) now ∙ some-remove t.pipes c.args.q r

pub returns-clause-stands : goal.returns-clause-stands
returns-clause-stands g c =
    let t = c.args.self.now in
    let w = g.H.Host.view c.args.host.now in
    let now = seen-without t c.self.inside.pipes _ _ c.args.q c.self.inside.next c.self.view_is c.take.ensures.map c.from.ensures in
    let live = c.get-real.ensures.live w.pipes c.requires.stands in
    let left = ap (λ (w : World). w.pipes) c.in_ok-forget.ensures.legal ∙ pipes-without w _ live in
    let last = ap (λ (t : Table). t.next) c.self.view_is in
    stands-alike _ _ _ _ (ap (λ m. table_of m c.self.inside.next) now) left
    (stands-remove t w.pipes c.args.q c.get-real.result _ c.requires.stands c.get-real.ensures.found (omega (arith, last)))
