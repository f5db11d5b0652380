use Rattle.std.proofs.Common.{◌++◌, length, sym, ap, ◌∙◌, length-append, arith}
use Rattle.std.specs.Prelude.{is_some}
use Rattle.std.specs.FinMap.{get, insert}
use Rattle.std.proofs.lemmas.Bool.Decides.{nat_tests}
use Rattle.dt_host.specs.World.{World}
use Rattle.dt_pipes.specs.Table.{Table, held_in, pipes_of}
use Rattle.dt_pipes.proofs.Held.{with_put-nothing}
use Rattle.dt_pipes.proofs.Standing.{sole-there, pipes_of-insert, stands-insert}
use Rattle.dt_pipes.proofs.Alike.{some-set, stands-alike}
use Rattle.dt_pipes.proofs.pipes.Pipes.put.Goals as goal

pub returns-then-is_empty-clause-pipes : goal.returns-then-is_empty-clause-pipes
returns-then-is_empty-clause-pipes g c =
    with_put-nothing c.args.self.now _ c.args.q c.args.bytes.now c.requires.there (grind (arith, nat_tests))

pub returns-clause-pipes : goal.returns-clause-pipes
returns-clause-pipes g c =
    let t = c.args.self.now in
    let host = (g.H.Host.view c.args.host.now).pipes in
    let full = ap (λ (w : World). w.pipes) c.in_ok-put_whole.ensures.legal in
    let sole = sole-there t host c.args.q c.get-real.result c.requires.stands c.get-real.ensures.found in
    (λ i. pipes_of (c.set.ensures i) (full i))
    ∙ pipes_of-insert t host c.args.q _ _ _ sole
    ∙ ap (λ xs. insert (pipes_of t host) c.args.q (xs ++ c.args.bytes.now)) (sym (c.get-real.ensures.bytes host))

pub returns-clause-there : goal.returns-clause-there
returns-clause-there g c = λ r.
    ap (λ (t : Table). is_some (get t.pipes r)) c.set.ensures ∙ some-set c.args.self.now.pipes c.args.q _ c.requires.there r

pub returns-clause-stands : goal.returns-clause-stands
returns-clause-stands g c =
    let t = c.args.self.now in
    let host = (g.H.Host.view c.args.host.now).pipes in
    let q = c.args.q in
    let full = ap (λ (w : World). w.pipes) c.in_ok-put_whole.ensures.legal in
    let sole = sole-there t host q c.get-real.result c.requires.stands c.get-real.ensures.found in
    let held = c.get-real.ensures.held host c.requires.stands in
    let same = ap length (c.get-real.ensures.bytes host) in
    let more = length-append (held_in host c.get-real.result.real) c.args.bytes.now in
    stands-alike _ _ _ _ c.set.ensures full
    (stands-insert t host q _ _ _ sole c.requires.stands (omega (arith, held, more)) (omega (arith, held, same, c.requires.fits))
    (c.requires.stands.given q c.requires.there) (omega arith))
