use Rattle.std.proofs.Common.{◌++◌, drop, take, length, sym, ap, ◌∙◌, length-drop, arith}
use Rattle.std.specs.Prelude.{is_some, min}
use Rattle.std.specs.FinMap.{get, insert}
use Rattle.dt_host.specs.World.{World}
use Rattle.dt_pipes.specs.Table.{Table, held_in, pipes_of}
use Rattle.dt_pipes.proofs.Standing.{sole-there, pipes_of-insert, stands-insert}
use Rattle.dt_pipes.proofs.Alike.{some-set, stands-alike}
use Rattle.dt_pipes.proofs.pipes.Pipes.take.Goals as goal

pub returns-clause-takes : goal.returns-clause-takes
returns-clause-takes g c =
    let t = c.args.self.now in
    let host = (g.H.Host.view c.args.host.now).pipes in
    let count = c.in_ok-count.count in
    let took = c.in_ok-count.ensures.legal in
    let left = ap (λ (w : World). w.pipes) took.left in
    let sole = sole-there t host c.args.q c.get-real.result c.requires.stands c.get-real.ensures.found in
    let bytes = c.get-real.ensures.bytes host in
    record {
      most = took.most ∙ ap (λ xs. min (length c.args.buf.now) (length xs)) (sym bytes);
      prefix = took.prefix ∙ ap (λ xs. take count xs ++ drop count c.args.buf.now) (sym bytes);
      left = (λ i. pipes_of (c.set.ensures i) (left i))
          ∙ pipes_of-insert t host c.args.q _ _ _ sole
          ∙ ap (λ xs. insert (pipes_of t host) c.args.q (drop count xs)) (sym bytes);
    }

pub returns-clause-there : goal.returns-clause-there
returns-clause-there g c = λ r.
    ap (λ (t : Table). is_some (get t.pipes r)) c.set.ensures ∙ some-set c.args.self.now.pipes c.args.q _ c.requires.there r

pub returns-clause-stands : goal.returns-clause-stands
returns-clause-stands g c =
    let t = c.args.self.now in
    let host = (g.H.Host.view c.args.host.now).pipes in
    let q = c.args.q in
    let left = ap (λ (w : World). w.pipes) c.in_ok-count.ensures.legal.left in
    let sole = sole-there t host q c.get-real.result c.requires.stands c.get-real.ensures.found in
    let held = c.get-real.ensures.held host c.requires.stands in
    let within = c.get-real.ensures.within host c.requires.stands in
    let less = length-drop c.in_ok-count.count (held_in host c.get-real.result.real) in
    stands-alike _ _ _ _ c.set.ensures left
    (stands-insert t host q _ _ _ sole c.requires.stands (omega (arith, held, less)) (omega (arith, within))
    (c.requires.stands.given q c.requires.there) (omega arith))
