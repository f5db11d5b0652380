use Rattle.std.proofs.Common.{◌+◌, [], ap, ◌∙◌, arith}
use Rattle.std.specs.Prelude.{is_some}
use Rattle.std.specs.FinMap.{FinMap, get}
use Rattle.std.specs.Ordering.{nat_cmp}
use Rattle.dt_host.specs.World.{World}
use Rattle.dt_pipes.specs.declared.pipe.Pipe.{Pipe}
use Rattle.dt_pipes.specs.Table.{Table, table_of}
use Rattle.dt_pipes.proofs.Standing.{sole-new, pipes_of-insert, stands-insert}
use Rattle.dt_pipes.proofs.Alike.{some-insert, seen-with, pipes_of-alike, stands-alike}
use Rattle.dt_pipes.proofs.pipes.Pipes.make.Goals as goal

pub returns-clause-pipes : goal.returns-clause-pipes
returns-clause-pipes g c =
    let t = c.args.self.now in
    let host = (g.H.Host.view c.args.host.now).pipes in
    let now = seen-with t c.self.inside.pipes _ _ c.self.inside.next _ c.self.view_is c.in_ok-put.ensures.ok c.from.ensures in
    let made = ap (λ (w : World). w.pipes) c.in_ok-real.ensures.legal.made in
    pipes_of-alike _ _ _ _ now made
    ∙ pipes_of-insert t host t.next _ [] t.next (sole-new t host c.in_ok-real.real c.requires.stands c.in_ok-real.ensures.legal.no_pipe)

pub returns-clause-there : goal.returns-clause-there
returns-clause-there g c = λ r.
    let t = c.args.self.now in
    let now = seen-with t c.self.inside.pipes _ _ c.self.inside.next _ c.self.view_is c.in_ok-put.ensures.ok c.from.ensures in
    ap (λ (m : FinMap nat_cmp Pipe). is_some (get m r)) now ∙ some-insert t.pipes t.next _ r

pub returns-clause-stands : goal.returns-clause-stands
returns-clause-stands g c =
    let t = c.args.self.now in
    let host = (g.H.Host.view c.args.host.now).pipes in
    let now = seen-with t c.self.inside.pipes _ _ c.self.inside.next _ c.self.view_is c.in_ok-put.ensures.ok c.from.ensures in
    let made = ap (λ (w : World). w.pipes) c.in_ok-real.ensures.legal.made in
    let sole = sole-new t host c.in_ok-real.real c.requires.stands c.in_ok-real.ensures.legal.no_pipe in
    let last = ap (λ (t : Table). t.next) c.self.view_is in
    stands-alike _ _ _ _ (ap (λ m. table_of m (c.self.inside.next + 1)) now) made
    (stands-insert t host t.next _ [] _ sole c.requires.stands (omega arith) (omega arith)
    (record { least = c.requires.stands.least; below = omega (arith, last) }) (omega (arith, last)))
