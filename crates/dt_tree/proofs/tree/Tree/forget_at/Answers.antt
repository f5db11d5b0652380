use Rattle.std.proofs.Common.{◌+◌, sym, ◌∙◌}
use Rattle.dt_tree.proofs.Emptied.{is-live, one-forgotten, answered}
use Rattle.dt_tree.proofs.tree.Tree.forget_at.Goals as goal

pub returns-in-Some-clause-forgotten : goal.returns-in-Some-clause-forgotten
returns-in-Some-clause-forgotten g c =
    let t = c.args.self.now in
    let w = g.H.Host.view c.args.host.now in
    let inode = c.in-Some.inode in
    let there = sym c.found.ensures ∙ c.in-Some.is in
    answered t (c.args.n + 1) inode.real w _ c.forget.result c.forget.ensures.legal
    (c.faults-before.ensures.pipes.apart inode.real (is-live t c.args.n w.forest c.requires.forgotten inode there c.requires.low))
    (one-forgotten t c.args.n w.forest c.requires.forgotten inode there c.requires.low)
