use Rattle.std.proofs.Common.{Ok, sym, ap, subst, ◌∙◌}
use Rattle.dt_host.specs.World.{IsLive}
use Rattle.dt_tree.specs.Table.{shape_of, tree_of}
use Rattle.dt_exec.proofs.Walked.{found-live}
use Rattle.dt_exec.proofs.program.file_by_path.Goals as goal

pub file_of-requires-clause-live : goal.file_of-requires-clause-live
file_of-requires-clause-live g c =
    let t = tree_of c.args.tree.now (g.H.Host.view c.args.host.now).forest in
    let live = found-live t c.requires.stands.tree _ _ c.in-Ok-Some.inode
    (sym c.in_ok-inode.ensures.ok ∙ c.in-Ok-Some.is ∙ ap Ok c.in-Ok-Some.field-0-is) in
    subst (λ w. IsLive (shape_of c.args.tree.now w.forest) c.in-Ok-Some.inode) (sym c.lookup.ensures.asks.stays) live
