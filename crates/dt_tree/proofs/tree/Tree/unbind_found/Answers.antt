use Rattle.std.proofs.Common.{sym, ap, ◌∙◌}
use Rattle.dt_host.proofs.Gone.{without_entry-none}
use Rattle.dt_tree.specs.Changes.{with_shape}
use Rattle.dt_tree.specs.Table.{shape_of, tree_of}
use Rattle.dt_tree.proofs.tree.Tree.unbind_found.Goals as goal

pub returns-in-None-clause-tree : goal.returns-in-None-clause-tree
returns-in-None-clause-tree g c =
    let v = (g.H.Host.view c.args.host.now).forest in
    ap (with_shape (tree_of c.args.self.now v)) (sym (without_entry-none (shape_of c.args.self.now v) c.args.dir c.args.name.now c.requires.directory (sym c.requires.found ∙ c.in-None.is)))
