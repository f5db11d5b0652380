use Rattle.std.proofs.Common.{sym, ap, subst, ◌∙◌}
use Rattle.dt_host.specs.World.{IsDir}
use Rattle.dt_tree.specs.FileTree.{FileTree, IsTree}
use Rattle.dt_tree.specs.Calls.{KeepsHeld}
use Rattle.dt_tree.specs.Changes.{tree_with_stamp}
use Rattle.dt_tree.specs.Table.{tree_of}
use Rattle.dt_tree.proofs.Mirroring.{has_inode-dir}
use Rattle.dt_tree.proofs.Calling.{made-is, IsDir-created, IsTree-made, KeepsHeld-made}
use Rattle.dt_tree.proofs.tree.Tree.create_stamped.Goals as goal

pub stamp-requires : goal.stamp-requires
stamp-requires g c =
    let t = tree_of c.args.self.now (g.H.Host.view c.args.host.now).forest in
    has_inode-dir _ (g.H.Host.view c.create.new.host).forest _ (subst (λ (t : FileTree). IsDir t.shape c.args.dir) (sym c.in_ok-n.ensures.tree) (IsDir-created t c.args.dir c.args.name.now c.args.what.now c.args.mode c.args.stamp c.requires.stands.tree c.requires.may))

pub returns-clause-tree : goal.returns-clause-tree
returns-clause-tree g c =
    let t = tree_of c.args.self.now (g.H.Host.view c.args.host.now).forest in
    c.stamp.ensures.tree (g.H.Host.view c.create.new.host).forest c.in_ok-n.ensures.stands.mirrors ∙ ap (λ t. tree_with_stamp t c.args.dir c.args.stamp) c.in_ok-n.ensures.tree ∙ sym (made-is t c.args.dir c.args.name.now c.args.what.now c.args.mode c.args.stamp)

pub returns-clause-stands : goal.returns-clause-stands
returns-clause-stands g c =
    let t = tree_of c.args.self.now (g.H.Host.view c.args.host.now).forest in
    let v = (g.H.Host.view c.create.new.host).forest in
    let after = c.stamp.ensures.tree v c.in_ok-n.ensures.stands.mirrors ∙ ap (λ t. tree_with_stamp t c.args.dir c.args.stamp) c.in_ok-n.ensures.tree ∙ sym (made-is t c.args.dir c.args.name.now c.args.what.now c.args.mode c.args.stamp) in
    record {
      mirrors = c.stamp.ensures.mirrors v c.in_ok-n.ensures.stands.mirrors;
      tree = subst IsTree (sym after) (IsTree-made t c.args.dir c.args.name.now c.args.what.now c.args.mode c.args.stamp (subst IsTree c.in_ok-n.ensures.tree c.in_ok-n.ensures.stands.tree));
    }

pub returns-clause-held : goal.returns-clause-held
returns-clause-held g c =
    let t = tree_of c.args.self.now (g.H.Host.view c.args.host.now).forest in
    let v = (g.H.Host.view c.create.new.host).forest in
    let after = c.stamp.ensures.tree v c.in_ok-n.ensures.stands.mirrors ∙ ap (λ t. tree_with_stamp t c.args.dir c.args.stamp) c.in_ok-n.ensures.tree ∙ sym (made-is t c.args.dir c.args.name.now c.args.what.now c.args.mode c.args.stamp) in
    subst (λ t2. KeepsHeld t t2) (sym after) (KeepsHeld-made t c.args.dir c.args.name.now c.args.what.now c.args.mode c.args.stamp c.requires.stands.tree c.requires.may)
