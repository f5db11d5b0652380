use Rattle.std.proofs.Common.{sym, ap, subst, ◌∙◌}
use Rattle.dt_host.specs.World.{IsDir}
use Rattle.dt_host.proofs.Spots.{IsDir-with_entry}
use Rattle.dt_tree.specs.FileTree.{FileTree, IsTree}
use Rattle.dt_tree.specs.Calls.{KeepsHeld}
use Rattle.dt_tree.specs.Changes.{tree_with_stamp}
use Rattle.dt_tree.specs.Table.{shape_of, tree_of}
use Rattle.dt_tree.proofs.Mirroring.{has_inode-dir}
use Rattle.dt_tree.proofs.Calling.{under_if_there, linked-is, IsTree-linked, KeepsHeld-linked}
use Rattle.dt_tree.proofs.tree.Tree.link.Goals as goal

pub stamp-requires : goal.stamp-requires
stamp-requires g c =
    has_inode-dir _ (g.H.Host.view c.bind.new.host).forest _ (subst (λ (t : FileTree). IsDir t.shape c.args.dir) (sym c.in_ok-bind.ensures.tree) (IsDir-with_entry (shape_of c.args.self.now (g.H.Host.view c.args.host.now).forest) c.args.dir c.args.name.now c.args.n c.args.dir c.requires.may.new.is_dir))

pub returns-clause-tree : goal.returns-clause-tree
returns-clause-tree g c =
    let t = tree_of c.args.self.now (g.H.Host.view c.args.host.now).forest in
    c.stamp.ensures.tree (g.H.Host.view c.bind.new.host).forest c.in_ok-bind.ensures.mirrors ∙ ap (λ t. tree_with_stamp t c.args.dir c.args.stamp) c.in_ok-bind.ensures.tree ∙ sym (linked-is t c.args.dir c.args.name.now c.args.n c.args.stamp)

pub returns-clause-stands : goal.returns-clause-stands
returns-clause-stands g c =
    let t : FileTree = tree_of c.args.self.now (g.H.Host.view c.args.host.now).forest in
    let v = (g.H.Host.view c.bind.new.host).forest in
    let after = c.stamp.ensures.tree v c.in_ok-bind.ensures.mirrors ∙ ap (λ t. tree_with_stamp t c.args.dir c.args.stamp) c.in_ok-bind.ensures.tree ∙ sym (linked-is t c.args.dir c.args.name.now c.args.n c.args.stamp) in
    let s = c.requires.stands.tree in
    let may = c.requires.may in
    record {
      mirrors = c.stamp.ensures.mirrors v c.in_ok-bind.ensures.mirrors;
      tree = subst IsTree (sym after) (IsTree-linked t c.args.dir c.args.name.now c.args.n c.args.stamp s may.new.is_dir (under_if_there t.shape s.shaped c.args.dir may.new.is_dir c.requires.there) may.new.free may.new.good may.live may.no_dir c.in_ok-bind.ensures.room);
    }

pub returns-clause-held : goal.returns-clause-held
returns-clause-held g c =
    let t : FileTree = tree_of c.args.self.now (g.H.Host.view c.args.host.now).forest in
    let v = (g.H.Host.view c.bind.new.host).forest in
    let after = c.stamp.ensures.tree v c.in_ok-bind.ensures.mirrors ∙ ap (λ t. tree_with_stamp t c.args.dir c.args.stamp) c.in_ok-bind.ensures.tree ∙ sym (linked-is t c.args.dir c.args.name.now c.args.n c.args.stamp) in
    let s = c.requires.stands.tree in
    let may = c.requires.may in
    subst (λ t2. KeepsHeld t t2) (sym after) (KeepsHeld-linked t c.args.dir c.args.name.now c.args.n c.args.stamp s may.new.is_dir (under_if_there t.shape s.shaped c.args.dir may.new.is_dir c.requires.there) may.new.free may.new.good may.live may.no_dir)
