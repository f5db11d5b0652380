use Rattle.std.proofs.Common.{sym, ap, subst, ◌∙◌}
use Rattle.dt_host.specs.World.{without_entry, IsDir, IsLive}
use Rattle.dt_host.proofs.Gone.{IsDir-without_entry, IsLive-without_entry}
use Rattle.dt_tree.specs.FileTree.{FileTree, IsTree, IsTreeBut}
use Rattle.dt_tree.specs.Calls.{KeepsHeld}
use Rattle.dt_tree.specs.Changes.{with_shape, with_stamp, tree_with_stamp, without_unused_found}
use Rattle.dt_tree.specs.Table.{shape_of, tree_of}
use Rattle.dt_tree.proofs.Mirroring.{has_inode-dir}
use Rattle.dt_tree.proofs.Changing.{shape-with_attributes}
use Rattle.dt_tree.proofs.Calling.{named_live, unlinked-is, IsTreeBut-unlinked, IsTree-unlinked, KeepsHeld-unlinked}
use Rattle.dt_host.proofs.Outcomes.{on_ok, on_both}
use Rattle.dt_tree.proofs.tree.Tree.unlink.Goals as goal

pub stamp-requires : goal.stamp-requires
stamp-requires g c =
    has_inode-dir _ (g.H.Host.view c.unbind_found.new.host).forest _ (subst (λ (t : FileTree). IsDir t.shape c.args.dir) (sym c.in_ok-unbind_found.ensures.tree) (IsDir-without_entry (shape_of c.args.self.now (g.H.Host.view c.args.host.now).forest) c.args.dir c.args.name.now c.args.dir c.requires.directory))

pub sweep_found-requires-clause-mirrors : goal.sweep_found-requires-clause-mirrors
sweep_found-requires-clause-mirrors g c = c.stamp.ensures.mirrors (g.H.Host.view c.unbind_found.new.host).forest c.in_ok-unbind_found.ensures.mirrors

pub sweep_found-requires-clause-tree : goal.sweep_found-requires-clause-tree
sweep_found-requires-clause-tree g c =
    let t = tree_of c.args.self.now (g.H.Host.view c.args.host.now).forest in
    let second = c.stamp.ensures.tree (g.H.Host.view c.unbind_found.new.host).forest c.in_ok-unbind_found.ensures.mirrors ∙ ap (λ t. tree_with_stamp t c.args.dir c.args.stamp) c.in_ok-unbind_found.ensures.tree in
    subst (IsTreeBut c.args.found) (sym second) (IsTreeBut-unlinked t c.args.dir c.args.name.now c.args.stamp c.requires.stands.tree c.requires.directory c.args.found c.requires.found c.requires.bare)

pub sweep_found-requires-clause-live : goal.sweep_found-requires-clause-live
sweep_found-requires-clause-live g c =
    let t : FileTree = tree_of c.args.self.now (g.H.Host.view c.args.host.now).forest in
    let second = c.stamp.ensures.tree (g.H.Host.view c.unbind_found.new.host).forest c.in_ok-unbind_found.ensures.mirrors ∙ ap (λ t. tree_with_stamp t c.args.dir c.args.stamp) c.in_ok-unbind_found.ensures.tree in
    let shape = ap (λ (t : FileTree). t.shape) second ∙ shape-with_attributes (with_shape t (without_entry t.shape c.args.dir c.args.name.now)) c.args.dir (with_stamp c.args.stamp) in
    named_live t c.requires.stands.tree (shape_of c.stamp.new.self (g.H.Host.view c.unbind_found.new.host).forest) (λ n live. subst (λ v. IsLive v n) (sym shape) (IsLive-without_entry t.shape c.args.dir c.args.name.now n live)) c.args.dir c.args.name.now c.args.found c.requires.found

pub returns-clause-tree : goal.returns-clause-tree
returns-clause-tree g c =
    let t = tree_of c.args.self.now (g.H.Host.view c.args.host.now).forest in
    let second = c.stamp.ensures.tree (g.H.Host.view c.unbind_found.new.host).forest c.in_ok-unbind_found.ensures.mirrors ∙ ap (λ t. tree_with_stamp t c.args.dir c.args.stamp) c.in_ok-unbind_found.ensures.tree in
    on_ok c.sweep_found.result (λ e. e ∙ ap (λ t. without_unused_found c.args.found t) second ∙ sym (unlinked-is t c.args.dir c.args.name.now c.args.stamp c.args.found c.requires.found)) c.sweep_found.ensures.tree

pub returns-clause-stands : goal.returns-clause-stands
returns-clause-stands g c =
    let t = tree_of c.args.self.now (g.H.Host.view c.args.host.now).forest in
    let second = c.stamp.ensures.tree (g.H.Host.view c.unbind_found.new.host).forest c.in_ok-unbind_found.ensures.mirrors ∙ ap (λ t. tree_with_stamp t c.args.dir c.args.stamp) c.in_ok-unbind_found.ensures.tree in
    on_both c.sweep_found.result (λ m e. record {
      mirrors = m;
      tree = subst IsTree (sym (e ∙ ap (λ t. without_unused_found c.args.found t) second ∙ sym (unlinked-is t c.args.dir c.args.name.now c.args.stamp c.args.found c.requires.found))) (IsTree-unlinked t c.args.dir c.args.name.now c.args.stamp c.requires.stands.tree c.requires.directory c.args.found c.requires.found c.requires.bare);
    }) c.sweep_found.ensures.mirrors c.sweep_found.ensures.tree

pub returns-clause-held : goal.returns-clause-held
returns-clause-held g c =
    let t = tree_of c.args.self.now (g.H.Host.view c.args.host.now).forest in
    let second = c.stamp.ensures.tree (g.H.Host.view c.unbind_found.new.host).forest c.in_ok-unbind_found.ensures.mirrors ∙ ap (λ t. tree_with_stamp t c.args.dir c.args.stamp) c.in_ok-unbind_found.ensures.tree in
    on_ok c.sweep_found.result (λ e. subst (λ t2. KeepsHeld t t2) (sym (e ∙ ap (λ t. without_unused_found c.args.found t) second ∙ sym (unlinked-is t c.args.dir c.args.name.now c.args.stamp c.args.found c.requires.found))) (KeepsHeld-unlinked t c.args.dir c.args.name.now c.args.stamp c.requires.stands.tree c.requires.directory c.args.found c.requires.found c.requires.bare)) c.sweep_found.ensures.tree
