use Rattle.std.proofs.Common.{arith, ◌≡◌, length, refl, sym, ap, subst, ◌∙◌}
use Rattle.std.proofs.lemmas.List.{take_all}
use Rattle.std.proofs.lemmas.Option.{slice_get_read}
use Rattle.std.specs.FinMap.{len}
use Rattle.dt_base.specs.Image.{IsImage}
use Rattle.dt_base.specs.Path.{parent_of}
use Rattle.dt_host.proofs.Pipes.{forest-then}
use Rattle.dt_tree.specs.FileTree.{FileTree}
use Rattle.dt_tree.specs.ImageTree.{image_tree, last_name}
use Rattle.dt_tree.specs.Table.{Stands, tree_of}
use Rattle.dt_tree.specs.Changes.{new_node, tree_with_new}
use Rattle.dt_tree.specs.inner.Created.{MayCreate}
use Rattle.dt_tree.specs.inner.Tables.{with_version}
use Rattle.dt_tree.specs.inner.Places.{IsInodeOfPath}
use Rattle.dt_tree.proofs.Starting.{image_tree-nil, one_node, tree_versioned, stands_versioned}
use Rattle.dt_tree.proofs.Trees.{len-created}
use Rattle.dt_tree.proofs.Images.{image_of}
use Rattle.dt_tree.proofs.Installing.{may, more}
use Rattle.dt_tree.proofs.tree.Tree.install.Goals as goal

pub loop-entry-init : goal.loop-entry-init
loop-entry-init g c =
    let v = (g.H.Host.view c.args.host.now).forest in
    let version = c.args.image.now.version in
    let set : c.set_version.new.self ≡ with_version c.args.self.now version = c.set_version.ensures ∙ ap (with_version c.args.self.now) c.version.ensures in
    let tree = ap (λ t. tree_of t v) set ∙ tree_versioned c.args.self.now v version c.requires.new in
    record {
      later = omega arith;
      rest = record { pipes = refl; pids = refl };
      stands = subst (λ t. Stands t v) (sym set) (stands_versioned c.args.self.now v version c.requires.new c.entries-entries.ensures.good.version c.requires.stands);
      tree = tree;
      nodes = ap (λ (t : FileTree). len t.shape.nodes) (tree ∙ image_tree-nil version) ∙ one_node;
    }

pub inode_at-dir-requires : goal.inode_at-dir-requires
inode_at-dir-requires g c =
    let version = c.args.image.now.version in
    (version, subst (λ es. IsImage (image_of version es)) (sym c.entries-entries.ensures.entries) c.entries-entries.ensures.good)

pub create-requires-clause-stands : goal.create-requires-clause-stands
create-requires-clause-stands g c = c.loop-entry.invariant.stands

pub create-requires-clause-may : goal.create-requires-clause-may
create-requires-clause-may g c =
    let entries = c.entries-entries.result.now in
    let version = c.args.image.now.version in
    let is = subst (λ es. IsImage (image_of version es)) (sym c.entries-entries.ensures.entries) c.entries-entries.ensures.good in
    let at = slice_get_read entries (length entries) c.loop-entry.entry-index c.entry-item.result refl (omega arith) c.entry-item.is in
    let leads = subst (λ p. IsInodeOfPath entries p c.inode_at-dir.result) (c.split_path.ensures.parent ∙ ap parent_of c.as_slice.ensures) c.inode_at-dir.ensures in
    let t = tree_of c.loop-entry.self (g.H.Host.view c.loop-entry.host).forest in
    subst (λ name. MayCreate t c.inode_at-dir.result name c.entry-item.result.what c.entry-item.result.mode) (sym (c.split_path.ensures.name ∙ ap last_name c.as_slice.ensures))
    (may version entries is c.loop-entry.entry-index c.entry-item.result at c.inode_at-dir.result leads t c.loop-entry.invariant.tree c.loop-entry.invariant.stands.tree c.loop-entry.invariant.nodes)

pub loop-entry-preserved : goal.loop-entry-preserved
loop-entry-preserved g c =
    let entries = c.entries-entries.result.now in
    let e = c.entry-item.result in
    let n = c.inode_at-dir.result in
    let version = c.args.image.now.version in
    let is = subst (λ es. IsImage (image_of version es)) (sym c.entries-entries.ensures.entries) c.entries-entries.ensures.good in
    let at = slice_get_read entries (length entries) c.loop-entry.entry-index e refl (omega arith) c.entry-item.is in
    let leads = subst (λ p. IsInodeOfPath entries p n) (c.split_path.ensures.parent ∙ ap parent_of c.as_slice.ensures) c.inode_at-dir.ensures in
    let t = tree_of c.loop-entry.self (g.H.Host.view c.loop-entry.host).forest in
    let s = c.loop-entry.invariant.stands.tree in
    let can = may version entries is c.loop-entry.entry-index e at n leads t c.loop-entry.invariant.tree s c.loop-entry.invariant.nodes in
    let after : tree_of c.create.new.self (g.H.Host.view c.create.new.host).forest ≡ tree_with_new t n (last_name e.path) (new_node e.what) e.mode 0 =
    c.in_ok-create.ensures.tree ∙ ap (λ name. tree_with_new t n name (new_node e.what) e.mode 0) (c.split_path.ensures.name ∙ ap last_name c.as_slice.ensures) in
    let nodes = ap (λ (t : FileTree). len t.shape.nodes) after ∙ len-created t n (last_name e.path) e.what e.mode 0 s can in
    record {
      later = omega (arith, c.create.ensures.cause.later, c.loop-entry.invariant.later);
      rest = forest-then c.create.ensures.rest c.loop-entry.invariant.rest;
      stands = c.in_ok-create.ensures.stands;
      tree = after ∙ ap (λ t. tree_with_new t n (last_name e.path) (new_node e.what) e.mode 0) c.loop-entry.invariant.tree ∙ sym (more version entries is c.loop-entry.entry-index e at n leads);
      nodes = omega (arith, nodes, c.loop-entry.invariant.nodes);
    }

pub returns-clause-tree : goal.returns-clause-tree
returns-clause-tree g c =
    c.loop-entry.invariant.tree
    ∙ ap (λ es. image_tree (image_of c.args.image.now.version es)) (take_all c.loop-entry.entry-index c.entries-entries.result.now (omega arith))
    ∙ ap (λ es. image_tree (image_of c.args.image.now.version es)) c.entries-entries.ensures.entries
