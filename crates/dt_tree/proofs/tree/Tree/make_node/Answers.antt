use Rattle.std.proofs.Common.{arith, ◌≡◌, ◌≤◌, ◌<◌, true, false, sym, ◌∙◌}
use Rattle.std.proofs.lemmas.Bool.Decides.{nat_tests}
use Rattle.std.specs.Prelude.{nat_le}
use Rattle.std.specs.FinMap.{len}
use Rattle.dt_base.specs.declared.errno.Errno.TheVariants.{NoEnt, NoSpc}
use Rattle.dt_tree.specs.Calls.{tree_refusal, tree_answer}
use Rattle.dt_tree.specs.Changes.{tree_after_make}
use Rattle.dt_tree.specs.FileTree.{FileTree}
use Rattle.dt_tree.specs.Shape.{is_removed}
use Rattle.dt_tree.specs.Table.{tree_of}
use Rattle.dt_tree.proofs.Mirroring.{has_inode-dir, len-shape}
use Rattle.dt_tree.proofs.Calling.{under_if_there, second_case, last_case}
use Rattle.dt_tree.proofs.tree.Tree.make_node.Goals as goal

pub is_removed-requires : goal.is_removed-requires
is_removed-requires g c = has_inode-dir _ (g.H.Host.view c.args.host.now).forest _ c.requires.new.is_dir

pub returns-then-nodes-ge-NODE_LIMIT-clause-done : goal.returns-then-nodes-ge-NODE_LIMIT-clause-done
returns-then-nodes-ge-NODE_LIMIT-clause-done g c =
    let v = (g.H.Host.view c.args.host.now).forest in
    let t : FileTree = tree_of c.args.self.now v in
    let nodes = len-shape c.args.self.now v in
    let full : 4096 ≤ len t.shape.nodes = omega arith in
    let test : nat_le 4096 (len t.shape.nodes) ≡ true = grind (arith, nat_tests) in
    second_case (is_removed t.shape c.args.dir) (nat_le 4096 (len t.shape.nodes)) (tree_refusal t NoEnt) (tree_refusal t NoSpc) (tree_answer (tree_after_make t c.args.dir c.args.name.now c.args.what.now c.args.mode c.args.stamp) t.next)
    (sym (c.is_removed.ensures v c.requires.stands) ∙ c.if-is_removed.false) test

pub create_stamped-requires-clause-may : goal.create_stamped-requires-clause-may
create_stamped-requires-clause-may g c =
    let v = (g.H.Host.view c.args.host.now).forest in
    let t : FileTree = tree_of c.args.self.now v in
    let nodes = len-shape c.args.self.now v in
    let new = c.requires.new in
    record {
      is_dir = new.is_dir;
      under = under_if_there t.shape c.requires.stands.tree.shaped c.args.dir new.is_dir (sym (c.is_removed.ensures v c.requires.stands) ∙ c.if-is_removed.false);
      free = new.free;
      named = new.good;
      good = c.requires.good;
      room = omega arith;
    }

pub returns-clause-done : goal.returns-clause-done
returns-clause-done g c =
    let v = (g.H.Host.view c.args.host.now).forest in
    let t : FileTree = tree_of c.args.self.now v in
    let nodes = len-shape c.args.self.now v in
    let room : len t.shape.nodes < 4096 = omega arith in
    let test : nat_le 4096 (len t.shape.nodes) ≡ false = grind (arith, nat_tests) in
    let tree = c.in_ok-create_stamped.ensures.tree in
    let number = c.in_ok-create_stamped.ensures.number in
    last_case (is_removed t.shape c.args.dir) (nat_le 4096 (len t.shape.nodes)) (tree_refusal t NoEnt) (tree_refusal t NoSpc) (tree_answer (tree_after_make t c.args.dir c.args.name.now c.args.what.now c.args.mode c.args.stamp) t.next)
    (sym (c.is_removed.ensures v c.requires.stands) ∙ c.if-is_removed.false) test
    ∙ (λ i. tree_answer (sym tree i) (sym number i))
