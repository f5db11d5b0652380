use Rattle.std.proofs.Common.{◌≡◌, ◌<◌, ℕ, List, [], length, fold, take, sym, ap, subst, ◌∙◌, arith, rules}
use Rattle.std.proofs.lemmas.List.{take_all}
use Rattle.std.proofs.lemmas.List.Elements.{All-get_or}
use Rattle.std.proofs.lemmas.List.Sums.{fold_more}
use Rattle.std.specs.BTreeSet.{keys}
use Rattle.dt_host.specs.World.{Forest, IsLive}
use Rattle.dt_tree.specs.Table.{shape_of}
use Rattle.dt_image.specs.declared.paths.TreePath.{TreePath}
use Rattle.dt_export.specs.inner.Inodes.{with_inode}
use Rattle.dt_export.proofs.Put.{path_by_path}
use Rattle.dt_export.proofs.prepare.inodes_of_files.Goals as goal

abbrev gather : Forest → List ℕ → TreePath → List ℕ
gather v inodes at = with_inode v inodes at.inode

pub loop-at-init : goal.loop-at-init
loop-at-init c = λ v stands live. c.new-inodes.ensures.empty

pub loop-at-preserved : goal.loop-at-preserved
loop-at-preserved c = λ v stands live.
    let shape = shape_of c.args.tree.now v in
    let within : c.loop-at.at-index < length c.args.paths.now = omega arith in
    let there = subst (λ (at : TreePath). IsLive shape at.inode) (sym c.at-item.is) (All-get_or (λ (at : TreePath). IsLive shape at.inode) c.args.paths.now c.loop-at.at-index c.at-item.result within live) in
    c.in_ok-add_inode.ensures v stands there
    ∙ ap (λ inodes. gather shape inodes c.at-item.result) (c.loop-at.invariant v stands live)
    ∙ ap (gather shape (fold (gather shape) [] (take c.loop-at.at-index c.args.paths.now))) c.at-item.is
    ∙ sym (fold_more (gather shape) [] c.args.paths.now c.loop-at.at-index c.at-item.result within)

pub returns : goal.returns
returns c = λ v stands live.
    let shape = shape_of c.args.tree.now v in
    let same : c.in_ok-list.list.items ≡ keys c.loop-at.inodes = search rules in
    same
    ∙ c.loop-at.invariant v stands live
    ∙ ap (fold (gather shape) []) (take_all c.loop-at.at-index c.args.paths.now (omega arith))
    ∙ path_by_path shape c.args.paths.now []
