use Rattle.std.proofs.Common.{◌+◌, sym, ap, ◌∙◌}
use Rattle.dt_tree.proofs.Mirroring.{has_inode-dir}
use Rattle.dt_tree.proofs.Looked.{nlink_of-removed, nlink_of-there}
use Rattle.dt_tree.proofs.tree.Tree.dir_nlink.Goals as goal

pub is_removed-requires : goal.is_removed-requires
is_removed-requires g c = has_inode-dir _ (g.H.Host.view c.args.host.now).forest _ c.requires.directory

pub returns-then-is_removed-clause-ok : goal.returns-then-is_removed-clause-ok
returns-then-is_removed-clause-ok g c =
    let v = (g.H.Host.view c.args.host.now).forest in
    sym (nlink_of-removed _ _ c.requires.directory (sym (c.is_removed.ensures v c.requires.stands) ∙ c.if-is_removed.true))

pub returns-clause-ok : goal.returns-clause-ok
returns-clause-ok g c =
    let v = (g.H.Host.view c.args.host.now).forest in
    ap (λ n. 2 + n) c.in_ok-count_subdirectories.ensures.ok ∙ sym (nlink_of-there _ _ c.requires.directory (sym (c.is_removed.ensures v c.requires.stands) ∙ c.if-is_removed.false))
