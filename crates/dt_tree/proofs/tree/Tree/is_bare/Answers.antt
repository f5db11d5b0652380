use Rattle.std.proofs.Common.{ap, ◌∙◌}
use Rattle.std.specs.Prelude.{◌==◌}
use Rattle.dt_tree.proofs.Mirroring.{has_inode-dir, real_dir}
use Rattle.dt_tree.proofs.Counting.{length_told}
use Rattle.dt_tree.proofs.tree.Tree.is_bare.Goals as goal

pub inode-requires : goal.inode-requires
inode-requires g c = has_inode-dir _ (g.H.Host.view c.args.host.now).forest _ c.requires.directory

pub names-requires : goal.names-requires
names-requires g c = real_dir _ _ c.requires.stands.mirrors.pairs _ _ c.inode.ensures c.requires.directory

pub returns-clause-ok : goal.returns-clause-ok
returns-clause-ok g c =
    let v = (g.H.Host.view c.args.host.now).forest in
    let all = length_told c.args.self.now v c.requires.stands.mirrors.pairs c.args.dir c.inode.result c.inode.ensures c.in_ok-entries.entries.items c.in_ok-entries.ensures.ok in
    c.is_empty.ensures ∙ ap (λ k. k == 0) (c.in_ok-entries.entries.ok.0 ∙ all)
