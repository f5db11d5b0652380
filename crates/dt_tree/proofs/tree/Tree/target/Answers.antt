use Rattle.std.proofs.Common.{subst, ◌∙◌}
use Rattle.std.specs.Prelude.{IsSome}
use Rattle.dt_tree.proofs.Mirroring.{target_at-inode, has_inode-link}
use Rattle.dt_host.proofs.Outcomes.{same_ok}
use Rattle.dt_tree.proofs.tree.Tree.target.Goals as goal

pub inode-requires : goal.inode-requires
inode-requires g c = has_inode-link _ (g.H.Host.view c.args.host.now).forest _ c.requires.link

pub target-requires : goal.target-requires
target-requires g c = subst (λ found. IsSome found) (target_at-inode _ _ c.requires.stands.mirrors.pairs _ _ c.inode.ensures) c.requires.link

pub returns-clause-ok : goal.returns-clause-ok
returns-clause-ok g c =
    let same = target_at-inode c.args.self.now (g.H.Host.view c.args.host.now).forest c.requires.stands.mirrors.pairs c.args.vino c.inode.result c.inode.ensures in
    same_ok c.target.result (λ target e. same ∙ e) c.target.ensures.ok
