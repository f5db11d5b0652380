use Rattle.std.proofs.Common.{◌≡◌, ◌-◌, ◌++◌, length, take, drop, sym, subst}
use Rattle.std.specs.Prelude.{IsSome, IfOk, min}
use Rattle.dt_tree.proofs.Mirroring.{has_inode-file, file_at-inode}
use Rattle.dt_tree.proofs.Looked.{content-inode}
use Rattle.dt_tree.proofs.tree.Tree.read_at.Goals as goal

pub inode-requires : goal.inode-requires
inode-requires g c = has_inode-file _ (g.H.Host.view c.args.host.now).forest _ c.requires.file

pub read_whole-requires : goal.read_whole-requires
read_whole-requires g c = subst (λ found. IsSome found) (file_at-inode _ _ c.requires.stands.mirrors.pairs _ _ c.inode.ensures) c.requires.file

pub returns-clause-count : goal.returns-clause-count
returns-clause-count g c =
    let same = content-inode c.args.self.now (g.H.Host.view c.args.host.now).forest c.requires.stands.mirrors.pairs c.args.vino c.inode.result c.inode.ensures in
    subst (λ bytes. IfOk c.read_whole.result (λ n. n ≡ min (length c.args.buf.now) (length bytes - c.args.off))) (sym same) c.read_whole.ensures.count

pub returns-clause-prefix : goal.returns-clause-prefix
returns-clause-prefix g c =
    let same = content-inode c.args.self.now (g.H.Host.view c.args.host.now).forest c.requires.stands.mirrors.pairs c.args.vino c.inode.result c.inode.ensures in
    subst (λ bytes. IfOk c.read_whole.result (λ n. c.read_whole.new.buf ≡ take n (drop c.args.off bytes) ++ drop n c.args.buf.now)) (sym same) c.read_whole.ensures.prefix
