use Rattle.std.proofs.Common.{arith, List, length, ap, ◌∙◌}
use Rattle.std.specs.List.{count_by}
use Rattle.dt_host.specs.declared.entry.HostEntry.{HostEntry}
use Rattle.dt_tree.specs.Shape.{is_dir}
use Rattle.dt_tree.specs.Table.{vino_of, shape_of}
use Rattle.dt_tree.proofs.Mirroring.{has_inode-dir, real_dir}
use Rattle.dt_tree.proofs.Counting.{counted, few_told}
use Rattle.dt_tree.proofs.tree.Tree.count_subdirectories.Goals as goal

pub inode-requires : goal.inode-requires
inode-requires g c = has_inode-dir _ (g.H.Host.view c.args.host.now).forest _ c.requires.directory

pub names-requires : goal.names-requires
names-requires g c = real_dir _ _ c.requires.stands.mirrors.pairs _ _ c.inode.ensures c.requires.directory

pub count_dirs-requires : goal.count_dirs-requires
count_dirs-requires g c =
    let v = (g.H.Host.view c.args.host.now).forest in
    let few = few_told c.args.self.now v c.requires.stands.mirrors.pairs c.args.dir c.inode.result c.inode.ensures c.in_ok-entries.entries.items c.in_ok-entries.ensures.ok in
    let same = ap length c.deref.ensures.value in
    let all = c.requires.stands.tree.few_names in
    omega arith

pub returns-clause-ok : goal.returns-clause-ok
returns-clause-ok g c =
    let v = (g.H.Host.view c.args.host.now).forest in
    let p = λ (e : HostEntry). is_dir (shape_of c.args.self.now v) (vino_of c.args.self.now e.ino) in
    c.count_dirs.ensures.count v c.requires.stands ∙ ap (λ (xs : List HostEntry). count_by p xs) c.deref.ensures.value
    ∙ counted c.args.self.now v c.requires.stands.mirrors.pairs c.args.dir c.inode.result c.inode.ensures c.in_ok-entries.entries.items c.in_ok-entries.ensures.ok

pub returns-clause-few : goal.returns-clause-few
returns-clause-few g c =
    let v = (g.H.Host.view c.args.host.now).forest in
    let few = few_told c.args.self.now v c.requires.stands.mirrors.pairs c.args.dir c.inode.result c.inode.ensures c.in_ok-entries.entries.items c.in_ok-entries.ensures.ok in
    let same = ap length c.deref.ensures.value in
    let all = c.requires.stands.tree.few_names in
    let most = c.count_dirs.ensures.few in
    omega arith
