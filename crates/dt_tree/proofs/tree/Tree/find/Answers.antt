use Rattle.std.proofs.Common.{Some, sym, ap, ◌∙◌}
use Rattle.std.specs.Prelude.{option_map}
use Rattle.dt_tree.specs.Table.{vino_of}
use Rattle.dt_tree.proofs.Mirroring.{has_inode-dir, real_dir, entry-inode}
use Rattle.dt_tree.proofs.tree.Tree.find.Goals as goal

pub inode-inode-requires : goal.inode-inode-requires
inode-inode-requires g c = has_inode-dir _ _ _ c.requires.directory

pub find-requires : goal.find-requires
find-requires g c = real_dir _ _ c.requires.stands.mirrors.pairs _ _ c.inode-inode.ensures c.requires.directory

pub returns-in-None-clause-ok : goal.returns-in-None-clause-ok
returns-in-None-clause-ok g c = sym (entry-inode _ _ c.requires.stands.mirrors.pairs _ _ _ c.inode-inode.ensures ∙ ap (option_map (vino_of c.args.self.now)) (sym c.in_ok-find.ensures.ok ∙ c.in-None.is))

pub returns-in-Some-clause-ok : goal.returns-in-Some-clause-ok
returns-in-Some-clause-ok g c = ap Some c.vino.ensures ∙ sym (entry-inode _ _ c.requires.stands.mirrors.pairs _ _ _ c.inode-inode.ensures ∙ ap (option_map (vino_of c.args.self.now)) (sym c.in_ok-find.ensures.ok ∙ c.in-Some.is))
