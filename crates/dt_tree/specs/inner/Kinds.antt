-- Inner words: no public clause cites these. What is told of a node by its kind.
use Rattle.std.specs.Prelude.{ℕ}
use Rattle.dt_tree.specs.declared.inode.Kind.{Kind}
use Rattle.dt_tree.specs.declared.inode.Kind.TheVariants.{File, Dir, Link, Device}
use Rattle.dt_base.specs.declared.abi.TheConstants.{DT_DIR, DT_REG, DT_LNK, DT_CHR}

-- the type of an entry for a node of this kind
abbrev pub type_for : Kind → ℕ
type_for File = DT_REG
type_for Dir = DT_DIR
type_for Link = DT_LNK
type_for (Device which) = DT_CHR
