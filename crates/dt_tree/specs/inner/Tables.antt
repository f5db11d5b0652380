-- Inner words: no public clause cites these. Changes of a table.
use Rattle.std.specs.Prelude.{ℕ, ◌+◌}
use Rattle.std.specs.FinMap.{empty, insert, remove}
use Rattle.dt_base.specs.declared.profile.TheConstants.{FIRST_VERSION}
use Rattle.dt_tree.specs.declared.inode.Inode.{Inode}
use Rattle.dt_tree.specs.declared.limits.TheConstants.{ROOT, FIRST_INODE}
use Rattle.dt_tree.specs.Table.{Table}

-- with something else kept of a node
abbrev pub with_inode : Table → ℕ → Inode → Table
with_inode t n inode = record t { inodes = insert t.inodes n inode }

-- with another count of names
abbrev pub with_names : Table → ℕ → Table
with_names t names = record t { names = names }

-- of an image of another version
abbrev pub with_version : Table → ℕ → Table
with_version t version = record t { version = version }

-- with a new node, which has the next inode
abbrev pub with_new : Table → Inode → Table
with_new t inode = record t { inodes = insert t.inodes t.next inode; by_real = insert t.by_real inode.real t.next; next = t.next + 1 }

-- without a node, which has that number at the host
abbrev pub without_inode : Table → ℕ → ℕ → Table
without_inode t n real = record t { inodes = remove t.inodes n; by_real = remove t.by_real real }

-- the table of a root alone
abbrev pub root_table : Inode → Table
root_table inode = record { inodes = insert empty ROOT inode; by_real = insert empty inode.real ROOT; next = FIRST_INODE; names = 0; version = FIRST_VERSION }
