-- A tree that goes from its host: first the names, then the nodes.
use Rattle.std.specs.Prelude.{◌≡◌, ◌⊎◌, ℕ, ◌≤◌, ◌<◌, List, T, Some, option_map}
use Rattle.std.specs.Ordering.{nat_cmp}
use Rattle.std.specs.Cmp.Lexicographic.{slice_cmp}
use Rattle.std.specs.FinMap.{find, get, is_sorted}
use Rattle.dt_host.specs.World.{Forest, node_at, entry, IsLive, IsDir, IsBare}
use Rattle.dt_tree.specs.declared.limits.TheConstants.{ROOT}
use Rattle.dt_tree.specs.declared.inode.Inode.{Inode}
use Rattle.dt_tree.specs.Table.{Table, real_of, kind_of}

-- these are the entries of a directory, in their order
pub record AreEntries (v : Forest) (d : ℕ) (es : List (List ℕ × ℕ)) : Type 0 where
  pub dir : IsDir v d
  pub sorted : T (is_sorted (slice_cmp nat_cmp) es)
  pub each : (q : List ℕ) → entry v d q ≡ find (slice_cmp nat_cmp) q es

-- names were taken away: the same nodes are there, each of its kind, and what had no entries has none
pub record Thins (old new : Forest) : Type 0 where
  pub root : new.root ≡ old.root
  pub kinds : (n : ℕ) → option_map kind_of (node_at new n) ≡ option_map kind_of (node_at old n)
  pub bare : (n : ℕ) → IsBare old n → IsBare new n

-- each node of the table is there, of the kind that is kept of it
abbrev pub HasKinds : Table → Forest → Type 0
HasKinds t v = (n : ℕ) (inode : Inode) → get t.inodes n ≡ Some inode → option_map kind_of (node_at v inode.real) ≡ Some inode.kind

-- a node of the host is one of the table, under that inode or a later one
pub record IsLeft (t : Table) (least real : ℕ) : Type 0 where
  pub number : ℕ
  pub inode : Inode
  pub there : get t.inodes number ≡ Some inode
  pub same : inode.real ≡ real
  pub late : least ≤ number

-- of the nodes below an inode only the root is at the host still; those of the table from there on are, each once, and no
-- others; and none has an entry
pub record IsForgotten (t : Table) (least : ℕ) (v : Forest) : Type 0 where
  pub live : (n : ℕ) (inode : Inode) → least ≤ n → get t.inodes n ≡ Some inode → IsLive v inode.real
  pub once : (n m : ℕ) (a b : Inode) → get t.inodes n ≡ Some a → get t.inodes m ≡ Some b → a.real ≡ b.real → n ≡ m
  pub left : (real : ℕ) → IsLive v real → (real ≡ v.root) ⊎ IsLeft t least real
  pub below : (n : ℕ) (inode : Inode) → get t.inodes n ≡ Some inode → n < t.next
  pub root : real_of t ROOT ≡ Some v.root
  pub dir : IsDir v v.root
  pub bare : (d : ℕ) → IsBare v d

-- the nodes of the table and no others are at the host, and none has an entry
abbrev pub IsEmptied : Table → Forest → Type 0
IsEmptied t v = IsForgotten t ROOT v
