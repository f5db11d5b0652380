-- Inner words: no public clause cites these. The inode that an image's path leads to.
use Rattle.std.specs.Prelude.{◌≡◌, ℕ, ◌+◌, List, [], slice_get, Some}
use Rattle.dt_base.specs.declared.image.Entry.{Entry}
use Rattle.dt_tree.specs.declared.limits.TheConstants.{ROOT, FIRST_INODE}

-- the root's for the empty path, and an entry's for its path
pub record IsInodeOfPath (entries : List Entry) (path : List ℕ) (n : ℕ) : Type 0 where
  pub root : path ≡ [] → n ≡ ROOT
  pub entry : (i : ℕ) (e : Entry) → slice_get entries i ≡ Some e → e.path ≡ path → n ≡ FIRST_INODE + i
