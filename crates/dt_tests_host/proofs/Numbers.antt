-- What the host has under the number of a node of the tree.
use Rattle.std.proofs.Common.{◌≡◌, ℕ, List, Option, Some, None, refl, sym, ap, subst, ◌∙◌}
use Rattle.std.specs.Prelude.{IsSome, option_map}
use Rattle.std.specs.FinMap.{get}
use Rattle.dt_host.specs.World.{Forest, entry, IsDir, IsFile, IsLink}
use Rattle.dt_tree.specs.declared.inode.Inode.{Inode}
use Rattle.dt_tree.specs.Table.{Table, IsPairing, real_of, shape_of}
use Rattle.dt_tree.proofs.Mirroring.{real_dir, target_at-inode, file_at-inode, live_named, entry-real}

-- what is kept of a node with that number
pub inode_of : (t : Table) (n real : ℕ) → real_of t n ≡ Some real → (inode : Inode) × (get t.inodes n ≡ Some inode) × (inode.real ≡ real)
inode_of t n real is = by_found (get t.inodes n) refl is
  where
    by_found : (found : Option Inode) → get t.inodes n ≡ found → option_map (λ (inode : Inode). inode.real) found ≡ Some real → (inode : Inode) × (get t.inodes n ≡ Some inode) × (inode.real ≡ real)
    by_found None e is = cc
    by_found (Some inode) e is = let same : inode.real ≡ real = cc in (inode, e, same)

module _ (t : Table) (v : Forest) (s : IsPairing t v) (n real : ℕ) (is : real_of t n ≡ Some real) where
  pub held_dir : IsDir (shape_of t v) n → IsDir v real
  held_dir here = let at = inode_of t n real is in subst (λ q. IsDir v q) at.2 (real_dir t v s n at.0 at.1 here)

  pub held_link : IsLink (shape_of t v) n → IsLink v real
  held_link here = let at = inode_of t n real is in subst (λ q. IsLink v q) at.2 (subst (λ found. IsSome found) (target_at-inode t v s n at.0 at.1) here)

  pub held_file : IsFile (shape_of t v) n → IsFile v real
  held_file here = let at = inode_of t n real is in subst (λ q. IsFile v q) at.2 (subst (λ found. IsSome found) (file_at-inode t v s n at.0 at.1) here)

  -- a name leads to one node at the host and in the tree
  pub held_entry : (name : List ℕ) (m found : ℕ) → entry (shape_of t v) n name ≡ Some m → entry v real name ≡ Some found → real_of t m ≡ Some found
  held_entry name m found e f =
      let at = inode_of t n real is in
      by_inode at (get t.inodes m) refl (live_named t v s n at.0 name at.1 m e)
    where
      by_inode : (at : (inode : Inode) × (get t.inodes n ≡ Some inode) × (inode.real ≡ real)) (kept : Option Inode) → get t.inodes m ≡ kept → IsSome kept → real_of t m ≡ Some found
      by_inode at None p h = cc
      by_inode at (Some inode) p h =
          let here = entry-real t v s n m at.0 inode name at.1 p e in
          ap (option_map (λ (inode : Inode). inode.real)) p ∙ sym here ∙ ap (λ q. entry v q name) at.2 ∙ f
