use Rattle.std.proofs.Common.{ℕ, ap, ◌∙◌}
use Rattle.std.specs.Cmp.{nat_cmp_total}
use Rattle.std.specs.FinMap.{insert, nat_cmp-IsAntisymmetric}
use Rattle.dt_tables.specs.Entries.{map_of}
use Rattle.dt_tables.proofs.MapOf.{map_of-insert_entry, map_of-nil}
use Rattle.dt_tree.specs.declared.inode.Inode.{Inode}
use Rattle.dt_tree.proofs.tree.Tree.with_root.Goals as goal

pub returns : goal.returns
returns c =
    let lines =
    ap (map_of (λ (n : ℕ). n) (λ (inode : Inode). inode)) c.in_ok-insert.ensures.entries
    ∙ map_of-insert_entry nat_cmp_total (λ (n : ℕ). n) (λ (inode : Inode). inode) nat_cmp-IsAntisymmetric c.new-inodes.result.entries 1 c.args.inode
    ∙ ap (λ m. insert m 1 c.args.inode) (map_of-nil nat_cmp_total (λ (n : ℕ). n) (λ (inode : Inode). inode) c.new-inodes.result.entries c.new-inodes.ensures.empty) in
    let back =
    ap (map_of (λ (n : ℕ). n) (λ (n : ℕ). n)) c.in_ok-insert-2.ensures.entries
    ∙ map_of-insert_entry nat_cmp_total (λ (n : ℕ). n) (λ (n : ℕ). n) nat_cmp-IsAntisymmetric c.new-by_real.result.entries c.args.inode.real 1
    ∙ ap (λ m. insert m c.args.inode.real 1) (map_of-nil nat_cmp_total (λ (n : ℕ). n) (λ (n : ℕ). n) c.new-by_real.result.entries c.new-by_real.ensures.empty) in
    λ i. record { inodes = lines i; by_real = back i; next = 2; names = 0; version = 1 }
