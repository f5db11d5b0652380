use Rattle.std.proofs.Common.{◌+◌, ℕ, ap, ◌∙◌}
use Rattle.std.specs.Cmp.{nat_cmp_total}
use Rattle.std.specs.FinMap.{nat_cmp-IsAntisymmetric}
use Rattle.dt_tables.specs.Entries.{map_of}
use Rattle.dt_tables.proofs.MapOf.{map_of-insert_entry}
use Rattle.dt_tree.specs.declared.inode.Inode.{Inode}
use Rattle.dt_tree.proofs.tree.Tree.admit.Goals as goal

pub returns-clause-ok : goal.returns-clause-ok
returns-clause-ok c =
    let lines =
    ap (map_of (λ (n : ℕ). n) (λ (inode : Inode). inode)) c.in_ok-insert.ensures.entries
    ∙ map_of-insert_entry nat_cmp_total (λ (n : ℕ). n) (λ (inode : Inode). inode) nat_cmp-IsAntisymmetric c.self.inside.inodes.entries c.self.inside.next c.args.inode in
    let back =
    ap (map_of (λ (n : ℕ). n) (λ (n : ℕ). n)) c.in_ok-insert-2.ensures.entries
    ∙ map_of-insert_entry nat_cmp_total (λ (n : ℕ). n) (λ (n : ℕ). n) nat_cmp-IsAntisymmetric c.self.inside.by_real.entries c.args.inode.real c.self.inside.next in
    rw (← c.self.view_is) (λ i. record { inodes = lines i; by_real = back i; next = c.self.inside.next + 1; names = c.self.inside.names; version = c.self.inside.version })
