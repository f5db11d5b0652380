use Rattle.std.proofs.Common.{sym, ap, subst, ◌∙◌}
use Rattle.std.specs.Prelude.{IsSome}
use Rattle.std.specs.FinMap.{get}
use Rattle.dt_tables.specs.Entries.{map_of}
use Rattle.dt_tree.proofs.Kept.{get-kept, put-kept}
use Rattle.dt_tree.proofs.tree.Tree.set.Goals as goal

pub set-requires : goal.set-requires
set-requires c = subst (λ found. IsSome found) (sym (ap (λ t. get t.inodes c.args.n) c.self.view_is) ∙ get-kept c.self.inside.inodes c.args.n) c.requires

pub returns : goal.returns
returns c =
    let put = put-kept c.self.inside.inodes c.set.new.inodes c.args.n c.args.inode c.set.ensures.here c.set.ensures.others in
    rw (← c.self.view_is) (λ i. record { inodes = put i; by_real = map_of (λ n. n) (λ n. n) c.self.inside.by_real.entries; next = c.self.inside.next; names = c.self.inside.names; version = c.self.inside.version })
