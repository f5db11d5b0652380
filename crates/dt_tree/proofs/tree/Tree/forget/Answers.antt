use Rattle.dt_tree.proofs.Kept.{remove-kept, untied}
use Rattle.dt_tree.proofs.tree.Tree.forget.Goals as goal

pub returns : goal.returns
returns c =
    let inodes = remove-kept c.self.inside.inodes c.remove.new.self c.args.n c.remove.ensures.updates.1 (λ q apart. c.remove.ensures.updates.2 q (untied c.args.n q apart)) in
    let by_real = remove-kept c.self.inside.by_real c.remove-2.new.self c.args.real c.remove-2.ensures.updates.1 (λ q apart. c.remove-2.ensures.updates.2 q (untied c.args.real q apart)) in
    rw (← c.self.view_is) (λ i. record { inodes = inodes i; by_real = by_real i; next = c.self.inside.next; names = c.self.inside.names; version = c.self.inside.version })
