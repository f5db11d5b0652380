use Rattle.std.proofs.Common.{◌≡◌, ◌-◌, ◌++◌, min, length, take, drop, ap, subst, arith}
use Rattle.dt_host.specs.World.{content}
use Rattle.dt_tree.specs.Table.{shape_of, tree_of}
use Rattle.dt_tree.proofs.Parts.{sized, part-came}
use Rattle.dt_tree.proofs.tree.Tree.read_part.Goals as goal

pub returns-clause-ok : goal.returns-clause-ok
returns-clause-ok g c =
    let w = g.H.Host.view c.args.host.now in
    let t = tree_of c.args.self.now w.forest in
    let same = ap (λ v. content (shape_of c.args.self.now v.forest) c.args.inode) c.meta.ensures.asks.stays in
    let buffer = c.deref_mut.result.now in
    let new = c.read_at.new.buf in
    let n = c.in_ok-read_at.field-0 in
    let size = sized t c.args.inode c.in_ok-meta.field-0 c.requires.file c.in_ok-meta.ensures.ok in
    let long : length buffer ≡ min (c.in_ok-meta.field-0.size - c.args.offset) c.args.most = omega (arith, c.deref_mut.ensures.len, c.in_ok-bytes.ensures.len, c.min.ensures, c.saturating_sub-left.ensures) in
    part-came (content t.shape c.args.inode) buffer new c.args.offset c.args.most c.in_ok-meta.field-0.size n size long
    (subst (λ bytes. n ≡ min (length buffer) (length bytes - c.args.offset)) same c.in_ok-read_at.ensures.count)
    (subst (λ bytes. new ≡ take n (drop c.args.offset bytes) ++ drop n buffer) same c.in_ok-read_at.ensures.prefix)
    _ _ (omega (arith, long, c.in_ok-bytes.ensures.len, c.min.ensures, c.saturating_sub-left.ensures))
