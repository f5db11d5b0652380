use Rattle.std.proofs.Common.{arith, refl, sym, ap, subst, ◌∙◌}
use Rattle.dt_tree.specs.Table.{tree_of}
use Rattle.dt_fds.specs.Descriptions.{inode_of, with_opened}
use Rattle.dt_fds.specs.Holding.{holding_of, with_hold}
use Rattle.std.specs.Prelude.{IfSome, IsSome}
use Rattle.std.specs.FinMap.{get}
use Rattle.dt_fds.specs.Ends.{AreCounted}
use Rattle.dt_fds.specs.OpenFiles.{pipes_at}
use Rattle.dt_fds.specs.Backs.{Backs, KeepsOthers}
use Rattle.dt_fds.proofs.Backing.{backs-opened, others-opened, both}
use Rattle.dt_fds.proofs.Ending.{counted-opened}
use Rattle.dt_fds.proofs.files.Files.open_at.Goals as goal

pub returns : goal.returns
returns g c =
    let v = (g.H.Host.view c.args.host.now).forest in
    let t = tree_of c.args.tree.now v in
    let f = c.args.self.now.descriptors in
    let m = pipes_at c.args.self.now (g.H.Host.view c.args.host.now).pipes in
    let node = inode_of c.args.desc.kind in
    let tree = c.in_ok-hold.ensures.tree ∙ ap (with_hold t) c.inode.ensures in
    let made = both {m = m} {n = m} c.enter.new.self (with_opened f c.args.pid c.args.fd c.args.desc c.args.cloexec) (tree_of c.hold.new.tree v) (with_hold t node) c.in_ok-enter.ensures.ok refl tree in
    let there = subst (λ found. IfSome found (λ q. IsSome (get m.contents q))) (sym c.requires.no_end) tt in
    record {
      made = made;
      backed = record {
        stands = c.in_ok-hold.ensures.stands;
        pipes = c.requires.backed.pipes;
        ends = subst (λ g. AreCounted g c.args.self.now.ends) (sym c.in_ok-enter.ensures.ok) (counted-opened f c.args.self.now.ends c.args.pid c.args.fd c.args.desc c.args.cloexec c.in_ok-enter.ensures.fresh c.requires.no_end c.requires.backed.ends);
        backs = subst Backs (sym made) (backs-opened f t c.args.pid c.args.fd c.args.desc c.args.cloexec c.requires.backed.stands.tree c.requires.backed.backs c.in_ok-enter.ensures.fresh c.requires.there there);
      };
      others = subst (KeepsOthers c.args.pid (holding_of t m f)) (sym made) (others-opened f t c.args.pid c.args.fd c.args.desc c.args.cloexec c.requires.backed.stands.tree c.in_ok-enter.ensures.fresh c.requires.there);
      rest = refl;
      cause = record { later = omega arith; rose = λ failed. cc };
    }
