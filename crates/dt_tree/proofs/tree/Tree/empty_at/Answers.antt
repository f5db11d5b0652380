use Rattle.std.proofs.Common.{refl, sym, subst, ◌∙◌, arith}
use Rattle.std.specs.Prelude.{IfSome}
use Rattle.dt_host.specs.World.{IsBare}
use Rattle.dt_tree.proofs.Emptied.{Thins-refl, not-dir, bare-of-kind}
use Rattle.dt_tree.proofs.tree.Tree.empty_at.Goals as goal

pub returns-in-File : goal.returns-in-File
returns-in-File g c =
    let v = (g.H.Host.view c.args.host.now).forest in
    let there = sym c.found.ensures ∙ c.in-Some.is in
    let other = not-dir c.in-Some.inode.kind c.in-File.is in
    record {
      thins = Thins-refl v;
      bare = subst (λ found. IfSome found (λ inode. IsBare v inode.real)) (sym there)
          (bare-of-kind c.args.self.now v c.args.n c.in-Some.inode c.requires there other);
      rest = record { pipes = refl; pids = refl };
      cause = record { later = omega arith; rose = λ failed. cc };
    }
