use Rattle.std.proofs.Common.{arith, length, sym, ap, subst, ◌∙◌}
use Rattle.std.specs.Prelude.{IsTrue}
use Rattle.dt_base.specs.Image.{is_good_what}
use Rattle.dt_host.specs.Legal.{with_write}
use Rattle.dt_host.proofs.Changes.{IsFile-made}
use Rattle.dt_tree.specs.Changes.{new_node}
use Rattle.dt_tree.specs.inner.Created.{IsMadeAt}
use Rattle.dt_tree.proofs.Making.{made_file}
use Rattle.dt_tree.proofs.Trees.{fits}
use Rattle.dt_tree.proofs.steps.make_real.Goals as goal

pub write_whole-requires-clause-file : goal.write_whole-requires-clause-file
write_whole-requires-clause-file g c = IsFile-made _ _ _ c.in_ok-real-in-File.ensures.legal

pub write_whole-requires-clause-fits : goal.write_whole-requires-clause-fits
write_whole-requires-clause-fits g c =
    let few = fits c.requires.0 c.in-File.bytes c.args.mode (subst (λ what. IsTrue (is_good_what c.requires.0 what c.args.mode)) c.in-File.is c.requires.1) in
    let same = ap length c.as_slice.ensures in
    omega arith

pub returns-in_ok-write_whole-in-File-clause-made : goal.returns-in_ok-write_whole-in-File-clause-made
returns-in_ok-write_whole-in-File-clause-made g c =
    subst (λ what. IsMadeAt (g.H.Host.view c.args.host.now) (new_node what) (g.H.Host.view c.write_whole.new.host) c.in_ok-real-in-File.real) (sym c.in-File.is)
    (made_file (g.H.Host.view c.args.host.now) (g.H.Host.view c.make.new.self) (g.H.Host.view c.write_whole.new.host) c.in_ok-real-in-File.real c.in-File.bytes c.in_ok-real-in-File.ensures.legal
    (c.in_ok-write_whole-in-File.ensures.legal ∙ ap (with_write (g.H.Host.view c.make.new.self) c.in_ok-real-in-File.real 0) c.as_slice.ensures))
