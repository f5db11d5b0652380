use Rattle.std.proofs.Common.{arith, ◌+◌, List, drop, map, refl, sym, ap, subst, ◌∙◌}
use Rattle.std.proofs.lemmas.List.{drop_all}
use Rattle.std.specs.Prelude.{IsSome}
use Rattle.dt_base.proofs.Lists.{drop-at}
use Rattle.dt_host.specs.Legal.{pair_of}
use Rattle.dt_host.specs.World.{World, entry, with_forest, without_entry}
use Rattle.dt_host.specs.declared.entry.HostEntry.{HostEntry}
use Rattle.dt_tree.specs.inner.Emptied.{AreEntries, Thins}
use Rattle.dt_tree.proofs.Emptied.{Thins-refl, Thins-trans, Thins-unbound, first-there, rest-left, bare-left}
use Rattle.dt_tree.proofs.clear.unbind_all.Goals as goal

pub loop-entry-init : goal.loop-entry-init
loop-entry-init g c = record {
  later = omega arith;
  thins = Thins-refl _;
  left = c.requires;
  rest = record { pipes = refl; pids = refl };
}

pub unbind-requires-clause-directory : goal.unbind-requires-clause-directory
unbind-requires-clause-directory g c = c.loop-entry.invariant.left.dir

pub unbind-requires-clause-named : goal.unbind-requires-clause-named
unbind-requires-clause-named g c =
    let v = (g.H.Host.view c.loop-entry.host).forest in
    let entries = c.args.entries.now in
    let e = c.entry-item.result in
    let left = subst (λ (es : List HostEntry). AreEntries v c.args.dir (map pair_of es)) (drop-at entries c.loop-entry.entry-index e e (omega arith) c.entry-item.is) c.loop-entry.invariant.left in
    subst (λ name. IsSome (entry v c.args.dir name)) (sym c.as_slice.ensures)
    (first-there v c.args.dir (pair_of e) (map pair_of (drop (c.loop-entry.entry-index + 1) entries)) left)

pub loop-entry-preserved : goal.loop-entry-preserved
loop-entry-preserved g c =
    let w = g.H.Host.view c.loop-entry.host in
    let v = w.forest in
    let entries = c.args.entries.now in
    let e = c.entry-item.result in
    let left = subst (λ (es : List HostEntry). AreEntries v c.args.dir (map pair_of es)) (drop-at entries c.loop-entry.entry-index e e (omega arith) c.entry-item.is) c.loop-entry.invariant.left in
    let made = c.in_ok-unbind.ensures.legal ∙ ap (λ name. with_forest w (without_entry v c.args.dir name)) c.as_slice.ensures in
    let now = ap (λ (w : World). w.forest) made in
    record {
      later = omega (arith, c.loop-entry.invariant.later, c.unbind.ensures.cause.later);
      thins = Thins-trans _ v _ c.loop-entry.invariant.thins (subst (Thins v) (sym now) (Thins-unbound v c.args.dir e.name left.dir));
      left = subst (λ v. AreEntries v c.args.dir (map pair_of (drop (c.loop-entry.entry-index + 1) entries))) (sym now)
          (rest-left v c.args.dir (pair_of e) (map pair_of (drop (c.loop-entry.entry-index + 1) entries)) left);
      rest = record {
        pipes = ap (λ (w : World). w.pipes) made ∙ c.loop-entry.invariant.rest.pipes;
        pids = ap (λ (w : World). w.pids) made ∙ c.loop-entry.invariant.rest.pids;
      };
    }

pub returns-clause-bare : goal.returns-clause-bare
returns-clause-bare g c =
    bare-left _ c.args.dir _ (ap (λ (es : List HostEntry). map pair_of es) (drop_all c.loop-entry.entry-index c.args.entries.now (omega arith))) c.loop-entry.invariant.left
