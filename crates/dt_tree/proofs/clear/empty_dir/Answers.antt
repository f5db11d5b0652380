use Rattle.std.proofs.Common.{List, map, sym, ap, subst, ◌∙◌}
use Rattle.dt_host.specs.World.{World}
use Rattle.dt_host.specs.declared.entry.HostEntry.{HostEntry}
use Rattle.dt_tree.specs.inner.Emptied.{AreEntries}
use Rattle.dt_host.specs.Legal.{pair_of}
use Rattle.dt_tree.proofs.Emptied.{all-entries}
use Rattle.dt_tree.proofs.clear.empty_dir.Goals as goal

pub unbind_all-requires : goal.unbind_all-requires
unbind_all-requires g c =
    let same = c.sorted_names.ensures.asks.stays in
    subst (λ (w : World). AreEntries w.forest c.args.dir (map pair_of c.deref.result.now)) (sym same)
    (all-entries (g.H.Host.view c.args.host.now).forest c.args.dir _ c.requires
    (ap (λ (es : List HostEntry). map pair_of es) c.deref.ensures.value ∙ c.in_ok-entries.ensures.sorted))
