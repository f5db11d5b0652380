use Rattle.std.proofs.Common.{◌≡◌, ◌<◌, length, sym, ap, subst, ◌∙◌}
use Rattle.std.specs.Prelude.{slice_index}
use Rattle.dt_procs.specs.Members.{vpids_of}
use Rattle.dt_procs.specs.Table.{Table, members_of}
use Rattle.dt_procs.proofs.Listed.{vpid-at}
use Rattle.dt_procs.proofs.pids.Pids.vpid_at.Goals as goal

pub returns : goal.returns
returns c =
    let within = subst (λ (t : Table). c.args.index < length (vpids_of (members_of t))) (sym c.self.view_is) c.requires in
    sym (vpid-at c.self.inside.rows.items c.args.index c.index.result.now within c.index.ensures)
    ∙ ap (λ (t : Table). slice_index (vpids_of (members_of t)) c.args.index) c.self.view_is
