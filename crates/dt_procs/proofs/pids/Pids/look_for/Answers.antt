use Rattle.std.proofs.Common.{Some, None, sym, ◌∙◌}
use Rattle.dt_procs.proofs.Lowest.{looked}
use Rattle.dt_procs.proofs.pids.Pids.look_for.Goals as goal

pub returns-in-Some : goal.returns-in-Some
returns-in-Some c =
    c.found_or.ensures
    ∙ looked c.args.self.now c.self.inside.rows.items _ _ c.self.inside.next c.args.parent c.args.which c.no_zombie-rest.result
    (Some c.in-Some.row) c.self.view_is c.deref.ensures.value c.no_zombie-rest.ensures c.deref-2.ensures.value
    (sym c.ready_row.ensures ∙ c.in-Some.is)

pub returns-in-None : goal.returns-in-None
returns-in-None c =
    looked c.args.self.now c.self.inside.rows.items _ _ c.self.inside.next c.args.parent c.args.which c.no_zombie-rest.result None
    c.self.view_is c.deref.ensures.value c.no_zombie-rest.ensures c.deref-2.ensures.value (sym c.ready_row.ensures ∙ c.in-None.is)
