use Rattle.std.proofs.Common.{arith, drop, refl, ap, subst, ◌∙◌}
use Rattle.dt_host.specs.World.{World}
use Rattle.dt_base.proofs.Lists.{drop-at}
use Rattle.dt_base.specs.declared.limits.TheConstants.{FIRST_PID}
use Rattle.dt_procs.specs.declared.row.MemberRow.{MemberRow}
use Rattle.dt_procs.specs.Table.{table_of, Stands}
use Rattle.dt_procs.proofs.Cleared.{stands-rest, stands-end}
use Rattle.dt_procs.proofs.pids.drop_pids.Goals as goal

pub loop-row-preserved : goal.loop-row-preserved
loop-row-preserved g c =
    let rows = c.args.rows.now in
    let i = c.loop-row.row-index in
    let left = ap (λ (w : World). w.pids) c.in_ok-drop_pid.ensures.legal in
    record {
      later = omega (arith, c.loop-row.invariant.later, c.drop_pid.ensures.cause.later);
      stands = stands-rest rows i FIRST_PID _ _ _ (omega arith) c.loop-row.invariant.stands left;
      rest = record {
        forest = ap (λ (w : World). w.forest) c.in_ok-drop_pid.ensures.legal ∙ c.loop-row.invariant.rest.forest;
        pipes = ap (λ (w : World). w.pipes) c.in_ok-drop_pid.ensures.legal ∙ c.loop-row.invariant.rest.pipes;
      };
    }

pub returns-clause-cleared : goal.returns-clause-cleared
returns-clause-cleared g c = stands-end c.args.rows.now c.loop-row.row-index FIRST_PID _ (omega arith) c.loop-row.invariant.stands
