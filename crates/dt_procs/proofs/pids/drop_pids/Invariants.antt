use Rattle.std.proofs.Common.{◌≡◌, ◌≤◌, drop}
use Rattle.dt_host.specs.World.{OnlyPids}
use Rattle.dt_base.specs.declared.limits.TheConstants.{FIRST_PID}
use Rattle.dt_procs.specs.Table.{table_of, Stands}
use Rattle.dt_procs.proofs.pids.drop_pids.Given as goal

-- so far the pids of the first ones are gone
abbrev pub invariant-loop-row : goal.invariant-loop-row
invariant-loop-row g l = record {
  later : g.H.Host.count l.fn.host ≤ g.H.Host.count l.host;
  stands : Stands (table_of (drop l.row-index l.rows) FIRST_PID) (g.H.Host.view l.host).pids;
  rest : OnlyPids (g.H.Host.view l.fn.host) (g.H.Host.view l.host);
}
