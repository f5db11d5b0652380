use Rattle.std.proofs.Common.{◌≡◌, ◌≤◌, drop}
use Rattle.dt_engine.specs.Run.{run_of}
use Rattle.dt_runlaws.specs.Driver.{Point, first_point, point_after_all, IsAt, IsDrivingAt, HasReported}
use Rattle.dt_runlaws.proofs.driver.drive.Given as goal

-- what was shown so far was written, and the actions that are left lead from here to where all of them lead
abbrev pub invariant-loop-action : goal.invariant-loop-action
invariant-loop-action g l = record {
  point : Point;
  driving : IsDrivingAt l.driver (g.H.Host.view l.host);
  at : IsAt point l.driver (g.H.Host.view l.host);
  reported : HasReported l.image.version (run_of l.image l.command l.seed l.budget) point.shown (g.O.Sink.told l.fn.out) l.driver (g.H.Host.view l.host)
      (g.O.Sink.told l.out);
  rest : point_after_all (drop l.action-index l.actions) point
      ≡ point_after_all l.actions (first_point l.image l.command l.seed l.budget);
  host_later : g.H.Host.count l.fn.host ≤ g.H.Host.count l.host;
  sink_later : g.O.Sink.count l.fn.out ≤ g.O.Sink.count l.out;
}
