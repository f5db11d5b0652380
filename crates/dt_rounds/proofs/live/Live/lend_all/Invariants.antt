use Rattle.std.proofs.Common.{◌≡◌, take}
use Rattle.dt_host.specs.World.{World}
use Rattle.dt_calls.specs.Sound.{IsSoundContainer}
use Rattle.dt_engine.specs.InPlay.{IsInPlay}
use Rattle.dt_rounds.specs.inner.Round.{lent_vpids, HasLent}
use Rattle.dt_rounds.proofs.live.Live.lend_all.Given as goal

-- with the machines that were lent so far the run is as it was
abbrev pub invariant-loop-index : goal.invariant-loop-index
invariant-loop-index l = record {
  board : l.self.desk.pass.board ≡ l.fn.self.desk.pass.board;
  lent : HasLent l.fn.self.engine l.self.lents.items l.self.engine;
  pids : lent_vpids l.self.lents.items ≡ take l.index l.vpids.items;
  whole : IsInPlay l.self.engine;
  sound : (w : World) → IsSoundContainer l.fn.self.engine.state.container w → IsSoundContainer l.self.engine.state.container w;
  open_still : l.self.engine.finished ≡ l.fn.self.engine.finished;
}
