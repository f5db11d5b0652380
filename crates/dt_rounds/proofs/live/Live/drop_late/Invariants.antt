use Rattle.std.proofs.Common.{◌≡◌, ◌-◌, length}
use Rattle.dt_rounds.proofs.live.Live.drop_late.Given as goal

abbrev pub invariant-loop-index : goal.invariant-loop-index
invariant-loop-index l =
    (l.self.desk.pass.board ≡ l.fn.self.desk.pass.board)
    × (l.self.engine ≡ l.fn.self.engine)
    × (l.self.lents.items ≡ l.fn.self.lents.items)

abbrev pub decreases-loop-index : goal.decreases-loop-index
decreases-loop-index l = length l.self.lates.items - l.index
