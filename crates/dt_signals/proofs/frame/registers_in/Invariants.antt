use Rattle.std.proofs.Common.{◌≡◌, ℕ, ◌<◌, ◌^◌, get_or}
use Rattle.dt_signals.proofs.Frames.{registers-of}
use Rattle.dt_signals.proofs.frame.registers_in.Given as goal

abbrev pub invariant-loop-index : goal.invariant-loop-index
invariant-loop-index l = (l.registers ≡ registers-of l.frame l.index) × ((i : ℕ) → get_or l.registers i 0 < 2 ^ 64)
