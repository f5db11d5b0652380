-- Segments that ran ahead of their turns, and machines that are away.
use Rattle.std.specs.Prelude.{◌≡◌, ℕ, ◌<◌, List, [], ◌∷◌, Option, None, Some, IsSome, if◌then◌else◌}
use Rattle.std.specs.Ordering.{nat_cmp}
use Rattle.std.specs.FinMap.{find, get, insert}
use Rattle.dt_tables.specs.Values.{map_values}
use Rattle.dt_engine.specs.Work.{Work, Works, with_segment}
use Rattle.dt_engine.specs.Turn.{State, Turn, is_ended_verdict, head_pid, turn}
use Rattle.dt_engine.specs.Run.{run_of_turns}

-- a state in which each process has run the segment that it owed
unfoldable pub with_all_segments : State → State
with_all_segments s = record s { works = map_values with_segment s.works }

-- likewise after a turn
abbrev pub turn_with_all_segments : Turn → Turn
turn_with_all_segments t = record t { next = with_all_segments t.next }

-- the works with the segment of one process run, where its work is at home and owes one
abbrev pub works_with_segment : Works → ℕ → Option Work → Works
works_with_segment works p None = works
works_with_segment works p (Some w) = insert works p (with_segment w)

-- the segment of one process run, where it owes one
unfoldable pub with_segment_of : ℕ → State → State
with_segment_of p s = record s { works = works_with_segment s.works p (get s.works p) }

-- works that are away, each with its process's pid
abbrev pub Away : Type 0
Away = List (ℕ × Work)

-- works with these put in
abbrev pub with_works : Away → Works → Works
with_works [] works = works
with_works (w ∷ ws) works = insert (with_works ws works) w.0 w.1

-- a state with the works that were away
unfoldable pub state_with_works : Away → State → State
state_with_works ws s = record s { works = with_works ws s.works }

-- after a turn, with the works that were away, less those of processes that ended
abbrev pub turn_with_works : Away → Turn → Turn
turn_with_works ws t = record t { next = state_with_works (if is_ended_verdict t.verdict then [] else ws) t.next }

-- works of processes that have none at home, each with a pid that was given before
pub record IsAway (s : State) (ws : Away) : Type 0 where
  pub given : (q : ℕ) → IsSome (find nat_cmp q ws) → q < s.next
  pub apart : (q : ℕ) → IsSome (find nat_cmp q ws) → get s.works q ≡ None

-- the work of the queue's head is at home
abbrev pub HasHead : State → Type 0
HasHead s = (p : ℕ) → head_pid s.schedule.order ≡ Some p → IsSome (get s.works p)

-- a turn after segments ran ahead is the turn, with equal events and verdict
abbrev pub TurnAhead : Type 0
TurnAhead = (s : State) → turn_with_all_segments (turn (with_all_segments s)) ≡ turn_with_all_segments (turn s)

-- one segment more leaves what running ahead gives
abbrev pub RanAhead : Type 0
RanAhead = (p : ℕ) (s : State) → with_all_segments (with_segment_of p s) ≡ with_all_segments s

-- a turn sees no machine of another process: with machines that were away it is the same turn, and they are as they
-- were, unless all processes have ended
abbrev pub TurnAway : Type 0
TurnAway = (ws : Away) (s : State) → HasHead s → IsAway s ws → turn (state_with_works ws s) ≡ turn_with_works ws (turn s)

-- runs from states that are the same once all segments were run are the same
abbrev pub RunsAlike : Type 0
RunsAlike = (a b : State) → with_all_segments a ≡ with_all_segments b → run_of_turns a ≡ run_of_turns b
