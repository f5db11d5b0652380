-- What contracts see of a board's passes.
use Rattle.std.specs.Prelude.{◌≡◌, ℕ, Bool, List, [], Option, None}
use Rattle.atomic_table.specs.Seated.{TableId}
use Rattle.dt_board.specs.Board.{Try}
use Rattle.dt_board.specs.declared.view.View.{View}
use Rattle.dt_board.specs.declared.view.View.TheVariants.{Opening, Engine, Worker, Spent}

-- the engine's pass: its board, which places are put, and its tries, the last at the end
pub record EnginePassView : Type 0 where
  pub board : TableId
  pub puts : List Bool
  pub tries : List Try

-- a worker's pass: its board, the place that it has claimed, and its tries, the last at the end
pub record WorkerPassView : Type 0 where
  pub board : TableId
  pub claimed : Option ℕ
  pub tries : List Try

-- the pass of a worker that is idle at this board: it is of the board, and has claimed no place
abbrev pub IsIdleAt : TableId → WorkerPassView → Type 0
IsIdleAt board pass = (pass.board ≡ board) × (pass.claimed ≡ None)

-- which places are put, as the engine's view has it
abbrev pub puts_of : View → List Bool
puts_of (Engine puts tries) = puts
puts_of (Worker claimed tries) = []
puts_of Opening = []
puts_of Spent = []

-- the tries of a view
abbrev pub tries_of : View → List Try
tries_of (Engine puts tries) = tries
tries_of (Worker claimed tries) = tries
tries_of Opening = []
tries_of Spent = []
