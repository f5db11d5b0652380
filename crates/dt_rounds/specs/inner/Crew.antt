-- Inner words: the workers of a run.
use Rattle.atomic_table.specs.Seated.{TableId}
use Rattle.dt_board.specs.Passes.{IsIdleAt}
use Rattle.dt_rounds.specs.declared.crew.Worker.{Worker}

-- a worker that is of this board and has claimed no place
abbrev pub IsIdle : TableId → Worker → Type 0
IsIdle board worker = IsIdleAt board worker.pass
