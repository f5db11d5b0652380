-- The codes by which a table of pipes may stand in a model.
use Rattle.std.specs.Prelude.{ℕ, refl}
use Rattle.std.specs.Coded.{Coded, code_by, coded×, coded_ℕ}
use Rattle.std.specs.Ordering.{nat_cmp}
use Rattle.std.specs.FinMap.{FinMap, code}
use Rattle.dt_pipes.specs.declared.pipe.Pipe.{Pipe}
use Rattle.dt_pipes.specs.Table.{Table}

-- a pipe, as its number at the host and how much it holds
abbrev pub pipe_code : Coded Pipe
pipe_code =
    code_by (ℕ × ℕ) (coded× coded_ℕ coded_ℕ)
    (λ p. (p.real, p.held)) (λ p. record { real = p.0; held = p.1 }) (λ _. refl)

-- a table, as its pipes and the next number
abbrev pub table_code : Coded Table
table_code =
    code_by (FinMap nat_cmp Pipe × ℕ) (coded× (code coded_ℕ pipe_code) coded_ℕ)
    (λ t. (t.pipes, t.next)) (λ p. record { pipes = p.0; next = p.1 }) (λ _. refl)
