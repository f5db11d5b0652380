use Rattle.std.proofs.Common.{◌≤◌, length, sym, subst, ◌∙◌}
use Rattle.std.specs.Prelude.{IsTrue}
use Rattle.dt_base.specs.Path.{has_no_nul}
use Rattle.dt_base.specs.declared.limits.TheConstants.{PATH_LIMIT}
use Rattle.dt_exec.proofs.NoNul.{path-no_nul, path-short}
use Rattle.dt_exec.proofs.program.execve_program.Goals as goal

pub program_at-requires-clause-short : goal.program_at-requires-clause-short
program_at-requires-clause-short g c =
    subst (λ path. length path ≤ PATH_LIMIT) (sym c.as_slice.ensures)
    (path-short c.args.space.now c.args.path c.in-Ok.path (sym c.in-Ok.is ∙ c.in_ok-path.ensures.value))

pub program_at-requires-clause-no_nul : goal.program_at-requires-clause-no_nul
program_at-requires-clause-no_nul g c =
    subst (λ path. IsTrue (has_no_nul path)) (sym c.as_slice.ensures)
    (path-no_nul c.args.space.now c.args.path c.in-Ok.path (sym c.in-Ok.is ∙ c.in_ok-path.ensures.value))
