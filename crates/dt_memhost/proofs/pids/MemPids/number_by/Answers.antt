use Rattle.std.proofs.Common.{sym, ap, subst, ◌∙◌}
use Rattle.dt_memhost.specs.declared.number.TheConstants.{PID_NUMBERS}
use Rattle.dt_memhost.specs.inner.Live.{has_number}
use Rattle.dt_memhost.specs.Number.{IsChosenNumber}
use Rattle.dt_memhost.proofs.Numbered.{chosen_number}
use Rattle.dt_memhost.proofs.Live.{contains-pids_of}
use Rattle.dt_memhost.proofs.pids.MemPids.number_by.Goals as goal

pub returns-clause-chosen : goal.returns-clause-chosen
returns-clause-chosen c =
    let same = sym (contains-pids_of c.self.inside.live) in
    rw (← c.self.view_is) (subst (λ live. IsChosenNumber live PID_NUMBERS c.args.word c.number_by.result) same c.number_by.ensures)

pub returns-clause-free : goal.returns-clause-free
returns-clause-free c =
    let p = c.number_by.result in
    let free = (chosen_number (has_number c.self.inside.live) PID_NUMBERS c.args.word p c.number_by.ensures).1 in
    rw (← c.self.view_is) (ap (λ live. live p) (contains-pids_of c.self.inside.live) ∙ free)
