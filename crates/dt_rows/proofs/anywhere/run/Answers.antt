use Rattle.std.proofs.Common.{sym, ap, subst, refl, ⊎_elim, ◌∙◌}
use Rattle.std.specs.Prelude.{IsTrue}
use Rattle.dt_run.specs.Statuses.{precedes_run}
use Rattle.dt_run.proofs.Outcomes.{completed-status}
use Rattle.dt_run.specs.Wanted.{wanted, form_outcome}
use Rattle.dt_rows.proofs.anywhere.run.Goals as goal

pub returns-clause-completed : goal.returns-clause-completed
returns-clause-completed g c = λ is. let some = c.dettrace.ensures.some_image is in (some.form, some.image, some.input, some.commands, some.parsed, some.good, completed-status _ _ _ _ _ _ _ some.holds.0 some.holds.1)

pub returns-clause-refused : goal.returns-clause-refused
unfolding wanted
returns-clause-refused g c = λ none.
    let a = c.dettrace.ensures in
    let answer = a.refused_words (ap (λ form. form_outcome form (g.S.Store.told c.args.met.now.store)) none) in (
      answer,
      ⊎_elim
          (λ two. a.nothing (subst (λ status. IsTrue (precedes_run status)) (sym two) refl))
          (λ seven. ⊎_elim (λ some. absurd (let bad = sym none ∙ some.parsed in cc)) (λ same. same) (a.memory seven))
          answer,
    )
