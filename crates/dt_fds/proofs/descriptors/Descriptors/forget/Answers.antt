use Rattle.std.proofs.Common.{◌≡◌, ◌<◌, ℕ, None, refl, sym, ap, subst, ◌∙◌}
use Rattle.std.specs.FinMap.{remove}
use Rattle.dt_fds.specs.declared.desc.TheConstants.{DESCRIPTOR_LIMIT}
use Rattle.dt_fds.specs.Descriptions.{slot_at, without_table}
use Rattle.dt_fds.specs.Backs.{KeepsNodes}
use Rattle.dt_fds.proofs.Backing.{KeepsNodes-forgotten}
use Rattle.dt_fds.proofs.Counting.{counts-forgotten, counts-alike, tables-same}
use Rattle.dt_fds.proofs.descriptors.Descriptors.forget.Goals as goal

pub invariant_of-self : goal.invariant_of-self
unfolding slot_at
invariant_of-self c =
    counts-alike _ _ _ _ _ _ c.self.inside.next refl refl (c.take.ensures.map ∙ ap (remove c.self.inside.tables) c.from.ensures)
    (counts-forgotten _ c.self.inside.counts _ _ c.args.pid c.self.invariant
    (subst (λ f. (fd : ℕ) → fd < DESCRIPTOR_LIMIT → slot_at f c.args.pid fd ≡ None) (sym c.self.view_is) c.requires))

pub returns-clause-files : goal.returns-clause-files
returns-clause-files c = tables-same _ _ _ _ (c.take.ensures.map ∙ ap (remove c.self.inside.tables) c.from.ensures) ∙ ap (λ f. without_table f c.args.pid) c.self.view_is

pub returns-clause-nodes : goal.returns-clause-nodes
returns-clause-nodes c = subst (KeepsNodes c.args.pid c.args.self.now) (sym (returns-clause-files c)) (KeepsNodes-forgotten c.args.self.now c.args.pid)
