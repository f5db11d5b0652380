use Rattle.std.proofs.Common.{◌≡◌, None, Some, refl, sym, ap, subst, ◌∙◌}
use Rattle.std.specs.Prelude.{Option, IsSome, IfSome, option_map}
use Rattle.std.specs.FinMap.{get, insert}
use Rattle.dt_tree.specs.Changes.{with_some}
use Rattle.dt_fds.specs.declared.desc.Desc.{Desc}
use Rattle.dt_fds.specs.Descriptions.{Descriptions, IsDesc, at_spot, is_after, is_of_dir, with_description}
use Rattle.dt_fds.specs.inner.Counts.{Counts}
use Rattle.dt_fds.specs.Backs.{KeepsNodes}
use Rattle.dt_fds.proofs.Counting.{counts-changed}
use Rattle.dt_fds.proofs.Backing.{KeepsNodes-described}
use Rattle.dt_fds.proofs.descriptors.Descriptors.move_to.Goals as goal

pub invariant_of-self : goal.invariant_of-self
invariant_of-self c =
    let at = sym c.self.view_is in
    by_found (get c.self.inside.descs c.args.number) refl (subst (λ f. IsSome (get f.descs c.args.number)) at c.requires.living) (subst (λ f. IfSome (get f.descs c.args.number) (λ desc. is_after c.args.spot ≡ is_of_dir desc.kind)) at c.requires.kind)
    (c.self.invariant.good c.args.number) c.put_spot.ensures
  where
    by_found : (found : Option Desc) → get c.self.inside.descs c.args.number ≡ found → IsSome found → IfSome found (λ desc. is_after c.args.spot ≡ is_of_dir desc.kind) → IfSome found IsDesc
        → IfSome found (λ old. c.put_spot.new.descs ≡ insert c.self.inside.descs c.args.number (at_spot c.args.spot old)) → Counts c.put_spot.new.descs c.self.inside.counts c.self.inside.tables c.self.inside.next
    by_found None e is kind good new = cc
    by_found (Some old) e is kind good new =
        subst (λ m. Counts m c.self.inside.counts c.self.inside.tables c.self.inside.next) (sym new)
        (counts-changed _ _ _ _ c.args.number old (at_spot c.args.spot old) e (record { kind = good.kind; spot = kind; access = good.access }) c.self.invariant)

pub returns-clause-files : goal.returns-clause-files
unfolding with_description
returns-clause-files c = by_found (get c.self.inside.descs c.args.number) refl (subst (λ f. IsSome (get f.descs c.args.number)) (sym c.self.view_is) c.requires.living) c.put_spot.ensures ∙ ap (λ f. with_description f c.args.number (at_spot c.args.spot)) c.self.view_is
  where
    old : Descriptions
    old = record { descs = c.self.inside.descs; tables = c.self.inside.tables; next = c.self.inside.next }

    by_found : (found : Option Desc) → get c.self.inside.descs c.args.number ≡ found → IsSome found → IfSome found (λ old. c.put_spot.new.descs ≡ insert c.self.inside.descs c.args.number (at_spot c.args.spot old))
        → ◌≡◌ {A = Descriptions} (record { descs = c.put_spot.new.descs; tables = c.self.inside.tables; next = c.self.inside.next }) (with_description old c.args.number (at_spot c.args.spot))
    by_found None e is new = cc
    by_found (Some desc) e is new = (λ i. record { descs = new i; tables = c.self.inside.tables; next = c.self.inside.next })
        ∙ sym (ap (λ found. record old { descs = with_some c.self.inside.descs c.args.number (option_map (at_spot c.args.spot) found) }) e)

pub returns-clause-nodes : goal.returns-clause-nodes
returns-clause-nodes c = λ p. subst (KeepsNodes p c.args.self.now) (sym (returns-clause-files c)) (KeepsNodes-described p c.args.self.now (at_spot c.args.spot) c.args.number (λ desc. refl))
