use Rattle.std.proofs.Common.{arith, ◌≡◌, ◌≢◌, ◌-◌, ◌+◌, ◌∷◌, [], List, ℕ, Some, refl, sym, ap, subst, ◌∙◌}
use Rattle.std.proofs.lemmas.List.{reverse-append}
use Rattle.std.specs.Prelude.{unwrap_or, reverse}
use Rattle.dt_host.specs.World.{World, Forest, IsDir}
use Rattle.dt_tree.specs.Above.{names_up, name_in, parent_at}
use Rattle.dt_tree.specs.Table.{Table, Stands, shape_of}
use Rattle.dt_host.proofs.Spots.{IsDir-entry}
use Rattle.dt_tree.proofs.Aboves.{parent-entry}
use Rattle.dt_tree.proofs.Pathed.{up_root, up_none, up_step, up_end}
use Rattle.dt_tree.proofs.tree.Tree.names_up.Goals as goal

root_is : (v : Forest) (t : Table) → (shape_of t v).root ≡ 1
unfolding shape_of
root_is v t = refl

pub loop-i-init : goal.loop-i-init
loop-i-init g c =
    let v = (g.H.Host.view c.args.host.now).forest in
    record {
      stays = refl;
      later = omega arith;
      is = c.requires.directory;
      same = ap (λ (xs : List (List ℕ)). names_up 4096 (shape_of c.args.self.now v) c.args.dir (reverse xs)) c.new-names.ensures.items;
    }

pub returns-then-at-eq-ROOT-clause-ok : goal.returns-then-at-eq-ROOT-clause-ok
returns-then-at-eq-ROOT-clause-ok g c =
    let v = (g.H.Host.view c.args.host.now).forest in
    let top : c.loop-i.at ≡ 1 = omega arith in
    sym (up_root (4096 - c.loop-i._i) (shape_of c.args.self.now v) c.loop-i.at (reverse c.loop-i.names.items) (omega arith) (top ∙ sym (root_is v c.args.self.now))) ∙ c.loop-i.invariant.same

pub returns-in-None-clause-ok : goal.returns-in-None-clause-ok
returns-in-None-clause-ok g c =
    let v = (g.H.Host.view c.args.host.now).forest in
    let apart : c.loop-i.at ≢ 1 = omega arith in
    let none = sym (c.parent.ensures v c.requires.stands c.loop-i.invariant.is) ∙ c.in-None.is in
    sym (up_none (4096 - c.loop-i._i) (shape_of c.args.self.now v) c.loop-i.at (reverse c.loop-i.names.items) (λ e. apart (e ∙ root_is v c.args.self.now)) none) ∙ c.loop-i.invariant.same

pub name_in-requires-clause-stands : goal.name_in-requires-clause-stands
name_in-requires-clause-stands g c = subst (λ (w : World). Stands c.args.self.now w.forest) (sym c.loop-i.invariant.stays) c.requires.stands

pub name_in-requires-clause-directory : goal.name_in-requires-clause-directory
name_in-requires-clause-directory g c = subst (λ (w : World). IsDir (shape_of c.args.self.now w.forest) c.loop-i.at) (sym c.loop-i.invariant.stays) c.loop-i.invariant.is

pub name_in-requires-clause-parent : goal.name_in-requires-clause-parent
name_in-requires-clause-parent g c =
    subst (λ (w : World). parent_at (shape_of c.args.self.now w.forest) c.loop-i.at ≡ Some c.in-Some.above) (sym c.loop-i.invariant.stays)
    (sym (c.parent.ensures (g.H.Host.view c.args.host.now).forest c.requires.stands c.loop-i.invariant.is) ∙ c.in-Some.is)

pub loop-i-preserved : goal.loop-i-preserved
loop-i-preserved g c =
    let v = (g.H.Host.view c.args.host.now).forest in
    let apart : c.loop-i.at ≢ 1 = omega arith in
    let some = sym (c.parent.ensures v c.requires.stands c.loop-i.invariant.is) ∙ c.in-Some.is in
    let spot = parent-entry (shape_of c.args.self.now v) c.loop-i.at c.in-Some.above some in
    let name = subst (λ (w : World). c.in_ok-name_in-in-Some.field-0 ≡ unwrap_or (name_in (shape_of c.args.self.now w.forest) c.in-Some.above c.loop-i.at) []) c.loop-i.invariant.stays c.in_ok-name_in-in-Some.ensures.ok in
    let names : reverse c.push.new.self.items ≡ unwrap_or (name_in (shape_of c.args.self.now v) c.in-Some.above c.loop-i.at) [] ∷ reverse c.loop-i.names.items =
    ap (λ (xs : List (List ℕ)). reverse xs) (c.in_ok-push-in-Some.ensures).items ∙ reverse-append c.loop-i.names.items (c.in_ok-name_in-in-Some.field-0 ∷ []) ∙ ap (λ (x : List ℕ). x ∷ reverse c.loop-i.names.items) name in
    record {
      stays = c.name_in.ensures.asks.stays ∙ c.loop-i.invariant.stays;
      later = omega (arith, c.name_in.ensures.asks.cause.later, c.loop-i.invariant.later);
      is = IsDir-entry (shape_of c.args.self.now v) c.in-Some.above spot.0 c.loop-i.at spot.2;
      same = ap (names_up (4096 - (c.loop-i._i + 1)) (shape_of c.args.self.now v) c.in-Some.above) names
          ∙ sym (up_step (4096 - c.loop-i._i) (4096 - (c.loop-i._i + 1)) (shape_of c.args.self.now v) c.loop-i.at (reverse c.loop-i.names.items) c.in-Some.above (omega arith) (λ e. apart (e ∙ root_is v c.args.self.now)) some)
          ∙ c.loop-i.invariant.same;
    }

pub returns-clause-ok : goal.returns-clause-ok
returns-clause-ok g c =
    let v = (g.H.Host.view c.args.host.now).forest in
    sym (up_end (4096 - c.loop-i._i) (shape_of c.args.self.now v) c.loop-i.at (reverse c.loop-i.names.items) (omega arith)) ∙ c.loop-i.invariant.same
