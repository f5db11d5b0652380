use Rattle.std.proofs.Common.{arith, ◌≡◌, ◌++◌, ◌&&◌, ◌||◌, [], length, Some, Ok, sym, ap, subst, ◌∙◌}
use Rattle.std.proofs.lemmas.List.{length-reverse, nil_from_length}
use Rattle.std.specs.Prelude.{reverse}
use Rattle.dt_host.specs.World.{World}
use Rattle.dt_tree.specs.Table.{shape_of}
use Rattle.dt_walk.specs.declared.step.Step.TheVariants.{On, Done, Refused, Follow}
use Rattle.dt_walk.specs.Walk.{step_of, start_of, path_names, ends_in_slash}
use Rattle.dt_walk.specs.inner.Stretch.{ended_at, goes_on}
use Rattle.dt_walk.proofs.Stretches.{one_step, no_step, nil_reversed, nil_same, popped}
use Rattle.dt_walk.proofs.paths.walk_on.Goals as goal

pub loop-name-preserved : goal.loop-name-preserved
loop-name-preserved g c =
    let v = shape_of c.args.tree.now (g.H.Host.view c.args.host.now).forest in
    let rest = reverse c.pop.new.self.items in
    let is = c.is_empty.ensures ∙ nil_reversed c.pop.new.self.items _ (sym c.pop.new.self.ok.0) in
    let step = subst (λ (w : World). c.in_ok-n.field-0 ≡ step_of (shape_of c.args.tree.now w.forest) c.args.keep c.is_empty.result c.args.slash c.loop-name.at c.in-Some.name) c.loop-name.invariant.stays c.in_ok-n.ensures.ok in
    record {
      stays = c.take_step.ensures.asks.stays ∙ c.loop-name.invariant.stays;
      later = omega (arith, c.take_step.ensures.asks.cause.later, c.loop-name.invariant.later);
      same = sym (one_step v c.args.keep c.args.slash c.loop-name.at (reverse c.loop-name.names.items) c.in-Some.name rest c.is_empty.result (On c.in-On.n) (popped _ _ _ _ c.pop.ensures.items c.in-Some.is) is (sym c.in-On.is ∙ step)) ∙ c.loop-name.invariant.same;
    }

pub returns-in-Done-clause-ok : goal.returns-in-Done-clause-ok
returns-in-Done-clause-ok g c =
    let v = shape_of c.args.tree.now (g.H.Host.view c.args.host.now).forest in
    let rest = reverse c.pop.new.self.items in
    let is = c.is_empty.ensures ∙ nil_reversed c.pop.new.self.items _ (sym c.pop.new.self.ok.0) in
    let step = subst (λ (w : World). c.in_ok-n.field-0 ≡ step_of (shape_of c.args.tree.now w.forest) c.args.keep c.is_empty.result c.args.slash c.loop-name.at c.in-Some.name) c.loop-name.invariant.stays c.in_ok-n.ensures.ok in
    sym (one_step v c.args.keep c.args.slash c.loop-name.at (reverse c.loop-name.names.items) c.in-Some.name rest c.is_empty.result (Done c.in-Done.place) (popped _ _ _ _ c.pop.ensures.items c.in-Some.is) is (sym c.in-Done.is ∙ step)) ∙ c.loop-name.invariant.same

pub returns-in-Refused-clause-ok : goal.returns-in-Refused-clause-ok
returns-in-Refused-clause-ok g c =
    let v = shape_of c.args.tree.now (g.H.Host.view c.args.host.now).forest in
    let rest = reverse c.pop.new.self.items in
    let is = c.is_empty.ensures ∙ nil_reversed c.pop.new.self.items _ (sym c.pop.new.self.ok.0) in
    let step = subst (λ (w : World). c.in_ok-n.field-0 ≡ step_of (shape_of c.args.tree.now w.forest) c.args.keep c.is_empty.result c.args.slash c.loop-name.at c.in-Some.name) c.loop-name.invariant.stays c.in_ok-n.ensures.ok in
    sym (one_step v c.args.keep c.args.slash c.loop-name.at (reverse c.loop-name.names.items) c.in-Some.name rest c.is_empty.result (Refused c.in-Refused.e) (popped _ _ _ _ c.pop.ensures.items c.in-Some.is) is (sym c.in-Refused.is ∙ step)) ∙ c.loop-name.invariant.same

pub returns-in-Follow-clause-ok : goal.returns-in-Follow-clause-ok
returns-in-Follow-clause-ok g c =
    let v = shape_of c.args.tree.now (g.H.Host.view c.args.host.now).forest in
    let rest = reverse c.pop.new.self.items in
    let is = c.is_empty.ensures ∙ nil_reversed c.pop.new.self.items _ (sym c.pop.new.self.ok.0) in
    let step = subst (λ (w : World). c.in_ok-n.field-0 ≡ step_of (shape_of c.args.tree.now w.forest) c.args.keep c.is_empty.result c.args.slash c.loop-name.at c.in-Some.name) c.loop-name.invariant.stays c.in_ok-n.ensures.ok in
    let target = c.as_slice.ensures in
    let nil = nil_same c.pop.new.self.items rest (sym (length-reverse c.pop.new.self.items)) in
    c.in_ok-follow-in-Follow.ensures
    ∙ (λ i. goes_on (start_of c.loop-name.at (target i)) (path_names (target i) ++ rest) (c.args.slash || (nil i && ends_in_slash (target i))))
    ∙ sym (one_step v c.args.keep c.args.slash c.loop-name.at (reverse c.loop-name.names.items) c.in-Some.name rest c.is_empty.result (Follow c.in-Follow.target) (popped _ _ _ _ c.pop.ensures.items c.in-Some.is) is (sym c.in-Follow.is ∙ step)) ∙ c.loop-name.invariant.same

pub returns-clause-ok : goal.returns-clause-ok
returns-clause-ok g c =
    let v = shape_of c.args.tree.now (g.H.Host.view c.args.host.now).forest in
    let none : length c.loop-name.names.items ≡ 0 = omega (arith, c.in_default.ensures.cases, c.loop-name.names.ok.0) in
    let empty : c.new-2.result ≡ [] = c.new-2.ensures ∙ c.new.ensures.items in
    ap (λ name. ended_at (Ok (record { parent = 1; name = name; node = Some 1; slash = c.args.slash }))) empty
    ∙ sym (no_step v c.args.keep c.args.slash c.loop-name.at (reverse c.loop-name.names.items) (nil_from_length (reverse c.loop-name.names.items) (length-reverse c.loop-name.names.items ∙ none))) ∙ c.loop-name.invariant.same
