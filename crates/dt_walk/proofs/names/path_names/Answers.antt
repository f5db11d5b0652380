use Rattle.std.proofs.Common.{arith, ◌≡◌, [], ◌∷◌, ◌++◌, ◌+◌, drop, get_or, sym, ap, ◌∙◌}
use Rattle.dt_walk.proofs.Named.{names_among, names_left, all_left, at_slash, at_other, at_end}
use Rattle.dt_walk.proofs.names.path_names.Goals as goal
use Rattle.dt_walk.proofs.names.path_names.Goals.{then-b-eq47+in_ok-add_name, else-b-eq47+in_ok-push}

pub loop-b-init : goal.loop-b-init
loop-b-init c = (λ i. names i ++ names_left (begun i) c.args.text.now) ∙ all_left c.args.text.now
  where
    names : c.new-names.result.items ≡ []
    names = c.new-names.ensures.items

    begun : c.new-begun.result.items ≡ []
    begun = c.new-begun.ensures.items

pub loop-b-preserved : goal.loop-b-preserved
loop-b-preserved c =
    elim c.if-b-eq47.branch [
      | then-b-eq47+in_ok-add_name w ↦
          let names : c.if-b-eq47.names.items ≡ c.loop-b.names.items ++ names_among (c.loop-b.begun.items ∷ []) = ap (λ v. v.items) w.names-is ∙ w.in_ok-add_name.ensures in
          let begun : c.if-b-eq47.begun.items ≡ [] = ap (λ v. v.items) w.begun-is ∙ w.new-begun-then-b-eq47.ensures.items in
          (λ i. names i ++ names_left (begun i) (drop (c.loop-b.b-index + 1) c.args.text.now))
          ∙ sym (at_slash c.loop-b.names.items c.loop-b.begun.items c.args.text.now c.loop-b.b-index (omega arith) (omega arith))
          ∙ c.loop-b.invariant
      | else-b-eq47+in_ok-push w ↦
          let names : c.if-b-eq47.names.items ≡ c.loop-b.names.items = ap (λ v. v.items) w.names-is in
          let begun : c.if-b-eq47.begun.items ≡ c.loop-b.begun.items ++ get_or c.args.text.now c.loop-b.b-index 0 ∷ [] = ap (λ v. v.items) w.begun-is ∙ (w.in_ok-push.ensures).items in
          (λ i. names i ++ names_left (begun i) (drop (c.loop-b.b-index + 1) c.args.text.now))
          ∙ sym (at_other c.loop-b.names.items c.loop-b.begun.items c.args.text.now c.loop-b.b-index (omega arith) (omega arith))
          ∙ c.loop-b.invariant
    ]

pub returns : goal.returns
returns c = c.in_ok-add_name-2.ensures ∙ sym (at_end _ _ _ c.loop-b.b-index (omega arith)) ∙ c.loop-b.invariant
