-- How many steps a list of values has.
use Rattle.std.proofs.Common.{◌≡◌, ℕ, suc, Bool, true, false, cond, nat_le, ◌&&◌, List, [], ◌∷◌, length, Option, Some, None, refl, ap, ◌∙◌}
use Rattle.std.specs.Prelude.{option_and_then, IfSome}
use Rattle.serde_json.specs.View.{view, items_view}
use Rattle.serde_json.specs.declared.value.Value.{Value}
use Rattle.dt_base.specs.Command.{Words}
use Rattle.dt_export.specs.Steps.{step_words, steps_in, if_steps}
use Rattle.dt_export.specs.declared.steps.TheConstants.{STEP_LIMIT}

counted : (values : List Value) → IfSome (steps_in (items_view values)) (λ steps. length steps ≡ length values)
counted [] = refl
counted (value ∷ values) = by_step (step_words (view value)) (steps_in (items_view values)) (counted values)
  where
    by_step : (step : Option Words) (rest : Option (List Words)) → IfSome rest (λ steps. length steps ≡ length values)
        → IfSome (option_and_then (λ step. option_and_then (λ steps. Some (step ∷ steps)) rest) step) (λ steps. length steps ≡ length (value ∷ values))
    by_step None rest h = tt
    by_step (Some step) None h = tt
    by_step (Some step) (Some steps) h = ap suc h

by_count : (n : ℕ) (found : Option (List Words)) (b : Bool) → IfSome found (λ steps. length steps ≡ n) → (nat_le 1 n && nat_le n STEP_LIMIT) ≡ b → option_and_then if_steps found ≡ cond b found None
by_count n None true h is = refl
by_count n None false h is = refl
by_count n (Some steps) b h is =
    ap (λ k. cond (nat_le 1 k && nat_le k STEP_LIMIT) (Some steps) None) h ∙ ap (λ b. cond b (Some steps) None) is

pub limited : (values : List Value) (b : Bool) → (nat_le 1 (length values) && nat_le (length values) STEP_LIMIT) ≡ b
    → option_and_then if_steps (steps_in (items_view values)) ≡ cond b (steps_in (items_view values)) None
limited values b is = by_count (length values) (steps_in (items_view values)) b (counted values) is
