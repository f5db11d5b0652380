-- A cache with one more step.
use Rattle.std.proofs.Common.{arith, ◌≡◌, ◌≢◌, ℕ, ◌+◌, ◌-◌, ◌≤◌, List, [], ◌∷◌, ◌++◌, length, map, take, drop, length-append, length-drop, Ok, refl, sym, ap, subst, ◌∙◌}
use Rattle.std.specs.List.{All, Contains}
use Rattle.std.proofs.lemmas.List.Elements.{All-push, All-drop, All-map, All-contains}
use Rattle.std.proofs.lemmas.List.{take_all}
use Rattle.std.specs.List.{remove}
use Rattle.dt_steps.specs.declared.cache.CachedStep.{CachedStep}
use Rattle.dt_steps.specs.declared.input.StepInput.{StepInput}
use Rattle.dt_steps.specs.Cache.{CacheView, IsCached, IsCache, cached, newest, with_step}

module _ (xs ys : List CachedStep) (step : CachedStep) (room : ℕ) (is : IsCache (record { steps = xs; room = room })) (cached : IsCached step) where
  -- where there is room for it
  pub with-room : length xs + 1 ≤ room → ys ≡ xs ++ step ∷ [] → IsCache (record { steps = ys; room = room })
  with-room some e = subst (λ steps. IsCache (record { steps = steps; room = room })) (sym e) (record {
    each = All-push IsCached xs step is.each cached;
    fits = omega (arith, some, length-append xs (step ∷ []));
    room = is.room;
  })

  -- where the first goes
  pub without-first : ys ≡ remove (xs ++ step ∷ []) 0 → IsCache (record { steps = ys; room = room })
  without-first e = subst (λ steps. IsCache (record { steps = steps; room = room })) (sym e) (record {
    each = All-drop IsCached 1 (xs ++ step ∷ []) (All-push IsCached xs step is.each cached);
    fits = omega (arith, is.fits, length-append xs (step ∷ []), length-drop 1 (xs ++ step ∷ []));
    room = is.room;
  })

-- where all room is taken the newest that have room are all but the first
pub newest-full : (xs ys : List CachedStep) (step : CachedStep) (room : ℕ) → length xs ≡ room → step ≡ cached step.input step.left → ys ≡ remove (xs ++ step ∷ []) 0
    → ◌≡◌ {A = CacheView} (record { steps = ys; room = room }) (with_step (record { steps = xs; room = room }) step.input (Ok step.left))
newest-full xs ys step room full is e =
    let kept = cached step.input step.left in
    let one : length (xs ++ kept ∷ []) - room ≡ 1 = omega (arith, full, length-append xs (kept ∷ [])) in
    let steps : ys ≡ newest room (xs ++ kept ∷ []) =
    e ∙ ap (λ (s : CachedStep). drop 1 (xs ++ s ∷ [])) is ∙ ap (λ n. drop n (xs ++ kept ∷ [])) (sym one) in
    (λ i. record { steps = steps i; room = room })

-- a step that no entry has as its input is not known
pub unknown : (steps : List CachedStep) (n : ℕ) (input : StepInput) → length steps ≤ n → All (λ (step : CachedStep). step.input ≢ input) (take n steps)
    → Contains (map (λ (step : CachedStep). step.input) steps) input → ⊥
unknown steps n input past none there =
    All-contains (λ i. i ≢ input) (map (λ (step : CachedStep). step.input) steps) input
    (All-map (λ i. i ≢ input) (λ (step : CachedStep). step.input) steps
    (subst (All (λ (step : CachedStep). step.input ≢ input)) (take_all n steps past) none)) there refl
