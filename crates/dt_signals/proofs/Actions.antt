-- The actions that are kept when another program is started, one after another.
use Rattle.std.proofs.Common.{◌≡◌, ℕ, ◌+◌, ◌<◌, ◌++◌, length, get_or, set, map, take, drop, length-append, length-drop, refl, ap, ◌∙◌, arith}
use Rattle.std.proofs.lemmas.List.{length-map, length-take-le, get_or_default}
use Rattle.std.proofs.lemmas.List.Edits.{map_over_more}
use Rattle.dt_signals.specs.declared.action.Action.{Action}
use Rattle.dt_signals.specs.declared.signals.Sig.{Sig}
use Rattle.dt_signals.specs.Signals.{action_after_exec}

-- the first actions, so many, are those that are kept
abbrev pub kept-to : ℕ → Sig → Sig
kept-to count g = record g { actions = map action_after_exec (take count g.actions) ++ drop count g.actions }

pub kept-more : (old now : Sig) (index : ℕ) (kept other : Action) → index < length old.actions → now ≡ kept-to index old → kept ≡ action_after_exec (get_or now.actions index other) → record now { actions = set now.actions index kept } ≡ kept-to (index + 1) old
kept-more old now index kept other within is this =
    let sofar : now.actions ≡ map action_after_exec (take index old.actions) ++ drop index old.actions = ap (λ (g : Sig). g.actions) is in
    let long : length now.actions ≡ length old.actions = ap length sofar ∙ omega (arith, length-append (map action_after_exec (take index old.actions)) (drop index old.actions), length-map (take index old.actions) action_after_exec, length-take-le index old.actions (omega arith), length-drop index old.actions) in
    let action = get_or now.actions index other in
    let read : action ≡ get_or now.actions index action = get_or_default now.actions index other action (omega arith) in
    let more = map_over_more action_after_exec old.actions now.actions index action within sofar read in
    let mask = ap (λ (g : Sig). g.mask) is in
    let pending = ap (λ (g : Sig). g.pending) is in
    let timer = ap (λ (g : Sig). g.timer) is in
    rw (mask, pending, timer, this, more) refl
