-- After a turn each process in the order of turns stands there once still, and has a task.
use Rattle.std.proofs.Common.{arith, ◌≡◌, ◌≢◌, ℕ, ◌<◌, ◌==◌, List, [], ◌∷◌, ◌++◌, append_assoc, Bool, true, false, cond, Option, None, Some, refl, sym, subst}
use Rattle.std.proofs.lemmas.Bool.Decides.{nat_tests}
use Rattle.std.proofs.lemmas.List.Elements.{All-cons, All-head, All-nil, All-push, All-tail, All-weaker}
use Rattle.std.proofs.lemmas.List.Quantifiers.{all_pairs_push}
use Rattle.std.specs.Prelude.{IsSome, IfSome}
use Rattle.std.specs.List.{All, AllPairs}
use Rattle.std.specs.FinMap.{get}
use Rattle.dt_base.specs.declared.limits.TheConstants.{FIRST_PID}
use Rattle.dt_procs.proofs.Pairs.{AllPairs-head, AllPairs-tail}
use Rattle.dt_rv64.specs.declared.machine.Machine.{Machine}
use Rattle.dt_sched.specs.Order.{order_after_turn}
use Rattle.dt_calls.specs.declared.container.Served.{Served}
use Rattle.dt_calls.specs.declared.container.Served.TheVariants.{Done, Child, LastChild, Blocked, Progress, Ended, Unsupported}
use Rattle.dt_calls.specs.Container.{Tasks}
use Rattle.dt_calls.specs.Sound.{LivesOn}
use Rattle.dt_calls.proofs.Fits.{FitsChild}
use Rattle.dt_engine.specs.Turn.{settled_of}

abbrev pub Differ : ℕ → ℕ → Type 0
Differ a b = a ≢ b

-- each process in an order stands there once, and has a task
pub record Stand (tasks : Tasks) (order : List ℕ) : Type 0 where
  pub once : AllPairs Differ order
  pub live : All (λ p. IsSome (get tasks p)) order

pub stand-none : (tasks : Tasks) → Stand tasks []
stand-none tasks = record { once = λ i j d before below. absurd (omega arith); live = All-nil (λ p. IsSome (get tasks p)) }

pub stand-one : (tasks : Tasks) (p : ℕ) → IsSome (get tasks p) → Stand tasks (p ∷ [])
stand-one tasks p here = record {
  once = λ i j d before below. absurd (omega arith);
  live = All-cons (λ p. IsSome (get tasks p)) p [] here (All-nil (λ p. IsSome (get tasks p)));
}

-- one more at the tail
push : (tasks : Tasks) (ps : List ℕ) (q : ℕ) → Stand tasks ps → All (λ p. p ≢ q) ps → IsSome (get tasks q) → Stand tasks (ps ++ q ∷ [])
push tasks ps q stand apart here = record {
  once = all_pairs_push Differ ps q stand.once apart;
  live = All-push (λ p. IsSome (get tasks p)) ps q stand.live here;
}

-- what holds if there is a child holds where there is one
of-child : (X : Type 0) (child : Option Machine) → IsSome child → IfSome child (λ _. X) → X
of-child X None some made = cc
of-child X (Some m) some made = made

-- a turn of p, the first in the order, whose tasks were old and are new; the others' pids are below that of a child
module _ (p next : ℕ) (rest : List ℕ) (old new : Tasks) (stand : Stand old (p ∷ rest)) (below : (q : ℕ) → IsSome (get old q) → q < next) where
  here : IsSome (get old p)
  here = All-head (λ q. IsSome (get old q)) p rest stand.live

  apart : All (λ q. p ≢ q) rest
  apart = AllPairs-head Differ p rest stand.once

  other-apart : All (λ q. q ≢ p) rest
  other-apart = All-weaker (λ q. p ≢ q) (λ q. q ≢ p) (λ q differ is. differ (sym is)) rest apart

  next-apart : All (λ q. q ≢ next) rest
  next-apart = All-weaker (λ q. IsSome (get old q)) (λ q. q ≢ next) (λ q some is. let less = below q some in absurd (omega arith)) rest
      (All-tail (λ q. IsSome (get old q)) p rest stand.live)

  own-next-apart : p ≢ next
  own-next-apart = λ is. let less = below p here in absurd (omega arith)

  -- the others, if each of them that had a task has one
  others : ((q : ℕ) → q ≢ p → IsSome (get old q) → IsSome (get new q)) → Stand new rest
  others kept = record {
    once = AllPairs-tail Differ p rest stand.once;
    live = λ k d within. kept _ (other-apart k d within) (All-tail (λ q. IsSome (get old q)) p rest stand.live k d within);
  }

  -- the process behind them
  behind : ((q : ℕ) → IsSome (get old q) → IsSome (get new q)) → Stand new (rest ++ p ∷ [])
  behind kept = push new rest p (others (λ q _. kept q)) other-apart (kept p here)

  with-child : (v : ℕ) → v ≡ next → ((q : ℕ) → IsSome (get old q) → IsSome (get new q)) → IsSome (get new next) → Stand new (rest ++ p ∷ v ∷ [])
  with-child v is kept made =
      subst (λ v. Stand new (rest ++ p ∷ v ∷ [])) (sym is)
      (subst (Stand new) (append_assoc rest (p ∷ []) (next ∷ []))
      (push new (rest ++ p ∷ []) next (behind kept)
      (All-push (λ q. q ≢ next) rest p next-apart own-next-apart) made))

  last-child : (v : ℕ) → v ≡ next → ((q : ℕ) → q ≢ p → IsSome (get old q) → IsSome (get new q)) → IsSome (get new next) → Stand new (rest ++ v ∷ [])
  last-child v is kept made =
      subst (λ v. Stand new (rest ++ v ∷ [])) (sym is) (push new rest next (others kept) next-apart made)

  -- after the end of process 1 none stands in the order
  unless-first : (b : Bool) (ps : List ℕ) → (p == FIRST_PID) ≡ b → (p ≢ FIRST_PID → Stand new ps) → Stand new (cond b [] ps)
  unless-first true ps is stands = stand-none new
  unless-first false ps is stands = stands (grind (arith, nat_tests, is))

  pub order-after : (served : Served) (child : Option Machine) → ((q : ℕ) → LivesOn p served q → IsSome (get old q) → IsSome (get new q))
      → IfSome child (λ _. LivesOn p served next → IsSome (get new next)) → FitsChild next served child
      → Stand new (order_after_turn p p p (λ child. child) rest (settled_of served))
  order-after Done child kept made fits = behind (λ q. kept q tt)
  order-after (Child v) child kept made fits =
      with-child v fits.is_next (λ q. kept q tt) (of-child _ child fits.machine made tt)
  order-after (LastChild v) child kept made fits = unless-first (p == FIRST_PID) (rest ++ v ∷ []) refl (λ first.
      last-child v fits.is_next (λ q apart. kept q (record { first = first; apart = apart }))
      (of-child _ child fits.machine made (record { first = first; apart = λ is. own-next-apart (sym is) })))
  order-after Blocked child kept made fits = behind (λ q. kept q tt)
  order-after Progress child kept made fits = behind (λ q. kept q tt)
  order-after Ended child kept made fits = unless-first (p == FIRST_PID) rest refl (λ first.
      others (λ q apart. kept q (record { first = first; apart = apart })))
  order-after (Unsupported number) child kept made fits = record {
    once = stand.once;
    live = All-weaker (λ q. IsSome (get old q)) (λ q. IsSome (get new q)) (λ q. kept q tt) (p ∷ rest) stand.live;
  }
