-- What a host's calls leave of a pipe: it stays one, and holds no more than what was put into it.
use Rattle.std.proofs.Common.{arith, ◌≡◌, ℕ, ◌+◌, ◌≤◌, List, [], length, take, drop, Result, Ok, Err, sym, ap, subst, ◌∙◌, length-append, length-drop}
use Rattle.std.proofs.lemmas.List.{length-take}
use Rattle.std.specs.Prelude.{IfOk, MatchOption}
use Rattle.dt_host.specs.declared.kind.NodeKind.TheVariants.{Pipe}
use Rattle.dt_host.specs.World.{World, IsPipe, pipe_bytes, with_pipe}
use Rattle.dt_host.specs.Legal.{MadeAt, Makes, Puts, PutsAll, Takes, TakesAll, MayGo, NodeMayGo, with_put}
use Rattle.dt_host.proofs.Pipes.{get-with_pipe, IsPipe-with_pipe, held-with_pipe}

-- a new pipe is one, which is empty and may go
module _ (old new : World) (n : ℕ) (made : MadeAt old Pipe new n) where
  pub IsPipe-made : IsPipe new n
  IsPipe-made = subst (λ w. IsPipe w n) (sym made.made) (IsPipe-with_pipe old n [])

  pub held-made : pipe_bytes new n ≡ []
  held-made = ap (λ w. pipe_bytes w n) made.made ∙ held-with_pipe old n []

  pub MayGo-made : MayGo new n
  MayGo-made = subst (λ w. MayGo w n) (sym made.made) (subst (λ found. MatchOption found (NodeMayGo (with_pipe old n []).forest n) (λ _. Unit {0})) (sym (get-with_pipe old n [])) tt)

-- so where one was made, it is one, and empty
pub IsPipe-makes : {E : Type 0} (old new : World) (result : Result ℕ E) → Makes old Pipe result new → IfOk result (λ n. IsPipe new n)
IsPipe-makes old new (Ok n) made = IsPipe-made old new n made
IsPipe-makes old new (Err e) stays = tt

pub length-makes : {E : Type 0} (old new : World) (result : Result ℕ E) → Makes old Pipe result new → IfOk result (λ n. length (pipe_bytes new n) ≡ 0)
length-makes old new (Ok n) made = ap length (held-made old new n made)
length-makes old new (Err e) stays = tt

-- what is left of a pipe that holds other bytes
module _ (old new : World) (n : ℕ) where
  other_pipe : (bytes : List ℕ) → new ≡ with_pipe old n bytes → IsPipe new n
  other_pipe bytes e = subst (λ w. IsPipe w n) (sym e) (IsPipe-with_pipe old n bytes)

  other_length : (bytes : List ℕ) → new ≡ with_pipe old n bytes → length (pipe_bytes new n) ≡ length bytes
  other_length bytes e = ap (λ w. length (pipe_bytes w n)) e ∙ ap length (held-with_pipe old n bytes)

  most_put : (bytes : List ℕ) (count : ℕ) → new ≡ with_put old n (take count bytes) → length (pipe_bytes new n) ≤ length (pipe_bytes old n) + length bytes
  most_put bytes count e = omega (arith, other_length _ e, length-append (pipe_bytes old n) (take count bytes), length-take count bytes)

  most_left : (count : ℕ) → new ≡ with_pipe old n (drop count (pipe_bytes old n)) → length (pipe_bytes new n) ≤ length (pipe_bytes old n)
  most_left count e = omega (arith, other_length _ e, length-drop count (pipe_bytes old n))

  pub IsPipe-puts : {E : Type 0} (bytes : List ℕ) (result : Result ℕ E) → Puts old n bytes result new → IsPipe new n
  IsPipe-puts bytes (Ok count) put = other_pipe _ put.prefix
  IsPipe-puts bytes (Err e) part = other_pipe _ part.prefix

  pub length-puts : {E : Type 0} (bytes : List ℕ) (result : Result ℕ E) → Puts old n bytes result new → length (pipe_bytes new n) ≤ length (pipe_bytes old n) + length bytes
  length-puts bytes (Ok count) put = most_put bytes count put.prefix
  length-puts bytes (Err e) part = most_put bytes part.count part.prefix

  pub IsPipe-puts_all : {A E : Type 0} (bytes : List ℕ) (result : Result A E) → PutsAll old n bytes result new → IsPipe new n
  IsPipe-puts_all bytes (Ok done) put = other_pipe _ put
  IsPipe-puts_all bytes (Err e) part = other_pipe _ part.prefix

  pub length-puts_all : {A E : Type 0} (bytes : List ℕ) (result : Result A E) → PutsAll old n bytes result new → length (pipe_bytes new n) ≤ length (pipe_bytes old n) + length bytes
  length-puts_all bytes (Ok done) put = omega (arith, other_length _ put, length-append (pipe_bytes old n) bytes)
  length-puts_all bytes (Err e) part = most_put bytes part.count part.prefix

  pub IsPipe-takes : {E : Type 0} (before after : List ℕ) (result : Result ℕ E) → IsPipe old n → Takes old n before after result new → IsPipe new n
  IsPipe-takes before after (Ok count) is took = other_pipe _ took.left
  IsPipe-takes before after (Err e) is stays = subst (λ w. IsPipe w n) (sym stays) is

  pub length-takes : {E : Type 0} (before after : List ℕ) (result : Result ℕ E) → Takes old n before after result new → length (pipe_bytes new n) ≤ length (pipe_bytes old n)
  length-takes before after (Ok count) took = most_left count took.left
  length-takes before after (Err e) stays = let same = ap (λ w. length (pipe_bytes w n)) stays in omega arith

  pub IsPipe-takes_all : {E : Type 0} (before after : List ℕ) (result : Result ℕ E) → TakesAll old n before after result new → IsPipe new n
  IsPipe-takes_all before after (Ok count) took = other_pipe _ took.left
  IsPipe-takes_all before after (Err e) part = other_pipe _ part.left

  pub length-takes_all : {E : Type 0} (before after : List ℕ) (result : Result ℕ E) → TakesAll old n before after result new → length (pipe_bytes new n) ≤ length (pipe_bytes old n)
  length-takes_all before after (Ok count) took = most_left count took.left
  length-takes_all before after (Err e) part = most_left part.count part.left
