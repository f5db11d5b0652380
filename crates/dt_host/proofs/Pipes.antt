-- What transfers make of a pipe.
use Rattle.std.proofs.Common.{arith, ◌≡◌, ℕ, zero, suc, ◌+◌, ◌<◌, ◌≤◌, List, [], ◌++◌, length, take, drop, Option, Some, None, refl, sym, ap, subst, ◌∙◌, append_assoc, append-nil}
use Rattle.std.specs.Prelude.{IsSome, is_some, unwrap_or, MatchOption, if◌then◌else◌}
use Rattle.std.specs.Cmp.{nat_cmp_total}
use Rattle.std.specs.FinMap.{get, nat_cmp-IsAntisymmetric}
use Rattle.std.proofs.Math.Seq.{take-add}
use Rattle.std.proofs.lemmas.List.{drop-drop}
use Rattle.dt_host.specs.World.{World, IsLive, IsPipe, ArePipes, OnlyForest, pipe_bytes, with_pipe, without_pipe, without_node, with_forest}
use Rattle.dt_host.specs.Sink.{MovesSome}
use Rattle.dt_host.specs.Legal.{with_put, PutsPart, NodeMayGo, MayGo, without}
use Rattle.dt_host.proofs.Transfers.{read_more}
use Rattle.dt_tables.proofs.Maps.{get-insert_same, insert_same, put_back}

pub get-with_pipe : (w : World) (n : ℕ) (bytes : List ℕ) → get (with_pipe w n bytes).pipes n ≡ Some bytes
get-with_pipe w n bytes = get-insert_same nat_cmp_total nat_cmp-IsAntisymmetric w.pipes n bytes

pub IsPipe-with_pipe : (w : World) (n : ℕ) (bytes : List ℕ) → IsPipe (with_pipe w n bytes) n
IsPipe-with_pipe w n bytes = subst (λ found. IsSome found) (sym (get-with_pipe w n bytes)) refl

pub held-with_pipe : (w : World) (n : ℕ) (bytes : List ℕ) → pipe_bytes (with_pipe w n bytes) n ≡ bytes
held-with_pipe w n bytes = ap (λ found. unwrap_or found []) (get-with_pipe w n bytes)

pub with_pipe-with_pipe : (w : World) (n : ℕ) (a b : List ℕ) → with_pipe (with_pipe w n a) n b ≡ with_pipe w n b
with_pipe-with_pipe w n a b = ap (λ pipes. record w { pipes = pipes }) (insert_same nat_cmp_total nat_cmp-IsAntisymmetric w.pipes n a b)

-- what is held, where something is
pub held_some : (found : Option (List ℕ)) → IsSome found → found ≡ Some (unwrap_or found [])
held_some None h = cc
held_some (Some bytes) h = refl

-- a pipe that holds what it held is the pipe
pub with_pipe-held : (w : World) (n : ℕ) → IsPipe w n → with_pipe w n (pipe_bytes w n) ≡ w
with_pipe-held w n h = ap (λ pipes. record w { pipes = pipes }) (put_back nat_cmp_total nat_cmp-IsAntisymmetric w.pipes n _ (held_some (get w.pipes n) h))

-- to put nothing changes nothing
pub with_put-nil : (w : World) (n : ℕ) → IsPipe w n → with_put w n [] ≡ w
with_put-nil w n h = ap (with_pipe w n) (append-nil (pipe_bytes w n)) ∙ with_pipe-held w n h

-- to put on is to put both at once
pub with_put-with_put : (w : World) (n : ℕ) (first next : List ℕ) → with_put (with_put w n first) n next ≡ with_put w n (first ++ next)
with_put-with_put w n first next =
    with_pipe-with_pipe w n _ _
    ∙ ap (λ bytes. with_pipe w n (bytes ++ next)) (held-with_pipe w n (pipe_bytes w n ++ first))
    ∙ ap (with_pipe w n) (append_assoc (pipe_bytes w n) first next)

-- the next bytes after so many that were put
pub put_more : (old mid new : World) (n : ℕ) (bytes rest : List ℕ) (done count : ℕ) →
    mid ≡ with_put old n (take done bytes) → rest ≡ drop done bytes → new ≡ with_put mid n (take count rest) →
    new ≡ with_put old n (take (done + count) bytes)
put_more old mid new n bytes rest done count first is next =
    next
    ∙ ap (λ w. with_put w n (take count rest)) first
    ∙ ap (λ xs. with_put (with_put old n (take done bytes)) n (take count xs)) is
    ∙ with_put-with_put old n (take done bytes) (take count (drop done bytes))
    ∙ ap (with_put old n) (sym (take-add done count bytes))

-- a part of the next bytes after so many that were put
pub part_put : (old mid new : World) (n : ℕ) (bytes rest : List ℕ) (done : ℕ) → done + length rest ≤ length bytes →
    mid ≡ with_put old n (take done bytes) → rest ≡ drop done bytes → PutsPart mid n rest new → PutsPart old n bytes new
part_put old mid new n bytes rest done all first is part = record {
  count = done + part.count;
  within = omega (arith, part.within);
  prefix = put_more old mid new n bytes rest done part.count first is part.prefix;
}

-- the next bytes after so many that were taken
pub take_more : (old mid new : World) (n : ℕ) (done count : ℕ) →
    mid ≡ with_pipe old n (drop done (pipe_bytes old n)) → new ≡ with_pipe mid n (drop count (pipe_bytes mid n)) →
    new ≡ with_pipe old n (drop (done + count) (pipe_bytes old n))
take_more old mid new n done count first next =
    next
    ∙ ap (λ w. with_pipe w n (drop count (pipe_bytes w n))) first
    ∙ with_pipe-with_pipe old n _ _
    ∙ ap (λ bytes. with_pipe old n (drop count bytes)) (held-with_pipe old n (drop done (pipe_bytes old n)))
    ∙ ap (with_pipe old n) (drop-drop count done (pipe_bytes old n))

-- what is left after so many were taken
pub held_left : (old mid : World) (n : ℕ) (done : ℕ) → mid ≡ with_pipe old n (drop done (pipe_bytes old n)) → pipe_bytes mid n ≡ drop done (pipe_bytes old n)
held_left old mid n done is = ap (λ w. pipe_bytes w n) is ∙ held-with_pipe old n (drop done (pipe_bytes old n))

-- where nothing moved there was nothing to move
pub none_moved : (most count : ℕ) → MovesSome most count → count ≡ 0 → most ≡ 0
none_moved zero count moved none = refl
none_moved (suc most) count moved none = let some : 0 < count = moved.some (omega arith) in omega arith

-- a buffer whose first bytes were taken, after the next ones were taken into its end
pub took_more : (old mid : World) (n : ℕ) (start buffer prefix rest new : List ℕ) (done count : ℕ) → done ≤ length (pipe_bytes old n) →
    mid ≡ with_pipe old n (drop done (pipe_bytes old n)) → buffer ≡ take done (pipe_bytes old n) ++ drop done start →
    prefix ≡ take done buffer → rest ≡ drop done buffer → new ≡ take count (pipe_bytes mid n) ++ drop count rest →
    prefix ++ new ≡ take (done + count) (pipe_bytes old n) ++ drop (done + count) start
took_more old mid n start buffer prefix rest new done count within left is first last taken =
    let source = pipe_bytes old n in
    let moved = taken ∙ ap (λ bytes. take count bytes ++ drop count rest) (held_left old mid n done left) in
    ap (λ xs. xs ++ new) first
    ∙ ap (λ xs. take done buffer ++ xs) (moved ∙ ap (λ xs. take count (drop done source) ++ drop count xs) last)
    ∙ read_more source start buffer done count within is

-- a node that may go, at a host whose pipes have no number of a node
pub may_go : (w : World) (n : ℕ) → ArePipes w → NodeMayGo w.forest n → MayGo w n
may_go w n pipes may = subst (λ found. MatchOption found (NodeMayGo w.forest n) (λ _. Unit {0})) (sym (pipes.apart n may.live)) may

-- what goes with it is the node
pub without-node : (w : World) (n : ℕ) → ArePipes w → IsLive w.forest n → without w n ≡ with_forest w (without_node w.forest n)
without-node w n pipes live =
    ap (λ found. if is_some found then without_pipe w n else with_forest w (without_node w.forest n)) (pipes.apart n live)

-- what leaves all but the forest, after what does
pub forest-then : {old mid new : World} → OnlyForest mid new → OnlyForest old mid → OnlyForest old new
forest-then next first = record { pipes = next.pipes ∙ first.pipes; pids = next.pids ∙ first.pids }
