-- What the pipes of a table hold, pipe by pipe.
use Rattle.std.proofs.Common.{◌≡◌, ℕ, List, [], ◌++◌, length, Option, None, Some, refl, sym, ap, subst, ◌∙◌, append-nil}
use Rattle.std.proofs.lemmas.List.{nil_from_length}
use Rattle.std.specs.Prelude.{option_map, unwrap_or, is_some, IfSome, IsSome}
use Rattle.std.specs.Cmp.{nat_cmp_total}
use Rattle.std.specs.FinMap.{get, insert, nat_cmp-IsAntisymmetric}
use Rattle.dt_host.specs.World.{PipeContents}
use Rattle.dt_host.proofs.Pipes.{held_some}
use Rattle.dt_tables.proofs.Maps.{put_back}
use Rattle.dt_tables.proofs.Valued.{get-map_values}
use Rattle.dt_pipes.specs.declared.pipe.Pipe.{Pipe}
use Rattle.dt_pipes.specs.Table.{Table, has_pipe, held_in, pipes_of, IsBackedPipe, Stands}
use Rattle.dt_pipes.specs.Changes.{with_bytes_put}

pub get-pipes_of : (t : Table) (host : PipeContents) (q : ℕ) → get (pipes_of t host) q ≡ option_map (λ pipe. held_in host pipe.real) (get t.pipes q)
unfolding pipes_of
get-pipes_of t host q = get-map_values nat_cmp_total (λ (pipe : Pipe). held_in host pipe.real) t.pipes q

some-mapped : (f : Pipe → List ℕ) (found : Option Pipe) → is_some (option_map f found) ≡ is_some found
some-mapped f None = refl
some-mapped f (Some pipe) = refl

-- the pipes that hold something are those of the table
pub has-pipes_of : (t : Table) (host : PipeContents) (q : ℕ) → is_some (get (pipes_of t host) q) ≡ has_pipe t q
has-pipes_of t host q = ap (λ found. is_some found) (get-pipes_of t host q) ∙ some-mapped (λ pipe. held_in host pipe.real) (get t.pipes q)

-- a pipe holds what its pipe at the host does
pub held_in-pipes_of : (t : Table) (host : PipeContents) (q : ℕ) (pipe : Pipe) → get t.pipes q ≡ Some pipe
    → held_in (pipes_of t host) q ≡ held_in host pipe.real
held_in-pipes_of t host q pipe here =
    ap (λ found. unwrap_or found []) (get-pipes_of t host q ∙ ap (option_map (λ (pipe : Pipe). held_in host pipe.real)) here)

-- a pipe of a table that stands is one of the host's
pub backed : (t : Table) (host : PipeContents) (q : ℕ) (pipe : Pipe) → Stands t host → get t.pipes q ≡ Some pipe → IsBackedPipe host pipe
backed t host q pipe stands here = subst (λ found. IfSome found (IsBackedPipe host)) here (stands.each q)

-- to put nothing changes nothing
pub with_put-nothing : (t : Table) (host : PipeContents) (q : ℕ) (bytes : List ℕ) → IsSome (get t.pipes q) → length bytes ≡ 0
    → pipes_of t host ≡ with_bytes_put (pipes_of t host) q bytes
with_put-nothing t host q bytes there none =
    let pipes = pipes_of t host in
    let some : IsSome (get pipes q) = has-pipes_of t host q ∙ there in
    sym (ap (λ xs. insert pipes q (held_in pipes q ++ xs)) (nil_from_length bytes none) ∙ ap (insert pipes q) (append-nil (held_in pipes q))
    ∙ put_back nat_cmp_total nat_cmp-IsAntisymmetric pipes q (held_in pipes q) (held_some (get pipes q) some))
