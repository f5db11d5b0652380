-- How much a write to a pipe moves, and that there is room for it.
use Rattle.std.proofs.Common.{arith, ◌≡◌, ℕ, ◌+◌, ◌≤◌, Bool, true, false, List, [], length, take, drop, Option, None, Some, refl, sym, ap, ◌∙◌}
use Rattle.std.proofs.lemmas.Bool.Decides.{nat_tests}
use Rattle.std.specs.Prelude.{IfSome, IsSome, not, unwrap_or, option_map, if◌then◌else◌}
use Rattle.std.specs.FinMap.{get}
use Rattle.dt_base.specs.declared.limits.TheConstants.{PIPE_LIMIT}
use Rattle.dt_host.specs.World.{PipeContents}
use Rattle.dt_pipes.specs.Table as pipes
use Rattle.dt_pipes.specs.Table.{held_in, pipes_of}
use Rattle.dt_pipes.specs.declared.pipe.Pipe.{Pipe}
use Rattle.dt_pipes.proofs.Held.{backed, get-pipes_of, has-pipes_of, held_in-pipes_of}
use Rattle.dt_fds.specs.declared.desc.Desc.{Desc}
use Rattle.dt_fds.specs.declared.files.Files.{Files}
use Rattle.dt_fds.specs.Backs.{HasEnds, IsPiped}
use Rattle.dt_fds.specs.Descriptions.{Descriptions, description_at, pipe_of, readers, write_pipe}
use Rattle.dt_fds.specs.Ends.{is_read}
use Rattle.dt_fds.specs.Holding.{transfer_count_to, transfer_count_by, pipe_transfer_count}
use Rattle.dt_fds.specs.OpenFiles.{pipes_at}
use Rattle.dt_fds.specs.Pipes.{PipesView, pipe_content, transfer_count}
use Rattle.dt_fds.specs.inner.Ends.{pipe_end_by}
use Rattle.dt_fds.proofs.Ending.{end-found, none-if}

-- the pipe of each end that is open is in the table
pub has_ends : (f : Files) (host : PipeContents) → IsPiped f host → HasEnds f
has_ends f host piped k = by-found (get f.descriptors.descs k) (piped.there k)
  where
    by-pipe : (pipe : Option ℕ) → IfSome pipe (λ q. IsSome (get (pipes_of f.pipes host) q)) → IfSome pipe (λ q. IsSome (get f.pipes.pipes q))
    by-pipe None there = tt
    by-pipe (Some q) there = sym (has-pipes_of f.pipes host q) ∙ there

    by-found : (found : Option Desc) → IfSome found (λ desc. IfSome (pipe_of desc.kind) (λ q. IsSome (get (pipes_of f.pipes host) q))) → IfSome found (λ desc. IfSome (pipe_of desc.kind) (λ q. IsSome (get f.pipes.pipes q)))
    by-found None there = tt
    by-found (Some desc) there = by-pipe (pipe_of desc.kind) there

-- no pipe holds more than it may
pub held-within : (t : pipes.Table) (host : PipeContents) (q : ℕ) → pipes.Stands t host → length (held_in (pipes_of t host) q) ≤ PIPE_LIMIT
held-within t host q stands = by-found (get t.pipes q) refl
  where
    by-found : (found : Option Pipe) → get t.pipes q ≡ found → length (held_in (pipes_of t host) q) ≤ PIPE_LIMIT
    by-found None is =
        let none : held_in (pipes_of t host) q ≡ [] = ap (λ bytes. unwrap_or bytes []) (get-pipes_of t host q ∙ ap (option_map (λ (pipe : Pipe). held_in host pipe.real)) is) in
        omega (arith, ap length none)
    by-found (Some pipe) is =
        let b = backed t host q pipe stands is in
        omega (arith, b.count, b.within, ap length (held_in-pipes_of t host q pipe is))

-- a write moves no more than is left of it, and no more than has room
pub goes-left : (count whole done : ℕ) → done ≤ whole → done + transfer_count count whole done ≤ whole
goes-left count whole done within = grind (arith, nat_tests)

pub goes-room : (count whole done : ℕ) → count ≤ PIPE_LIMIT → count + transfer_count count whole done ≤ PIPE_LIMIT
goes-room count whole done within = grind (arith, nat_tests)

-- the piece that is cut off for it
pub piece-cut : (done moved : ℕ) (bytes rest piece : List ℕ) → rest ≡ drop done bytes → piece ≡ take moved rest → length piece ≡ moved → take (length piece) (drop done bytes) ≡ piece
piece-cut done moved bytes rest piece back front size = ap (λ n. take n (drop done bytes)) size ∙ sym (front ∙ ap (take moved) back)

-- how much it moves, by what was looked up
goes-found : (f : Descriptions) (m : PipesView) (whole count : ℕ) (found : Option Desc) (q : ℕ) (nonblock : Bool) → pipe_end_by write_pipe found ≡ Some (q, nonblock) → transfer_count_by f m whole count found ≡ transfer_count_to f m whole count (Some q)
goes-found f m whole count found q nonblock e =
    let end = end-found write_pipe found q nonblock e in
    ap (transfer_count_by f m whole count) end.is ∙ ap (transfer_count_to f m whole count) end.pipe

goes-nowhere : (f : Descriptions) (m : PipesView) (whole count : ℕ) (found : Option Desc) → pipe_end_by write_pipe found ≡ None → transfer_count_by f m whole count found ≡ 0
goes-nowhere f m whole count None e = refl
goes-nowhere f m whole count (Some desc) e = by-pipe (write_pipe desc.kind) e
  where
    by-pipe : (named : Option ℕ) → option_map {U = ℕ × Bool} (λ q. (q, desc.nonblock)) named ≡ None → transfer_count_to f m whole count named ≡ 0
    by-pipe None e = refl
    by-pipe (Some q) e = absurd cc

module _ (f : Files) (host : PipeContents) (p fd whole count : ℕ) where
  pub moves-nowhere : pipe_end_by write_pipe (description_at f.descriptors p fd) ≡ None → pipe_transfer_count p fd whole count f.descriptors (pipes_at f host) ≡ 0
  unfolding pipe_transfer_count
  moves-nowhere e = goes-nowhere f.descriptors (pipes_at f host) whole count (description_at f.descriptors p fd) e

  module _ (q : ℕ) (nonblock : Bool) (piped : IsPiped f host) (e : pipe_end_by write_pipe (description_at f.descriptors p fd) ≡ Some (q, nonblock)) where
    moves-if : (noted : Bool) → is_read (get f.ends q) ≡ noted → pipe_transfer_count p fd whole count f.descriptors (pipes_at f host) ≡ (if not noted then 0 else transfer_count (length (pipe_content (pipes_at f host) q)) whole count)
    unfolding pipe_transfer_count
    moves-if noted is =
        goes-found f.descriptors (pipes_at f host) whole count (description_at f.descriptors p fd) q nonblock e
        ∙ ap (λ b. if b then 0 else transfer_count (length (pipe_content (pipes_at f host) q)) whole count)
        (none-if (readers f.descriptors q) (is_read (get f.ends q)) (piped.counted.reading q) ∙ ap not is)

    pub moves-unread : is_read (get f.ends q) ≡ false → pipe_transfer_count p fd whole count f.descriptors (pipes_at f host) ≡ 0
    moves-unread is = moves-if false is

    pub moves-read : is_read (get f.ends q) ≡ true → pipe_transfer_count p fd whole count f.descriptors (pipes_at f host) ≡ transfer_count (length (pipe_content (pipes_at f host) q)) whole count
    moves-read is = moves-if true is
