-- What is there: in the tree, and of the pipes.
use Rattle.std.proofs.Common.{ℕ, Option, Some, None, sym, ◌∙◌}
use Rattle.std.specs.Prelude.{IfSome, IsSome, option_and_then}
use Rattle.std.specs.FinMap.{get}
use Rattle.dt_host.specs.World.{World, Forest, IsLive}
use Rattle.dt_tree.specs.Table.{Table}
use Rattle.dt_fds.specs.declared.desc.Desc.{Desc}
use Rattle.dt_fds.specs.declared.desc.Slot.{Slot}
use Rattle.dt_fds.specs.declared.files.Files.{Files}
use Rattle.dt_fds.specs.Descriptions.{Descriptions, inode_of, pipe_of, slot_description, slot_at, description_at}
use Rattle.dt_fds.specs.Backs.{AllIn, HasEnds, IsBacked, IsIn, at}
use Rattle.dt_fds.proofs.Backing.{live-in}
use Rattle.dt_pipes.specs.Table.{pipes_of}
use Rattle.dt_pipes.proofs.Held.{has-pipes_of}

-- the node of what a descriptor refers to is there
pub live-described : (v : Forest) (f : Descriptions) (p fd : ℕ) → AllIn v f → IfSome (description_at f p fd) (λ desc. IfSome (inode_of desc.kind) (λ n. IsLive v n))
unfolding description_at
live-described v f p fd h = by_slot (slot_at f p fd)
  where
    by_desc : (found : Option Desc) → IfSome found (λ desc. IsIn v desc.kind) → IfSome found (λ desc. IfSome (inode_of desc.kind) (λ n. IsLive v n))
    by_desc None is = tt
    by_desc (Some desc) is = live-in v desc.kind is

    by_slot : (slot : Option Slot) → IfSome (option_and_then (slot_description f) slot) (λ desc. IfSome (inode_of desc.kind) (λ n. IsLive v n))
    by_slot None = tt
    by_slot (Some slot) = by_desc (slot_description f slot) (h slot.number)

-- the pipe of each end that is open is in the table
pub has_ends : (f : Files) (t : Table) (w : World) → IsBacked (at f t w) → HasEnds f
has_ends f t w backed k = by_found (get f.descriptors.descs k) (backed.backs.ends k)
  where
    by_pipe : (pipe : Option ℕ) → IfSome pipe (λ q. IsSome (get (pipes_of f.pipes w.pipes) q)) → IfSome pipe (λ q. IsSome (get f.pipes.pipes q))
    by_pipe None there = tt
    by_pipe (Some q) there = sym (has-pipes_of f.pipes w.pipes q) ∙ there

    by_found : (found : Option Desc) → IfSome found (λ desc. IfSome (pipe_of desc.kind) (λ q. IsSome (get (pipes_of f.pipes w.pipes) q))) → IfSome found (λ desc. IfSome (pipe_of desc.kind) (λ q. IsSome (get f.pipes.pipes q)))
    by_found None there = tt
    by_found (Some desc) there = by_pipe (pipe_of desc.kind) there
