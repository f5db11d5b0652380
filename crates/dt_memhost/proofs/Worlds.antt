-- The nodes, the pipes and the pids as a host's state, and what it is after something was made or let go.
use Rattle.std.proofs.Common.{◌≡◌, ◌||◌, ℕ, List, Bool, true, false, cond, Option, Some, None, refl, ap}
use Rattle.std.specs.Prelude.{MatchBool, IsSome, is_some}
use Rattle.std.specs.Cmp.{nat_cmp_total}
use Rattle.std.specs.FinMap.{get, nat_cmp-IsAntisymmetric}
use Rattle.dt_host.specs.declared.kind.NodeKind.{NodeKind}
use Rattle.dt_host.specs.declared.kind.NodeKind.TheVariants.{File, Dir, Pipe, Link, Device}
use Rattle.dt_host.specs.World.{Node, HostPids, IsLive, with_forest, without_pipe, without_node}
use Rattle.dt_host.specs.Legal.{with_new, without}
use Rattle.dt_tables.proofs.Maps.{remove_none}
use Rattle.dt_memhost.specs.Order.{with_new_order}
use Rattle.dt_memhost.specs.Script.{Script}
use Rattle.dt_memhost.specs.Host.{HostState}
use Rattle.dt_memhost.specs.inner.Forest.{OrderedForest, world_of, with_new_at, without_number}

-- the state of a host of these parts
abbrev pub host_of : OrderedForest → HostPids → Script → HostState
host_of o pids script = record { view = world_of o pids; orders = o.orders; script = script }

-- a call that isn't listed answers as said
pub unlisted : (F L : Type 0) (listed : Bool) → (false || listed) ≡ false → L → MatchBool listed F L
unlisted F L true h said = cc
unlisted F L false h said = said

module _ (o : OrderedForest) (pids : HostPids) (n : ℕ) where
  -- what was made under a free number is new
  pub made_world : (kind : NodeKind) → get o.forest.nodes n ≡ None → get o.pipes n ≡ None → world_of (with_new_at o n kind) pids ≡ with_new (world_of o pids) n kind
  made_world File free no_pipe = ap (λ pipes. record { forest = (with_new_at o n File).forest; pipes = pipes; pids = pids }) (remove_none nat_cmp_total nat_cmp-IsAntisymmetric o.pipes n no_pipe)
  made_world Dir free no_pipe = ap (λ pipes. record { forest = (with_new_at o n Dir).forest; pipes = pipes; pids = pids }) (remove_none nat_cmp_total nat_cmp-IsAntisymmetric o.pipes n no_pipe)
  made_world Pipe free no_pipe = ap (λ nodes. record { forest = record { nodes = nodes; root = o.forest.root }; pipes = (with_new_at o n Pipe).pipes; pids = pids }) (remove_none nat_cmp_total nat_cmp-IsAntisymmetric o.forest.nodes n free)
  made_world (Link target) free no_pipe = ap (λ pipes. record { forest = (with_new_at o n (Link target)).forest; pipes = pipes; pids = pids }) (remove_none nat_cmp_total nat_cmp-IsAntisymmetric o.pipes n no_pipe)
  made_world (Device which) free no_pipe = ap (λ pipes. record { forest = (with_new_at o n (Device which)).forest; pipes = pipes; pids = pids }) (remove_none nat_cmp_total nat_cmp-IsAntisymmetric o.pipes n no_pipe)

  -- and so is its order
  pub made_orders : (kind : NodeKind) → get o.orders n ≡ None → (with_new_at o n kind).orders ≡ with_new_order o.orders n kind
  made_orders File none = refl
  made_orders Dir none = refl
  made_orders Pipe none = remove_none nat_cmp_total nat_cmp-IsAntisymmetric o.orders n none
  made_orders (Link target) none = refl
  made_orders (Device which) none = refl

  no_node : (found : Option Node) (held : Option (List ℕ)) → IsSome held → (IsSome found → held ≡ None) → found ≡ None
  no_node None held is apart = refl
  no_node (Some node) held is apart = let none = apart refl in cc

  -- a pipe is gone, or a node
  pub forgotten_world : (IsLive o.forest n → get o.pipes n ≡ None) → world_of (without_number o n) pids ≡ without (world_of o pids) n
  forgotten_world apart =
      let w = world_of o pids in
      elim (get o.pipes n) as (λ found. get o.pipes n ≡ found → world_of (without_number o n) pids ≡ cond (is_some found) (without_pipe w n) (with_forest w (without_node w.forest n))) [
        | None ↦ λ none. ap (λ pipes. record { forest = (without_number o n).forest; pipes = pipes; pids = pids }) (remove_none nat_cmp_total nat_cmp-IsAntisymmetric o.pipes n none)
        | Some bytes ↦ λ there.
            let is : IsSome (get o.pipes n) = ap is_some there in
            let none = no_node (get o.forest.nodes n) (get o.pipes n) is apart in
            ap (λ nodes. record { forest = record { nodes = nodes; root = o.forest.root }; pipes = (without_number o n).pipes; pids = pids }) (remove_none nat_cmp_total nat_cmp-IsAntisymmetric o.forest.nodes n none)
      ] refl
