-- What a host in memory keeps: the forest, the order of binding in its nodes, and the pipes.
use Rattle.std.specs.Prelude.{ℕ, ◌^◌, ◌<◌, List, [], IsSome}
use Rattle.std.specs.FinMap.{empty, get, insert, remove}
use Rattle.dt_host.specs.declared.kind.NodeKind.{NodeKind}
use Rattle.dt_host.specs.World.{World, Forest, PipeContents, HostPids, with_entry, without_entry, without_node, with_bytes}
use Rattle.dt_host.specs.World.{empty_forest, IsSized}
use Rattle.dt_memhost.specs.Order.{Orders, with_last, without_name}
use Rattle.dt_memhost.specs.inner.Kept.{with_value}
use Rattle.dt_memhost.specs.inner.Node.{new_node, new_order, new_held}

-- the forest, the order of binding in each node, and what each pipe holds
pub record OrderedForest : Type 0 where
  pub forest : Forest
  pub orders : Orders
  pub pipes : PipeContents

-- its numbers have 64 bits
pub record HasSizes (o : OrderedForest) : Type 0 where
  pub forest : IsSized o.forest
  pub pipes : (n : ℕ) → IsSome (get o.pipes n) → n < 2 ^ 64

-- the world of these nodes and pipes, with these pids
abbrev pub world_of : OrderedForest → HostPids → World
world_of o pids = record { forest = o.forest; pipes = o.pipes; pids = pids }

-- nothing but a root without entries
abbrev pub empty_ordered : ℕ → OrderedForest
empty_ordered root = record { forest = empty_forest root; orders = insert empty root []; pipes = empty }

-- with something new of that kind under a number, and nothing else there
abbrev pub with_new_at : OrderedForest → ℕ → NodeKind → OrderedForest
with_new_at o n kind = record {
  forest = record o.forest { nodes = with_value o.forest.nodes n (new_node kind) };
  orders = with_value o.orders n (new_order kind);
  pipes = with_value o.pipes n (new_held kind);
}

-- with one entry more in a directory
abbrev pub with_binding : OrderedForest → ℕ → List ℕ → ℕ → OrderedForest
with_binding o d name n =
    record o { forest = with_entry o.forest d name n; orders = with_last o.orders d name n }

-- with one entry fewer in a directory
abbrev pub without_binding : OrderedForest → ℕ → List ℕ → OrderedForest
without_binding o d name =
    record o { forest = without_entry o.forest d name; orders = without_name o.orders d name }

-- with neither a node nor a pipe under that number
abbrev pub without_number : OrderedForest → ℕ → OrderedForest
without_number o n = record {
  forest = without_node o.forest n;
  orders = remove o.orders n;
  pipes = remove o.pipes n;
}

-- with these bytes as the file of that number
abbrev pub with_file_bytes : OrderedForest → ℕ → List ℕ → OrderedForest
with_file_bytes o n bytes = record o { forest = with_bytes o.forest n bytes }

-- with a pipe of that number that holds these bytes
abbrev pub with_pipe_bytes : OrderedForest → ℕ → List ℕ → OrderedForest
with_pipe_bytes o n bytes = record o { pipes = insert o.pipes n bytes }
