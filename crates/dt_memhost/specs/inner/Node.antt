-- What a node or a pipe in memory is to a reader of contracts.
use Rattle.std.specs.Prelude.{ℕ, List, [], Option, None, Some, option_and_then}
use Rattle.std.specs.Ordering.{nat_cmp}
use Rattle.std.specs.BTreeMap as tree
use Rattle.std.specs.BTreeMap.{BTreeMap}
use Rattle.std.specs.FinMap.{FinMap, empty}
use Rattle.dt_host.specs.declared.kind.NodeKind.{NodeKind}
use Rattle.dt_host.specs.declared.kind.NodeKind.TheVariants as kind
use Rattle.dt_host.specs.World.{Node, file, dir, link, device, PipeContents}
use Rattle.dt_memhost.specs.declared.node.MemNode.{MemNode}
use Rattle.dt_memhost.specs.declared.node.MemNode.TheVariants.{File, Dir, Link, Device, Pipe}
use Rattle.dt_memhost.specs.Order.{Order, Orders}
use Rattle.dt_memhost.specs.inner.Dir.{names_of}
use Rattle.dt_memhost.specs.inner.Kept.{kept_of}

-- the node that it stands for; a pipe is none
abbrev pub node_of : MemNode → Option Node
node_of (File bytes) = Some (file bytes.items)
node_of (Dir order) = Some (dir (names_of order))
node_of (Link target) = Some (link target)
node_of (Device which) = Some (device which)
node_of (Pipe bytes) = None

-- a node's entries in the order of their binding; a file, a link and a device have none
abbrev pub entries_of : MemNode → Option Order
entries_of (File bytes) = Some []
entries_of (Dir order) = Some order
entries_of (Link target) = Some []
entries_of (Device which) = Some []
entries_of (Pipe bytes) = None

-- what a pipe holds
abbrev pub held_of : MemNode → Option (List ℕ)
held_of (File bytes) = None
held_of (Dir order) = None
held_of (Link target) = None
held_of (Device which) = None
held_of (Pipe bytes) = Some bytes

-- the nodes of a list of entries
abbrev pub nodes_of : List (ℕ × MemNode) → FinMap nat_cmp Node
nodes_of entries = kept_of node_of entries

-- the order of binding in each of them
abbrev pub orders_of : List (ℕ × MemNode) → Orders
orders_of entries = kept_of entries_of entries

-- what the pipes of a list of entries hold
abbrev pub pipes_of : List (ℕ × MemNode) → PipeContents
pipes_of entries = kept_of held_of entries

-- the node under a number
abbrev pub node_in : BTreeMap ℕ MemNode → ℕ → Option Node
node_in nodes n = option_and_then node_of (tree.get nat_cmp nodes n)

-- the order of binding in the node under a number
abbrev pub order_in : BTreeMap ℕ MemNode → ℕ → Option Order
order_in nodes n = option_and_then entries_of (tree.get nat_cmp nodes n)

-- what the pipe under a number holds
abbrev pub held_in : BTreeMap ℕ MemNode → ℕ → Option (List ℕ)
held_in nodes n = option_and_then held_of (tree.get nat_cmp nodes n)

-- a new node of that kind
abbrev pub new_node : NodeKind → Option Node
new_node kind.File = Some (file [])
new_node kind.Dir = Some (dir empty)
new_node kind.Pipe = None
new_node (kind.Link target) = Some (link target)
new_node (kind.Device which) = Some (device which)

-- the order in a new node of that kind
abbrev pub new_order : NodeKind → Option Order
new_order kind.File = Some []
new_order kind.Dir = Some []
new_order kind.Pipe = None
new_order (kind.Link target) = Some []
new_order (kind.Device which) = Some []

-- what a new pipe holds
abbrev pub new_held : NodeKind → Option (List ℕ)
new_held kind.File = None
new_held kind.Dir = None
new_held kind.Pipe = Some []
new_held (kind.Link target) = None
new_held (kind.Device which) = None
