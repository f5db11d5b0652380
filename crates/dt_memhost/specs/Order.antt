-- The entries of directories in the order of their binding, and the order in which words name them.
use Rattle.std.specs.Prelude.{ℕ, ◌%◌, List, [], ◌∷◌, ◌++◌, length, take, drop, remove, unwrap_or}
use Rattle.std.specs.Ordering.{nat_cmp}
use Rattle.std.specs.FinMap.{FinMap, get, insert}
use Rattle.std.specs.Str.{bytes_eq}
use Rattle.std.specs.Map.{remove_entry}
use Rattle.dt_host.specs.declared.kind.NodeKind.{NodeKind}
use Rattle.dt_host.specs.declared.kind.NodeKind.TheVariants.{File, Dir, Pipe, Link, Device}

-- names with the numbers that they stand for, the one bound first comes first
abbrev pub Order : Type 0
Order = List (List ℕ × ℕ)

-- the order of binding in each node; a file has no entries
abbrev pub Orders : Type 0
Orders = FinMap nat_cmp Order

-- the order of binding in the node of that number
abbrev pub order_at : Orders → ℕ → Order
order_at orders d = unwrap_or (get orders d) []

-- the orders with one entry more in that node, which goes last
abbrev pub with_last : Orders → ℕ → List ℕ → ℕ → Orders
with_last orders d name n = insert orders d (order_at orders d ++ (name, n) ∷ [])

-- the orders with that of a new node of that kind, which has no entries; a pipe has no order
abbrev pub with_new_order : Orders → ℕ → NodeKind → Orders
with_new_order orders n File = insert orders n []
with_new_order orders n Dir = insert orders n []
with_new_order orders n Pipe = orders
with_new_order orders n (Link target) = insert orders n []
with_new_order orders n (Device which) = insert orders n []

-- an order without the entry of that name; the others stay in their order
abbrev pub order_without : Order → List ℕ → Order
order_without order name = remove_entry (bytes_eq name) order

-- the orders with one entry fewer in that node
abbrev pub without_name : Orders → ℕ → List ℕ → Orders
without_name orders d name = insert orders d (order_without (order_at orders d) name)

-- of those that are left the one at the word modulo their number, and so on without it
unfoldable pub drawn_order : {A : Type 0} → List ℕ → List A → List A
drawn_order [] left = left
drawn_order (word ∷ words) left =
    let at = word % length left in take 1 (drop at left) ++ drawn_order words (remove left at)
