-- The nodes and pipes of a tree by number, as a forest with its orders: what stands there, and what a change of one makes of all.
use Rattle.std.proofs.Common.{arith, ◌≡◌, ◌≢◌, ℕ, false, List, [], ◌∷◌, ◌++◌, Option, Some, None, refl, sym, ap, subst, ◌∙◌}
use Rattle.std.specs.Prelude.{IsSome, IfSome, OnOk, OnErr, Result, Ok, Err, option_map, option_and_then, unwrap_or}
use Rattle.std.specs.Ordering.{nat_cmp, is_eq}
use Rattle.std.proofs.lemmas.Bool.Decides.{nat_tests}
use Rattle.std.specs.Cmp.{nat_cmp_total}
use Rattle.std.specs.BTreeMap as tree
use Rattle.std.specs.BTreeMap.{BTreeMap}
use Rattle.std.specs.FinMap.{get, insert, remove, empty, get-empty, nat_cmp-IsAntisymmetric}
use Rattle.std.specs.Cmp.Lexicographic.{slice_cmp}
use Rattle.dt_host.specs.World.{Forest, Node, Names, file, dir, file_at, dir_at, target_at, file_bytes, dir_names, link_target, IsFile, IsDir, IsLive, content, names_at, entry, with_node, with_bytes, with_entry, without_entry}
use Rattle.dt_host.specs.declared.kind.NodeKind.{NodeKind}
use Rattle.dt_memhost.specs.declared.node.MemNode.{MemNode}
use Rattle.dt_memhost.specs.declared.node.MemNode.TheVariants.{File, Dir, Link, Device, Pipe}
use Rattle.dt_memhost.specs.inner.Node.{node_of, node_in, nodes_of, entries_of, order_in, orders_of, held_of, held_in, pipes_of, new_node, new_order, new_held}
use Rattle.dt_memhost.specs.inner.Forest.{OrderedForest, empty_ordered, with_new_at, with_binding, without_binding, without_number, with_file_bytes, with_pipe_bytes}
use Rattle.dt_memhost.specs.Order.{Order, order_at, order_without}
use Rattle.dt_memhost.specs.inner.Dir.{names_of}
use Rattle.dt_tables.proofs.Maps.{remove_none}
use Rattle.dt_memhost.proofs.Kept.{get-kept_of, kept_of-nil, kept_of-changed, kept_of-same}
use Rattle.dt_memhost.proofs.Numbered.{get-nodes_of}

-- what holds on both outcomes
pub by_outcome : {A E : Type 0} {P : Type 0} (r : Result A E) → OnOk r P → OnErr r P → P
by_outcome (Ok a) p q = p
by_outcome (Err e) p q = q

-- the forest of a tree of nodes, with that root
abbrev pub forest_of : BTreeMap ℕ MemNode → ℕ → Forest
forest_of nodes root = record { nodes = nodes_of nodes.entries; root = root }

pub file_at-forest_of : (nodes : BTreeMap ℕ MemNode) (root n : ℕ) → file_at (forest_of nodes root) n ≡ option_and_then file_bytes (node_in nodes n)
file_at-forest_of nodes root n = ap (option_and_then file_bytes) (get-nodes_of nodes n)

pub dir_at-forest_of : (nodes : BTreeMap ℕ MemNode) (root n : ℕ) → dir_at (forest_of nodes root) n ≡ option_and_then dir_names (node_in nodes n)
dir_at-forest_of nodes root n = ap (option_and_then dir_names) (get-nodes_of nodes n)

pub target_at-forest_of : (nodes : BTreeMap ℕ MemNode) (root n : ℕ) → target_at (forest_of nodes root) n ≡ option_and_then link_target (node_in nodes n)
target_at-forest_of nodes root n = ap (option_and_then link_target) (get-nodes_of nodes n)

pub content-forest_of : (nodes : BTreeMap ℕ MemNode) (root n : ℕ) → content (forest_of nodes root) n ≡ unwrap_or (option_and_then file_bytes (node_in nodes n)) []
unfolding content
content-forest_of nodes root n = ap (λ found. unwrap_or found []) (file_at-forest_of nodes root n)

in_names : (found : Option Names) (name : List ℕ) → get (unwrap_or found empty) name ≡ option_and_then (λ names. get names name) found
in_names None name = get-empty (slice_cmp nat_cmp) name
in_names (Some names) name = refl

pub entry-forest_of : (nodes : BTreeMap ℕ MemNode) (root d : ℕ) (name : List ℕ) → entry (forest_of nodes root) d name ≡ option_and_then (λ names. get names name) (option_and_then dir_names (node_in nodes d))
unfolding entry names_at
entry-forest_of nodes root d name =
    in_names (dir_at (forest_of nodes root) d) name
    ∙ ap (option_and_then (λ names. get names name)) (dir_at-forest_of nodes root d)

-- the orders of a tree of nodes
pub get-orders_of : (nodes : BTreeMap ℕ MemNode) (q : ℕ) → get (orders_of nodes.entries) q ≡ order_in nodes q
get-orders_of nodes q = get-kept_of entries_of nodes q

-- what its pipes hold
pub get-pipes_of : (nodes : BTreeMap ℕ MemNode) (q : ℕ) → get (pipes_of nodes.entries) q ≡ held_in nodes q
get-pipes_of nodes q = get-kept_of held_of nodes q

-- a tree's nodes and pipes, with that root
abbrev pub ordered_of : BTreeMap ℕ MemNode → ℕ → OrderedForest
ordered_of nodes root = record { forest = forest_of nodes root; orders = orders_of nodes.entries; pipes = pipes_of nodes.entries }

-- a directory has an order
has_order : (found : Option MemNode) → IsSome (option_and_then dir_names (option_and_then node_of found)) → IsSome (option_and_then entries_of found)
has_order None h = cc
has_order (Some (File bytes)) h = refl
has_order (Some (Dir order)) h = refl
has_order (Some (Link target)) h = refl
has_order (Some (Device which)) h = refl
has_order (Some (Pipe bytes)) h = cc

-- a node's number is no pipe's
no_pipe : (found : Option MemNode) → IsSome (option_and_then node_of found) → option_and_then held_of found ≡ None
no_pipe None h = cc
no_pipe (Some (File bytes)) h = refl
no_pipe (Some (Dir order)) h = refl
no_pipe (Some (Link target)) h = refl
no_pipe (Some (Device which)) h = refl
no_pipe (Some (Pipe bytes)) h = cc

pub apart : (nodes : BTreeMap ℕ MemNode) (root n : ℕ) → IsLive (forest_of nodes root) n → get (pipes_of nodes.entries) n ≡ None
apart nodes root n live = get-pipes_of nodes n ∙ no_pipe (tree.get nat_cmp nodes n) (subst (λ found. IsSome found) (get-nodes_of nodes n) live)

-- what is said of each other number's test is said of each other number
pub other_numbers : (old new : BTreeMap ℕ MemNode) (n : ℕ) → ((q : ℕ) → is_eq (nat_cmp n q) ≡ false → tree.get nat_cmp new q ≡ tree.get nat_cmp old q) → (q : ℕ) → q ≢ n → tree.get nat_cmp new q ≡ tree.get nat_cmp old q
other_numbers old new n others q apart = others q (untied n q apart)
  where
    untied : (n q : ℕ) → q ≢ n → is_eq (nat_cmp n q) ≡ false
    untied n q apart = grind (arith, nat_tests)

-- all but one number of a tree stay as they were
module _ (old new : BTreeMap ℕ MemNode) (root n : ℕ) (others : (q : ℕ) → q ≢ n → tree.get nat_cmp new q ≡ tree.get nat_cmp old q) where
  put_node : (node : Node) → node_in new n ≡ Some node → forest_of new root ≡ with_node (forest_of old root) n node
  put_node node here = ap (λ nodes. record { nodes = nodes; root = root }) (kept_of-changed node_of old new n others (Some node) here)

  same_forest : node_in new n ≡ node_in old n → forest_of new root ≡ forest_of old root
  same_forest here = ap (λ nodes. record { nodes = nodes; root = root }) (kept_of-same node_of old new n others here)

  same_orders : order_in new n ≡ order_in old n → orders_of new.entries ≡ orders_of old.entries
  same_orders here = kept_of-same entries_of old new n others here

  same_pipes : held_in new n ≡ held_in old n → pipes_of new.entries ≡ pipes_of old.entries
  same_pipes here = kept_of-same held_of old new n others here

  -- where that one stays too, nothing changed
  pub nothing_changed : node_in new n ≡ node_in old n → order_in new n ≡ order_in old n → held_in new n ≡ held_in old n → ordered_of new root ≡ ordered_of old root
  nothing_changed node order held i = record { forest = same_forest node i; orders = same_orders order i; pipes = same_pipes held i }

  -- that one was made
  pub one_made : (kind : NodeKind) → node_in new n ≡ new_node kind → order_in new n ≡ new_order kind → held_in new n ≡ new_held kind → ordered_of new root ≡ with_new_at (ordered_of old root) n kind
  one_made kind node order held i = record {
    forest = record { nodes = kept_of-changed node_of old new n others (new_node kind) node i; root = root };
    orders = kept_of-changed entries_of old new n others (new_order kind) order i;
    pipes = kept_of-changed held_of old new n others (new_held kind) held i;
  }

  -- that one is a directory without entries, where nothing was before
  pub first_made : (order : Order) → old.entries ≡ [] → order ≡ [] → n ≡ root → tree.get nat_cmp new n ≡ Some (Dir order) → ordered_of new root ≡ empty_ordered root
  first_made order none unbound is here =
      (λ i. record {
        forest = record { nodes = (kept_of-changed node_of old new n others (Some (dir (names_of order))) (ap (option_and_then node_of) here) ∙ (λ j. insert (kept_of-nil node_of old.entries none j) (is j) (dir (names_of (unbound j))))) i; root = root };
        orders = (kept_of-changed entries_of old new n others (Some order) (ap (option_and_then entries_of) here) ∙ (λ j. insert (kept_of-nil entries_of old.entries none j) (is j) (unbound j))) i;
        pipes = (kept_of-changed held_of old new n others None (ap (option_and_then held_of) here) ∙ ap (λ pipes. remove pipes n) (kept_of-nil held_of old.entries none) ∙ remove_none nat_cmp_total nat_cmp-IsAntisymmetric empty n (get-empty nat_cmp n)) i;
      })

  -- that one is gone
  pub one_gone : tree.get nat_cmp new n ≡ None → ordered_of new root ≡ without_number (ordered_of old root) n
  one_gone gone i = record {
    forest = record { nodes = kept_of-changed node_of old new n others None (ap (option_and_then node_of) gone) i; root = root };
    orders = kept_of-changed entries_of old new n others None (ap (option_and_then entries_of) gone) i;
    pipes = kept_of-changed held_of old new n others None (ap (option_and_then held_of) gone) i;
  }

  -- the order in a directory changed
  order_changed : (change : Order → Order) → IsSome (order_in old n) → order_in new n ≡ option_map change (order_in old n) → orders_of new.entries ≡ insert (orders_of old.entries) n (change (order_at (orders_of old.entries) n))
  order_changed change some here =
      kept_of-changed entries_of old new n others (Some _) (here ∙ in_order (order_in old n) some)
      ∙ ap (λ found. insert (orders_of old.entries) n (change (unwrap_or found []))) (sym (get-orders_of old n))
    where
      in_order : (found : Option Order) → IsSome found → option_map change found ≡ Some (change (unwrap_or found []))
      in_order None h = cc
      in_order (Some order) h = refl

  -- its names changed
  names_changed : (change : Names → Names) → IsDir (forest_of old root) n → IfSome (option_and_then dir_names (node_in old n)) (λ names. node_in new n ≡ Some (dir (change names))) → forest_of new root ≡ with_node (forest_of old root) n (dir (change (names_at (forest_of old root) n)))
  unfolding names_at
  names_changed change is h =
      put_node _ (at_names _ (subst (λ found. IsSome found) (dir_at-forest_of old root n) is) h)
      ∙ ap (λ found. with_node (forest_of old root) n (dir (change (unwrap_or found empty)))) (sym (dir_at-forest_of old root n))
    where
      at_names : (found : Option Names) → IsSome found → IfSome found (λ names. node_in new n ≡ Some (dir (change names))) → node_in new n ≡ Some (dir (change (unwrap_or found empty)))
      at_names None some put = cc
      at_names (Some names) some put = put

  has_order-at : IsDir (forest_of old root) n → IsSome (order_in old n)
  has_order-at is = has_order (tree.get nat_cmp old n) (subst (λ found. IsSome found) (dir_at-forest_of old root n) is)

  -- an entry was put into that one's names
  pub entry_put : (name : List ℕ) (to : ℕ) → IsDir (forest_of old root) n → IfSome (option_and_then dir_names (node_in old n)) (λ names. node_in new n ≡ Some (dir (insert names name to))) → order_in new n ≡ option_map (λ order. order ++ (name, to) ∷ []) (order_in old n) → held_in new n ≡ held_in old n → ordered_of new root ≡ with_binding (ordered_of old root) n name to
  unfolding with_entry
  entry_put name to is put last held i = record {
    forest = names_changed (λ names. insert names name to) is put i;
    orders = order_changed (λ order. order ++ (name, to) ∷ []) (has_order-at is) last i;
    pipes = same_pipes held i;
  }

  -- an entry was taken out of them
  pub entry_taken : (name : List ℕ) → IsDir (forest_of old root) n → IfSome (option_and_then dir_names (node_in old n)) (λ names. node_in new n ≡ Some (dir (remove names name))) → order_in new n ≡ option_map (λ order. order_without order name) (order_in old n) → held_in new n ≡ held_in old n → ordered_of new root ≡ without_binding (ordered_of old root) n name
  unfolding without_entry
  entry_taken name is taken order held i = record {
    forest = names_changed (λ names. remove names name) is taken i;
    orders = order_changed (λ order. order_without order name) (has_order-at is) order i;
    pipes = same_pipes held i;
  }

  -- that one's bytes changed
  pub bytes_changed : (change : List ℕ → List ℕ) → IsFile (forest_of old root) n → IfSome (option_and_then file_bytes (node_in old n)) (λ bytes. node_in new n ≡ Some (file (change bytes))) → order_in new n ≡ order_in old n → held_in new n ≡ held_in old n → ordered_of new root ≡ with_file_bytes (ordered_of old root) n (change (content (forest_of old root) n))
  unfolding with_bytes
  bytes_changed change is h order held i = record {
    forest =
        (put_node _ (at_bytes _ (subst (λ found. IsSome found) (file_at-forest_of old root n) is) h)
        ∙ ap (λ bytes. with_node (forest_of old root) n (file (change bytes))) (sym (content-forest_of old root n))) i;
    orders = same_orders order i;
    pipes = same_pipes held i;
  }
    where
      at_bytes : (found : Option (List ℕ)) → IsSome found → IfSome found (λ bytes. node_in new n ≡ Some (file (change bytes))) → node_in new n ≡ Some (file (change (unwrap_or found [])))
      at_bytes None some put = cc
      at_bytes (Some bytes) some put = put

  -- what that one holds changed
  pub held_changed : (change : List ℕ → List ℕ) → IsSome (get (pipes_of old.entries) n) → IfSome (held_in old n) (λ held. held_in new n ≡ Some (change held)) → node_in new n ≡ node_in old n → order_in new n ≡ order_in old n → ordered_of new root ≡ with_pipe_bytes (ordered_of old root) n (change (unwrap_or (get (pipes_of old.entries) n) []))
  held_changed change is h node order i = record {
    forest = same_forest node i;
    orders = same_orders order i;
    pipes =
        (kept_of-changed held_of old new n others (Some _) (at_held _ (subst (λ found. IsSome found) (get-pipes_of old n) is) h)
        ∙ ap (λ found. insert (pipes_of old.entries) n (change (unwrap_or found []))) (sym (get-pipes_of old n))) i;
  }
    where
      at_held : (found : Option (List ℕ)) → IsSome found → IfSome found (λ held. held_in new n ≡ Some (change held)) → held_in new n ≡ Some (change (unwrap_or found []))
      at_held None some put = cc
      at_held (Some bytes) some put = put
