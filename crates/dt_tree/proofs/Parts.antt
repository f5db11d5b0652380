-- A part of a file that came into a buffer of just its length.
use Rattle.std.proofs.Common.{◌≡◌, ℕ, ◌-◌, ◌≤◌, min, List, ◌++◌, length, take, drop, [], sym, ap, refl, ◌∙◌, append-nil, arith}
use Rattle.std.specs.Prelude.{Option, Some, None, IsSome, is_some, unwrap_or, option_map, option_and_then}
use Rattle.std.specs.FinMap.{get}
use Rattle.std.proofs.lemmas.List.{take_min, take_at, length-take-le, length-drop, drop_all}
use Rattle.dt_base.specs.declared.limits.TheConstants.{FILE_LIMIT}
use Rattle.dt_base.proofs.Profiles.{file_limit-most}
use Rattle.dt_host.specs.World.{Node, file, dir, link, device, node_at, file_bytes, IsFile, content}
use Rattle.dt_tree.specs.declared.meta.Meta.{Meta}
use Rattle.dt_tree.specs.FileTree.{Attributes, FileTree, IsTree}
use Rattle.dt_tree.specs.Meta.{meta_of, node_size, nlink_of}
use Rattle.dt_tree.specs.Listing.{type_of}

-- the size of a file, as it is told
pub sized : (t : FileTree) (n : ℕ) (meta : Meta) → IsFile t.shape n → meta_of t n ≡ Some meta → meta.size ≡ length (content t.shape n)
unfolding content
sized t n meta is told = by_node (node_at t.shape n) (get t.attributes n) is told
  where
    by_node : (found : Option Node) (a : Option Attributes) → IsSome (option_and_then file_bytes found) → option_and_then (λ node. option_map (λ a. record {
      kind = type_of node;
      mode = a.mode;
      nlink = nlink_of t.shape n;
      size = node_size node;
      stamp = a.stamp;
    }) a) found ≡ Some meta → meta.size ≡ length (unwrap_or (option_and_then file_bytes found) [])
    by_node None a is told = cc
    by_node (Some (file bytes)) None is told = cc
    by_node (Some (file bytes)) (Some a) is told = cc
    by_node (Some (dir names)) a is told = cc
    by_node (Some (link target)) a is told = cc
    by_node (Some (device which)) a is told = cc

-- a file of a tree is within the limit
pub within : (t : FileTree) (n : ℕ) → IsTree t → length (content t.shape n) ≤ FILE_LIMIT
unfolding content
within t n tree = by_node (node_at t.shape n) (get t.attributes n) refl refl (tree.same n)
  where
    by_node : (found : Option Node) (a : Option Attributes) → node_at t.shape n ≡ found → get t.attributes n ≡ a → is_some a ≡ is_some found → length (unwrap_or (option_and_then file_bytes found) []) ≤ FILE_LIMIT
    by_node None a at kept same = omega arith
    by_node (Some (file bytes)) None at kept same = cc
    by_node (Some (file bytes)) (Some a) at kept same =
        let few = (tree.good n (file bytes) a at kept).0 in
        let most = file_limit-most t.version in
        omega arith
    by_node (Some (dir names)) a at kept same = omega arith
    by_node (Some (link target)) a at kept same = omega arith
    by_node (Some (device which)) a at kept same = omega arith

module _ (bytes buffer new : List ℕ) (from most size n : ℕ) (sized : size ≡ length bytes) (long : length buffer ≡ min (size - from) most) (count : n ≡ min (length buffer) (length bytes - from)) (is : new ≡ take n (drop from bytes) ++ drop n buffer) where
  left : length (drop from bytes) ≡ length bytes - from
  left = length-drop from bytes

  -- the buffer is as long as what is left, or as what was asked for
  part-is : new ≡ take most (drop from bytes)
  part-is =
      let rest : drop n buffer ≡ [] = drop_all n buffer (omega (arith, sized, long, count)) in
      let all : n ≡ min most (length (drop from bytes)) = omega (arith, sized, long, count, left) in
      is ∙ ap (λ back. take n (drop from bytes) ++ back) rest ∙ append-nil _ ∙ ap (λ k. take k (drop from bytes)) all ∙ take_min most (drop from bytes)

  part-length : length new ≡ length buffer
  part-length =
      let all : length buffer ≡ min most (length (drop from bytes)) = omega (arith, sized, long, left) in
      let within = length-take-le (min most (length (drop from bytes))) (drop from bytes) (omega arith) in
      ap length (part-is ∙ sym (take_min most (drop from bytes))) ∙ within ∙ sym all

  -- and so it is the part, whatever stood behind it
  pub part-came : (len : ℕ) (behind : List ℕ) → len ≡ length buffer → take len (new ++ behind) ≡ take most (drop from bytes)
  part-came len behind same = take_at new behind len (part-length ∙ sym same) ∙ part-is
