-- The call that moves a name: renameat2(2).
use Rattle.std.specs.Prelude.{ℕ, Bool, not, ◌&&◌, List, Option, None, Some, is_some, if◌then◌else◌}
use Rattle.dt_base.specs.Abi.{has_flag, low_word}
use Rattle.dt_base.specs.declared.abi.TheConstants.{RENAME_NOREPLACE}
use Rattle.dt_base.specs.declared.errno.Errno.{Errno}
use Rattle.dt_base.specs.declared.errno.Errno.TheVariants.{Busy, Exist, NotDir, IsDir, Inval, NotEmpty}
use Rattle.dt_host.specs.World.{Forest}
use Rattle.dt_tree.specs.Above.{is_below, is_this}
use Rattle.dt_tree.specs.Calls.{move_name_of}
use Rattle.dt_tree.specs.Shape.{is_dir, is_bare}
use Rattle.dt_walk.specs.declared.place.Place.{Place}
use Rattle.dt_walk.specs.Placed.{is_special}
use Rattle.dt_callbase.specs.declared.places.LastLink.TheVariants.{Keep}
use Rattle.dt_callbase.specs.Arguments.{argument, has_only}
use Rattle.dt_callbase.specs.Places.{place_at, on_place, on_node}
use Rattle.dt_callbase.specs.Scene.{Scene, Reply, value_reply, refused_reply, unless_refused, stamp, tree_call_reply}

-- why a node can't replace another, if so: ENOTDIR for a directory in the place of another node, EISDIR for the reverse,
-- ENOTEMPTY in the place of a directory that has entries
abbrev pub replace_refusal : Forest → ℕ → ℕ → Option Errno
replace_refusal v n replaced =
    if is_dir v n && not (is_dir v replaced) then Some NotDir
    else if not (is_dir v n) && is_dir v replaced then Some IsDir
    else if is_dir v replaced && not (is_bare v replaced) then Some NotEmpty
    else None

-- why a node can't have its name at a place, if so: without a node there, ENOTDIR where the path ends in a slash and the
-- node is no directory
abbrev pub arrive_refusal : Forest → ℕ → Place → Option ℕ → Option Errno
arrive_refusal v n to (Some replaced) = replace_refusal v n replaced
arrive_refusal v n to None = if to.slash && not (is_dir v n) then Some NotDir else None

-- a name moves from one place to another, if the tree lets it
abbrev pub move_name_reply : Place → Place → Scene → Reply
move_name_reply from to s = tree_call_reply s (move_name_of s.tree from.parent from.name to.parent to.name (stamp s))

-- the name of a node moves: EINVAL where a directory would go into itself or below
abbrev pub move_node_reply : Place → ℕ → Place → Scene → Reply
move_node_reply from n to s =
    if is_below s.tree.shape to.parent n then refused_reply s Inval
    else unless_refused s (arrive_refusal s.tree.shape n to to.node) (move_name_reply from to s)

-- why a place can't have a new name, if so: for a name that no entry can have EEXIST where nothing may be replaced, else EBUSY;
-- then EEXIST where nothing may be replaced and something is there
abbrev pub target_refusal : (noreplace : Bool) → Place → Option Errno
target_refusal noreplace to =
    if is_special to.name then Some (if noreplace then Exist else Busy)
    else if noreplace && is_some to.node then Some Exist
    else None

-- the name of a node moves to a place; where that is a name of the node too, nothing is done
abbrev pub move_to_place_reply : (noreplace : Bool) → Place → ℕ → Place → Scene → Reply
move_to_place_reply noreplace from n to s = unless_refused s (target_refusal noreplace to)
    (if is_this n to.node then value_reply s 0 else move_node_reply from n to s)

-- the name of a node moves to the place of the path at an address
abbrev pub move_to_path_reply : (noreplace : Bool) → ℕ → ℕ → Place → ℕ → Scene → Reply
move_to_path_reply noreplace dirfd address from n s =
    on_place s (place_at s dirfd address Keep) (λ to. move_to_place_reply noreplace from n to s)

-- renameat2(2): EBUSY where the old path's last name is one that no entry can have, ENOENT where nothing is there; both before
-- the new path is read
unfoldable pub renameat2_row : List ℕ → Scene → Reply
renameat2_row args s =
    if not (has_only (low_word (argument args 4)) RENAME_NOREPLACE) then refused_reply s Inval
    else on_place s (place_at s (argument args 0) (argument args 1) Keep)
    (λ from. if is_special from.name then refused_reply s Busy else on_node s from.node
    (λ n. move_to_path_reply (has_flag (low_word (argument args 4)) RENAME_NOREPLACE) (argument args 2) (argument args 3) from n s))
