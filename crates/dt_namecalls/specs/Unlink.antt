-- The call that takes a name away: unlinkat(2), which is unlink(2), and rmdir(2) with AT_REMOVEDIR.
use Rattle.std.specs.Prelude.{ℕ, Bool, true, false, not, List, Option, None, Some, if◌then◌else◌}
use Rattle.dt_base.specs.Abi.{has_flag, low_word}
use Rattle.dt_base.specs.declared.abi.TheConstants.{AT_REMOVEDIR}
use Rattle.dt_base.specs.declared.errno.Errno.{Errno}
use Rattle.dt_base.specs.declared.errno.Errno.TheVariants.{Busy, NotDir, IsDir, Inval, NotEmpty}
use Rattle.dt_host.specs.World.{Forest}
use Rattle.dt_tree.specs.Calls.{drop_name_of}
use Rattle.dt_tree.specs.Shape.{is_dir, is_bare}
use Rattle.dt_walk.specs.declared.place.Place.{Place}
use Rattle.dt_walk.specs.Placed.{is_dot, is_dot_dot, is_special}
use Rattle.dt_callbase.specs.declared.places.LastLink.TheVariants.{Keep}
use Rattle.dt_callbase.specs.Arguments.{argument, has_only}
use Rattle.dt_callbase.specs.Places.{place_at, on_place, on_node}
use Rattle.dt_callbase.specs.Scene.{Scene, Reply, refused_reply, unless_refused, stamp, tree_call_reply}

-- why `.`, `..` or the empty name, which no entry can have, can't go
abbrev pub special_refusal : Bool → List ℕ → Errno
special_refusal false name = IsDir
special_refusal true name = if is_dot name then Inval else if is_dot_dot name then NotEmpty else Busy

-- why a node can't lose a name, if so. Where a directory is to be removed: ENOTDIR for another node, ENOTEMPTY for one that
-- has entries; else EISDIR for a directory
abbrev pub node_refusal : Forest → Bool → ℕ → Option Errno
node_refusal v false n = if is_dir v n then Some IsDir else None
node_refusal v true n = if not (is_dir v n) then Some NotDir else if not (is_bare v n) then Some NotEmpty else None

-- the name at a place goes
abbrev pub drop_name_reply : Place → Scene → Reply
drop_name_reply place s = tree_call_reply s (drop_name_of s.tree place.parent place.name (stamp s))

-- a node loses its name
abbrev pub drop_node_reply : Bool → Place → ℕ → Scene → Reply
drop_node_reply removes_dir place n s =
    unless_refused s (node_refusal s.tree.shape removes_dir n) (drop_name_reply place s)

-- what stands at a place loses its name: ENOENT where it is missing
abbrev pub unlink_reply : Bool → Place → Scene → Reply
unlink_reply removes_dir place s =
    if is_special place.name then refused_reply s (special_refusal removes_dir place.name)
    else on_node s place.node (λ n. drop_node_reply removes_dir place n s)

-- takes away the name that a path ends in, with AT_REMOVEDIR that of a directory (unlinkat(2))
unfoldable pub unlinkat_row : List ℕ → Scene → Reply
unlinkat_row args s =
    if not (has_only (low_word (argument args 2)) AT_REMOVEDIR) then refused_reply s Inval
    else on_place s (place_at s (argument args 0) (argument args 1) Keep)
    (λ place. unlink_reply (has_flag (low_word (argument args 2)) AT_REMOVEDIR) place s)
