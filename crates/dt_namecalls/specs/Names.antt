-- The calls that make and add names: mkdirat(2), symlinkat(2), linkat(2).
use Rattle.std.specs.Prelude.{ℕ, not, List, Option, None, Some, is_some, bit_and, if◌then◌else◌}
use Rattle.dt_base.specs.Abi.{has_flag, low_word}
use Rattle.dt_base.specs.declared.abi.TheConstants.{AT_SYMLINK_FOLLOW}
use Rattle.dt_base.specs.declared.caller.Caller.{Caller}
use Rattle.dt_base.specs.declared.errno.Errno.{Errno}
use Rattle.dt_base.specs.declared.errno.Errno.TheVariants.{Exist, Inval, NoEnt, Perm}
use Rattle.dt_base.specs.declared.image.What.{What}
use Rattle.dt_base.specs.declared.image.What.TheVariants.{Dir, Link}
use Rattle.dt_base.specs.declared.limits.TheConstants.{LINK_MODE}
use Rattle.dt_tree.specs.Calls.{make_node_of, add_name_of}
use Rattle.dt_tree.specs.Shape.{is_dir}
use Rattle.dt_walk.specs.declared.place.Place.{Place}
use Rattle.dt_namecalls.specs.declared.names.TheConstants.{DIR_MODES}
use Rattle.dt_callbase.specs.declared.places.LastLink.{LastLink}
use Rattle.dt_callbase.specs.declared.places.LastLink.TheVariants.{Follow, Keep, KeepWithoutSlash}
use Rattle.dt_callbase.specs.Arguments.{argument, has_only}
use Rattle.dt_callbase.specs.Modes.{masked_mode}
use Rattle.dt_callbase.specs.Places.{place_at, on_place, on_path}
use Rattle.dt_callbase.specs.Scene.{Scene, Reply, refused_reply, unless_refused, on_text, stamp, tree_call_reply}
use Rattle.dt_space.specs.Argument.{path_argument}

-- a node is made at a place, with this mode
abbrev pub make_node_reply : What → ℕ → Place → Scene → Reply
make_node_reply what mode place s = tree_call_reply s (make_node_of s.tree place.parent place.name what mode (stamp s))

-- the same where something may be: then EEXIST
abbrev pub make_reply : Scene → What → ℕ → Place → Option ℕ → Reply
make_reply s what mode place (Some n) = refused_reply s Exist
make_reply s what mode place None = make_node_reply what mode place s

-- the mode of a new directory
abbrev pub dir_mode : ℕ → Caller → ℕ
dir_mode mode caller = masked_mode (bit_and (low_word mode) DIR_MODES) caller.umask

-- makes a directory at the place of a path; EEXIST where something is there (mkdirat(2))
unfoldable pub mkdirat_row : List ℕ → Scene → Reply
mkdirat_row args s = on_place s (place_at s (argument args 0) (argument args 1) Keep)
    (λ place. make_reply s Dir (dir_mode (argument args 2) s.caller) place place.node)

-- why a node that is no directory can't have its name at a place: EEXIST where something is there, ENOENT where the path
-- ends in a slash
abbrev pub new_refusal : Place → Option Errno
new_refusal place = if is_some place.node then Some Exist else if place.slash then Some NoEnt else None

-- a link with this target is made at the place of the path at an address
abbrev pub make_link_reply : ℕ → ℕ → List ℕ → Scene → Reply
make_link_reply dirfd address target s = on_place s (place_at s dirfd address Keep)
    (λ place. unless_refused s (new_refusal place) (make_node_reply (Link target) LINK_MODE place s))

-- symlinkat(2): the target is read before the path
unfoldable pub symlinkat_row : List ℕ → Scene → Reply
symlinkat_row args s = on_text s (path_argument s.space (argument args 0))
    (λ target. make_link_reply (argument args 1) (argument args 2) target s)

-- a node gets the name of a place
abbrev pub add_name_reply : Place → ℕ → Scene → Reply
add_name_reply place n s = tree_call_reply s (add_name_of s.tree place.parent place.name n (stamp s))

-- a node gets one name more, at the place of the path at an address: EPERM where it is a directory
abbrev pub link_reply : ℕ → ℕ → ℕ → Scene → Reply
link_reply dirfd address n s = on_place s (place_at s dirfd address Keep)
    (λ place. unless_refused s (new_refusal place)
    (if is_dir s.tree.shape n then refused_reply s Perm else add_name_reply place n s))

-- whether a link that is the last name of the old path is followed
abbrev pub old_rule : ℕ → LastLink
old_rule flags = if has_flag flags AT_SYMLINK_FOLLOW then Follow else KeepWithoutSlash

-- linkat(2): the old path is looked up before the new one is read
unfoldable pub linkat_row : List ℕ → Scene → Reply
linkat_row args s =
    if not (has_only (low_word (argument args 4)) AT_SYMLINK_FOLLOW) then refused_reply s Inval
    else on_path s (argument args 0) (argument args 1) (old_rule (low_word (argument args 4)))
    (λ n. link_reply (argument args 2) (argument args 3) n s)
