-- What a place tells of the tree in which it was found.
use Rattle.std.specs.Prelude.{◌≡◌, Bool, false, ◌||◌, ℕ, List, None, IfSome, IsTrue, codes}
use Rattle.std.specs.Str.{bytes_eq}
use Rattle.dt_host.specs.World.{Forest, entry, IsDir, IsLive}
use Rattle.dt_tree.specs.FileTree.{is_entry_name}
use Rattle.dt_tree.specs.Shape.{is_link}
use Rattle.dt_walk.specs.declared.place.Place.{Place}
use Rattle.dt_walk.specs.declared.place.Last.{Last}
use Rattle.dt_walk.specs.declared.place.Last.TheVariants.{Follow}
use Rattle.dt_walk.specs.Walk.{is_nil}

-- the name is `.`
abbrev pub is_dot : List ℕ → Bool
is_dot name = bytes_eq name (codes ".")

-- the name is `..`
abbrev pub is_dot_dot : List ℕ → Bool
is_dot_dot name = bytes_eq name (codes "..")

-- a name that no entry can have: `.`, `..`, and the empty one of a path without names
abbrev pub is_special : List ℕ → Bool
is_special name = is_nil name || (is_dot name || is_dot_dot name)

-- its parent is a directory, and its node is there. Under a name that is not special the parent has that node,
-- or no entry where there is no node; a special name always has a node
pub record IsPlaceIn (v : Forest) (place : Place) : Type 0 where
  pub is_dir : IsDir v place.parent
  pub live : IfSome place.node (IsLive v)
  pub found : is_special place.name ≡ false → entry v place.parent place.name ≡ place.node
  pub missing : place.node ≡ None → is_special place.name ≡ false

-- a name that is not special is one that an entry may have
abbrev pub IsNamedWell : Place → Type 0
IsNamedWell place = is_special place.name ≡ false → IsTrue (is_entry_name place.name)

-- where links are followed to the end, what is found is no link
abbrev pub IsFollowed : Forest → Last → Place → Type 0
IsFollowed v last place = last ≡ Follow → IfSome place.node (λ n. is_link v n ≡ false)
