-- What is known of a place once a call has checked its name.
use Rattle.std.specs.Prelude.{◌≡◌, IsTrue}
use Rattle.dt_host.specs.World.{Forest, IsDir, entry}
use Rattle.dt_tree.specs.FileTree.{is_entry_name}
use Rattle.dt_walk.specs.declared.place.Place.{Place}

-- a place under a name that an entry may have: its node is the entry's, if there is one
pub record IsNameIn (v : Forest) (place : Place) : Type 0 where
  pub is_dir : IsDir v place.parent
  pub good : IsTrue (is_entry_name place.name)
  pub found : entry v place.parent place.name ≡ place.node
