-- What the tests of a node tell of its kind, and what a name tells.
use Rattle.std.proofs.Common.{◌≡◌, ℕ, true, false, List, Option, Some, None, refl}
use Rattle.std.specs.Prelude.{IsSome, is_some, option_and_then}
use Rattle.dt_host.specs.World.{Forest, Node, file, dir, link, device, node_at, file_bytes, dir_names, link_target, node_device, dir_at, target_at, device_at, entry, IsDir, IsFile, IsLink, IsDevice, IsLive}
use Rattle.dt_tree.specs.Shape.{is_dir, is_link, is_device}
use Rattle.dt_tree.specs.Table.{Table, Stands, shape_of}
use Rattle.dt_tree.proofs.Namings.{named}

some_if : {X : Type 0} (found : Option X) → is_some found ≡ true → IsSome found
some_if None is = cc
some_if (Some x) is = refl

-- a directory, a link or a device, by the test
pub is_dir-true : (v : Forest) (n : ℕ) → is_dir v n ≡ true → IsDir v n
is_dir-true v n is = some_if (dir_at v n) is

pub is_link-true : (v : Forest) (n : ℕ) → is_link v n ≡ true → IsLink v n
is_link-true v n is = some_if (target_at v n) is

pub is_device-true : (v : Forest) (n : ℕ) → is_device v n ≡ true → IsDevice v n
is_device-true v n is = some_if (device_at v n) is

-- what is there and neither a directory nor a link nor a device is a file
pub is_file : (v : Forest) (n : ℕ) → IsLive v n → is_dir v n ≡ false → is_link v n ≡ false → is_device v n ≡ false → IsFile v n
is_file v n there no_dir no_link no_device = by_node (node_at v n) there no_dir no_link no_device
  where
    by_node : (found : Option Node) → IsSome found → is_some (option_and_then dir_names found) ≡ false → is_some (option_and_then link_target found) ≡ false → is_some (option_and_then node_device found) ≡ false → IsSome (option_and_then file_bytes found)
    by_node None there no_dir no_link no_device = cc
    by_node (Some (file bytes)) there no_dir no_link no_device = refl
    by_node (Some (dir names)) there no_dir no_link no_device = cc
    by_node (Some (link target)) there no_dir no_link no_device = cc
    by_node (Some (device which)) there no_dir no_link no_device = cc

-- what is named is there
pub live : (t : Table) (v : Forest) → Stands t v → (d n : ℕ) (name : List ℕ) → entry (shape_of t v) d name ≡ Some n → IsLive (shape_of t v) n
live t v stands d n name e = stands.tree.shaped.named n (named (shape_of t v) d n name e)
