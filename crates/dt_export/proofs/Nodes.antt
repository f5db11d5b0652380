-- What is told of a node is what its entry has.
use Rattle.std.proofs.Common.{◌≡◌, ℕ, true, false, List, [], Option, Some, None, is_some, refl, sym, ap}
use Rattle.std.specs.Prelude.{IsSome, option_map, option_and_then, unwrap_or}
use Rattle.std.specs.FinMap.{get}
use Rattle.dt_base.specs.declared.image.What.TheVariants.{File, Dir, Link, Dev}
use Rattle.dt_host.specs.World.{Node, file, dir, link, device, node_at, target_at, file_bytes, dir_names, link_target, content, IsFile, IsLive, node_device, device_at}
use Rattle.dt_tree.specs.declared.meta.Meta.{Meta}
use Rattle.dt_tree.specs.FileTree.{Attributes, FileTree}
use Rattle.dt_tree.specs.Listing.{type_of}
use Rattle.dt_tree.specs.Meta.{node_size, nlink_of, meta_of}
use Rattle.dt_tree.specs.Shape.{is_dir, is_link, is_device}
use Rattle.dt_tree.specs.ImageTree.{what_of}
use Rattle.dt_export.specs.ExportedImage.{mode_at, what_at}
use Rattle.dt_base.specs.declared.image.Device.{Device}

-- what is told of what may be there
abbrev told : ℕ → Option Node → Option Attributes → Option Meta
told links found attributes = option_and_then (λ node. option_map (λ a. record { kind = type_of node; mode = a.mode; nlink = links; size = node_size node; stamp = a.stamp }) attributes) found

mode_of : (links : ℕ) (found : Option Node) (attributes : Option Attributes) (meta : Meta) → told links found attributes ≡ Some meta → meta.mode ≡ unwrap_or (option_map (λ a. a.mode) attributes) 0
mode_of links None attributes meta e = absurd (cc)
mode_of links (Some node) None meta e = absurd (cc)
mode_of links (Some node) (Some a) meta e = let same : record { kind = type_of node; mode = a.mode; nlink = links; size = node_size node; stamp = a.stamp } ≡ meta = cc in ap (λ (m : Meta). m.mode) (sym same)

of_dir : (found : Option Node) → is_some (option_and_then dir_names found) ≡ true → what_of (unwrap_or found (file [])) ≡ Dir
of_dir None is = absurd (cc)
of_dir (Some (file bytes)) is = absurd (cc)
of_dir (Some (dir names)) is = refl
of_dir (Some (link target)) is = absurd (cc)
of_dir (Some (device which)) is = absurd (cc)

of_link : (found : Option Node) (target : List ℕ) → option_and_then link_target found ≡ Some target → what_of (unwrap_or found (file [])) ≡ Link target
of_link None target is = absurd (cc)
of_link (Some (file bytes)) target is = absurd (cc)
of_link (Some (dir names)) target is = absurd (cc)
of_link (Some (link other)) target is = let same : other ≡ target = cc in ap Link same
of_link (Some (device which)) target is = absurd (cc)

of_device : (found : Option Node) (which : Device) → option_and_then node_device found ≡ Some which → what_of (unwrap_or found (file [])) ≡ Dev which
of_device None which is = absurd (cc)
of_device (Some (file bytes)) which is = absurd (cc)
of_device (Some (dir names)) which is = absurd (cc)
of_device (Some (link target)) which is = absurd (cc)
of_device (Some (device other)) which is = let same : other ≡ which = cc in ap Dev same

of_file : (found : Option Node) → is_some found ≡ true → is_some (option_and_then dir_names found) ≡ false → is_some (option_and_then link_target found) ≡ false → is_some (option_and_then node_device found) ≡ false
    → (IsSome (option_and_then file_bytes found)) × (what_of (unwrap_or found (file [])) ≡ File (unwrap_or (option_and_then file_bytes found) []))
of_file None there no_dir no_link no_device = absurd (cc)
of_file (Some (file bytes)) there no_dir no_link no_device = (refl, refl)
of_file (Some (dir names)) there no_dir no_link no_device = absurd (cc)
of_file (Some (link target)) there no_dir no_link no_device = absurd (cc)
of_file (Some (device which)) there no_dir no_link no_device = absurd (cc)

module _ (t : FileTree) (n : ℕ) where
  pub mode_told : (meta : Meta) → meta_of t n ≡ Some meta → meta.mode ≡ mode_at t n
  mode_told meta e = mode_of (nlink_of t.shape n) (node_at t.shape n) (get t.attributes n) meta e

  pub dir_told : is_dir t.shape n ≡ true → what_at t n ≡ Dir
  dir_told is = of_dir (node_at t.shape n) is

  pub link_told : (target : List ℕ) → target_at t.shape n ≡ Some target → what_at t n ≡ Link target
  link_told target is = of_link (node_at t.shape n) target is

  pub device_told : (which : Device) → device_at t.shape n ≡ Some which → what_at t n ≡ Dev which
  device_told which is = of_device (node_at t.shape n) which is

  pub file_told : IsLive t.shape n → is_dir t.shape n ≡ false → is_link t.shape n ≡ false → is_device t.shape n ≡ false → IsFile t.shape n × (what_at t n ≡ File (content t.shape n))
  unfolding content
  file_told there no_dir no_link no_device = of_file (node_at t.shape n) there no_dir no_link no_device
