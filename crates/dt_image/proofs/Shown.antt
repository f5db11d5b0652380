-- The line of a node, by what is told of it.
use Rattle.std.proofs.Common.{◌≡◌, ℕ, false, List, [], length, Option, Some, None, is_some, refl, sym, ap, ◌∙◌}
use Rattle.std.specs.Prelude.{IsSome, option_map, option_and_then, unwrap_or}
use Rattle.std.specs.FinMap.{get}
use Rattle.dt_host.specs.World.{Node, file, dir, link, device, node_at, file_bytes, dir_names, link_target, content, IsFile, node_device, device_at}
use Rattle.dt_tree.specs.declared.meta.Meta.{Meta}
use Rattle.dt_tree.specs.FileTree.{Attributes, FileTree}
use Rattle.dt_tree.specs.Listing.{type_of}
use Rattle.dt_tree.specs.Meta.{node_size, nlink_of, meta_of}
use Rattle.dt_tree.specs.Shape.{is_dir, is_link, is_device}
use Rattle.dt_image.specs.Report.{file_line, dev_line, line_of, path_line}
use Rattle.dt_base.specs.declared.image.Device.{Device}

same_meta : (a b : Meta) → Some a ≡ Some b → a ≡ b
same_meta a b e = cc

-- what is told of what may be there
abbrev told : ℕ → Option Node → Option Attributes → Option Meta
told links found attributes = option_and_then (λ node. option_map (λ a. record { kind = type_of node; mode = a.mode; nlink = links; size = node_size node; stamp = a.stamp }) attributes) found

file_by : (links : ℕ) (at : List ℕ × ℕ) (found : Option Node) (attributes : Option Attributes) (meta : Meta) → told links found attributes ≡ Some meta → is_some (option_and_then dir_names found) ≡ false → is_some (option_and_then link_target found) ≡ false → is_some (option_and_then node_device found) ≡ false
    → (IsSome (option_and_then file_bytes found)) × (meta.size ≡ length (unwrap_or (option_and_then file_bytes found) [])) × (line_of at found attributes ≡ file_line at.1 meta.mode meta.stamp at.0 (unwrap_or (option_and_then file_bytes found) []))
file_by links at None attributes meta e no_dir no_link no_device = absurd (cc)
file_by links at (Some node) None meta e no_dir no_link no_device = absurd (cc)
file_by links at (Some (dir names)) (Some a) meta e no_dir no_link no_device = absurd (cc)
file_by links at (Some (link target)) (Some a) meta e no_dir no_link no_device = absurd (cc)
file_by links at (Some (device which)) (Some a) meta e no_dir no_link no_device = absurd (cc)
file_by links at (Some (file bytes)) (Some a) meta e no_dir no_link no_device = (
  refl,
  sym (ap (λ m. m.size) (same_meta _ meta e)),
  ap (λ mode. file_line at.1 mode a.stamp at.0 bytes) (ap (λ m. m.mode) (same_meta _ meta e))
      ∙ ap (λ stamp. file_line at.1 meta.mode stamp at.0 bytes) (ap (λ m. m.stamp) (same_meta _ meta e)),
)

device_by : (links : ℕ) (at : List ℕ × ℕ) (found : Option Node) (attributes : Option Attributes) (meta : Meta) → told links found attributes ≡ Some meta → (which : Device) → option_and_then node_device found ≡ Some which
    → line_of at found attributes ≡ dev_line at.1 meta.mode meta.stamp which at.0
device_by links at None attributes meta e which is = absurd (cc)
device_by links at (Some node) None meta e which is = absurd (cc)
device_by links at (Some (file bytes)) (Some a) meta e which is = absurd (cc)
device_by links at (Some (dir names)) (Some a) meta e which is = absurd (cc)
device_by links at (Some (link target)) (Some a) meta e which is = absurd (cc)
device_by links at (Some (device other)) (Some a) meta e which is =
    let same : other ≡ which = cc in
    ap (λ mode. dev_line at.1 mode a.stamp other at.0) (ap (λ m. m.mode) (same_meta _ meta e))
    ∙ ap (λ stamp. dev_line at.1 meta.mode stamp other at.0) (ap (λ m. m.stamp) (same_meta _ meta e))
    ∙ ap (λ which. dev_line at.1 meta.mode meta.stamp which at.0) same

module _ (t : FileTree) (at : List ℕ × ℕ) (meta : Meta) (e : meta_of t at.1 ≡ Some meta) where
  pub line_of_file : is_dir t.shape at.1 ≡ false → is_link t.shape at.1 ≡ false → is_device t.shape at.1 ≡ false → IsFile t.shape at.1 × (meta.size ≡ length (content t.shape at.1)) × (path_line t at ≡ file_line at.1 meta.mode meta.stamp at.0 (content t.shape at.1))
  unfolding content
  line_of_file no_dir no_link no_device = file_by (nlink_of t.shape at.1) at (node_at t.shape at.1) (get t.attributes at.1) meta e no_dir no_link no_device

  pub line_of_device : (which : Device) → device_at t.shape at.1 ≡ Some which → path_line t at ≡ dev_line at.1 meta.mode meta.stamp which at.0
  line_of_device which is = device_by (nlink_of t.shape at.1) at (node_at t.shape at.1) (get t.attributes at.1) meta e which is
