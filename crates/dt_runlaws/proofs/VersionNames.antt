-- Each call on names leaves the version that the file tree keeps, and the standard input.
use Rattle.std.proofs.Common.{ℕ, List, Bool}
use Rattle.std.specs.Prelude.{Option, None, Some}
use Rattle.dt_base.specs.declared.image.What.{What}
use Rattle.dt_tree.specs.Calls.{make_node_of, add_name_of, drop_name_of, move_name_of}
use Rattle.dt_walk.specs.declared.place.Place.{Place}
use Rattle.dt_callbase.specs.Scene.{Scene, stamp}
use Rattle.dt_namecalls.specs.Calls.{name_row}
use Rattle.dt_namecalls.specs.Names as names
use Rattle.dt_namecalls.specs.Rename as rename
use Rattle.dt_namecalls.specs.Unlink as unlink
use Rattle.dt_runlaws.proofs.VersionReplies.{kept_rows, Kept, tree-kept}
use Rattle.dt_runlaws.proofs.VersionTrees.{make-version, add_name-version, drop_name-version, move_name-version}

make_node-kept : (what : What) (mode : ℕ) (place : Place) (s : Scene) → Kept s (names.make_node_reply what mode place s)
make_node-kept what mode place s = tree-kept s (make_node_of s.tree place.parent place.name what mode (stamp s)) (make-version s.tree place.parent place.name what mode (stamp s))

make-kept : (s : Scene) (what : What) (mode : ℕ) (place : Place) (found : Option ℕ) → Kept s (names.make_reply s what mode place found)
make-kept s what mode place (Some n) = search kept_rows
make-kept s what mode place None = make_node-kept what mode place s

mkdir-kept : (args : List ℕ) (s : Scene) → Kept s (names.mkdirat_row args s)
unfolding names.mkdirat_row
mkdir-kept args s = search (kept_rows, make-kept)

symlink-kept : (args : List ℕ) (s : Scene) → Kept s (names.symlinkat_row args s)
unfolding names.symlinkat_row
symlink-kept args s = search (kept_rows, make_node-kept)

add-kept : (place : Place) (n : ℕ) (s : Scene) → Kept s (names.add_name_reply place n s)
add-kept place n s = tree-kept s (add_name_of s.tree place.parent place.name n (stamp s)) (add_name-version s.tree place.parent place.name n (stamp s))

link_at-kept : (dirfd address n : ℕ) (s : Scene) → Kept s (names.link_reply dirfd address n s)
link_at-kept dirfd address n s = search (kept_rows, add-kept)

link-kept : (args : List ℕ) (s : Scene) → Kept s (names.linkat_row args s)
unfolding names.linkat_row
link-kept args s = search (kept_rows, link_at-kept)

move_name-kept : (from to : Place) (s : Scene) → Kept s (rename.move_name_reply from to s)
move_name-kept from to s = tree-kept s (move_name_of s.tree from.parent from.name to.parent to.name (stamp s)) (move_name-version s.tree from.parent from.name to.parent to.name (stamp s))

move-kept : (noreplace : Bool) (from to : Place) (n : ℕ) (s : Scene) → Kept s (rename.move_to_place_reply noreplace from n to s)
move-kept noreplace from to n s = search (kept_rows, move_name-kept)

rename-kept : (args : List ℕ) (s : Scene) → Kept s (rename.renameat2_row args s)
unfolding rename.renameat2_row
rename-kept args s = search (kept_rows, move-kept) depth 12

drop_name-kept : (place : Place) (s : Scene) → Kept s (unlink.drop_name_reply place s)
drop_name-kept place s = tree-kept s (drop_name_of s.tree place.parent place.name (stamp s)) (drop_name-version s.tree place.parent place.name (stamp s))

drop-kept : (removes_dir : Bool) (place : Place) (n : ℕ) (s : Scene) → Kept s (unlink.drop_node_reply removes_dir place n s)
drop-kept removes_dir place n s = search (kept_rows, drop_name-kept)

unlink-kept : (args : List ℕ) (s : Scene) → Kept s (unlink.unlinkat_row args s)
unfolding unlink.unlinkat_row
unlink-kept args s = search (kept_rows, drop-kept)

-- a call on names
pub name-kept : (number : ℕ) (args : List ℕ) (s : Scene) → Kept s (name_row number args s)
unfolding name_row
name-kept number args s = search (kept_rows, mkdir-kept, unlink-kept, symlink-kept, link-kept, rename-kept) depth 12
