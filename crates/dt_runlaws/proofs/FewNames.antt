-- No call on names answers bytes that go out.
use Rattle.std.proofs.Common.{ℕ, List, Bool}
use Rattle.std.specs.Prelude.{Option, None, Some}
use Rattle.dt_base.specs.declared.image.What.{What}
use Rattle.dt_walk.specs.declared.place.Place.{Place}
use Rattle.dt_callbase.specs.Scene.{Scene}
use Rattle.dt_namecalls.specs.Calls.{name_row}
use Rattle.dt_namecalls.specs.Names as names
use Rattle.dt_namecalls.specs.Rename as rename
use Rattle.dt_namecalls.specs.Unlink as unlink
use Rattle.dt_runlaws.proofs.FewReplies.{short_rows, Short}

make-short : (s : Scene) (what : What) (mode : ℕ) (place : Place) (found : Option ℕ) → Short (names.make_reply s what mode place found)
make-short s what mode place (Some n) = search short_rows
make-short s what mode place None = search short_rows

mkdir-short : (args : List ℕ) (s : Scene) → Short (names.mkdirat_row args s)
unfolding names.mkdirat_row
mkdir-short args s = search (short_rows, make-short)

symlink-short : (args : List ℕ) (s : Scene) → Short (names.symlinkat_row args s)
unfolding names.symlinkat_row
symlink-short args s = search short_rows

link_at-short : (dirfd address n : ℕ) (s : Scene) → Short (names.link_reply dirfd address n s)
link_at-short dirfd address n s = search short_rows

link-short : (args : List ℕ) (s : Scene) → Short (names.linkat_row args s)
unfolding names.linkat_row
link-short args s = search (short_rows, link_at-short)

move-short : (noreplace : Bool) (from to : Place) (n : ℕ) (s : Scene) → Short (rename.move_to_place_reply noreplace from n to s)
move-short noreplace from to n s = search short_rows

rename-short : (args : List ℕ) (s : Scene) → Short (rename.renameat2_row args s)
unfolding rename.renameat2_row
rename-short args s = search (short_rows, move-short) depth 12

drop-short : (removes_dir : Bool) (place : Place) (n : ℕ) (s : Scene) → Short (unlink.drop_node_reply removes_dir place n s)
drop-short removes_dir place n s = search short_rows

unlink-short : (args : List ℕ) (s : Scene) → Short (unlink.unlinkat_row args s)
unfolding unlink.unlinkat_row
unlink-short args s = search (short_rows, drop-short)

-- a call on names
pub name-short : (number : ℕ) (args : List ℕ) (s : Scene) → Short (name_row number args s)
unfolding name_row
name-short number args s = search (short_rows, mkdir-short, unlink-short, symlink-short, link-short, rename-short) depth 12
