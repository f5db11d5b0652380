-- What a place and the checks of a call tell of names that come, go and move.
use Rattle.std.proofs.Common.{◌≡◌, ℕ, Bool, true, false, ◌&&◌, Option, Some, None, is_some, not, refl, sym, subst, ◌∙◌, arith, if◌then◌else◌}
use Rattle.std.proofs.lemmas.Bool.Decides.{nat_tests}
use Rattle.std.specs.Prelude.{IfSome, IsSome}
use Rattle.dt_base.specs.declared.errno.Errno.TheVariants.{Exist, NoEnt, Busy, NotDir, IsDir as is_a_dir, NotEmpty}
use Rattle.dt_host.specs.World.{Forest, IsDir, IsLive, entry, dir_at}
use Rattle.dt_tree.specs.Above.{is_below, is_this}
use Rattle.dt_tree.specs.Calls.{IsNewName, MayAdd, MayDrop, MayMove}
use Rattle.dt_tree.specs.FileTree.{FileTree}
use Rattle.dt_tree.specs.Shape.{is_dir, is_bare}
use Rattle.dt_walk.specs.declared.place.Place.{Place}
use Rattle.dt_walk.specs.Placed.{IsPlaceIn, IsNamedWell, is_special}
use Rattle.dt_namecalls.specs.Names.{new_refusal}
use Rattle.dt_namecalls.specs.inner.Names.{IsNameIn}
use Rattle.dt_namecalls.specs.Rename.{target_refusal, arrive_refusal}
use Rattle.dt_namecalls.specs.Unlink.{node_refusal}

-- a name that is not special
pub name_in : (v : Forest) (place : Place) → IsPlaceIn v place → IsNamedWell place → is_special place.name ≡ false → IsNameIn v place
name_in v place is well named = record { is_dir = is.is_dir; good = well named; found = is.found named }

-- the same of a place for a name that moves
named_of : (noreplace special there : Bool) → (if special then Some (if noreplace then Exist else Busy) else if noreplace && there then Some Exist else None) ≡ None → special ≡ false
named_of noreplace false there none = refl
named_of noreplace true there none = cc

pub target_name : (v : Forest) (noreplace : Bool) (place : Place) → IsPlaceIn v place → IsNamedWell place → target_refusal noreplace place ≡ None → IsNameIn v place
target_name v noreplace place is well none =
    name_in v place is well (named_of noreplace (is_special place.name) (is_some place.node) none)

-- a new name has no node
missing_of : (node : Option ℕ) (slash : Bool) → (if is_some node then Some Exist else if slash then Some NoEnt else None) ≡ None → node ≡ None
missing_of None slash none = refl
missing_of (Some n) slash none = cc

pub new_name : (t : FileTree) (place : Place) → IsPlaceIn t.shape place → IsNamedWell place → new_refusal place ≡ None → IsNewName t place.parent place.name
new_name t place is well none =
    let missing = missing_of place.node place.slash none in
    let named = is.missing missing in
    record { is_dir = is.is_dir; free = is.found named ∙ missing; good = well named }

pub may_add : (t : FileTree) (place : Place) (n : ℕ) → IsPlaceIn t.shape place → IsNamedWell place → new_refusal place ≡ None → IsLive t.shape n → is_dir t.shape n ≡ false → MayAdd t place.parent place.name n
may_add t place n is well none live no_dir = record { new = new_name t place is well none; live = live; no_dir = no_dir }

-- a directory that may go is bare
bare_of : (v : Forest) (removes_dir : Bool) (n : ℕ) → node_refusal v removes_dir n ≡ None → IsDir v n → is_bare v n ≡ true
bare_of v false n none is = by_found (dir_at v n) none is
  where
    by_found : {X : Type 0} (found : Option X) → (if is_some found then Some is_a_dir else None) ≡ None → IsSome found → is_bare v n ≡ true
    by_found (Some x) none is = cc
    by_found None none is = cc
bare_of v true n none is = by_found (dir_at v n) (is_bare v n) none is
  where
    by_found : {X : Type 0} (found : Option X) (bare : Bool) → (if not (is_some found) then Some NotDir else if not bare then Some NotEmpty else None) ≡ None → IsSome found → bare ≡ true
    by_found found true none is = refl
    by_found (Some x) false none is = cc
    by_found None false none is = cc

pub may_drop : (v : Forest) (removes_dir : Bool) (place : Place) (n : ℕ) → IsNameIn v place → place.node ≡ Some n → node_refusal v removes_dir n ≡ None → MayDrop v place.parent place.name
may_drop v removes_dir place n is node none =
    let at : entry v place.parent place.name ≡ Some n = is.found ∙ node in
    record {
      is_dir = is.is_dir;
      there = λ _. subst IsSome (sym at) refl;
      bare = subst (λ found. IfSome found (λ m. IsDir v m → is_bare v m ≡ true)) (sym at) (bare_of v removes_dir n none);
    }

-- a directory that may be replaced is bare
replaced_of : (v : Forest) (n : ℕ) (to : Place) (node : Option ℕ) → arrive_refusal v n to node ≡ None → IfSome node (λ r. IsDir v r → is_bare v r ≡ true)
replaced_of v n to None none = tt
replaced_of v n to (Some r) none = λ is. by_found (is_dir v n) (is_dir v r) (is_bare v r) none is
  where
    by_found : (from to bare : Bool) → (if from && not to then Some NotDir else if not from && to then Some is_a_dir else if to && not bare then Some NotEmpty else None) ≡ None → to ≡ true → bare ≡ true
    by_found from to true none is = refl
    by_found true true false none is = cc
    by_found false true false none is = cc
    by_found from false false none is = cc

-- what is another node is not there under the same name
apart_of : (n : ℕ) (node : Option ℕ) → is_this n node ≡ false → node ≡ Some n → ⊥
apart_of n None other same = cc
apart_of n (Some x) other same = let e : x ≡ n = cc in grind (arith, nat_tests)

pub may_move : (v : Forest) (from : Place) (n : ℕ) (to : Place) → IsNameIn v from → from.node ≡ Some n → IsNameIn v to → is_this n to.node ≡ false → is_below v to.parent n ≡ false → arrive_refusal v n to to.node ≡ None → MayMove v from.parent from.name to.parent to.name
may_move v from n to old node new other below none =
    let at : entry v from.parent from.name ≡ Some n = old.found ∙ node in
    record {
      there = subst IsSome (sym at) refl;
      is_dir = new.is_dir;
      good = new.good;
      apart = λ same. apart_of n to.node other (sym new.found ∙ same ∙ at);
      outside = subst (λ found. IfSome found (λ m. IsDir v m → is_below v to.parent m ≡ false)) (sym at) (λ _. below);
      replaced = subst (λ found. IfSome found (λ r. IsDir v r → is_bare v r ≡ true)) (sym new.found) (replaced_of v n to to.node none);
    }
