-- What follows from the definitions.
use Rattle.std.specs.Prelude.{◌≡◌, ℕ, ◌≤◌, List, Option, Some, IsTrue, Contains}
use Rattle.dt_base.specs.declared.event.End.{End}
use Rattle.dt_procs.specs.declared.member.Member.{Member}
use Rattle.dt_procs.specs.declared.member.Reaped.TheVariants.{Got}
use Rattle.dt_procs.specs.Members.{is_ready, look_for}
use Rattle.dt_procs.specs.Table.{IsRising}

-- a zombie is there that is a child asked for, and no other such has a lower pid
pub record IsLowest (members : List Member) (parent : ℕ) (which : Option ℕ) (vpid : ℕ) (end : End) : Type 0 where
  pub zombie : Member
  pub there : Contains members zombie
  pub ready : IsTrue (is_ready parent which zombie)
  pub pid : zombie.vpid ≡ vpid
  pub ended : zombie.end ≡ Some end
  pub lowest : (m : Member) → Contains members m → IsTrue (is_ready parent which m) → vpid ≤ m.vpid

-- what wait(2) finds is the zombie of the lowest pid
abbrev pub WaitFindsTheLowest : Type 0
WaitFindsTheLowest =
    (members : List Member) (parent : ℕ) (which : Option ℕ) (vpid : ℕ) (end : End) → IsRising members
    → look_for members parent which ≡ Got vpid end → IsLowest members parent which vpid end
