-- What an open descriptor refers to is in the tree.
use Rattle.std.proofs.Common.{◌≡◌, ℕ, Option, Some, None, refl, sym, subst, ◌∙◌, ap}
use Rattle.std.specs.Prelude.{IfSome, option_and_then}
use Rattle.std.specs.FinMap.{get}
use Rattle.dt_fds.specs.declared.desc.Desc.{Desc}
use Rattle.dt_fds.specs.declared.desc.DescKind.TheVariants.{File, Dir}
use Rattle.dt_fds.specs.declared.desc.Slot.{Slot}
use Rattle.dt_fds.specs.Descriptions.{Descriptions, slot_description, slot_at, description_at}
use Rattle.dt_fds.specs.Backs.{IsIn, AllIn}
use Rattle.dt_fds.proofs.Backing.{live-in}
use Rattle.dt_host.specs.World.{Forest, IsFile, IsDir, IsLive}

-- what a description is of is there
pub described_in : (v : Forest) (f : Descriptions) (p fd : ℕ) (desc : Desc) → AllIn v f → Some desc ≡ description_at f p fd → IsIn v desc.kind
unfolding description_at
described_in v f p fd desc all is = by_slot (slot_at f p fd) refl
  where
    by_desc : (slot : Slot) (found : Option Desc) → get f.descs slot.number ≡ found → IfSome found (λ d. IsIn v d.kind) → found ≡ Some desc → IsIn v desc.kind
    by_desc slot None at there same = cc
    by_desc slot (Some d) at there same = let e : d ≡ desc = cc in subst (λ x. IsIn v x.kind) e there

    by_slot : (found : Option Slot) → slot_at f p fd ≡ found → IsIn v desc.kind
    by_slot None e = let none : Some desc ≡ None = is ∙ ap (λ s. option_and_then (slot_description f) s) e in cc
    by_slot (Some slot) e = by_desc slot (get f.descs slot.number) refl (all slot.number) (sym (is ∙ ap (λ s. option_and_then (slot_description f) s) e))

pub described_file : (v : Forest) (f : Descriptions) (p fd : ℕ) (desc : Desc) (n : ℕ) → AllIn v f → Some desc ≡ description_at f p fd → desc.kind ≡ File n → IsFile v n
described_file v f p fd desc n all is kind = subst (IsIn v) kind (described_in v f p fd desc all is)

pub described_dir : (v : Forest) (f : Descriptions) (p fd : ℕ) (desc : Desc) (n : ℕ) → AllIn v f → Some desc ≡ description_at f p fd → desc.kind ≡ Dir n → IsDir v n
described_dir v f p fd desc n all is kind = subst (IsIn v) kind (described_in v f p fd desc all is)

pub file_live : (v : Forest) (f : Descriptions) (p fd : ℕ) (desc : Desc) (n : ℕ) → AllIn v f → Some desc ≡ description_at f p fd → desc.kind ≡ File n → IsLive v n
file_live v f p fd desc n all is kind = live-in v (File n) (described_file v f p fd desc n all is kind)

pub dir_live : (v : Forest) (f : Descriptions) (p fd : ℕ) (desc : Desc) (n : ℕ) → AllIn v f → Some desc ≡ description_at f p fd → desc.kind ≡ Dir n → IsLive v n
dir_live v f p fd desc n all is kind = live-in v (Dir n) (described_dir v f p fd desc n all is kind)

pub ruleset is_there = (described_file, described_dir, file_live, dir_live)
