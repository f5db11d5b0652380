-- What a descriptor refers to is in the tree, and the description of a file has an offset.
use Rattle.std.proofs.Common.{◌≡◌, ℕ, Option, None, Some, refl, subst}
use Rattle.std.specs.Prelude.{IfSome}
use Rattle.std.specs.Option.{option_and_then}
use Rattle.dt_fds.specs.declared.desc.Desc.{Desc}
use Rattle.dt_fds.specs.declared.desc.DescKind.TheVariants.{File, Dir}
use Rattle.dt_fds.specs.declared.desc.Slot.{Slot}
use Rattle.dt_fds.specs.declared.desc.Spot.TheVariants.{At}
use Rattle.dt_fds.specs.Backs.{IsIn, AllIn}
use Rattle.dt_fds.specs.Descriptions.{Descriptions, slot_description, slot_at, description_at, is_after, is_of_dir}
use Rattle.dt_host.specs.World.{Forest, IsFile, IsDir}
use Rattle.dt_callbase.proofs.Kept.{sound_nodes, others_nodes}

pub kind_in : (v : Forest) (f : Descriptions) (p fd : ℕ) (desc : Desc) → AllIn v f → description_at f p fd ≡ Some desc → IsIn v desc.kind
unfolding description_at
kind_in v f p fd desc all is = by-slot (slot_at f p fd) is
  where
    by-slot : (slot : Option Slot) → option_and_then (slot_description f) slot ≡ Some desc → IsIn v desc.kind
    by-slot None is = absurd cc
    by-slot (Some slot) is = subst (λ found. IfSome found (λ d. IsIn v d.kind)) is (all slot.number)

pub dir_in : (v : Forest) (f : Descriptions) (p fd n : ℕ) (desc : Desc) → AllIn v f → description_at f p fd ≡ Some desc → desc.kind ≡ Dir n → IsDir v n
dir_in v f p fd n desc all is kind = subst (IsIn v) kind (kind_in v f p fd desc all is)

pub file_in : (v : Forest) (f : Descriptions) (p fd n : ℕ) (desc : Desc) → AllIn v f → description_at f p fd ≡ Some desc → desc.kind ≡ File n → IsFile v n
file_in v f p fd n desc all is kind = subst (IsIn v) kind (kind_in v f p fd desc all is)

pub ruleset node_in = (dir_in, file_in)

pub same_kind : (found : Option Desc) (desc : Desc) → found ≡ Some desc → IfSome found (λ d. d.kind ≡ desc.kind)
same_kind found desc is = rw is refl

-- a file's description has an offset
pub file_offset : (found : Option Desc) (n offset : ℕ) → IfSome found (λ desc. desc.kind ≡ File n) → IfSome found (λ desc. is_after (At offset) ≡ is_of_dir desc.kind)
file_offset None n offset is = tt
file_offset (Some desc) n offset is = rw is refl

pub ruleset same_nodes = (sound_nodes, others_nodes)
