-- Inner words: what one step of the copy of a table of descriptors does (fork(2)).
use Rattle.std.specs.Prelude.{ℕ, Option, None, Some}
use Rattle.dt_fds.specs.declared.desc.Slot.{Slot}
use Rattle.dt_fds.specs.Descriptions.{Descriptions, with_slot}

-- a descriptor refers to what that slot refers to, if there is one, with the same close-on-exec bit
abbrev pub with_copy : Descriptions → ℕ → ℕ → Option Slot → Descriptions
with_copy f p fd None = f
with_copy f p fd (Some slot) = with_slot f p fd (Some slot)
