-- The guests by name: their instructions as words, with labels where a guest has them, and the bytes behind.
use Rattle.std.specs.Prelude.{ℕ, List, [], ◌∷◌, ◌++◌, map, codes, Some, None}
use Rattle.dt_base.specs.declared.abi.TheConstants.{A0}
use Rattle.dt_rv64.specs.Instruction.{instr}
use Rattle.dt_asm.specs.declared.item.Item.{Item}
use Rattle.dt_asm.specs.declared.item.Item.TheVariants.{Code, Branch, Jump, Bytes, Label}
use Rattle.dt_asm.specs.declared.guests.TheConstants.{CHILD}
use Rattle.dt_asm.specs.Item.{GuestView}

-- the instructions of words
abbrev pub instructions : List ℕ → List Item
instructions words = map (λ word. Code (instr word)) words

-- write(1, "hello" and a line's end), and exit(0)
abbrev pub hello_guest : GuestView
hello_guest = record {
  items =
      instructions (0x00100513 ∷ 0x000105B7 ∷ 0x09C58593 ∷ 0x00600613 ∷ 0x04000893 ∷ 0x00000073 ∷ 0x00000513 ∷
      0x05D00893 ∷ 0x00000073 ∷ [])
      ++ (Bytes (codes "hello\n") ∷ []);
  memory = None;
}

-- clone(SIGCHLD, 0), and the child goes to its label
abbrev pub fork_items : List Item
fork_items = instructions (0x01100513 ∷ 0x00000593 ∷ 0x0DC00893 ∷ 0x00000073 ∷ []) ++ (Branch 0 A0 0 CHILD ∷ [])

-- two forks, two waits for any child, and exit(0); each child has exit(7)
abbrev pub trio_guest : GuestView
trio_guest = record {
  items =
      fork_items ++ fork_items
      ++ instructions (0xFFF00513 ∷ 0x00000593 ∷ 0x00000613 ∷ 0x00000693 ∷ 0x10400893 ∷ 0x00000073 ∷
      0xFFF00513 ∷ 0x00000073 ∷ 0x00000513 ∷ 0x05D00893 ∷ 0x00000073 ∷ [])
      ++ (Label CHILD ∷ [])
      ++ instructions (0x00700513 ∷ 0x05D00893 ∷ 0x00000073 ∷ []);
  memory = None;
}

-- openat("/f"), a read of 10,000 bytes to 0x11000, a write of them to standard output, and exit(0)
abbrev pub cat1_guest : GuestView
cat1_guest = record {
  items =
      instructions (0xF9C00513 ∷ 0x000105B7 ∷ 0x0C458593 ∷ 0x00000613 ∷ 0x00000693 ∷ 0x03800893 ∷ 0x00000073 ∷
      0x000115B7 ∷ 0x00002637 ∷ 0x71060613 ∷ 0x03F00893 ∷ 0x00000073 ∷ 0x00050613 ∷ 0x00100513 ∷
      0x04000893 ∷ 0x00000073 ∷ 0x00000513 ∷ 0x05D00893 ∷ 0x00000073 ∷ [])
      ++ (Bytes (codes "/f\0") ∷ []);
  memory = Some 0x4000;
}

-- a fork, kill(2, SIGKILL), a wait for 2, and exit(0); the child has write(1, "x"), and exit(0)
abbrev pub late_guest : GuestView
late_guest = record {
  items =
      fork_items
      ++ instructions (0x00200513 ∷ 0x00900593 ∷ 0x08100893 ∷ 0x00000073 ∷ 0x00200513 ∷ 0x00000593 ∷
      0x00000613 ∷ 0x00000693 ∷ 0x10400893 ∷ 0x00000073 ∷ 0x00000513 ∷ 0x05D00893 ∷ 0x00000073 ∷ [])
      ++ (Label CHILD ∷ [])
      ++ instructions (0x00100513 ∷ 0x000105B7 ∷ 0x0E458593 ∷ 0x00100613 ∷ 0x04000893 ∷ 0x00000073 ∷
      0x00000513 ∷ 0x05D00893 ∷ 0x00000073 ∷ [])
      ++ (Bytes (codes "x") ∷ []);
  memory = None;
}

-- a fork, and exit(3); the child adds 1 to a0 again and again
abbrev pub first_guest : GuestView
first_guest = record {
  items =
      fork_items
      ++ instructions (0x00300513 ∷ 0x05D00893 ∷ 0x00000073 ∷ [])
      ++ (Label CHILD ∷ [])
      ++ instructions (0x00150513 ∷ [])
      ++ (Jump CHILD ∷ []);
  memory = None;
}
