-- A guest as it is built: a list of items, and the size of its memory. Labels stand for offsets in the code.
use Rattle.std.specs.Prelude.{ℕ, ◌+◌, ◌==◌, List, [], ◌∷◌, ◌++◌, length, Bool, false, Option, Some, None, unwrap_or, ℤ, pos, ◌-ℤ◌, if◌then◌else◌}
use Rattle.dt_rv64.specs.declared.instruction.Instr.{Instr}
use Rattle.dt_rv64.specs.declared.instruction.Instr.TheVariants.{Jal, Beq, Bne, Blt, Bge, Bltu, Bgeu, Unknown}
use Rattle.dt_asm.specs.declared.item.Item.{Item}
use Rattle.dt_asm.specs.declared.item.Item.TheVariants.{Code, Branch, Jump, Bytes, Label}

-- what a guest is built of, and the size of its memory, where one was given
pub record GuestView : Type 0 where
  pub items : List Item
  pub memory : Option ℕ

-- a guest with items more
abbrev pub with_items : GuestView → List Item → GuestView
with_items guest more = record { items = guest.items ++ more; memory = guest.memory }

-- how many bytes an item takes
abbrev pub item_size : Item → ℕ
item_size (Code i) = 4
item_size (Branch funct3 rs1 rs2 label) = 4
item_size (Jump label) = 4
item_size (Bytes bytes) = length bytes
item_size (Label label) = 0

-- how many bytes items take
abbrev pub total_size : List Item → ℕ
total_size [] = 0
total_size (item ∷ items) = item_size item + total_size items

-- the item sets a label
abbrev pub is_label : ℕ → Item → Bool
is_label name (Label label) = label == name
is_label name _ = false

-- the offset of the first of some items that sets a label, the first item standing at an offset
abbrev pub offset_from : ℕ → List Item → ℕ → Option ℕ
offset_from at [] name = None
offset_from at (item ∷ items) name =
    if is_label name item then Some at else offset_from (at + item_size item) items name

-- a label's offset: the sum of the sizes before it
abbrev pub label_offset : List Item → ℕ → Option ℕ
label_offset items name = offset_from 0 items name

-- from an offset to a label's
abbrev pub distance : List Item → ℕ → ℕ → ℤ
distance items at name = pos (unwrap_or (label_offset items name) 0) -ℤ pos at

-- the branch with a funct3
abbrev pub branch_by : ℕ → ℕ → ℕ → ℤ → Instr
branch_by funct3 rs1 rs2 offset =
    if funct3 == 0 then Beq rs1 rs2 offset
    else if funct3 == 1 then Bne rs1 rs2 offset
    else if funct3 == 4 then Blt rs1 rs2 offset
    else if funct3 == 5 then Bge rs1 rs2 offset
    else if funct3 == 6 then Bltu rs1 rs2 offset
    else if funct3 == 7 then Bgeu rs1 rs2 offset
    else Unknown

-- what an item becomes: an instruction or bytes
pub data Piece : Type 0 where
  word : Instr → Piece
  plain : List ℕ → Piece

-- an item at an offset, its label resolved among all items
abbrev pub piece_of : List Item → ℕ → Item → Piece
piece_of items at (Code i) = word i
piece_of items at (Branch funct3 rs1 rs2 label) = word (branch_by funct3 rs1 rs2 (distance items at label))
piece_of items at (Jump label) = word (Jal 0 (distance items at label))
piece_of items at (Bytes bytes) = plain bytes
piece_of items at (Label label) = plain []

-- items from an offset on, their labels resolved among all items
abbrev pub pieces_from : List Item → ℕ → List Item → List Piece
pieces_from items at [] = []
pieces_from items at (item ∷ rest) = piece_of items at item ∷ pieces_from items (at + item_size item) rest

-- all items, their labels resolved
abbrev pub pieces_of : List Item → List Piece
pieces_of items = pieces_from items 0 items
