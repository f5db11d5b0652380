-- Why a guest becomes no file.
use Rattle.std.specs.Prelude.{ℕ, ◌+◌, List, [], ◌∷◌, Bool, false, ◌||◌, not, Option, Some, None, is_none, is_some, nat_lt, if◌then◌else◌}
use Rattle.std.specs.List.{list_any}
use Rattle.dt_base.specs.declared.limits.TheConstants.{FIRST_FILE_LIMIT}
use Rattle.dt_asm.specs.declared.headers.TheConstants.{HEADERS_SIZE}
use Rattle.dt_asm.specs.declared.error.AsmErr.{AsmErr}
use Rattle.dt_asm.specs.declared.error.AsmErr.TheVariants.{NoLabel, TwoLabels, Far, BadField, NoMemory, TooLong}
use Rattle.dt_asm.specs.declared.item.Item.{Item}
use Rattle.dt_asm.specs.declared.item.Item.TheVariants.{Branch, Jump, Label}
use Rattle.dt_asm.specs.Fits.{is_encodable, is_b_immediate, is_j_immediate}
use Rattle.dt_asm.specs.Item.{Piece, word, plain, item_size, total_size, label_offset, distance, pieces_of}

-- its number, in the order in which they are looked for
abbrev pub error_number : AsmErr → ℕ
error_number NoLabel = 1
error_number TwoLabels = 2
error_number Far = 3
error_number BadField = 4
error_number NoMemory = 5
error_number TooLong = 6

-- the item uses a label that no item sets
abbrev pub is_lost : List Item → Item → Bool
is_lost items (Branch funct3 rs1 rs2 label) = is_none (label_offset items label)
is_lost items (Jump label) = is_none (label_offset items label)
is_lost items _ = false

-- the item sets a label that one of these sets too
abbrev pub is_set_in : List Item → Item → Bool
is_set_in items (Label label) = is_some (label_offset items label)
is_set_in items _ = false

-- two items set one label
abbrev pub is_set_twice : List Item → Bool
is_set_twice [] = false
is_set_twice (item ∷ items) = is_set_in items item || is_set_twice items

-- the item's label lies outside the range of its form
abbrev pub is_out_of_reach : List Item → ℕ → Item → Bool
is_out_of_reach items at (Branch funct3 rs1 rs2 label) = not (is_b_immediate (distance items at label))
is_out_of_reach items at (Jump label) = not (is_j_immediate (distance items at label))
is_out_of_reach items at _ = false

-- one of the items from an offset on has its label outside of the range of its form
abbrev pub any_out_of_reach : List Item → ℕ → List Item → Bool
any_out_of_reach items at [] = false
any_out_of_reach items at (item ∷ rest) = is_out_of_reach items at item || any_out_of_reach items (at + item_size item) rest

-- no word holds it
abbrev pub is_bad : Piece → Bool
is_bad (word i) = not (is_encodable i)
is_bad (plain bytes) = false

-- the first refusal, each over all items
abbrev pub refusal_of : List Item → Option AsmErr
refusal_of items =
    if list_any (is_lost items) items then Some NoLabel
    else if is_set_twice items then Some TwoLabels
    else if any_out_of_reach items 0 items then Some Far
    else if list_any is_bad (pieces_of items) then Some BadField
    else if nat_lt FIRST_FILE_LIMIT (HEADERS_SIZE + total_size items) then Some TooLong
    else None
