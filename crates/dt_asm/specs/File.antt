-- The ELF file of a guest.
use Rattle.std.specs.Prelude.{◌≡◌, ℕ, ◌+◌, List, ◌++◌, length, take, drop, max, Option, Some, None}
use Rattle.dt_asm.specs.declared.error.AsmErr.{AsmErr}
use Rattle.dt_asm.specs.declared.error.AsmErr.TheVariants.{NoMemory}
use Rattle.dt_asm.specs.declared.item.Item.{Item}
use Rattle.dt_asm.specs.Item.{GuestView, total_size, pieces_of}
use Rattle.dt_asm.specs.declared.headers.TheConstants.{HEADERS_SIZE}
use Rattle.dt_asm.specs.Header.{file_header, program_header_bytes}
use Rattle.dt_asm.specs.Code.{AreSpelled}
use Rattle.dt_asm.specs.Refusal.{refusal_of}

-- how many bytes a guest's file has
abbrev pub file_size : List Item → ℕ
file_size items = HEADERS_SIZE + total_size items

-- the program header: the whole file is loaded, to be read and executed, and written too where the guest gave its memory a size
abbrev pub segment_header : Option ℕ → ℕ → List ℕ
segment_header None size = program_header_bytes 5 size size
segment_header (Some memory) size = program_header_bytes 7 size (max size memory)

-- the headers, and behind them the code
pub record IsFileOf (guest : GuestView) (file : List ℕ) : Type 0 where
  pub size : length file ≡ file_size guest.items
  pub headers : take HEADERS_SIZE file ≡ file_header ++ segment_header guest.memory (file_size guest.items)
  pub code : AreSpelled (pieces_of guest.items) (drop HEADERS_SIZE file)

-- the error is the first refusal, or memory ran out
abbrev pub IsRefusal : List Item → AsmErr → Type 0
IsRefusal items NoMemory = Unit {0}
IsRefusal items error = refusal_of items ≡ Some error
