-- What a line of an error says, and with which status a run ends then.
use Rattle.std.specs.Prelude.{ℕ, List, ◌++◌, codes}
use Rattle.std.specs.Fmt.{decimal}
use Rattle.dt_base.specs.Refusal.{refusal_number, refusal_name}
use Rattle.dt_export.specs.ExportRefusal.{export_refusal_number, export_refusal_name}
use Rattle.dt_run.specs.declared.failure.Failure.{Failure}
use Rattle.dt_run.specs.declared.failure.Failure.TheVariants.{Usage, Image, Export, Store, Host, Output, NoMemory}
use Rattle.dt_run.specs.declared.status.TheConstants.{WORDS_REFUSED, IMAGE_REFUSED, STORE_FAULT, HOST_FAULT, OUTPUT_FAULT, OUT_OF_MEMORY, EXPORT_REFUSED}

-- the line on the error stream
abbrev pub failure_line : Failure → List ℕ
failure_line Usage = codes "dettrace: usage: dettrace run IMAGE [--seed N] [--budget N] [--workers N] [--host N] [--stdin NAME] -- [NAME=VALUE ..] PROGRAM [ARG ..]\n"
failure_line (Image refusal) = codes "dettrace: image refused: " ++ (decimal (refusal_number refusal) ++ (codes " " ++ (refusal_name refusal ++ codes "\n")))
failure_line (Export refusal) = codes "dettrace: export refused: " ++ (decimal (export_refusal_number refusal) ++ (codes " " ++ (export_refusal_name refusal ++ codes "\n")))
failure_line Store = codes "dettrace: store fault\n"
failure_line Host = codes "dettrace: host fault\n"
failure_line Output = codes "dettrace: output fault\n"
failure_line NoMemory = codes "dettrace: out of memory\n"

-- the exit status of the program
abbrev pub failure_status : Failure → ℕ
failure_status Usage = WORDS_REFUSED
failure_status (Image refusal) = IMAGE_REFUSED
failure_status (Export refusal) = EXPORT_REFUSED
failure_status Store = STORE_FAULT
failure_status Host = HOST_FAULT
failure_status Output = OUTPUT_FAULT
failure_status NoMemory = OUT_OF_MEMORY
