use Rattle.std.proofs.Common.{◌≡◌}
use Rattle.std.specs.List.{list_any}
use Rattle.dt_elf.specs.Header.{e_phoff, e_phnum, program_headers, is_interp}
use Rattle.dt_elf.proofs.Headers.{headers_after}
use Rattle.dt_elf.proofs.elf.has_interpreter.Given as goal

abbrev pub invariant-loop-index : goal.invariant-loop-index
invariant-loop-index l = list_any is_interp (headers_after l.bytes (e_phoff l.bytes) (e_phnum l.bytes) l.index) ≡ list_any is_interp (program_headers l.bytes)
