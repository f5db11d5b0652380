use Rattle.dt_asm.proofs.Codes.{headed}
use Rattle.dt_asm.proofs.headers.add_program_header.Goals as goal

pub returns : goal.returns
returns c = headed c.add_numbers.result _ _ _ _ _ _ _ c.in_ok-add_word.ensures c.in_ok-add_word-2.ensures c.add_numbers.ensures
