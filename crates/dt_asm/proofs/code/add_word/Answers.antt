use Rattle.std.proofs.Common.{rules, ◌<◌, ◌^◌}
use Rattle.dt_asm.proofs.Codes.{is_added, is_word_of}
use Rattle.dt_asm.proofs.code.add_word.Goals as goal

pub returns-clause-added : goal.returns-clause-added
returns-clause-added c =
    let fits : c.in-Some.word < 2 ^ 32 = search rules in
    is_added _ _ _ _ c.in_ok-extend_from_slice.ensures.items
    (is_word_of _ _ _ c.to_le_bytes.ensures fits c.in-Some.ensures.round c.in-Some.ensures.bare)
