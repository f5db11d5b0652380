use Rattle.std.proofs.Common.{◌≡◌, length, arith}
use Rattle.std.specs.Vec.{vec_len}
use Rattle.dt_elf.proofs.Strings.{laid-whole}
use Rattle.dt_elf.proofs.stack.lay_out.Goals as goal

pub returns : goal.returns
returns c =
    let len : length c.push_words.new.bytes.items ≡ vec_len c.push_words.new.bytes = omega (arith, c.push_words.new.bytes.ok.0) in
    laid-whole _ _ _ _ c.args.words.now c.args.text.now c.args.first c.args.pointer c.args.start _ c.requires.above c.requires.below c.requires.apart (c.in_ok-bytes.ensures.items_if_clones_equal (λ y e. e)) c.in_ok-push_words.ensures len c.in_ok-resize.ensures.items c.in_ok-extend_from_slice.ensures.items
