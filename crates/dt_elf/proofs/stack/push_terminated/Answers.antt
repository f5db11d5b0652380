use Rattle.std.proofs.Common.{◌∙◌, sym}
use Rattle.dt_elf.proofs.Strings.{terminated-on, terminated-end}
use Rattle.dt_elf.proofs.stack.push_terminated.Goals as goal

pub loop-word-preserved : goal.loop-word-preserved
loop-word-preserved c =
    rw (c.in_ok-push.ensures.items, c.in_ok-extend_from_slice.ensures.items, c.as_slice.ensures) (terminated-on c.args.words.now c.loop-word.word-index c.word-item.result c.loop-word.text.items c.loop-word-test.true c.word-item.is ∙ c.loop-word.invariant)

pub returns : goal.returns
returns c = sym (terminated-end c.args.words.now c.loop-word.word-index c.loop-word.text.items c.loop-word-test.false) ∙ c.loop-word.invariant
