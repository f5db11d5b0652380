use Rattle.std.proofs.Common.{arith}
use Rattle.dt_elf.proofs.Strings.{size-on, size-end}
use Rattle.dt_elf.proofs.stack.room_after.Goals as goal

pub returns-in_err-checked_sub : goal.returns-in_err-checked_sub
returns-in_err-checked_sub c =
    let count = size-on c.args.words.now c.loop-word.word-index c.word-item.result c.loop-word-test.true c.word-item.is in
    let sofar = c.loop-word.invariant in
    let short = c.in_err-checked_sub.ensures in
    rw c.from_residual.ensures (omega (arith, count, sofar, short))

pub returns-in_err-left : goal.returns-in_err-left
returns-in_err-left c =
    let count = size-on c.args.words.now c.loop-word.word-index c.word-item.result c.loop-word-test.true c.word-item.is in
    let sofar = c.loop-word.invariant in
    let enough = c.in_ok-checked_sub.ensures in
    let short = c.in_err-left.ensures in
    rw c.from_residual-in_err-left.ensures (omega (arith, count, sofar, enough, short))

pub loop-word-preserved : goal.loop-word-preserved
loop-word-preserved c =
    let count = size-on c.args.words.now c.loop-word.word-index c.word-item.result c.loop-word-test.true c.word-item.is in
    let sofar = c.loop-word.invariant in
    let enough = c.in_ok-checked_sub.ensures in
    let more = c.in_ok-left.ensures in
    omega (arith, count, sofar, enough, more)

pub returns : goal.returns
returns c = let none = size-end c.args.words.now c.loop-word.word-index c.loop-word-test.false in omega (arith, none, c.loop-word.invariant)
