use Rattle.std.proofs.Common.{◌∙◌, sym, arith}
use Rattle.dt_elf.proofs.Strings.{addresses-on, addresses-end, length-terminated-on, length-terminated-end}
use Rattle.dt_elf.proofs.stack.push_addresses.Goals as goal

pub overflow_add-next : goal.overflow_add-next
overflow_add-next c =
    let long = length-terminated-on c.args.words.now c.loop-word.word-index c.word-item.result c.loop-word-test.true c.word-item.is in
    let sofar = c.loop-word.invariant.0 in
    let fits = c.requires in
    omega (arith, long, sofar, fits)

pub overflow_add-next-in-loop-word : goal.overflow_add-next-in-loop-word
overflow_add-next-in-loop-word c =
    let long = length-terminated-on c.args.words.now c.loop-word.word-index c.word-item.result c.loop-word-test.true c.word-item.is in
    let sofar = c.loop-word.invariant.0 in
    let fits = c.requires in
    omega (arith, long, sofar, fits)

pub loop-word-preserved : goal.loop-word-preserved
loop-word-preserved c =
    let long = length-terminated-on c.args.words.now c.loop-word.word-index c.word-item.result c.loop-word-test.true c.word-item.is in
    let sofar = c.loop-word.invariant.0 in
    (omega (arith, long, sofar), rw (c.in_ok-push.ensures.items, c.len.ensures) (addresses-on c.args.words.now c.loop-word.word-index c.loop-word.next c.word-item.result c.loop-word.list.items c.loop-word-test.true c.word-item.is ∙ c.loop-word.invariant.1))

pub returns-clause-listed : goal.returns-clause-listed
returns-clause-listed c = sym (addresses-end c.args.words.now c.loop-word.word-index c.loop-word.next c.loop-word.list.items c.loop-word-test.false) ∙ c.loop-word.invariant.1

pub returns-clause-end : goal.returns-clause-end
returns-clause-end c = let none = length-terminated-end c.args.words.now c.loop-word.word-index c.loop-word-test.false in omega (arith, none, c.loop-word.invariant.0)
