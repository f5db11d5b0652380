use Rattle.std.proofs.Common.{◌-◌, ◌+◌, ◌%◌, ◌^◌, Ok, Err, sym, ap, ◌∙◌, arith}
use Rattle.dt_exec.specs.declared.limits.TheConstants.{LIST_LIMIT}
use Rattle.dt_exec.specs.Arguments.{words_at}
use Rattle.dt_exec.proofs.Collected.{start, word_more, refused, missed, ended, entry_at, word_of_entry, words_at-end}
use Rattle.dt_exec.proofs.Unread.{rest_read, rest_unread}
use Rattle.dt_exec.proofs.arguments.words_at.Goals as goal

pub loop-index-init : goal.loop-index-init
loop-index-init c = rw (c.new-list.ensures.words, c.new-list.ensures.size) (start _)

-- an entry that can't be read
pub returns-in_default : goal.returns-in_default
returns-in_default c =
    missed _ _ _ _ c.loop-index.invariant
    (entry_at c.args.space.now c.loop-index.next (LIST_LIMIT - c.loop-index.index) (LIST_LIMIT - (c.loop-index.index + 1)) (Err c.in_default.field-0)
    (omega arith) (sym c.in_default.is ∙ c.load8.ensures))

-- the end of the list
pub returns-then-entry-eq0 : goal.returns-then-entry-eq0
returns-then-entry-eq0 c =
    ended _ _ c.loop-index.list.words _ c.within_limit.result c.loop-index.invariant
    (entry_at c.args.space.now c.loop-index.next (LIST_LIMIT - c.loop-index.index) (LIST_LIMIT - (c.loop-index.index + 1)) (Ok 0)
    (omega arith) (ap Ok (sym c.if-entry-eq0.true) ∙ sym c.in-Ok.is ∙ c.load8.ensures))
    c.within_limit.ensures

-- a word that can't be read
pub returns-in-Err : goal.returns-in-Err
returns-in-Err c =
    let rest = words_at c.args.space.now ((c.loop-index.next + 8) % 2 ^ 64) (LIST_LIMIT - (c.loop-index.index + 1)) in
    refused _ _ rest _ _ c.in-Err.errno c.loop-index.invariant
    (entry_at c.args.space.now c.loop-index.next (LIST_LIMIT - c.loop-index.index) (LIST_LIMIT - (c.loop-index.index + 1)) (Ok c.in-Ok.entry)
    (omega arith) (sym c.in-Ok.is ∙ c.load8.ensures)
    ∙ word_of_entry c.args.space.now c.in-Ok.entry (Err c.in-Err.errno) rest c.if-entry-eq0.false (sym c.in-Err.is ∙ c.in_ok-word.ensures.value))

-- one word more
pub loop-index-preserved : goal.loop-index-preserved
loop-index-preserved c =
    word_more _ c.args.space.now c.loop-index.next (LIST_LIMIT - c.loop-index.index) (LIST_LIMIT - (c.loop-index.index + 1)) c.in-Ok.entry _ _ c.loop-index.list.size _ c.in-Ok-2.word c.loop-index.invariant
    (omega arith) (sym c.in-Ok.is ∙ c.load8.ensures) c.if-entry-eq0.false (sym c.in-Ok-2.is ∙ c.in_ok-word.ensures.value)
    (rw c.in-Ok-2.is at c.in_ok-word.ensures.no_nul) c.in_ok-add-in-Ok-2.ensures.size c.in_ok-add-in-Ok-2.ensures.words

-- past the limit, where the rest can be read
pub returns-then-branch : goal.returns-then-branch
returns-then-branch c =
    rest_read _ _ _ _
    (word_more _ c.args.space.now c.loop-index.next (LIST_LIMIT - c.loop-index.index) (LIST_LIMIT - 1 - c.loop-index.index) c.in-Ok.entry _ _ c.loop-index.list.size _ c.in-Ok-2.word c.loop-index.invariant
    (omega arith) (sym c.in-Ok.is ∙ c.load8.ensures) c.if-entry-eq0.false (sym c.in-Ok-2.is ∙ c.in_ok-word.ensures.value)
    (rw c.in-Ok-2.is at c.in_ok-word.ensures.no_nul) c.in_ok-add-in-Ok-2.ensures.size c.in_ok-add-in-Ok-2.ensures.words)
    (sym c.is_past_limit.ensures ∙ c.if-is_past_limit.true) (sym c.in_ok-is_readable.ensures ∙ c.if-branch.true)

-- and where it can't
pub returns-then-is_past_limit : goal.returns-then-is_past_limit
returns-then-is_past_limit c =
    rest_unread _ _ _ c.args.space.now ((c.loop-index.next + 8) % 2 ^ 64) (LIST_LIMIT - 1 - c.loop-index.index)
    (word_more _ c.args.space.now c.loop-index.next (LIST_LIMIT - c.loop-index.index) (LIST_LIMIT - 1 - c.loop-index.index) c.in-Ok.entry _ _ c.loop-index.list.size _ c.in-Ok-2.word c.loop-index.invariant
    (omega arith) (sym c.in-Ok.is ∙ c.load8.ensures) c.if-entry-eq0.false (sym c.in-Ok-2.is ∙ c.in_ok-word.ensures.value)
    (rw c.in-Ok-2.is at c.in_ok-word.ensures.no_nul) c.in_ok-add-in-Ok-2.ensures.size c.in_ok-add-in-Ok-2.ensures.words)
    (sym c.in_ok-is_readable.ensures ∙ c.if-branch.false)

-- no 0 among the entries that can be there
pub returns : goal.returns
returns c = missed _ _ _ _ c.loop-index.invariant (words_at-end c.args.space.now c.loop-index.next (LIST_LIMIT - c.loop-index.index) (omega (arith, c.loop-index-test.false)))
