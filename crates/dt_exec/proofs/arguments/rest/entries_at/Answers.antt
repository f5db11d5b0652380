use Rattle.std.proofs.Common.{◌-◌, ◌+◌, ◌%◌, ◌^◌, Some, Ok, Err, sym, ap, ◌∙◌, append-nil, arith}
use Rattle.dt_exec.specs.inner.Rest.{entries_at}
use Rattle.dt_exec.proofs.Unread.{behind, next_entry, one_more, entries_at-end}
use Rattle.dt_exec.proofs.arguments.rest.entries_at.Goals as goal

-- an entry that can't be read
pub returns-in_default : goal.returns-in_default
returns-in_default c =
    c.loop-index.invariant
    ∙ ap (behind c.loop-index.entries.items)
    (next_entry c.args.space.now c.loop-index.next (c.args.left - c.loop-index._index) (c.args.left - (c.loop-index._index + 1)) (Err c.in_default.field-0)
    (omega arith) (sym c.in_default.is ∙ c.load8.ensures))

-- the end of the list
pub returns-then-entry-eq0 : goal.returns-then-entry-eq0
returns-then-entry-eq0 c =
    c.loop-index.invariant
    ∙ ap (behind c.loop-index.entries.items)
    (next_entry c.args.space.now c.loop-index.next (c.args.left - c.loop-index._index) (c.args.left - (c.loop-index._index + 1)) (Ok 0)
    (omega arith) (ap Ok (sym c.if-entry-eq0.true) ∙ sym c.in-Ok.is ∙ c.load8.ensures))
    ∙ ap Some (append-nil c.loop-index.entries.items)

-- one entry more
pub loop-index-preserved : goal.loop-index-preserved
loop-index-preserved c =
    let rest = entries_at c.args.space.now ((c.loop-index.next + 8) % 2 ^ 64) (c.args.left - (c.loop-index._index + 1)) in
    c.loop-index.invariant
    ∙ ap (behind c.loop-index.entries.items)
    (next_entry c.args.space.now c.loop-index.next (c.args.left - c.loop-index._index) (c.args.left - (c.loop-index._index + 1)) (Ok c.in-Ok.entry)
    (omega arith) (sym c.in-Ok.is ∙ c.load8.ensures))
    ∙ one_more c.loop-index.entries.items c.in-Ok.entry rest c.if-entry-eq0.false
    ∙ ap (λ xs. behind xs rest) (sym c.in_ok-push.ensures.items)

-- no 0 among so many entries
pub returns : goal.returns
returns c =
    c.loop-index.invariant
    ∙ ap (behind c.loop-index.entries.items) (entries_at-end c.args.space.now c.loop-index.next (c.args.left - c.loop-index._index) (omega (arith, c.loop-index-test.false)))
