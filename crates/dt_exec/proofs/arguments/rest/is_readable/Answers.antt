use Rattle.std.proofs.Common.{sym, ap, ◌∙◌}
use Rattle.std.specs.Prelude.{not}
use Rattle.std.specs.List.{list_any}
use Rattle.dt_exec.specs.inner.Rest.{is_unread}
use Rattle.dt_exec.proofs.Unread.{all_read, readable, readable-sorted}
use Rattle.dt_exec.proofs.arguments.rest.is_readable.Goals as goal

-- a list that can't be read to its 0
pub returns-in_default : goal.returns-in_default
returns-in_default c =
    sym (readable c.args.space.now c.args.at c.args.left ∙ ap (all_read c.args.space.now) (rw c.in_default.is at c.in_ok-entries.ensures))

-- the words that its entries lead to
pub returns : goal.returns
returns c =
    ap not c.in_ok-is_cut.ensures
    ∙ ap (λ xs. not (list_any (is_unread c.args.space.now) xs)) c.deref.ensures.value
    ∙ readable-sorted c.args.space.now c.args.at c.args.left c.in-Some.entries.items _ (rw c.in-Some.is at c.in_ok-entries.ensures) c.sort_unstable.ensures.permutation
