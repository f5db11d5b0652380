use Rattle.std.proofs.Common.{◌≡◌, ◌-◌, ◌≤◌, ◌++◌, length}
use Rattle.std.specs.Prelude.{vec_len, vec_capacity}
use Rattle.dt_memhost.specs.Order.{drawn_order}
use Rattle.dt_memhost.specs.Script.{after_draws, words_of}
use Rattle.dt_memhost.specs.inner.EntryTree.{entries, IsCounted}
use Rattle.dt_memhost.proofs.order.arrange.Given as goal

abbrev pub invariant-loop-done : goal.invariant-loop-done
invariant-loop-done l = record {
  order : drawn_order (words_of (length l.fn.found.items) l.fn.script) l.fn.found.items ≡ l.arranged.items ++ drawn_order (words_of (length l.fn.found.items - l.done) l.script) (entries l.left);
  after : after_draws (length l.fn.found.items) l.fn.script ≡ after_draws (length l.fn.found.items - l.done) l.script;
  counted : IsCounted l.left;
  left : length (entries l.left) ≡ length l.fn.found.items - l.done;
  moved : vec_len l.arranged ≡ l.done;
  room : length l.fn.found.items ≤ vec_capacity l.arranged;
}
