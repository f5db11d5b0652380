use Rattle.std.proofs.Common.{◌≡◌, ◌+◌, ◌-◌, ◌%◌, ◌<◌, ◌++◌, length, take, drop, remove, sym, ap, ◌∙◌, arith}
use Rattle.std.proofs.Math.Nat.{mod-lt}
use Rattle.std.proofs.lemmas.List.Edits.{length-remove}
use Rattle.dt_memhost.specs.Order.{drawn_order}
use Rattle.dt_memhost.specs.Script.{after_draw, after_draws, coming_word, words_of}
use Rattle.dt_memhost.specs.inner.EntryTree.{entries}
use Rattle.dt_memhost.proofs.Arranged.{picked_order-more, picked_order-end, picked_all-suc, picked_all-none, one_left}
use Rattle.dt_memhost.proofs.order.arrange.Goals as goal

pub loop-done-preserved : goal.loop-done-preserved
loop-done-preserved c =
    let n = length c.args.found.items in
    let done = c.loop-done.done in
    let before = c.loop-done.script in
    let left = entries c.loop-done.left in
    let rest = entries c.pick-entry.new.left in
    let more = n - (done + 1) in
    let count : c.len-count.result - done ≡ n - done = omega arith in
    let some : 0 < n - done = omega arith in
    let at = coming_word before % (n - done) in
    let below : at < n - done = mod-lt (coming_word before) some in
    let chosen = c.pick-entry.ensures.chosen ∙ ap (λ k. take 1 (drop (coming_word before % k) left)) count in
    let goes = c.pick-entry.ensures.left ∙ ap (λ k. remove left (coming_word before % k)) count in
    let gone : length rest ≡ length (remove left at) = ap length goes in
    record {
      order =
          c.loop-done.invariant.order
          ∙ picked_order-more c.loop-done.arranged.items left rest c.pick-entry.result done n before (omega arith) c.loop-done.invariant.left chosen goes
          ∙ ap (λ xs. xs ++ drawn_order (words_of more (after_draw before)) rest) (sym c.in_ok-push.ensures.items)
          ∙ ap (λ s. c.push.new.self.items ++ drawn_order (words_of more s) rest) (sym c.pick-entry.ensures.after);
      after =
          c.loop-done.invariant.after
          ∙ ap (λ k. after_draws k before) (one_left done n (omega arith))
          ∙ picked_all-suc more before
          ∙ ap (after_draws more) (sym c.pick-entry.ensures.after);
      counted = c.pick-entry.ensures.counted;
      left = omega (arith, length-remove left at (omega arith));
      moved = c.in_ok-push.ensures.len ∙ ap (λ k. k + 1) c.loop-done.invariant.moved;
      room = omega arith;
    }

pub returns-clause-order : goal.returns-clause-order
returns-clause-order c =
    sym (c.loop-done.invariant.order ∙ picked_order-end c.loop-done.arranged.items (entries c.loop-done.left) _ c.loop-done.script (omega arith) c.loop-done.invariant.left)

pub returns-clause-after : goal.returns-clause-after
returns-clause-after c = sym (c.loop-done.invariant.after ∙ picked_all-none c.loop-done.script _ (omega arith))
