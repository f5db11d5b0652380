use Rattle.std.proofs.Common.{◌≡◌, ℕ, ◌+◌, ◌-◌, ◌≤◌, List, ◌++◌, length, take, drop, remove, sym, ap, subst, ◌∙◌, arith}
use Rattle.std.proofs.Math.Seq.{drop-append-add}
use Rattle.std.proofs.lemmas.List.Edits.{remove-append_right}
use Rattle.dt_memhost.specs.inner.EntryTree.{entries, IsCounted}
use Rattle.dt_memhost.proofs.entry_tree.EntryTree.+take.Goals as goal

-- an index past the first list is one of the second
drop_after : {A : Type 0} (xs ys : List A) (n i : ℕ) → n ≡ length xs → n ≤ i → drop i (xs ++ ys) ≡ drop (i - n) ys
drop_after xs ys n i size past =
    let sum : i ≡ length xs + (i - n) = omega arith in
    ap (λ k. drop k (xs ++ ys)) sum ∙ drop-append-add xs ys (i - n)

pub returns-else-at-count-clause-taken : goal.returns-else-at-count-clause-taken
returns-else-at-count-clause-taken t c =
    let before = entries c.in-Fork.before.value in
    let after = entries c.in-Fork.after.value in
    let at = c.args.at in
    let counted = subst IsCounted c.in-Fork.is c.requires.counted in
    c.take-else-at-count.ensures.taken
    ∙ ap (λ tree. take 1 (drop (at - c.in-Fork.count) (entries tree))) c.deref_mut-else-at-count.ensures.value
    ∙ ap (take 1) (sym (drop_after before after c.in-Fork.count at counted.0 (omega arith)))
    ∙ ap (λ tree. take 1 (drop at (entries tree))) (sym c.in-Fork.is)

pub returns-else-at-count-clause-left : goal.returns-else-at-count-clause-left
returns-else-at-count-clause-left t c =
    let before = entries c.in-Fork.before.value in
    let after = entries c.in-Fork.after.value in
    let at = c.args.at in
    let counted = subst IsCounted c.in-Fork.is c.requires.counted in
    ap (λ xs. before ++ xs)
    (c.take-else-at-count.ensures.left
    ∙ ap (λ tree. remove (entries tree) (at - c.in-Fork.count)) c.deref_mut-else-at-count.ensures.value)
    ∙ sym (remove-append_right before after c.in-Fork.count at (sym counted.0) (omega arith))
    ∙ ap (λ tree. remove (entries tree) at) (sym c.in-Fork.is)
