use Rattle.std.proofs.Common.{◌≡◌, ℕ, ◌+◌, ◌-◌, ◌/◌, ◌≤◌, List, ◌++◌, length, take, drop, sym, ap, ◌∙◌, arith}
use Rattle.std.proofs.lemmas.List.{drop-take, drop-drop, take-append-drop, length-take-le}
use Rattle.dt_memhost.specs.inner.EntryTree.{entries}
use Rattle.dt_memhost.proofs.entry_tree.EntryTree.+of_last.Goals as goal

-- the last of a list, in two parts
halves : {A : Type 0} (all rest : List A) (count half : ℕ) → half ≤ count → count ≤ length all → rest ≡ take (length all - (count - half)) all → drop (length rest - half) rest ++ drop (length all - (count - half)) all ≡ drop (length all - count) all
halves all rest count half less few left =
    let start = length all - count in
    let middle : length all - (count - half) ≡ start + half = omega arith in
    let first : rest ≡ take (start + half) all = left ∙ ap (λ k. take k all) middle in
    let size : length rest ≡ start + half = ap length first ∙ length-take-le (start + half) all (omega arith) in
    let begins : length rest - half ≡ start = omega arith in
    ap (λ k. drop k rest ++ drop (length all - (count - half)) all) begins
    ∙ ap (λ xs. drop start xs ++ drop (length all - (count - half)) all) first
    ∙ ap (λ xs. xs ++ drop (length all - (count - half)) all) (drop-take start half all)
    ∙ ap (λ k. take half (drop start all) ++ drop k all) middle
    ∙ ap (λ xs. take half (drop start all) ++ xs) (sym (drop-drop half start all))
    ∙ take-append-drop half (drop start all)

pub returns-clause-entries : goal.returns-clause-entries
returns-clause-entries t c =
    let all = c.args.found.now.items in
    let rest = c.of_last.new.found.items in
    let count = c.args.count in
    let half = count / 2 in
    let after : entries c.in_ok-after-2.after.value ≡ drop (length all - (count - half)) all = ap entries c.in_ok-after-2.ensures.ok ∙ c.in_ok-after.ensures.entries in
    let before : entries c.in_ok-before-2.before.value ≡ drop (length rest - half) rest = ap entries c.in_ok-before-2.ensures.ok ∙ c.in_ok-before.ensures.entries in
    ap (λ xs. xs ++ entries c.in_ok-after-2.after.value) before
    ∙ ap (λ xs. drop (length rest - half) rest ++ xs) after
    ∙ halves all rest count half (omega arith) c.requires c.in_ok-after.ensures.rest
