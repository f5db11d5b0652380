use Rattle.std.proofs.Common.{◌≡◌, ℕ, ◌+◌, ◌-◌, ◌≤◌, List, ◌++◌, length, take, drop, min, inl, inr, arith, sym, ap, ◌∙◌, append_assoc, append-nil}
use Rattle.std.proofs.lemmas.Bool.{cases_lt}
use Rattle.std.proofs.lemmas.List.{take_at, drop_at, drop-drop, take-append-le, take_all, length-take-le}
use Rattle.std.proofs.Math.Seq.{take-append-add}
use Rattle.dt_memhost.proofs.pipe.MemPipe.take.Goals as goal

-- the first of two rows, and what is left of a count in the second
two_rows : (first second : List ℕ) (count inside : ℕ) → inside ≡ min count (length first) → take count (first ++ second) ≡ take inside first ++ take (count - inside) second
two_rows first second count inside is = elim (cases_lt count (length first)) as (λ _. take count (first ++ second) ≡ take inside first ++ take (count - inside) second) [
  | inl short ↦
      let all : count ≡ inside = omega arith in
      let none : count - inside ≡ 0 = omega arith in
      take-append-le count first second (omega arith)
      ∙ ap (λ k. take k first) all
      ∙ sym (append-nil (take inside first))
      ∙ ap (λ k. take inside first ++ take k second) (sym none)
  | inr long ↦
      let whole : inside ≡ length first = omega arith in
      let both : count ≡ length first + (count - inside) = omega arith in
      ap (λ k. take k (first ++ second)) both
      ∙ take-append-add first second (count - inside)
      ∙ ap (λ xs. xs ++ take (count - inside) second) (sym (take_all inside first (omega arith)))
]

-- a buffer after both rows were copied
copied : (buf upper lower : List ℕ) (count inside : ℕ) → length upper ≡ inside → inside ≤ count → take inside (upper ++ drop inside buf) ++ (lower ++ drop (count - inside) (drop inside (upper ++ drop inside buf))) ≡ (upper ++ lower) ++ drop count buf
copied buf upper lower count inside size within =
    let all : inside + (count - inside) ≡ count = omega arith in
    ap (λ xs. xs ++ (lower ++ drop (count - inside) (drop inside (upper ++ drop inside buf)))) (take_at upper (drop inside buf) inside size)
    ∙ ap (λ xs. upper ++ (lower ++ drop (count - inside) xs)) (drop_at upper (drop inside buf) inside size)
    ∙ ap (λ xs. upper ++ (lower ++ xs)) (drop-drop (count - inside) inside buf ∙ ap (λ k. drop k buf) all)
    ∙ sym (append_assoc upper lower (drop count buf))

pub returns-clause-bytes : goal.returns-clause-bytes
returns-clause-bytes c =
    let first = c.split_at.result.1.now in
    let second = c.deref-2.result.now in
    let inside = c.min-inside.result in
    let count = c.args.count in
    let upper : c.copy_from_slice.new.self ≡ take inside first = c.copy_from_slice.ensures.after ∙ c.split_at-2.ensures.front in
    let lower : c.copy_from_slice-2.new.self ≡ take (count - inside) second = c.copy_from_slice-2.ensures.after ∙ c.split_at-3.ensures.front in
    let size : length c.copy_from_slice.new.self ≡ inside = ap length upper ∙ length-take-le inside first (omega arith) in
    let older : first ≡ drop c.self.inside.taken c.self.inside.oldest.items = c.split_at.ensures.back ∙ ap (drop c.self.inside.taken) c.deref.ensures.value in
    let held : first ++ second ≡ c.args.self.now = (λ i. older i ++ c.deref-2.ensures.value i) ∙ c.self.view_is in
    copied c.args.buf.now c.copy_from_slice.new.self c.copy_from_slice-2.new.self count inside size (omega arith)
    ∙ ap (λ xs. xs ++ drop count c.args.buf.now) ((λ i. upper i ++ lower i) ∙ sym (two_rows first second count inside (omega arith)) ∙ ap (take count) held)
