-- The byte at an address of pages that follow one another, and so at an address of the first machine's stack.
use Rattle.std.proofs.Common.{◌≡◌, ℕ, zero, suc, ◌+◌, ◌-◌, ◌*◌, ◌/◌, ◌%◌, ◌<◌, ◌≤◌, Bool, List, [], ◌∷◌, ◌++◌, length, get_or, take, drop, replicate, Some, true, inl, inr, refl, sym, ap, ◌∙◌, length-append, append_assoc, arith}
use Rattle.std.specs.Prelude.{slice_get}
use Rattle.std.proofs.lemmas.List.{drop-drop, get_or-take, get_or-drop, get_or_append_left, get_or-append_right, get_or-replicate, get_or_past, length-replicate, length-take}
use Rattle.std.proofs.lemmas.List.Elements.{All-tail}
use Rattle.std.proofs.lemmas.Option.{slice_get-get_or}
use Rattle.std.proofs.lemmas.Bool.{cases_lt}
use Rattle.std.proofs.lemmas.Bool.Decides.{nat_tests}
use Rattle.dt_base.specs.declared.limits.TheConstants.{PAGE_SIZE}
use Rattle.dt_space.specs.declared.access.TheConstants.{READ, WRITE}
use Rattle.dt_space.specs.Space.{PageView, has_right, granted_rights, page_at, byte_of, byte_at}
use Rattle.dt_space.specs.Pages.{zero_padded, pages_from, EndsBelow}
use Rattle.dt_elf.specs.declared.layout.TheConstants.{SEGMENT_PAGES_END, STACK_START, STACK_PAGES, STACK_TOP}
use Rattle.dt_elf.specs.Header.{e_phnum}
use Rattle.dt_elf.specs.Executable.{Executable}
use Rattle.dt_elf.specs.Stack.{Invocation, stack_contents}
use Rattle.dt_elf.specs.SegmentPages.{segment_pages}
use Rattle.dt_elf.specs.FirstMachine.{trampoline_pages, first_machine}
use Rattle.dt_elf.proofs.Touched.{pages-ends}

-- a byte of a page that is filled up with zeros
byte-zero_padded : (contents : List ℕ) (offset : ℕ) → length contents ≤ PAGE_SIZE → offset < PAGE_SIZE → slice_get (zero_padded contents) offset ≡ Some (get_or contents offset 0)
unfolding zero_padded
byte-zero_padded contents offset fits within =
    let zeros = replicate (PAGE_SIZE - length contents) 0 in
    let long = length-append contents zeros in
    let more = length-replicate {A = ℕ} (PAGE_SIZE - length contents) 0 in
    let found : slice_get (contents ++ zeros) offset ≡ Some (get_or (contents ++ zeros) offset 0) = slice_get-get_or (contents ++ zeros) offset 0 (omega (arith, long, more)) in
    elim (cases_lt offset (length contents)) [
      | inl inside ↦ found ∙ ap Some (get_or_append_left contents zeros 0 offset inside)
      | inr over ↦ found ∙ ap Some (get_or-append_right contents zeros (length contents) offset 0 refl over ∙ get_or-replicate (PAGE_SIZE - length contents) (offset - length contents) 0 0 (omega (arith, over)) ∙ sym (get_or_past contents offset 0 over))
    ]

-- pages below a number are passed over
page_at-above : (before after : List PageView) (number : ℕ) → EndsBelow before number → page_at (before ++ after) number ≡ page_at after number
page_at-above [] after number below = refl
page_at-above (page ∷ before) after number below =
    let here : page.number < number = below 0 page (omega arith) in
    grind (arith, nat_tests, here, page_at-above before after number (All-tail (λ (page : PageView). page.number < number) page before below))

page_at-from : (first rights : ℕ) (contents : List ℕ) (count k : ℕ) (after : List PageView) → k < count → page_at (pages_from first rights contents count ++ after) (first + k) ≡ Some (record { number = first + k; rights = rights; bytes = zero_padded (take PAGE_SIZE (drop (PAGE_SIZE * k) contents)) })
unfolding pages_from
page_at-from first rights contents zero k after lt = absurd (omega (arith, lt))
page_at-from first rights contents (suc count) zero after lt =
    let same : first + 0 ≡ first = omega arith in
    rw same (grind (arith, nat_tests))
page_at-from first rights contents (suc count) (suc k) after lt =
    let next : first + suc k ≡ first + 1 + k = omega arith in
    let more : drop (PAGE_SIZE * k) (drop PAGE_SIZE contents) ≡ drop (PAGE_SIZE * suc k) contents = drop-drop (PAGE_SIZE * k) PAGE_SIZE contents ∙ ap (λ (n : ℕ). drop n contents) (omega arith) in
    let rest = page_at-from (first + 1) rights (drop PAGE_SIZE contents) count k after (omega (arith, lt)) in
    rw (next, ← more) (grind (arith, nat_tests, rest))

-- the byte at an address of pages that follow one another is that of their contents, or 0 past the end of these
pub byte-pages_from : (before after : List PageView) (first rights right : ℕ) (contents : List ℕ) (count address : ℕ) → EndsBelow before first → has_right rights right ≡ true → PAGE_SIZE * first ≤ address → address < PAGE_SIZE * (first + count) → byte_at (before ++ pages_from first rights contents count ++ after) right address ≡ Some (get_or contents (address - PAGE_SIZE * first) 0)
byte-pages_from before after first rights right contents count address below given low high =
    let k = address / PAGE_SIZE - first in
    let piece = take PAGE_SIZE (drop (PAGE_SIZE * k) contents) in
    let number : address / PAGE_SIZE ≡ first + k = omega arith in
    let under : EndsBelow before (address / PAGE_SIZE) = λ i d within. omega (arith, below i d within) in
    let page : page_at (before ++ pages_from first rights contents count ++ after) (address / PAGE_SIZE) ≡ Some (record { number = first + k; rights = rights; bytes = zero_padded piece }) = ap (λ (pages : List PageView). page_at pages (address / PAGE_SIZE)) (append_assoc before (pages_from first rights contents count) after) ∙ page_at-above before (pages_from first rights contents count ++ after) (address / PAGE_SIZE) under ∙ ap (page_at (pages_from first rights contents count ++ after)) number ∙ page_at-from first rights contents count k after (omega arith) in
    let offset : PAGE_SIZE * k + address % PAGE_SIZE ≡ address - PAGE_SIZE * first = omega arith in
    let byte : get_or piece (address % PAGE_SIZE) 0 ≡ get_or contents (address - PAGE_SIZE * first) 0 = get_or-take PAGE_SIZE (drop (PAGE_SIZE * k) contents) (address % PAGE_SIZE) 0 (omega arith) ∙ get_or-drop (PAGE_SIZE * k) contents (address % PAGE_SIZE) 0 ∙ ap (λ (n : ℕ). get_or contents n 0) offset in
    ap (byte_of right (address % PAGE_SIZE)) page ∙ rw given (byte-zero_padded piece (address % PAGE_SIZE) (omega (arith, length-take PAGE_SIZE (drop (PAGE_SIZE * k) contents))) (omega arith)) ∙ ap Some byte

-- the byte at an address of the first machine's stack is that of the stack's contents, or 0 past the end of these
pub stack-byte : (program : Executable) (bytes : List ℕ) (given : Invocation) (atomics : Bool) (address : ℕ) → STACK_START ≤ address → address < STACK_TOP → byte_at (first_machine program bytes given atomics).space READ address ≡ Some (get_or (stack_contents program (e_phnum bytes) given) (address - STACK_START) 0)
stack-byte program bytes given atomics address low high =
    let ends : EndsBelow (segment_pages program.segments bytes) SEGMENT_PAGES_END = pages-ends program.segments bytes (segment_pages program.segments bytes) SEGMENT_PAGES_END refl in
    let below : EndsBelow (segment_pages program.segments bytes) (STACK_START / PAGE_SIZE) = λ i d within. omega (arith, ends i d within) in
    byte-pages_from (segment_pages program.segments bytes) trampoline_pages (STACK_START / PAGE_SIZE) (granted_rights (READ + WRITE)) READ (stack_contents program (e_phnum bytes) given) STACK_PAGES address below refl low high
