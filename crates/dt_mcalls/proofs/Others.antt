-- What is left of the pages where a mapping takes the place of some.
use Rattle.std.proofs.Common.{◌≡◌, ℕ, ◌<◌, ◌≤◌, ◌+◌, ◌*◌, ◌/◌, ◌%◌, List, [], ◌∷◌, length, Bool, true, false, cond, not, ltb, refl, ap, arith}
use Rattle.std.specs.List.{filter, list_any}
use Rattle.std.proofs.lemmas.Bool.Decides.{nat_tests}
use Rattle.std.proofs.lemmas.List.Filters.{length-filter_both}
use Rattle.dt_base.specs.declared.errno.Errno.TheVariants.{NoMem}
use Rattle.dt_base.specs.declared.limits.TheConstants.{PAGE_SIZE, PAGE_LIMIT}
use Rattle.dt_space.specs.Space.{PageView}
use Rattle.dt_space.specs.Ranges.{is_in_range, pages_after_unmap}
use Rattle.dt_space.specs.Gaps.{pages_in, is_free}
use Rattle.dt_mcalls.specs.Called.{refused_memory_call}
use Rattle.dt_mcalls.specs.Lengths.{is_page_start, is_past_end}
use Rattle.dt_mcalls.specs.Mmap.{mmap_at_free, mmap_fixed}

any-filter : (test : PageView → Bool) (pages : List PageView) → list_any test (filter (λ page. not (test page)) pages) ≡ false
any-filter test [] = refl
any-filter test (x ∷ pages) = by-test (test x) refl (any-filter test pages)
  where
    by-test : (b : Bool) → test x ≡ b → list_any test (filter (λ page. not (test page)) pages) ≡ false → list_any test (cond (not b) (x ∷ filter (λ page. not (test page)) pages) (filter (λ page. not (test page)) pages)) ≡ false
    by-test true is rest = rest
    by-test false is rest = rw is rest

-- a range that was unmapped is free
pub unmapped-free : (pages : List PageView) (first count : ℕ) → is_free (pages_after_unmap pages first count) first count ≡ true
unmapped-free pages first count = ap not (any-filter (λ (page : PageView). is_in_range first count page.number) pages)

-- the pages of a range, and the others
pub others-length : (pages : List PageView) (first count : ℕ) → length (pages_in pages first count) + length (pages_after_unmap pages first count) ≡ length pages
others-length pages first count = length-filter_both (λ (page : PageView). is_in_range first count page.number) (λ (page : PageView). not (is_in_range first count page.number)) (λ x. refl) pages

-- a mapping at an address where the others leave no room, and where they do
module _ (pages : List PageView) (address count rights : ℕ) (start : is_page_start address ≡ true) (low : is_past_end (address / PAGE_SIZE) count ≡ false) where
  pub at-full : PAGE_LIMIT < length (pages_after_unmap pages (address / PAGE_SIZE) count) + count → mmap_fixed pages address count rights ≡ refused_memory_call pages NoMem
  unfolding mmap_fixed
  at-full many =
      let test : ltb PAGE_LIMIT (length (pages_after_unmap pages (address / PAGE_SIZE) count) + count) ≡ true = grind (arith, nat_tests) in
      rw (start, low, test) refl

  pub at-free : length (pages_after_unmap pages (address / PAGE_SIZE) count) + count ≤ PAGE_LIMIT → mmap_fixed pages address count rights ≡ mmap_at_free (pages_after_unmap pages (address / PAGE_SIZE) count) (address / PAGE_SIZE) count rights
  unfolding mmap_fixed mmap_at_free
  at-free few =
      let test : ltb PAGE_LIMIT (length (pages_after_unmap pages (address / PAGE_SIZE) count) + count) ≡ false = grind (arith, nat_tests) in
      let aligned : address % PAGE_SIZE ≡ 0 = grind (arith, nat_tests) in
      let back : address / PAGE_SIZE * PAGE_SIZE ≡ address = omega arith in
      rw (start, low, test, back) refl
