-- Lists of ranges that are read one by one: what came so far before what is still to come.
use Rattle.std.proofs.Common.{◌≡◌, ℕ, zero, suc, ◌<◌, ◌≤◌, ◌+◌, ◌-◌, ◌%◌, ◌^◌, List, [], ◌∷◌, ◌++◌, min, append_assoc, append-nil, Bool, true, false, Result, Ok, Err, refl, sym, ap, ◌∙◌, subst, arith}
use Rattle.std.proofs.lemmas.List.Sums.{sum_by-cons}
use Rattle.std.specs.Prelude.{nat_lt, if◌then◌else◌}
use Rattle.dt_base.specs.declared.abi.TheConstants.{IOV_MAX, TRANSFER_LIMIT}
use Rattle.dt_base.specs.declared.errno.Errno.{Errno}
use Rattle.dt_base.specs.declared.errno.Errno.TheVariants.{Inval}
use Rattle.dt_space.specs.Space.{PageView}
use Rattle.dt_iocalls.specs.declared.ranges.Range.{Range}
use Rattle.dt_iocalls.specs.declared.ranges.TheConstants.{IOVEC_LEN}
use Rattle.dt_iocalls.specs.Ranges.{total_len, cut_to, range_before, iovec_at, iovecs_at, cut_ranges, ranges_at}

-- what came so far before what comes, unless that is an error
abbrev pub after : {A E : Type 0} → List A → Result (List A) E → Result (List A) E
after xs (Ok ys) = Ok (xs ++ ys)
after xs (Err e) = Err e

pub after_none : {A E : Type 0} → (r : Result (List A) E) → after [] r ≡ r
after_none (Ok ys) = refl
after_none (Err e) = refl

after-before : (ranges : List Range) (range : Range) (rest : Result (List Range) Errno) → after ranges (range_before (Ok range) rest) ≡ after (ranges ++ range ∷ []) rest
after-before ranges range (Ok more) = ap Ok (sym (append_assoc ranges (range ∷ []) more))
after-before ranges range (Err errno) = refl

-- one range of a list
iovecs-step : (pages : List PageView) (at left : ℕ) → 0 < left → iovecs_at pages at left ≡ range_before (iovec_at pages at) (iovecs_at pages ((at + IOVEC_LEN) % 2 ^ 64) (left - 1))
unfolding iovecs_at
iovecs-step pages at zero some = absurd (omega arith)
iovecs-step pages at (suc left) some = let less : suc left - 1 ≡ left = omega arith in rw less refl

pub iovecs-more : (pages : List PageView) (all : Result (List Range) Errno) (next count index : ℕ) (ranges new : List Range) (range : Range) → index < count → iovec_at pages next ≡ Ok range → new ≡ ranges ++ range ∷ [] → all ≡ after ranges (iovecs_at pages next (count - index)) → all ≡ after new (iovecs_at pages ((next + IOVEC_LEN) % 2 ^ 64) (count - (index + 1)))
iovecs-more pages all next count index ranges new range within found more so_far =
    let rest = iovecs_at pages ((next + IOVEC_LEN) % 2 ^ 64) (count - index - 1) in
    let less : count - (index + 1) ≡ count - index - 1 = omega arith in
    rw (more, less)
    (so_far ∙ ap (after ranges) (iovecs-step pages next (count - index) (omega arith)) ∙ ap (λ r. after ranges (range_before r rest)) found
    ∙ after-before ranges range rest)

pub iovecs-refused : (pages : List PageView) (all : Result (List Range) Errno) (next count index : ℕ) (ranges : List Range) (errno : Errno) → index < count → iovec_at pages next ≡ Err errno → all ≡ after ranges (iovecs_at pages next (count - index)) → all ≡ Err errno
iovecs-refused pages all next count index ranges errno within found so_far =
    let rest = iovecs_at pages ((next + IOVEC_LEN) % 2 ^ 64) (count - index - 1) in
    so_far ∙ ap (after ranges) (iovecs-step pages next (count - index) (omega arith)) ∙ ap (λ r. after ranges (range_before r rest)) found

pub iovecs-end : (pages : List PageView) (next left : ℕ) (ranges : List Range) → left ≡ 0 → after ranges (iovecs_at pages next left) ≡ Ok ranges
unfolding iovecs_at
iovecs-end pages next left ranges none = rw none (rw append-nil refl)

-- one range more is cut
abbrev pub cut : ℕ → Range → Range
cut left range = record range { len = min range.len left }

-- one call moves no more bytes than it may
cut_total : (limit : ℕ) (ranges : List Range) → total_len (cut_to limit ranges) ≤ limit
unfolding cut_to
cut_total limit [] = omega arith
cut_total limit (range ∷ ranges) = omega (arith, sum_by-cons (λ r. r.len) (cut limit range) (cut_to (limit - range.len) ranges), cut_total (limit - range.len) ranges)

pub few_at : (pages : List PageView) (at count : ℕ) (ranges : List Range) → ranges_at pages at count ≡ Ok ranges → total_len ranges ≤ TRANSFER_LIMIT
unfolding ranges_at
few_at pages at count ranges is = by-count (nat_lt IOV_MAX count) is
  where
    by-total : (found : List Range) (much : Bool) → (if much then Err Inval else Ok (cut_to TRANSFER_LIMIT found)) ≡ Ok ranges → total_len ranges ≤ TRANSFER_LIMIT
    by-total found true is = absurd cc
    by-total found false is = let same : cut_to TRANSFER_LIMIT found ≡ ranges = cc in subst (λ r. total_len r ≤ TRANSFER_LIMIT) same (cut_total TRANSFER_LIMIT found)

    by-found : (found : Result (List Range) Errno) → cut_ranges found ≡ Ok ranges → total_len ranges ≤ TRANSFER_LIMIT
    by-found (Err errno) is = absurd cc
    by-found (Ok found) is = by-total found (nat_lt (2 ^ 63 - 1) (total_len found)) is

    by-count : (many : Bool) → (if many then Err Inval else cut_ranges (iovecs_at pages at count)) ≡ Ok ranges → total_len ranges ≤ TRANSFER_LIMIT
    by-count true is = absurd cc
    by-count false is = by-found (iovecs_at pages at count) is

pub ruleset lists_ranges = (after_none, iovecs-end)
