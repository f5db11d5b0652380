-- Sets of signals, and the search for the lowest signal that can be delivered.
use Rattle.std.proofs.Common.{◌≡◌, ℕ, zero, suc, ◌+◌, ◌-◌, ◌/◌, ◌%◌, ◌^◌, ◌<◌, ◌≤◌, Bool, true, false, cond, ◌∷◌, Some, None, bit_and, bit_or, refl, sym, ap, ◌∙◌, add-one, arith, w64}
use Rattle.std.specs.List.{find}
use Rattle.std.proofs.lemmas.Bool.Decides.{nat_tests}
use Rattle.std.proofs.lemmas.Nat.{and_mask}
use Rattle.std.proofs.lemmas.Nat.Bits.{bit_at_and, bit_at_not, bit_at-zero, bit_at-lt}
use Rattle.dt_base.specs.declared.abi.TheConstants.{SIGNAL_LIMIT}
use Rattle.dt_signals.specs.declared.signals.Sig.{Sig}
use Rattle.dt_signals.specs.Signals.{bit_of, is_due, is_deliverable, is_dropped, signals_from, set_of, lowest_deliverable, dropped_signals, without_ignored}

signals-on : (signal count : ℕ) → signals_from signal (suc count) ≡ signal ∷ signals_from (signal + 1) count
unfolding signals_from
signals-on signal count = refl

find-on : (test : ℕ → Bool) (signal count left : ℕ) → left ≡ suc count → find test (signals_from signal left) ≡ cond (test signal) (Some signal) (find test (signals_from (signal + 1) count))
find-on test signal count left is = rw (is, signals-on signal count) refl

-- one signal on
pub search-on : (test : ℕ → Bool) (index : ℕ) → index < 64 → test (index + 1) ≡ false → find test (signals_from (index + 1 + 1) (64 - (index + 1))) ≡ find test (signals_from (index + 1) (64 - index))
search-on test index within other = sym (find-on test (index + 1) (64 - (index + 1)) (64 - index) (omega arith) ∙ rw other refl)

-- a signal that passes
pub search-found : (test : ℕ → Bool) (index : ℕ) → index < 64 → test (index + 1) ≡ true → find test (signals_from (index + 1) (64 - index)) ≡ Some (index + 1)
search-found test index within found = find-on test (index + 1) (64 - (index + 1)) (64 - index) (omega arith) ∙ rw found refl

-- no signal is left
pub search-end : (test : ℕ → Bool) (index : ℕ) → 64 ≤ index → find test (signals_from (index + 1) (64 - index)) ≡ None
unfolding signals_from
search-end test index all = let none : 64 - index ≡ 0 = omega arith in rw none refl

-- one signal more of a set
set-on : (test : ℕ → Bool) (count : ℕ) → set_of test (count + 1) ≡ cond (test (count + 1)) (bit_or (set_of test count) (bit_of (count + 1))) (set_of test count)
unfolding set_of
set-on test count = rw add-one refl

pub set-with : (test : ℕ → Bool) (count set bit new : ℕ) → set ≡ set_of test count → bit ≡ bit_of (count + 1) → new ≡ bit_or set bit → test (count + 1) ≡ true → new ≡ set_of test (count + 1)
set-with test count set bit new sofar one is passes = rw (is, sofar, one, set-on test count, passes) refl

pub set-without : (test : ℕ → Bool) (count set new : ℕ) → set ≡ set_of test count → new ≡ set → test (count + 1) ≡ false → new ≡ set_of test (count + 1)
set-without test count set new sofar is fails = rw (is, sofar, set-on test count, fails) refl

pub set-none : (test : ℕ → Bool) → set_of test 0 ≡ 0
unfolding set_of
set-none test = refl

-- where no signal passes

find-nothing : (test : ℕ → Bool) (count signal : ℕ) → ((other : ℕ) → signal ≤ other → other < signal + count → test other ≡ false) → find test (signals_from signal count) ≡ None
unfolding signals_from
find-nothing test zero signal none = refl
find-nothing test (suc count) signal none =
    rw (none signal (omega arith) (omega arith)) (find-nothing test count (signal + 1) (λ other above below. none other (omega arith) (omega arith)))

set-nothing : (test : ℕ → Bool) (count : ℕ) → ((other : ℕ) → 1 ≤ other → other ≤ count → test other ≡ false) → set_of test count ≡ 0
unfolding set_of
set-nothing test zero none = refl
set-nothing test (suc count) none =
    rw (none (suc count) (omega arith) (omega arith)) (set-nothing test count (λ other above below. none other above (omega arith)))

-- no signal is due where the pending ones are all masked
not-due : (g : Sig) (signal : ℕ) → g.mask < 2 ^ 64 → bit_and g.pending (2 ^ 64 - 1 - g.mask) ≡ 0 → signal ≤ SIGNAL_LIMIT → 1 ≤ signal → is_due g signal ≡ false
not-due g signal fits none within some =
    let i = signal - 1 in
    let both : bit_and g.pending (2 ^ 64 - 1 - g.mask) / 2 ^ i % 2 ≡ 0 = rw none (bit_at-zero i) in
    let apart = sym (bit_at_and g.pending (2 ^ 64 - 1 - g.mask) i) ∙ both in
    let kept = bit_at_not w64 g.mask i fits (omega arith) in
    let one = bit_at-lt g.pending i in
    let other = bit_at-lt g.mask i in
    grind (arith, nat_tests)

pub nothing-deliverable : (g : Sig) → g.mask < 2 ^ 64 → bit_and g.pending (2 ^ 64 - 1 - g.mask) ≡ 0 → lowest_deliverable g ≡ None
unfolding lowest_deliverable
nothing-deliverable g fits none =
    find-nothing (is_deliverable g) SIGNAL_LIMIT 1 (λ signal above below. rw (not-due g signal fits none (omega arith) above) refl)

pub nothing-dropped_signals : (g : Sig) → g.mask < 2 ^ 64 → g.pending < 2 ^ 64 → bit_and g.pending (2 ^ 64 - 1 - g.mask) ≡ 0 → without_ignored g ≡ g
nothing-dropped_signals g mask pending none =
    let empty : dropped_signals g ≡ 0 = set-nothing (is_dropped g) SIGNAL_LIMIT (λ signal above below. rw (not-due g signal mask none below above) refl) in
    let same : bit_and g.pending (2 ^ 64 - 1 - dropped_signals g) ≡ g.pending = rw empty (and_mask g.pending 64 ∙ omega arith) in
    ap (λ (set : ℕ). record g { pending = set }) same
