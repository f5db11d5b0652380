-- The next page number that passes a test.
use Rattle.std.specs.Prelude.{◌≡◌, ◌≤◌, ◌<◌, ℕ, Bool, true, false}
use Rattle.dt_elf.specs.declared.layout.TheConstants.{SEGMENT_PAGES_END}

-- the first number from one on that passes a test, or the end where none below it does
pub record IsNext (test : ℕ → Bool) (from next : ℕ) : Type 0 where
  pub up : from ≤ next
  pub within : next ≤ SEGMENT_PAGES_END
  pub none : (number : ℕ) → from ≤ number → number < next → test number ≡ false
  pub here : next < SEGMENT_PAGES_END → test next ≡ true
