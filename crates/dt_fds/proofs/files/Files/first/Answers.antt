use Rattle.std.proofs.Common.{◌≡◌, ℕ, sym, ap, ◌∙◌, Option, None}
use Rattle.std.specs.Ordering.{nat_cmp}
use Rattle.std.specs.FinMap.{FinMap, get, empty, get-empty}
use Rattle.dt_fds.specs.declared.ends.Ends.{Ends}
use Rattle.dt_fds.specs.Ends.{is_read, is_written, one_if}
use Rattle.dt_fds.proofs.files.Files.first.Goals as goal

none-there : (ends : FinMap nat_cmp Ends) → ends ≡ empty → (q : ℕ) → ◌≡◌ {A = Option Ends} None (get ends q)
none-there ends is q = sym (ap (λ e. get e q) is ∙ get-empty nat_cmp q)

pub returns-clause-counted : goal.returns-clause-counted
returns-clause-counted c = record {
  reading = λ q. c.in_ok-descriptors.ensures.reading q ∙ ap (λ found. one_if (is_read found)) (none-there c.new-2.result c.new-2.ensures q);
  writing = λ q. c.in_ok-descriptors.ensures.writing q ∙ ap (λ found. one_if (is_written found)) (none-there c.new-2.result c.new-2.ensures q);
}
