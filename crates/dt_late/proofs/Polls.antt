-- What is found at entries, one after another.
use Rattle.std.proofs.Common.{◌≡◌, ℕ, ◌+◌, ◌*◌, ◌==◌, ◌≤◌, ◌++◌, if◌then◌else◌, List, length, take, drop, refl, sym, ◌∙◌, add-one, length-append, length-drop, arith}
use Rattle.std.proofs.lemmas.List.{length-take-le}
use Rattle.dt_base.specs.Fields.{low_bytes, with_field}
use Rattle.dt_space.proofs.Numbers.{length-low_bytes}
use Rattle.dt_late.specs.declared.numbers.TheConstants.{POLLFD_SIZE, POLLFD_REVENTS}
use Rattle.dt_late.specs.Poll.{polled_entries, ready_count, revents_at}

pub length-with_field : (width at v : ℕ) (bytes : List ℕ) → at + width ≤ length bytes → length (with_field width bytes at v) ≡ length bytes
length-with_field width at v bytes within =
    let whole = length-append (take at bytes ++ low_bytes width v) (drop (at + width) bytes) in
    let front = length-append (take at bytes) (low_bytes width v) in
    let kept = length-take-le at bytes (omega arith) in
    let field = length-low_bytes width v in
    let behind = length-drop (at + width) bytes in
    whole ∙ omega (arith, front, kept, field, behind)

module _ (found : ℕ → ℕ → ℕ) (entries : List ℕ) where
  pub polled-none : polled_entries found entries 0 ≡ entries
  unfolding polled_entries
  polled-none = refl

  pub ready-none : ready_count found entries 0 ≡ 0
  unfolding ready_count
  ready-none = refl

  polled-suc : (index : ℕ) → polled_entries found entries (index + 1)
      ≡ with_field 2 (polled_entries found entries index) (POLLFD_SIZE * index + POLLFD_REVENTS) (revents_at found entries index)
  unfolding polled_entries
  polled-suc index = rw add-one refl

  ready-suc : (index : ℕ) → ready_count found entries (index + 1)
      ≡ ready_count found entries index + (if revents_at found entries index == 0 then 0 else 1)
  unfolding ready_count
  ready-suc index = rw add-one refl

  -- one entry more
  pub polled-more : (index revents : ℕ) (polled new : List ℕ) → polled ≡ polled_entries found entries index
      → revents ≡ revents_at found entries index → new ≡ with_field 2 polled (POLLFD_SIZE * index + POLLFD_REVENTS) revents
      → new ≡ polled_entries found entries (index + 1)
  polled-more index revents polled new sofar this is =
      is ∙ (λ i. with_field 2 (sofar i) (POLLFD_SIZE * index + POLLFD_REVENTS) (this i)) ∙ sym (polled-suc index)

  pub ready-more : (index revents ready one new : ℕ) → ready ≡ ready_count found entries index
      → revents ≡ revents_at found entries index → one ≡ (if revents == 0 then 0 else 1) → new ≡ ready + one
      → new ≡ ready_count found entries (index + 1)
  ready-more index revents ready one new sofar this is more =
      more ∙ (λ i. sofar i + is i) ∙ (λ i. ready_count found entries index + (if this i == 0 then 0 else 1)) ∙ sym (ready-suc index)
