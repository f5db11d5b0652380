-- What `{:04o}` writes is a mode's text.
use Rattle.std.proofs.Common.{◌≡◌, ℕ, ◌-◌, ◌^◌, false, []}
use Rattle.std.proofs.Math.Nat.{sub-zero}
use Rattle.std.specs.Fmt.{padded_integral, char_count, format_spec, digits}
use Rattle.std.proofs.lemmas.List.{append-nil}
use Rattle.dt_image.specs.Report.{mode_text}

pub padded_mode : (n : ℕ) → padded_integral (format_spec 32 0 4 4 (2 ^ 64 - 1)) false [] (digits 8 false n) ≡ mode_text n
unfolding padded_integral char_count
padded_mode n = simp (append-nil, sub-zero)
