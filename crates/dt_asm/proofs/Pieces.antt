-- A B immediate's bits, put together from their two pieces.
use Rattle.std.proofs.Common.{◌≡◌, ℕ, ◌+◌, ◌*◌, ◌/◌, ◌%◌, ◌^◌, ◌<◌, ℤ, ap, ◌∙◌, arith}
use Rattle.dt_rv64.specs.Formats.{signed, rd, funct7, b_immediate}
use Rattle.dt_asm.specs.inner.Shapes.{IsBits}

b_sum : (word low high bits : ℕ) → word / 2 ^ 7 % 2 ^ 5 ≡ low → word / 2 ^ 25 % 2 ^ 7 ≡ high
    → bits < 2 ^ 13 → bits % 2 ≡ 0
    → low % 2 ≡ bits / 2 ^ 11 % 2 → low / 2 ≡ bits / 2 % 2 ^ 4
    → high / 2 ^ 6 ≡ bits / 2 ^ 12 → high % 2 ^ 6 ≡ bits / 2 ^ 5 % 2 ^ 6
    → word / 2 ^ 31 % 2 ^ 1 * 2 ^ 12 + word / 2 ^ 7 % 2 ^ 1 * 2 ^ 11 + word / 2 ^ 25 % 2 ^ 6 * 2 ^ 5 + word / 2 ^ 8 % 2 ^ 4 * 2 ≡ bits
b_sum word low high bits l h few even l1 l2 h1 h2 = omega arith

-- the immediate of a word whose pieces are a number's
pub b_whole : (word low high bits : ℕ) (number : ℤ) → rd word ≡ low → funct7 word ≡ high
    → IsBits 13 number bits → bits % 2 ≡ 0
    → low % 2 ≡ bits / 2 ^ 11 % 2 → low / 2 ≡ bits / 2 % 2 ^ 4
    → high / 2 ^ 6 ≡ bits / 2 ^ 12 → high % 2 ^ 6 ≡ bits / 2 ^ 5 % 2 ^ 6
    → b_immediate word ≡ number
b_whole word low high bits number l h is even l1 l2 h1 h2 =
    ap (signed 13) (b_sum word low high bits l h is.few even l1 l2 h1 h2) ∙ is.meaning
