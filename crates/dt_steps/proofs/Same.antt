-- Equal inputs, part by part.
use Rattle.std.proofs.Common.{arith, ◌≡◌, ℕ, List, length, take, sym, ◌∙◌}
use Rattle.std.proofs.lemmas.List.{take_all}
use Rattle.dt_base.specs.Command.{Words}
use Rattle.dt_base.specs.Image.{ImageParts}
use Rattle.dt_base.specs.declared.image.Entry.{Entry}

-- commands are the same where their words and their inputs are
pub same-words : (a b : Words) → a.args ≡ b.args → a.env ≡ b.env → a.input ≡ b.input → a ≡ b
same-words a b args env input = λ i. record { args = args i; env = env i; input = input i }

-- images are the same where their versions and entries are
pub same-image : (a b : ImageParts) → a.version ≡ b.version → a.entries ≡ b.entries → a ≡ b
same-image a b version entries = λ i. record { version = version i; entries = entries i }

-- lists are the same where all of one are taken from both
pub same-taken : (xs ys : List Entry) (n : ℕ) → length xs ≡ n → length ys ≡ n → take n xs ≡ take n ys → xs ≡ ys
same-taken xs ys n a b e = sym (take_all n xs (omega arith)) ∙ e ∙ take_all n ys (omega arith)
