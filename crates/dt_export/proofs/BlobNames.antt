-- The name of a file's blob is one that a blob may have.
use Rattle.std.proofs.Common.{◌≡◌, ℕ, zero, suc, ◌+◌, ◌<◌, ◌≤◌, ◌/◌, ◌%◌, ◌==◌, nat_le, true, false, not, ◌&&◌, List, [], ◌∷◌, length, take, decimal, refl, arith}
use Rattle.std.proofs.lemmas.Bool.{and_from, le-leb, agree_below_at, cond_both}
use Rattle.std.specs.Prelude.{codes}
use Rattle.std.specs.Fmt.{digits, digits_onto, digit_glyph}
use Rattle.std.specs.List.{list_all}
use Rattle.std.specs.Str.{bytes_eq}
use Rattle.dt_base.specs.declared.limits.TheConstants.{NAME_LIMIT}
use Rattle.dt_image.specs.Index.{is_blob_byte, is_blob_name}
use Rattle.dt_export.specs.ExportedIndex.{blob_name}

digit_good : (d : ℕ) → d < 10 → is_blob_byte (digit_glyph false d) ≡ true
digit_good d small = agree_below_at (λ d. is_blob_byte (digit_glyph false d)) (λ _. true) 10 d refl small

-- the bytes of a number, with others behind them
abbrev HasGood : ℕ → List ℕ → Type 0
HasGood most bytes = (length bytes ≤ most) × (list_all is_blob_byte bytes ≡ true)

digits_good : (k n most : ℕ) (acc : List ℕ) → k + length acc ≤ most → list_all is_blob_byte acc ≡ true → HasGood most (digits_onto k 10 false n acc)
digits_good zero n most acc short good = (omega arith, good)
digits_good (suc k) n most acc short good =
    let here : is_blob_byte (digit_glyph false (n % 10)) ≡ true = digit_good (n % 10) (omega arith) in
    let more : list_all is_blob_byte (digit_glyph false (n % 10) ∷ acc) ≡ true = and_from (is_blob_byte (digit_glyph false (n % 10))) (list_all is_blob_byte acc) here good in
    cond_both (n / 10 == 0) (digit_glyph false (n % 10) ∷ acc) (digits_onto k 10 false (n / 10) (digit_glyph false (n % 10) ∷ acc)) (HasGood most)
    (λ _. (omega arith, more)) (λ _. digits_good k (n / 10) most (digit_glyph false (n % 10) ∷ acc) (omega arith) more)

decimal_good : (n : ℕ) → HasGood 64 (decimal n)
unfolding digits
decimal_good n = digits_good 64 n 64 [] (omega arith) refl

pub blob_good : (inode : ℕ) → is_blob_name (blob_name inode) ≡ true
blob_good inode =
    let rest = decimal_good inode in
    let name = blob_name inode in
    and_from (nat_le 1 (length name) && nat_le (length name) NAME_LIMIT && not (bytes_eq (take 1 name) (codes "."))) (list_all is_blob_byte name)
    (and_from (nat_le 1 (length name) && nat_le (length name) NAME_LIMIT) (not (bytes_eq (take 1 name) (codes ".")))
    (and_from (nat_le 1 (length name)) (nat_le (length name) NAME_LIMIT) (le-leb 1 (length name) (omega arith)) (le-leb (length name) NAME_LIMIT (omega (arith, rest.0)))) refl)
    rest.1
