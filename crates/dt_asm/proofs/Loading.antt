-- What loads a number of 64 bits into a register.
use Rattle.std.proofs.Common.{◌≡◌, ◌≤◌, ◌<◌, ℕ, suc, ◌*◌, ◌^◌, true, false, cond, List, [], ◌∷◌, ◌++◌, map, Result, OnOk, ℤ, pos, negsuc, ◌+ℤ◌, sym, ap, ◌∙◌, arith, w64}
use Rattle.std.specs.Prelude.{unsigned_abs, int_lt}
use Rattle.std.specs.Int.{int_rem_euclid, int_div_euclid}
use Rattle.std.proofs.lemmas.Int.{to_z-of_z}
use Rattle.std.proofs.lemmas.List.{append_assoc, map-append}
use Rattle.std.proofs.lemmas.Result.{on_ok_weaker}
use Rattle.std.proofs.lemmas.Bool.Decides.{nat_tests}
use mir.Val.{SFits, to_z, of_z}
use Rattle.dt_rv64.specs.declared.instruction.Instr.{Instr}
use Rattle.dt_rv64.specs.declared.instruction.Instr.TheVariants.{Lui, Addi, Slli, Addiw}
use Rattle.dt_asm.specs.declared.item.Item.{Item}
use Rattle.dt_asm.specs.declared.item.Item.TheVariants.{Code}
use Rattle.dt_asm.specs.Fits.{is_signed}
use Rattle.dt_asm.specs.Load.{signed_low, without_low, high_52, lui_addiw, slli_addi, load_sequence_within, load_sequence}

-- the upper 52 bits are a number smaller by twelve bits
pub abs_hi52 : (m : ℕ) (number : ℤ) → unsigned_abs number ≤ 4096 * m → unsigned_abs (high_52 number) ≤ m
abs_hi52 m (pos a) h = grind (arith, nat_tests)
abs_hi52 m (negsuc a) h = grind (arith, nat_tests)

-- the upper 52 bits, by the remainder
hi52_below : (number : ℤ) → int_lt (int_rem_euclid number (pos 4096)) (pos 2048) ≡ true → high_52 number ≡ int_div_euclid number (pos 4096)
hi52_below (pos a) h = grind (arith, nat_tests)
hi52_below (negsuc a) h = grind (arith, nat_tests)

hi52_above : (number : ℤ) → int_lt (int_rem_euclid number (pos 4096)) (pos 2048) ≡ false → high_52 number ≡ int_div_euclid number (pos 4096) +ℤ pos 1
hi52_above (pos a) h = grind (arith, nat_tests)
hi52_above (negsuc a) h = grind (arith, nat_tests)

abs_of_fits : (number : ℤ) → SFits w64 number → unsigned_abs number ≤ 2 ^ 63
abs_of_fits (pos a) h = let k = h.sfits in omega arith
abs_of_fits (negsuc a) h = let k = h.sfits in omega arith

fits_of_abs : (number : ℤ) → unsigned_abs number ≤ 2 ^ 51 → SFits w64 number
fits_of_abs (pos a) h = record { sfits = omega arith }
fits_of_abs (negsuc a) h = record { sfits = omega arith }

fits_hi52 : (number : ℤ) → SFits w64 number → SFits w64 (high_52 number)
fits_hi52 number h = fits_of_abs (high_52 number) (abs_hi52 (2 ^ 51) number (abs_of_fits number h))

-- the two ways to the upper 52 bits, as the machine's numbers
pub hi52_then : (n u r : ℤ) → SFits w64 n → SFits w64 u → SFits w64 r
    → u ≡ int_div_euclid (to_z w64 (of_z w64 n)) (pos 4096) → r ≡ int_rem_euclid (to_z w64 (of_z w64 n)) (pos 4096)
    → int_lt (to_z w64 (of_z w64 r)) (pos 2048) ≡ true → to_z w64 (of_z w64 u) ≡ high_52 n
hi52_then n u r fn fu fr hu hr test =
    let same = to_z-of_z w64 n fn in
    let rem = to_z-of_z w64 r fr ∙ hr ∙ ap (λ z. int_rem_euclid z (pos 4096)) same in
    to_z-of_z w64 u fu ∙ hu ∙ ap (λ z. int_div_euclid z (pos 4096)) same ∙ sym (hi52_below n (ap (λ z. int_lt z (pos 2048)) (sym rem) ∙ test))

pub hi52_else : (n u r : ℤ) → SFits w64 n → SFits w64 u → SFits w64 r
    → u ≡ int_div_euclid (to_z w64 (of_z w64 n)) (pos 4096) → r ≡ int_rem_euclid (to_z w64 (of_z w64 n)) (pos 4096)
    → int_lt (to_z w64 (of_z w64 r)) (pos 2048) ≡ false → to_z w64 (of_z w64 (to_z w64 (of_z w64 u) +ℤ pos 1)) ≡ high_52 n
hi52_else n u r fn fu fr hu hr test =
    let same = to_z-of_z w64 n fn in
    let rem = to_z-of_z w64 r fr ∙ hr ∙ ap (λ z. int_rem_euclid z (pos 4096)) same in
    let high = hi52_above n (ap (λ z. int_lt z (pos 2048)) (sym rem) ∙ test) in
    let div = to_z-of_z w64 u fu ∙ hu ∙ ap (λ z. int_div_euclid z (pos 4096)) same in
    ap (λ z. to_z w64 (of_z w64 z)) (ap (λ z. z +ℤ pos 1) div ∙ sym high) ∙ to_z-of_z w64 (high_52 n) (fits_hi52 n fn)

-- a part more changes nothing where a part more changes nothing of the upper 52 bits
more : (parts register : ℕ) (number : ℤ) → load_sequence_within parts register (high_52 number) ≡ load_sequence_within (suc parts) register (high_52 number)
    → load_sequence_within (suc parts) register number ≡ load_sequence_within (suc (suc parts)) register number
unfolding load_sequence_within
more parts register number h =
    ap (λ xs. cond (is_signed 12 number) (Addi register 0 number ∷ []) (cond (is_signed 32 number) (lui_addiw register number) (xs ++ slli_addi register (signed_low 12 number)))) h

is_word : (number : ℤ) → unsigned_abs number ≤ 2 ^ 27 → is_signed 32 number ≡ true
is_word (pos a) h = grind (arith, nat_tests)
is_word (negsuc a) h = grind (arith, nat_tests)

enough_1 : (register : ℕ) (number : ℤ) → unsigned_abs number ≤ 2 ^ 27 → load_sequence_within 1 register number ≡ load_sequence_within 2 register number
unfolding load_sequence_within
enough_1 register number h = rw (is_word number h)

enough_2 : (register : ℕ) (number : ℤ) → unsigned_abs number ≤ 2 ^ 39 → load_sequence_within 2 register number ≡ load_sequence_within 3 register number
enough_2 register number h = more 1 register number (enough_1 register (high_52 number) (abs_hi52 (2 ^ 27) number h))

enough_3 : (register : ℕ) (number : ℤ) → unsigned_abs number ≤ 2 ^ 51 → load_sequence_within 3 register number ≡ load_sequence_within 4 register number
enough_3 register number h = more 2 register number (enough_2 register (high_52 number) (abs_hi52 (2 ^ 39) number h))

pub loading_short : (register : ℕ) (number : ℤ) → is_signed 12 number ≡ true → load_sequence register number ≡ Addi register 0 number ∷ []
unfolding load_sequence_within
loading_short register number h = rw h

pub loading_as_word : (register : ℕ) (number : ℤ) → is_signed 12 number ≡ false → is_signed 32 number ≡ true
    → load_sequence register number ≡ lui_addiw register number
unfolding load_sequence_within
loading_as_word register number h k = rw (h, k)

wide : (register : ℕ) (number : ℤ) → is_signed 12 number ≡ false → is_signed 32 number ≡ false
    → load_sequence register number ≡ load_sequence_within 3 register (high_52 number) ++ slli_addi register (signed_low 12 number)
unfolding load_sequence_within
wide register number h k =
    ap (λ b. cond b (Addi register 0 number ∷ []) (cond (is_signed 32 number) (lui_addiw register number) (load_sequence_within 3 register (high_52 number) ++ slli_addi register (signed_low 12 number)))) h
    ∙ ap (λ b. cond b (lui_addiw register number) (load_sequence_within 3 register (high_52 number) ++ slli_addi register (signed_low 12 number))) k

pub loading_wide : (register : ℕ) (number : ℤ) → SFits w64 number → is_signed 12 number ≡ false → is_signed 32 number ≡ false
    → load_sequence register number ≡ load_sequence register (high_52 number) ++ slli_addi register (signed_low 12 number)
loading_wide register number fits h k =
    wide register number h k
    ∙ ap (λ xs. xs ++ slli_addi register (signed_low 12 number)) (enough_3 register (high_52 number) (abs_hi52 (2 ^ 51) number (abs_of_fits number fits)))

-- the upper 52 bits of a number that isn't short are a smaller one
pub smaller : (number : ℤ) → is_signed 12 number ≡ false → unsigned_abs (high_52 number) < unsigned_abs number
smaller (pos a) h = grind (arith, nat_tests)
smaller (negsuc a) h = grind (arith, nat_tests)

module _ {E : Type 0} (r : Result (Unit {0}) E) (register : ℕ) (number passed : ℤ) (same : passed ≡ number) where
  -- one instruction added
  pub adds_short : (old new : List Item) (i : Instr) → is_signed 12 passed ≡ true → i ≡ Addi register 0 passed
      → OnOk r (new ≡ old ++ Code i ∷ []) → OnOk r (new ≡ old ++ map (λ x. Code x) (load_sequence register number))
  adds_short old new i test i_is =
      let shape = ap (λ x. x ∷ []) (i_is ∙ ap (Addi register 0) same) ∙ sym (loading_short register number (ap (is_signed 12) (sym same) ∙ test)) in
      on_ok_weaker r (λ e. e ∙ ap (λ xs. old ++ map (λ x. Code x) xs) shape)

  -- two instructions added
  pub adds_word : (old mid new : List Item) (i j : Instr) → is_signed 12 passed ≡ false → is_signed 32 passed ≡ true
      → i ≡ Lui register (signed_low 32 (without_low passed)) → j ≡ Addiw register register (signed_low 12 passed)
      → mid ≡ old ++ Code i ∷ [] → OnOk r (new ≡ mid ++ Code j ∷ []) → OnOk r (new ≡ old ++ map (λ x. Code x) (load_sequence register number))
  adds_word old mid new i j short word i_is j_is first =
      let law = loading_as_word register number (ap (is_signed 12) (sym same) ∙ short) (ap (is_signed 32) (sym same) ∙ word) in
      let head = i_is ∙ ap (λ z. Lui register (signed_low 32 (without_low z))) same in
      let last = j_is ∙ ap (λ z. Addiw register register (signed_low 12 z)) same in
      on_ok_weaker r (λ e. e ∙ rw (first, head, last, law) (simp append_assoc))

  -- two instructions added behind those of the upper 52 bits
  pub adds_wide : (old mid next new : List Item) (i j : Instr) (high : ℤ) → SFits w64 number → is_signed 12 passed ≡ false → is_signed 32 passed ≡ false
      → high ≡ high_52 number → i ≡ Slli register register 12 → j ≡ Addi register register (signed_low 12 passed)
      → mid ≡ old ++ map (λ x. Code x) (load_sequence register high) → next ≡ mid ++ Code i ∷ [] → OnOk r (new ≡ next ++ Code j ∷ [])
      → OnOk r (new ≡ old ++ map (λ x. Code x) (load_sequence register number))
  adds_wide old mid next new i j high fits short word high_is i_is j_is first second =
      let law = loading_wide register number fits (ap (is_signed 12) (sym same) ∙ short) (ap (is_signed 32) (sym same) ∙ word) in
      let last = j_is ∙ ap (λ z. Addi register register (signed_low 12 z)) same in
      on_ok_weaker r (λ e. e ∙ rw (second, first, high_is, i_is, last, law, map-append) (simp append_assoc))
