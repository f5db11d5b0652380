-- Claims over views that change at one place.
use Rattle.std.proofs.Common.{◌≡◌, ◌≢◌, ℕ, zero, suc, ◌+◌, ◌≤◌, List, [], ◌∷◌, ◌++◌, set, get_or, replicate, sym, refl, ap, arith, cond, eq-eqb, ne_eqb, Some}
use mathlib.Core.Option.{some, some-injective, some-ne-none}
use lib.ListN.{get_elem?}
use Rattle.dt_board.specs.Board.{Try, claim_count, claimants}
use Rattle.dt_board.specs.declared.view.View.{View}
use Rattle.dt_board.specs.declared.view.View.TheVariants.{Worker}

pub claimants-append : (p : ℕ) (vs ws : List View) → claimants p (vs ++ ws) ≡ claimants p vs + claimants p ws
claimants-append p [] ws = omega arith
claimants-append p (v ∷ vs) ws = omega (arith, claimants-append p vs ws)

pub claimants-set : (p : ℕ) (vs : List View) (j : ℕ) (v w : View) → get_elem? vs j ≡ some v → claimants p (set vs j w) + claim_count p v ≡ claimants p vs + claim_count p w
claimants-set p [] j v w e = absurd (some-ne-none v (sym e))
claimants-set p (x ∷ xs) zero v w e = omega (arith, ap (claim_count p) (some-injective x v e))
claimants-set p (x ∷ xs) (suc j) v w e = omega (arith, claimants-set p xs j v w e)

pub claim_count_le : (p : ℕ) (vs : List View) (j : ℕ) (v : View) → get_elem? vs j ≡ some v → claim_count p v ≤ claimants p vs
claim_count_le p [] j v e = absurd (some-ne-none v (sym e))
claim_count_le p (x ∷ xs) zero v e = omega (arith, ap (claim_count p) (some-injective x v e))
claim_count_le p (x ∷ xs) (suc j) v e = omega (arith, claim_count_le p xs j v e)

pub claim_here : (p : ℕ) (tries : List Try) → claim_count p (Worker (Some p) tries) ≡ 1
claim_here p tries = ap (λ b. cond b 1 0) (eq-eqb p p refl)

pub claim_else : (p q : ℕ) (tries : List Try) → q ≢ p → claim_count q (Worker (Some p) tries) ≡ 0
claim_else p q tries ne = ap (λ b. cond b 1 0) (ne_eqb p q (λ e. ne (sym e)))

pub get_or-zeros : (n k : ℕ) → get_or (replicate n zero) k zero ≡ zero
get_or-zeros zero k = refl
get_or-zeros (suc n) zero = refl
get_or-zeros (suc n) (suc k) = get_or-zeros n k
