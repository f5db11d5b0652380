-- A path that was read from memory, as a link's target.
use Rattle.std.proofs.Common.{◌≡◌, ℕ, ◌+◌, ◌≤◌, suc, length, List, [], ◌∷◌, Result, Ok, Err, refl, subst, arith}
use Rattle.std.proofs.lemmas.Bool.Decides.{nat_tests}
use Rattle.std.specs.Prelude.{IsTrue}
use Rattle.dt_base.specs.Path.{has_no_nul}
use Rattle.dt_base.specs.Image.{is_target}
use Rattle.dt_base.specs.declared.errno.Errno.TheVariants.{NameTooLong}
use Rattle.dt_base.specs.declared.limits.TheConstants.{PATH_LIMIT}
use Rattle.dt_space.specs.Space.{PageView}
use Rattle.dt_space.specs.Text.{text_at_address}
use Rattle.dt_space.specs.declared.access.TextErr.{TextErr}
use Rattle.dt_space.specs.declared.access.TextErr.TheVariants as text_err
use Rattle.dt_space.proofs.Texts.{text_short}
use Rattle.dt_space.specs.Argument.{text_or, non_empty_text, path_argument}

target_of : (found : Result (List ℕ) TextErr) (text : List ℕ) → ((t : List ℕ) → found ≡ Ok t → length t + 1 ≤ suc PATH_LIMIT) → Ok text ≡ non_empty_text (text_or NameTooLong found) → IsTrue (has_no_nul text) → IsTrue (is_target text)
target_of (Ok []) text short is no_nul = cc
target_of (Ok (byte ∷ bytes)) text short is no_nul =
    let same : (byte ∷ bytes) ≡ text = cc in
    let few : length (byte ∷ bytes) + 1 ≤ suc PATH_LIMIT = short (byte ∷ bytes) refl in
    subst (λ t. IsTrue (has_no_nul t) → IsTrue (is_target t)) same (λ no_nul. good_target byte bytes few no_nul) no_nul
  where
    good_target : (byte : ℕ) (bytes : List ℕ) → length (byte ∷ bytes) + 1 ≤ suc PATH_LIMIT → IsTrue (has_no_nul (byte ∷ bytes)) → IsTrue (is_target (byte ∷ bytes))
    good_target byte bytes few no_nul = grind (arith, nat_tests)
target_of (Err (text_err.Miss miss)) text short is no_nul = cc
target_of (Err text_err.Long) text short is no_nul = cc
target_of (Err text_err.NoMemory) text short is no_nul = cc

-- a path that was read may be a link's target
pub target_good : (pages : List PageView) (address : ℕ) (text : List ℕ) → Ok text ≡ path_argument pages address → IsTrue (has_no_nul text) → IsTrue (is_target text)
target_good pages address text is no_nul =
    target_of (text_at_address pages address (suc PATH_LIMIT)) text (λ t. text_short pages address (suc PATH_LIMIT) t) is no_nul
