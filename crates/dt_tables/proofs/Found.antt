-- What a look-up found, or did not find.
use Rattle.std.proofs.Common.{◌≡◌, true, Option, Some, None, refl}
use Rattle.std.specs.Prelude.{IsSome, is_some, option_and_then}

-- where nothing was found, nothing is there
pub none_there : {X : Type 0} (found : Option X) → found ≡ None → IsSome found → ⊥
none_there None e some = cc
none_there (Some x) e some = cc

-- nor is there a part of it
pub none_within : {X Y : Type 0} (part : X → Option Y) (found : Option X) → found ≡ None → IsSome (option_and_then part found) → ⊥
none_within part None e some = cc
none_within part (Some x) e some = cc

-- nothing and something were not both found
pub not_both : {X : Type 0} (found : Option X) (x : X) → found ≡ None → found ≡ Some x → ⊥
not_both found x none some = cc

-- what is there was found
pub some_true : {X : Type 0} (found : Option X) → IsSome found → is_some found ≡ true
some_true None some = cc
some_true (Some x) some = refl
