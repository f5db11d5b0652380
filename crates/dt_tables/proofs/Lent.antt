-- A borrow that may be of nothing, and what its lender ends as.
use Rattle.std.proofs.Common.{◌≡◌, inl, inr, Option, Some, None, MutBor, refl, ap}
use Rattle.std.specs.Option.{ghost_name_of}
use borrow.Follows.Closed.{read_of}

-- two accounts of what the lender ends as agree where they do at each value that is left behind the borrow, and without one
pub lent_alike : {X D : Type 0} (r : Option (MutBor X)) (F G : X → D) (u v : D)
    → ((y : MutBor X) → r ≡ Some y → (w : X) → F w ≡ G w) → (r ≡ None → u ≡ v)
    → read_of (ghost_name_of r) F u ≡ read_of (ghost_name_of r) G v
lent_alike None F G u v some none = ap inr (none refl)
lent_alike (Some y) F G u v some none = λ i. inl (y.ghost_name, λ w. some y refl w i)
