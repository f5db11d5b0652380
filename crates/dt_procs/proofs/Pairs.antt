-- What holds of each element of a list and each later one.
use Rattle.std.proofs.Common.{◌≡◌, suc, List, [], ◌∷◌, map, Bool, true, false, cond, Some, None, subst, arith}
use Rattle.std.specs.List.{All, AllPairs, find}
use Rattle.std.proofs.lemmas.List.Elements.{All-tail, All-map}
use Rattle.std.proofs.lemmas.List.Kept.{AllPairs-cons}

module _ {X : Type 0} (R : X → X → Type 0) where
  pub AllPairs-head : (x : X) (xs : List X) → AllPairs R (x ∷ xs) → All (R x) xs
  AllPairs-head x xs pairs = λ k d below. pairs 0 (suc k) d (omega arith) (omega arith)

  pub AllPairs-tail : (x : X) (xs : List X) → AllPairs R (x ∷ xs) → AllPairs R xs
  AllPairs-tail x xs pairs = λ i j d before below. pairs (suc i) (suc j) d (omega arith) (omega arith)

-- images that are related where the elements are
pub AllPairs-map : {X Y : Type 0} (R : X → X → Type 0) (S : Y → Y → Type 0) (f : X → Y)
    → ((a b : X) → R a b → S (f a) (f b)) → (xs : List X) → AllPairs R xs → AllPairs S (map f xs)
AllPairs-map R S f step [] pairs = λ i j d before below. absurd (omega arith)
AllPairs-map R S f step (x ∷ xs) pairs =
    AllPairs-cons S (f x) (map f xs)
    (All-map (S (f x)) f xs (λ k d below. step x _ (AllPairs-head R x xs pairs k d below)))
    (AllPairs-map R S f step xs (AllPairs-tail R x xs pairs))

-- what holds of each element holds of the one that is found
pub All-find : {X : Type 0} (P : X → Type 0) (p : X → Bool) (xs : List X) (found : X)
    → All P xs → find p xs ≡ Some found → P found
All-find P p [] found all is = absurd (let e : None ≡ Some found = is in cc)
All-find P p (x ∷ xs) found all is =
    elim (p x) as (λ b. cond b (Some x) (find p xs) ≡ Some found → P found) [
      | true ↦ λ e. let same : x ≡ found = cc in subst P same (all 0 x (omega arith))
      | false ↦ λ e. All-find P p xs found (All-tail P x xs all) e
    ] is
