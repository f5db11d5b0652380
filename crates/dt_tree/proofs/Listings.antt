-- A listing, entry by entry.
use Rattle.std.proofs.Common.{arith, ◌≡◌, ℕ, List, [], ◌∷◌, ◌++◌, length, take, Bool, true, false, cond, ◌&&◌, Option, refl, sym, ap, ◌∙◌, append-nil}
use Rattle.std.proofs.Math.Bool.{and-true, and-false}
use Rattle.std.proofs.lemmas.Bool.Decides.{nat_tests}
use Rattle.std.proofs.lemmas.List.Elements.{filter-append}
use Rattle.std.specs.Prelude.{nat_lt, zero, suc}
use Rattle.std.specs.List.{filter}
use Rattle.dt_tree.specs.declared.list.Listed.{Listed}
use Rattle.dt_tree.specs.Listing.{is_left, next_of}
use Rattle.dt_tree.specs.inner.Lists.{with_listed}

take_none : {X : Type 0} (most : ℕ) → take {A = X} most [] ≡ []
take_none zero = refl
take_none (suc most) = refl

-- one element more among the first so many
take_push : {X : Type 0} (most : ℕ) (xs : List X) (x : X) → take most (xs ++ x ∷ []) ≡ cond (nat_lt (length (take most xs)) most) (take most xs ++ x ∷ []) (take most xs)
take_push zero xs x = refl
take_push (suc most) [] x = let same : nat_lt 0 (suc most) ≡ true = grind (arith, nat_tests) in ap (λ rest. x ∷ rest) (take_none most) ∙ sym (ap (λ b. cond b (x ∷ []) []) same)
take_push (suc most) (y ∷ ys) x =
    ap (λ rest. y ∷ rest) (take_push most ys x) ∙ by_test (nat_lt (length (take most ys)) most) refl
  where
    by_test : (b : Bool) → nat_lt (length (take most ys)) most ≡ b → y ∷ cond b (take most ys ++ x ∷ []) (take most ys) ≡ cond (nat_lt (suc (length (take most ys))) (suc most)) (y ∷ (take most ys ++ x ∷ [])) (y ∷ take most ys)
    by_test true e = let same : nat_lt (suc (length (take most ys))) (suc most) ≡ true = grind (arith, nat_tests) in sym (ap (λ b. cond b (y ∷ (take most ys ++ x ∷ [])) (y ∷ take most ys)) same)
    by_test false e = let same : nat_lt (suc (length (take most ys))) (suc most) ≡ false = grind (arith, nat_tests) in sym (ap (λ b. cond b (y ∷ (take most ys ++ x ∷ [])) (y ∷ take most ys)) same)

pub next_of-push : (last : Option (List ℕ)) (most : ℕ) (list : List Listed) (l : Listed) → next_of last most (list ++ l ∷ []) ≡ with_listed last most (next_of last most list) l
next_of-push last most list l =
    ap (take most) (filter-append (λ (l : Listed). is_left last l.name) list (l ∷ []))
    ∙ by_test (is_left last l.name)
  where
    by_test : (b : Bool) → take most (filter (λ (l : Listed). is_left last l.name) list ++ cond b (l ∷ []) []) ≡ cond (nat_lt (length (next_of last most list)) most && b) (next_of last most list ++ l ∷ []) (next_of last most list)
    by_test true = take_push most (filter (λ (l : Listed). is_left last l.name) list) l ∙ ap (λ b. cond b (next_of last most list ++ l ∷ []) (next_of last most list)) (sym (and-true (nat_lt (length (next_of last most list)) most)))
    by_test false = ap (take most) (append-nil (filter (λ (l : Listed). is_left last l.name) list)) ∙ ap (λ b. cond b (next_of last most list ++ l ∷ []) (next_of last most list)) (sym (and-false (nat_lt (length (next_of last most list)) most)))

pub next_of-nil : (last : Option (List ℕ)) (most : ℕ) → [] ≡ next_of last most []
next_of-nil last zero = refl
next_of-nil last (suc most) = refl
