-- The order that words choose, one entry at a time.
use Rattle.std.proofs.Common.{◌≡◌, ℕ, suc, ◌+◌, ◌-◌, ◌%◌, ◌<◌, List, [], ◌∷◌, ◌++◌, length, map, take, drop, refl, sym, ap, subst, ◌∙◌, append_assoc, append-nil, arith}
use Rattle.std.specs.Prelude.{remove}
use Rattle.std.specs.List.Sorted.{IsPermutation}
use Rattle.std.proofs.lemmas.List.{drop-drop, take-append-drop, take-map, drop-map, map-append, length-map}
use Rattle.std.proofs.lemmas.List.Sorted.{IsPermutation-refl, IsPermutation-trans, IsPermutation-append_left, IsPermutation-append_right, IsPermutation-append_comm}
use Rattle.dt_memhost.specs.Picks.{next_words, after_words}
use Rattle.dt_memhost.specs.Script.{Script, after_draw, after_draws, coming_word, words_of}
use Rattle.dt_memhost.specs.Order.{drawn_order}

-- the first word, and those after it
pub words_of-suc : (more : ℕ) (s : Script) → words_of (suc more) s ≡ coming_word s ∷ words_of more (after_draw s)
unfolding next_words
words_of-suc more s = refl

pub picked_all-suc : (more : ℕ) (s : Script) → after_draws (suc more) s ≡ after_draws more (after_draw s)
unfolding after_words
picked_all-suc more s = refl

pub words_of-none : (s : Script) (n : ℕ) → n ≡ 0 → words_of n s ≡ []
unfolding next_words
words_of-none s n e = ap (λ n. words_of n s) e

pub picked_all-none : (s : Script) (n : ℕ) → n ≡ 0 → after_draws n s ≡ s
unfolding after_words
picked_all-none s n e = ap (λ n. after_draws n s) e

pub one_left : (done n : ℕ) → done < n → n - done ≡ suc (n - (done + 1))
one_left done n h = omega arith

pub all_left : (n : ℕ) → n ≡ n - 0
all_left n = omega arith

module _ {A : Type 0} where
  picked_order-cons : (word : ℕ) (words : List ℕ) (left : List A) → drawn_order (word ∷ words) left ≡ take 1 (drop (word % length left) left) ++ drawn_order words (remove left (word % length left))
  unfolding drawn_order
  picked_order-cons word words left = refl

  picked_order-nil : (left : List A) → drawn_order [] left ≡ left
  unfolding drawn_order
  picked_order-nil left = refl

  -- one entry more, which the next word chose
  pub picked_order-more : (moved left rest : List A) (entry : A) (done n : ℕ) (s : Script) → done < n → length left ≡ n - done → entry ∷ [] ≡ take 1 (drop (coming_word s % (n - done)) left) → rest ≡ remove left (coming_word s % (n - done)) → moved ++ drawn_order (words_of (n - done) s) left ≡ (moved ++ entry ∷ []) ++ drawn_order (words_of (n - (done + 1)) (after_draw s)) rest
  picked_order-more moved left rest entry done n s here many chosen goes =
      let at = coming_word s % (n - done) in
      let words = words_of (n - (done + 1)) (after_draw s) in
      let step : drawn_order (words_of (n - done) s) left ≡ (entry ∷ []) ++ drawn_order words rest =
      ap (λ ws. drawn_order ws left) (ap (λ m. words_of m s) (one_left done n here) ∙ words_of-suc (n - (done + 1)) s)
      ∙ picked_order-cons (coming_word s) words left
      ∙ ap (λ k. take 1 (drop k left) ++ drawn_order words (remove left k)) (ap (λ k. coming_word s % k) many)
      ∙ ap (λ xs. xs ++ drawn_order words (remove left at)) (sym chosen)
      ∙ ap (λ xs. (entry ∷ []) ++ drawn_order words xs) (sym goes) in
      ap (λ xs. moved ++ xs) step ∙ sym (append_assoc moved (entry ∷ []) (drawn_order words rest))

  -- where none is left, all were moved
  pub picked_order-end : (moved left : List A) (n : ℕ) (s : Script) → n ≡ 0 → length left ≡ n → moved ++ drawn_order (words_of n s) left ≡ moved
  picked_order-end moved [] n s none _ =
      ap (λ words. moved ++ drawn_order words []) (words_of-none s n none)
      ∙ ap (λ xs. moved ++ xs) (picked_order-nil [])
      ∙ append-nil moved
  picked_order-end moved (x ∷ left) n s none some = absurd (omega arith)

  -- one moved to the first index
  to_first : (left : List A) (at : ℕ) → IsPermutation left (take 1 (drop at left) ++ remove left at)
  to_first left at =
      let before = take at left in
      let one = take 1 (drop at left) in
      let after = drop 1 (drop at left) in
      let same : (before ++ one) ++ after ≡ left =
      append_assoc before one after ∙ ap (λ xs. before ++ xs) (take-append-drop 1 (drop at left)) ∙ take-append-drop at left in
      let turned : IsPermutation ((before ++ one) ++ after) ((one ++ before) ++ after) = IsPermutation-append_left after (before ++ one) (one ++ before) (IsPermutation-append_comm before one) in
      let past : (one ++ before) ++ after ≡ one ++ remove left at =
      append_assoc one before after ∙ ap (λ xs. one ++ (before ++ xs)) (drop-drop 1 at left ∙ ap (λ k. drop k left) (next at)) in
      subst (λ xs. IsPermutation left xs) past (subst (λ xs. IsPermutation xs ((one ++ before) ++ after)) same turned)
    where
      next : (k : ℕ) → k + 1 ≡ suc k
      next k = omega arith

  -- whatever the words, each entry stays
  pub IsPermutation-picked_order : (words : List ℕ) (left : List A) → IsPermutation left (drawn_order words left)
  IsPermutation-picked_order [] left = subst (λ xs. IsPermutation left xs) (sym (picked_order-nil left)) (IsPermutation-refl left)
  IsPermutation-picked_order (word ∷ words) left =
      let at = word % length left in
      subst (λ xs. IsPermutation left xs) (sym (picked_order-cons word words left))
      (IsPermutation-trans _ _ _ (to_first left at) (IsPermutation-append_right (take 1 (drop at left)) (remove left at) _ (IsPermutation-picked_order words (remove left at))))

-- a list that looks otherwise is arranged alike
pub map-picked_order : {A B : Type 0} (f : A → B) (words : List ℕ) (left : List A) → map f (drawn_order words left) ≡ drawn_order words (map f left)
map-picked_order f [] left = ap (map f) (picked_order-nil left) ∙ sym (picked_order-nil (map f left))
map-picked_order f (word ∷ words) left =
    let at = word % length left in
    ap (map f) (picked_order-cons word words left)
    ∙ map-append f (take 1 (drop at left)) (drawn_order words (remove left at))
    ∙ ap (λ xs. xs ++ map f (drawn_order words (remove left at))) (sym (take-map f 1 (drop at left)) ∙ ap (take 1) (sym (drop-map f at left)))
    ∙ ap (λ xs. take 1 (drop at (map f left)) ++ xs) (map-picked_order f words (remove left at) ∙ ap (drawn_order words) (map-append f (take at left) (drop (suc at) left) ∙ ap (λ xs. xs ++ map f (drop (suc at) left)) (sym (take-map f at left)) ∙ ap (λ xs. take at (map f left) ++ xs) (sym (drop-map f (suc at) left))))
    ∙ ap (λ n. take 1 (drop (word % n) (map f left)) ++ drawn_order words (remove (map f left) (word % n))) (sym (length-map left f))
    ∙ sym (picked_order-cons word words (map f left))
