-- The names of a text, byte by byte.
use Rattle.std.proofs.Common.{arith, ◌≡◌, ◌≢◌, ℕ, ◌+◌, ◌<◌, ◌≤◌, cond, true, false, not, List, [], ◌∷◌, ◌++◌, length, drop, get_or, refl, sym, ap, ◌∙◌, append-nil, append_assoc}
use Rattle.std.proofs.lemmas.Bool.Decides.{nat_tests}
use Rattle.std.proofs.lemmas.List.{at_drop_more, at_drop_all}
use Rattle.std.specs.List.{filter}
use Rattle.dt_base.specs.Path.{is_slash, with_first, components_of}
use Rattle.dt_walk.specs.Walk.{is_nil, path_names}

-- components, of which those that are empty are no names
abbrev pub names_among : List (List ℕ) → List (List ℕ)
names_among components = filter (λ name. not (is_nil name)) components

-- bytes before the first of the components
abbrev begun_with : List ℕ → List (List ℕ) → List (List ℕ)
begun_with begun [] = begun ∷ []
begun_with begun (c ∷ cs) = (begun ++ c) ∷ cs

-- the names of what is left of a text, the first of which began with these bytes
unfoldable pub names_left : List ℕ → List ℕ → List (List ℕ)
names_left begun text = names_among (begun_with begun (components_of text))

one_by_one : (c : List ℕ) (cs : List (List ℕ)) → names_among (c ∷ cs) ≡ names_among (c ∷ []) ++ names_among cs
one_by_one [] cs = refl
one_by_one (b ∷ bs) cs = refl

begun_more : (begun : List ℕ) (b : ℕ) (cs : List (List ℕ)) → begun_with begun (with_first b cs) ≡ begun_with (begun ++ b ∷ []) cs
begun_more begun b [] = refl
begun_more begun b (c ∷ cs) = ap (λ first. first ∷ cs) (sym (append_assoc begun (b ∷ []) c))

nothing_begun : (cs : List (List ℕ)) → names_among (begun_with [] cs) ≡ names_among cs
nothing_begun [] = refl
nothing_begun (c ∷ cs) = refl

pub all_left : (text : List ℕ) → names_left [] text ≡ path_names text
unfolding names_left
all_left text = nothing_begun (components_of text)

pub at_slash : (names : List (List ℕ)) (begun text : List ℕ) (i : ℕ) → i < length text → get_or text i 0 ≡ 47 → names ++ names_left begun (drop i text) ≡ (names ++ names_among (begun ∷ [])) ++ names_left [] (drop (i + 1) text)
unfolding names_left
at_slash names begun text i h is =
    let rest = drop (i + 1) text in
    let test : is_slash (get_or text i 0) ≡ true = grind (arith, nat_tests) in
    ap (λ xs. names ++ xs) (at_drop_more (λ left. names_among (begun_with begun (components_of left))) text i 0 h
    ∙ ap (λ t. names_among (begun_with begun (cond t ([] ∷ components_of rest) (with_first (get_or text i 0) (components_of rest))))) test
    ∙ ap (λ first. names_among (first ∷ components_of rest)) (append-nil begun) ∙ one_by_one begun (components_of rest)
    ∙ ap (λ xs. names_among (begun ∷ []) ++ xs) (sym (nothing_begun (components_of rest))))
    ∙ sym (append_assoc names (names_among (begun ∷ [])) (names_among (begun_with [] (components_of rest))))

pub at_other : (names : List (List ℕ)) (begun text : List ℕ) (i : ℕ) → i < length text → get_or text i 0 ≢ 47 → names ++ names_left begun (drop i text) ≡ names ++ names_left (begun ++ get_or text i 0 ∷ []) (drop (i + 1) text)
unfolding names_left
at_other names begun text i h apart =
    let rest = drop (i + 1) text in
    let test : is_slash (get_or text i 0) ≡ false = grind (arith, nat_tests) in
    ap (λ xs. names ++ xs) (at_drop_more (λ left. names_among (begun_with begun (components_of left))) text i 0 h
    ∙ ap (λ t. names_among (begun_with begun (cond t ([] ∷ components_of rest) (with_first (get_or text i 0) (components_of rest))))) test
    ∙ ap names_among (begun_more begun (get_or text i 0) (components_of rest)))

pub at_end : (names : List (List ℕ)) (begun text : List ℕ) (i : ℕ) → length text ≤ i → names ++ names_left begun (drop i text) ≡ names ++ names_among (begun ∷ [])
unfolding names_left
at_end names begun text i h = ap (λ xs. names ++ xs) (at_drop_all (λ left. names_among (begun_with begun (components_of left))) text i h ∙ ap (λ first. names_among (first ∷ [])) (append-nil begun))
