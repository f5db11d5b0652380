-- The names of a text: none is empty, none has a `/`, and none has a 0 where the text has none.
use Rattle.std.proofs.Common.{◌≡◌, ℕ, cond, Bool, true, false, not, ◌&&◌, ◌||◌, ◌==◌, List, [], ◌∷◌, refl, ap, ◌∙◌}
use Rattle.std.proofs.lemmas.Bool.{and_from, and_parts, not-true}
use Rattle.std.proofs.lemmas.List.Elements.{All-nil, All-cons, All-head, All-tail, All-filter, filter_passes}
use Rattle.std.specs.Prelude.{IsTrue}
use Rattle.std.specs.List.{All, list_any}
use Rattle.dt_base.specs.Path.{is_slash, with_first, components_of, has_no_nul}
use Rattle.dt_walk.specs.Walk.{is_nil, path_names}

-- it has a byte
abbrev pub HasByte : List ℕ → Type 0
HasByte name = is_nil name ≡ false

-- it has no byte that an entry's name can't have
abbrev pub IsClean : List ℕ → Type 0
IsClean name = (has_no_nul name ≡ true) × (list_any is_slash name ≡ false)

clean_first : (b : ℕ) (components : List (List ℕ)) → not (b == 0) ≡ true → is_slash b ≡ false → All IsClean components → All IsClean (with_first b components)
clean_first b [] no_nul no_slash all = All-cons IsClean (b ∷ []) [] (ap (λ t. t && true) no_nul, ap (λ t. t || false) no_slash) (All-nil IsClean)
clean_first b (c ∷ cs) no_nul no_slash all =
    let old = All-head IsClean c cs all in
    All-cons IsClean (b ∷ c) cs (and_from (not (b == 0)) (has_no_nul c) no_nul old.0, ap (λ t. t || list_any is_slash c) no_slash ∙ old.1) (All-tail IsClean c cs all)

clean_components : (text : List ℕ) → has_no_nul text ≡ true → All IsClean (components_of text)
clean_components [] h = All-cons IsClean [] [] (refl, refl) (All-nil IsClean)
clean_components (b ∷ bs) h = by_slash (is_slash b) refl (clean_components bs (and_parts (not (b == 0)) (has_no_nul bs) h).1)
  where
    by_slash : (t : Bool) → is_slash b ≡ t → All IsClean (components_of bs) → All IsClean (cond t ([] ∷ components_of bs) (with_first b (components_of bs)))
    by_slash true e more = All-cons IsClean [] (components_of bs) (refl, refl) more
    by_slash false e more = clean_first b (components_of bs) (and_parts (not (b == 0)) (has_no_nul bs) h).0 e more

pub clean_names : (text : List ℕ) → IsTrue (has_no_nul text) → All IsClean (path_names text)
clean_names text h = All-filter (λ name. not (is_nil name)) IsClean (components_of text) (clean_components text h)

has_bytes : (names : List (List ℕ)) → All (λ name. not (is_nil name) ≡ true) names → All HasByte names
has_bytes [] all = All-nil HasByte
has_bytes (name ∷ names) all =
    All-cons HasByte name names (not-true (is_nil name) (All-head (λ name. not (is_nil name) ≡ true) name names all)) (has_bytes names (All-tail (λ name. not (is_nil name) ≡ true) name names all))

pub byte_names : (text : List ℕ) → All HasByte (path_names text)
byte_names text = has_bytes (path_names text) (filter_passes (λ name. not (is_nil name)) (components_of text))
