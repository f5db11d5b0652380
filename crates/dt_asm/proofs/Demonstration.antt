-- The image of a demonstration, by its two entries.
use Rattle.std.proofs.Common.{◌≡◌, ℕ, List, [], ◌∷◌, ◌++◌, refl, ap, ◌∙◌, arith}
use Rattle.dt_base.specs.declared.image.Entry.{Entry}
use Rattle.dt_base.specs.declared.image.What.{What}
use Rattle.dt_base.specs.declared.profile.TheConstants.{FIRST_VERSION}
use Rattle.dt_base.specs.Image.{ImageParts, IsImage}
use Rattle.dt_asm.specs.Demo.{demo_image}

-- these entries, in version 1
abbrev pub image_with : List Entry → ImageParts
image_with entries = record { version = FIRST_VERSION; entries = entries }

-- it is one
pub demo_image_is : (n : ℕ) → IsImage (demo_image n)
demo_image_is n = record { version = refl; few = omega arith; good = refl; rising = refl; parents = refl }

-- two entries pushed one after the other
pub two_entries : (none one both : List Entry) (a b : Entry) {x y : Entry} → none ≡ [] → one ≡ none ++ (a ∷ []) → both ≡ one ++ (b ∷ []) → a ≡ x → b ≡ y → both ≡ x ∷ y ∷ []
two_entries none one both a b e f g is_a is_b =
    g ∙ ap (λ xs. xs ++ (b ∷ [])) (f ∙ ap (λ xs. xs ++ (a ∷ [])) e) ∙ (λ i. is_a i ∷ is_b i ∷ [])

-- an entry, by its path, mode and kind
pub entry_is : (made : Entry) (path given : List ℕ) (mode : ℕ) (what : What) → made.path ≡ path → path ≡ given → made.mode ≡ mode → made.what ≡ what → made ≡ record { path = given; mode = mode; what = what }
entry_is made path given mode what p q m w = (λ i. record { path = (p ∙ q) i; mode = m i; what = w i })
