-- A byte of a memory that is well formed is below 256.
use Rattle.std.proofs.Common.{◌≡◌, ℕ, ◌<◌, ◌≤◌, ◌⊎◌, length, get_or, Bool, true, false, cond, List, [], ◌∷◌, Option, Some, None, inl, inr, sym, subst}
use Rattle.std.specs.Prelude.{IfSome, slice_get, ◌==◌}
use Rattle.std.specs.List.{All}
use Rattle.std.proofs.lemmas.List.Elements.{All-head, All-tail, All-get_or}
use Rattle.std.proofs.lemmas.Option.{slice_get_cases}
use Rattle.dt_space.specs.Space.{PageView, IsPage, has_right, page_at, byte_of}

-- the page of a number, of pages that each are well formed
pub found-page : (pages : List PageView) (number : ℕ) → All IsPage pages → IfSome (page_at pages number) IsPage
found-page [] number each = tt
found-page (page ∷ pages) number each = by (found-page pages number (All-tail IsPage page pages each)) (page.number == number)
  where
    by : IfSome (page_at pages number) IsPage → (b : Bool) → IfSome (cond b (Some page) (page_at pages number)) IsPage
    by rest true = All-head IsPage page pages each
    by rest false = rest

byte-in : (bytes : List ℕ) (i : ℕ) → All (λ byte. byte < 256) bytes → IfSome (slice_get bytes i) (λ byte. byte < 256)
byte-in bytes i each = by (slice_get_cases bytes i).1
  where
    by : ((x : ℕ) × (i < length bytes) × (slice_get bytes i ≡ Some x) × (get_or bytes i x ≡ x)) ⊎ ((length bytes ≤ i) × (slice_get bytes i ≡ None)) → IfSome (slice_get bytes i) (λ byte. byte < 256)
    by (inl inside) =
        subst (λ found. IfSome found (λ byte. byte < 256)) (sym inside.2)
        (subst (λ byte. byte < 256) inside.3 (All-get_or (λ byte. byte < 256) bytes i inside.0 inside.1 each))
    by (inr past) = subst (λ found. IfSome found (λ byte. byte < 256)) (sym past.1) tt

-- a byte of it, where it has the right
pub byte-of : (right offset : ℕ) (found : Option PageView) → IfSome found IsPage → IfSome (byte_of right offset found) (λ byte. byte < 256)
byte-of right offset None good = tt
byte-of right offset (Some page) good = by (has_right page.rights right)
  where
    by : (b : Bool) → IfSome (cond b (slice_get page.bytes offset) None) (λ byte. byte < 256)
    by true = byte-in page.bytes offset good.bytes
    by false = tt
