-- The slots that a pass holds, and the order in which the engine's pass names them.
use Rattle.std.specs.Prelude.{◌≡◌, ℕ, zero, suc, ◌+◌, ◌<◌, ◌≤◌, Bool, true, false, List, [], ◌∷◌, ◌++◌, map, length, take, drop, cond, ◌==◌, ◌||◌, Option, None, Some}
use Rattle.dt_board.specs.Board.{SlotView, is_put}
use Rattle.dt_board.specs.Steps.{SeatState}
use Rattle.dt_board.specs.Passes.{puts_of, tries_of}
use Rattle.dt_board.specs.declared.view.View.TheVariants.{Engine, Worker}
use Rattle.dt_board.specs.declared.view.TheConstants.{PLACES}

-- the places of the slots that a pass holds, in the pass's order: a slot that comes goes in front, and the front one is
-- the next that goes home
abbrev pub held : List (ℕ × SlotView) → List ℕ
held slots = map (λ x. x.0) slots

-- the place is one of these
abbrev pub has : ℕ → List ℕ → Bool
has place [] = false
has place (x ∷ xs) = (x == place) || has place xs

-- how many places are put
abbrev pub put_count : List Bool → ℕ
put_count [] = 0
put_count (x ∷ xs) = cond x 1 0 + put_count xs

-- the pass is the first one, and holds the slots of the free places, in this order, which has room for all places
pub record IsEngine (id : ℕ) (me : SeatState) (order : List ℕ) (capacity : ℕ) : Type 0 where
  pub first : id ≡ 0
  pub view : me.0 ≡ Engine (puts_of me.0) (tries_of me.0)
  pub wide : length (puts_of me.0) ≡ PLACES
  pub holds : held me.1 ≡ order
  pub free : (place : ℕ) → place < PLACES → is_put (puts_of me.0) place ≡ false → has place order ≡ true
  pub counts : length order + put_count (puts_of me.0) ≡ PLACES
  pub room : PLACES ≤ capacity

-- the pass holds the slot of the place that it has claimed, and no other
abbrev pub Carries : Option ℕ → List (ℕ × SlotView) → Type 0
Carries None slots = slots ≡ []
Carries (Some place) slots = (place < PLACES) × ((slot : SlotView) × (slots ≡ (place, slot) ∷ []))

-- the pass is a worker's that has claimed this place, or none
pub record IsWorker (me : SeatState) (claimed : Option ℕ) : Type 0 where
  pub view : me.0 ≡ Worker claimed (tries_of me.0)
  pub carries : Carries claimed me.1

-- so many from the front behind the others
abbrev pub rotated : {A : Type 0} → ℕ → List A → List A
rotated times xs = drop times xs ++ take times xs

-- so many places from a given place on
abbrev pub places_from : ℕ → ℕ → List ℕ
places_from place zero = []
places_from place (suc count) = place ∷ places_from (suc place) count
