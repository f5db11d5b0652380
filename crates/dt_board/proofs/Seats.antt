-- What a pass has.
use Rattle.std.proofs.Common.{◌≡◌, ◌∙◌, ℕ, ◌<◌, Bool, List, [], ◌∷◌, ◌++◌, Option, None, Some, ap, sym, refl, subst}
use Rattle.atomic_table.specs.Seated.{TableId}
use Rattle.atomic_table.specs.Table.{rest}
use Rattle.dt_board.specs.Job.{JobView, finished}
use Rattle.dt_board.specs.Board.{SlotView, Try}
use Rattle.dt_board.specs.Steps.{SeatState, with_try, with_claim}
use Rattle.dt_board.specs.Passes.{WorkerPassView, tries_of}
use Rattle.dt_board.specs.inner.Held.{IsWorker, Carries}
use Rattle.dt_board.specs.declared.view.TheConstants.{PLACES}
use Rattle.dt_board.specs.declared.view.View.TheVariants.{Worker}

-- a worker's pass that has no place
pub idle : (me : SeatState) (c : Option ℕ) → IsWorker me c → c ≡ None → me ≡ (Worker None (tries_of me.0), [])
idle me c is e = let slots : me.1 ≡ [] = subst (λ k. Carries k me.1) e is.carries in
    λ i. ((is.view ∙ ap (λ k. Worker k (tries_of me.0)) e) i, slots i)

-- the slot that came last is in front
pub in_front : (slots : List (ℕ × SlotView)) (x : ℕ × SlotView) (old : List (ℕ × SlotView)) → slots ≡ x ∷ old → slots ≡ x ∷ rest slots
in_front slots x old e = e ∙ ap (λ l. x ∷ rest l) (sym e)

pub front_slot : (slots : List (ℕ × SlotView)) (p q : ℕ) (x y : SlotView) (old more : List (ℕ × SlotView)) → slots ≡ (p, x) ∷ old → slots ≡ (q, y) ∷ more → y ≡ x
front_slot slots p q x y old more e f = ap (λ l. slot_of l) (sym f ∙ e)
  where
    slot_of : List (ℕ × SlotView) → SlotView
    slot_of [] = None
    slot_of (z ∷ zs) = z.1

pub worker_is : (me : SeatState) (c : Option ℕ) (ts : List Try) (slots : List (ℕ × SlotView)) → me ≡ (Worker c ts, slots) → Carries c slots → IsWorker me c
worker_is me c ts slots e carries = subst (λ (m : SeatState). IsWorker m c) (sym e) (record { view = refl; carries = carries })

pub work_is : (b b' : TableId) (c c' : Option ℕ) (t t' : List Try) → b ≡ b' → c ≡ c' → t ≡ t' → ◌≡◌ {A = WorkerPassView} (record { board = b; claimed = c; tries = t }) (record { board = b'; claimed = c'; tries = t' })
work_is b b' c c' t t' x y z = λ i. record { board = x i; claimed = y i; tries = z i }

-- the seat after a claim, where it got the slot and where it did not
pub claimed_at : (old new : SeatState) (p r : ℕ) (slot : SlotView) → old ≡ (Worker None (tries_of old.0), []) → new ≡ (with_claim (with_try old.0 p r) (Some p), (p, slot) ∷ old.1) → new ≡ (Worker (Some p) (tries_of old.0 ++ (p, r) ∷ []), (p, slot) ∷ [])
claimed_at old new p r slot e f = f ∙ ap (λ (m : SeatState). (with_claim (with_try m.0 p r) (Some p), (p, slot) ∷ m.1)) e

pub missed_at : (old new : SeatState) (p r : ℕ) → old ≡ (Worker None (tries_of old.0), []) → new ≡ (with_try old.0 p r, old.1) → new ≡ (Worker None (tries_of old.0 ++ (p, r) ∷ []), [])
missed_at old new p r e f = f ∙ ap (λ (m : SeatState). (with_try m.0 p r, m.1)) e

pub swapped : (old new : SeatState) (c : Option ℕ) (ts : List Try) (p : ℕ) (x y : SlotView) → old ≡ (Worker c ts, (p, x) ∷ []) → new ≡ (old.0, (p, y) ∷ rest old.1) → new ≡ (Worker c ts, (p, y) ∷ [])
swapped old new c ts p x y e f = f ∙ ap (λ (m : SeatState). (m.0, (p, y) ∷ rest m.1)) e

pub same_job : (x : SlotView) (a b : JobView) (is_finished : Bool) → x ≡ Some a → x ≡ Some b → finished b ≡ is_finished → finished a ≡ is_finished
same_job x a b is_finished e f is = ap finished_of (sym e ∙ f) ∙ is
  where
    finished_of : SlotView → Bool
    finished_of None = is_finished
    finished_of (Some task) = finished task

-- a worker's pass that has a place
pub busy : (me : SeatState) (c : Option ℕ) (p : ℕ) → IsWorker me c → c ≡ Some p → (p < PLACES) × ((slot : SlotView) × (me ≡ (Worker (Some p) (tries_of me.0), (p, slot) ∷ [])))
busy me c p is e =
    let carries = subst (λ k. Carries k me.1) e is.carries in
    (carries.0, (carries.1.0, λ i. ((is.view ∙ ap (λ k. Worker k (tries_of me.0)) e) i, carries.1.1 i)))
