-- What each kind of step on a board tells: of the step, the pass before it, the word that it found (for a store, that it
-- stored), and the pass after it. These five, and the cut and join of src/steps.rt, are all the steps of a board. Only a
-- claim and a take add a try. The rule does not speak of tries, so this is read here.
use Rattle.std.specs.Prelude.{◌≡◌, ◌≢◌, ℕ, zero, suc, Bool, true, false, List, [], ◌∷◌, ◌++◌, ◌⊎◌, replicate, slice_set, Option, None, Some}
use Rattle.atomic_table.specs.Table.{Me, Step, rest}
use Rattle.dt_board.specs.Job.{JobView, finished}
use Rattle.dt_board.specs.Board.{SlotView, word_index}
use Rattle.dt_board.specs.declared.view.View.{View}
use Rattle.dt_board.specs.declared.view.View.TheVariants.{Opening, Engine, Worker, Spent}
use Rattle.dt_board.specs.declared.view.TheConstants.{PLACES}

-- a pass: its view, and the slots that it holds, each with its place, in the pass's order: a slot that comes goes in
-- front, and the front one is the next that goes home
abbrev pub SeatState : Type 0
SeatState = Me SlotView View

-- what a step tells
abbrev pub Tells : Type 1
Tells = Step SlotView → SeatState → ℕ → SeatState → Type 0

-- told of the place whose word the step is on. Of a step on word 0 nothing is told
abbrev pub AtPlace : Step SlotView → (ℕ → Type 0) → Type 0
AtPlace st told = (place : ℕ) → st.word ≡ word_index place → told place

-- the view with one try added, at the end
abbrev pub with_try : View → ℕ → ℕ → View
with_try (Engine puts tries) place word = Engine puts (tries ++ (place, word) ∷ [])
with_try (Worker claimed tries) place word = Worker claimed (tries ++ (place, word) ∷ [])
with_try Opening place word = Opening
with_try Spent place word = Spent

-- the engine's view with a place that is put, or free
abbrev pub with_mark : View → ℕ → Bool → View
with_mark (Engine puts tries) place put = Engine (slice_set puts place put) tries
with_mark (Worker claimed tries) place put = Worker claimed tries
with_mark Opening place put = Opening
with_mark Spent place put = Spent

-- a worker's view with the place that it has claimed, or none
abbrev pub with_claim : View → Option ℕ → View
with_claim (Worker claimed tries) place = Worker place tries
with_claim (Engine puts tries) place = Engine puts tries
with_claim Opening place = Opening
with_claim Spent place = Spent

-- so many empty slots from a place on
abbrev pub empty_slots_from : ℕ → ℕ → List (ℕ × SlotView)
empty_slots_from place zero = []
empty_slots_from place (suc count) = (place, None) ∷ empty_slots_from (suc place) count

-- the pass has the view v, and the place's slot came to it with a job, which is finished or open, in front of those that
-- it held
abbrev pub ComesWith : Bool → ℕ → View → SeatState → SeatState → Type 0
ComesWith is_finished place v before after =
    (job : JobView) × (finished job ≡ is_finished) × (after ≡ (v, (place, Some job) ∷ before.1))

-- the pass was at its opening; it has all slots now, and all places are free
abbrev pub opening_tells : Tells
opening_tells st before found after =
    (before ≡ (Opening, [])) × (after ≡ (Engine (replicate PLACES false) [], empty_slots_from 0 PLACES))

-- 1 was stored at the place, which is put now; the slot in front has gone home
abbrev pub put_tells : Tells
put_tells st before found after = AtPlace st (λ place.
    (found ≡ 1) × (after ≡ (with_mark before.0 place true, rest before.1)))

-- where 1 was found, the place is claimed, and its slot came with an open job. Where another word was found, only the
-- list of tries has changed. One try is added at the end
abbrev pub claim_tells : Tells
claim_tells st before found after = AtPlace st (λ place.
    (found ≡ 1 → ComesWith false place (with_claim (with_try before.0 place found) (Some place)) before after)
    × (found ≢ 1 → after ≡ (with_try before.0 place found, before.1)))

-- 3 was stored, the slot in front has gone home, and no place is claimed
abbrev pub finish_tells : Tells
finish_tells st before found after = (found ≡ 3) × (after ≡ (with_claim before.0 None, rest before.1))

-- where 3 was found, the place is free, and its slot came with a finished job. Else 1 or 2 was found, and only the list
-- of tries has changed. One try is added at the end
abbrev pub take_tells : Tells
take_tells st before found after = AtPlace st (λ place.
    (found ≡ 3 → ComesWith true place (with_mark (with_try before.0 place found) place false) before after)
    × (found ≢ 3 → ((found ≡ 1) ⊎ (found ≡ 2)) × (after ≡ (with_try before.0 place found, before.1))))
