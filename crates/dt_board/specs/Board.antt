-- The rule of a board. Each place has a word and a slot. The word is 0 where the place is free, 1 where a job waits (it
-- was put), 2 where it was claimed, and 3 where it is finished. Word 0 belongs to no place, and stays 0.
use Rattle.std.specs.Prelude.{◌≡◌, ℕ, suc, ◌+◌, ◌<◌, Bool, true, false, List, [], ◌∷◌, map, length, replicate, cond, ◌==◌, ◌⊎◌, slice_index, slice_index_or, Option, None, Some}
use mathlib.Core.Option.{Option as Maybe, none, some}
use lib.ListN.{get_elem?}
use Rattle.atomic_table.specs.Table.{State}
use Rattle.dt_board.specs.Job.{JobView, finished}
use Rattle.dt_board.specs.declared.view.View.{View}
use Rattle.dt_board.specs.declared.view.View.TheVariants.{Opening, Engine, Worker, Spent}
use Rattle.dt_board.specs.declared.view.TheConstants.{PLACES}

-- what a slot holds: a job or nothing
abbrev pub SlotView : Type 0
SlotView = Option JobView

-- the words, the slots that are at home, and the views of all passes
abbrev pub BoardState : Type 0
BoardState = State SlotView View

-- a place, and the word that was found there
abbrev pub Try : Type 0
Try = ℕ × ℕ

-- the index of a place's word
abbrev pub word_index : ℕ → ℕ
word_index place = place + 1

-- the engine has put a job at the place, and has not taken it yet
abbrev pub is_put : List Bool → ℕ → Bool
is_put puts place = slice_index_or puts place false

-- 1 where the view has claimed the place, else 0
abbrev pub claim_count : ℕ → View → ℕ
claim_count place (Worker (Some claimed) tries) = cond (claimed == place) 1 0
claim_count place (Worker None tries) = 0
claim_count place (Engine puts tries) = 0
claim_count place Opening = 0
claim_count place Spent = 0

-- how many views have claimed the place
abbrev pub claimants : ℕ → List View → ℕ
claimants place [] = 0
claimants place (v ∷ vs) = claim_count place v + claimants place vs

-- the slot is out with a pass
abbrev pub IsOut : Maybe (Maybe SlotView) → Type 0
IsOut slot = slot ≡ some none

-- the slot is at home with a job, finished or open, as `is_finished` tells
abbrev pub IsHome : Bool → Maybe (Maybe SlotView) → Type 0
IsHome is_finished slot = (job : JobView) × (slot ≡ some (some (Some job))) × (finished job ≡ is_finished)

-- a place: its word, whether a job is put there, its slot, and how many views have claimed it
pub data IsPlace (word : ℕ) (put : Bool) (slot : Maybe (Maybe SlotView)) (claimed : ℕ) : Type 0 where
  is_free : word ≡ 0 → put ≡ false → IsOut slot → claimed ≡ 0 → IsPlace word put slot claimed
  is_waiting : word ≡ 1 → put ≡ true → IsHome false slot → claimed ≡ 0 → IsPlace word put slot claimed
  is_claimed : word ≡ 2 → put ≡ true → IsOut slot → claimed ≡ 1 → IsPlace word put slot claimed
  is_finished : word ≡ 3 → put ≡ true → IsHome true slot → claimed ≡ 0 → IsPlace word put slot claimed

-- a place of a board, where the engine's view tells which places are put
abbrev pub IsPlaceOf : BoardState → List Bool → ℕ → Type 0
IsPlaceOf s puts place =
    IsPlace (slice_index s.words (word_index place)) (is_put puts place) (get_elem? s.homes place)
    (claimants place s.views)

-- a board that is made: there are 65 words and 64 slots, and word 0 is 0; the first view is the engine's, and each place
-- is as its word says
pub record IsBoard (s : BoardState) : Type 0 where
  pub puts : List Bool
  pub tries : List Try
  pub words : length s.words ≡ suc PLACES
  pub word_zero : slice_index s.words 0 ≡ 0
  pub slots : length s.homes ≡ PLACES
  pub engine : get_elem? s.views 0 ≡ some (Engine puts tries)
  pub wide : length puts ≡ PLACES
  pub places : (place : ℕ) → place < PLACES → IsPlaceOf s puts place

-- a board that is being made: the engine's pass has not taken the empty slots yet
pub record IsOpening (s : BoardState) : Type 0 where
  pub words : s.words ≡ replicate (suc PLACES) 0
  pub slots : s.homes ≡ map some (replicate PLACES None)
  pub views : s.views ≡ Opening ∷ []

-- what holds of a board between any two steps
abbrev pub BoardRule : BoardState → Type 0
BoardRule s = IsOpening s ⊎ IsBoard s
