-- The engine's pass: the slots that it holds, and their order.
use Rattle.std.proofs.Common.{◌≡◌, ◌≢◌, ◌∙◌, ℕ, zero, suc, ◌+◌, ◌<◌, ◌≤◌, Bool, true, false, true≢false, List, [], ◌∷◌, ◌++◌, length, set, get_or, take, drop, cond, eqb, ◌||◌, ap, sym, refl, subst, arith, length-set, append_assoc, append-nil, get_or-set_other, get_or-set_same, eq-eqb, ne_eqb, replicate}
use Rattle.std.proofs.lemmas.List.{map-append, drop-map, take-map}
use mathlib.Core.Logic.{dite}
use native.Mathlib.Decide.{ℕ_discrete}
use Rattle.atomic_table.specs.Seated.{TableId}
use Rattle.atomic_table.specs.Table.{rest, turned}
use Rattle.dt_board.specs.Board.{SlotView, Try, is_put}
use Rattle.dt_board.specs.Steps.{SeatState, with_try, with_mark, empty_slots_from}
use Rattle.dt_board.specs.Passes.{EnginePassView, puts_of, tries_of}
use Rattle.dt_board.specs.inner.Held.{IsEngine, held, has, put_count, rotated, places_from}
use Rattle.dt_board.specs.declared.view.View.TheVariants.{Engine}

pub puts_is : (b b' : TableId) (p p' : List Bool) (t t' : List Try) → b ≡ b' → p ≡ p' → t ≡ t' → ◌≡◌ {A = EnginePassView} (record { board = b; puts = p; tries = t }) (record { board = b'; puts = p'; tries = t' })
puts_is b b' p p' t t' x y z = λ i. record { board = x i; puts = y i; tries = z i }

put_count-set : (l : List Bool) (p : ℕ) (b : Bool) → p < length l → put_count (set l p b) + cond (is_put l p) 1 0 ≡ put_count l + cond b 1 0
put_count-set [] p b h = absurd (omega arith)
put_count-set (x ∷ xs) zero b h = omega arith
put_count-set (x ∷ xs) (suc p) b h = omega (arith, put_count-set xs p b (omega arith))

pub has-append : (q : ℕ) (xs ys : List ℕ) → has q (xs ++ ys) ≡ (has q xs || has q ys)
has-append q [] ys = refl
has-append q (x ∷ xs) ys = or_again (eqb x q) (has q xs) (has q ys) (has q (xs ++ ys)) (has-append q xs ys)
  where
    or_again : (a b c d : Bool) → d ≡ (b || c) → (a || d) ≡ ((a || b) || c)
    or_again true b c d e = refl
    or_again false b c d e = e

or-flip : (a b : Bool) → (a || b) ≡ (b || a)
or-flip true true = refl
or-flip true false = refl
or-flip false true = refl
or-flip false false = refl

take-drop : (n : ℕ) (xs : List ℕ) → take n xs ++ drop n xs ≡ xs
take-drop zero xs = refl
take-drop (suc n) [] = refl
take-drop (suc n) (x ∷ xs) = ap (λ l. x ∷ l) (take-drop n xs)

pub has-rotated : (n q : ℕ) (xs : List ℕ) → has q (rotated n xs) ≡ has q xs
has-rotated n q xs = has-append q (drop n xs) (take n xs) ∙ (or-flip (has q (drop n xs)) (has q (take n xs)) ∙ (sym (has-append q (take n xs) (drop n xs)) ∙ ap (has q) (take-drop n xs)))

has-here : (p : ℕ) (xs : List ℕ) → has p (p ∷ xs) ≡ true
has-here p xs = ap (λ b. b || has p xs) (eq-eqb p p refl)

has-else : (p q : ℕ) (xs : List ℕ) → q ≢ p → has q (p ∷ xs) ≡ has q xs
has-else p q xs ne = ap (λ b. b || has q xs) (ne_eqb p q (λ e. ne (sym e)))

engine_seat : (id : ℕ) (me : SeatState) (order : List ℕ) (capacity : ℕ) → IsEngine id me order capacity → me ≡ (Engine (puts_of me.0) (tries_of me.0), me.1)
engine_seat id me order capacity is = λ i. (is.view i, me.1)

pub try_keeps : (id id' : ℕ) (old new : SeatState) (order : List ℕ) (capacity p r : ℕ) → IsEngine id old order capacity → id' ≡ id → new ≡ (with_try old.0 p r, old.1)
    → IsEngine id' new order capacity × (puts_of new.0 ≡ puts_of old.0) × (tries_of new.0 ≡ tries_of old.0 ++ (p, r) ∷ [])
try_keeps id id' old new order capacity p r is e f =
    let ps = puts_of old.0 in
    let ts = tries_of old.0 in
    let new_is : new ≡ (Engine ps (ts ++ (p, r) ∷ []), old.1) = f ∙ ap (λ v. (with_try v p r, old.1)) is.view in (
      subst (λ (x : ℕ × SeatState). IsEngine x.0 x.1 order capacity) (λ i. (sym e i, sym new_is i))
          (record { first = is.first; view = refl; wide = is.wide; holds = is.holds; free = is.free; counts = is.counts; room = is.room }),
      ap (λ (m : SeatState). puts_of m.0) new_is,
      ap (λ (m : SeatState). tries_of m.0) new_is,
    )

pub take_keeps : (id id' : ℕ) (old new : SeatState) (order : List ℕ) (capacity p r : ℕ) (slot : SlotView) → IsEngine id old order capacity → id' ≡ id → p < 64 → is_put (puts_of old.0) p ≡ true → new ≡ (with_mark (with_try old.0 p r) p false, (p, slot) ∷ old.1)
    → IsEngine id' new (p ∷ order) capacity × (puts_of new.0 ≡ set (puts_of old.0) p false) × (tries_of new.0 ≡ tries_of old.0 ++ (p, r) ∷ [])
take_keeps id id' old new order capacity p r slot is e small there f =
    let ps = puts_of old.0 in
    let ts = tries_of old.0 in
    let new_is : new ≡ (Engine (set ps p false) (ts ++ (p, r) ∷ []), (p, slot) ∷ old.1) = f ∙ ap (λ v. (with_mark (with_try v p r) p false, (p, slot) ∷ old.1)) is.view in (
      subst (λ (x : ℕ × SeatState). IsEngine x.0 x.1 (p ∷ order) capacity) (λ i. (sym e i, sym new_is i)) (record {
        first = is.first;
        view = refl;
        wide = length-set ps p false ∙ is.wide;
        holds = ap (λ l. p ∷ l) is.holds;
        free = λ q lt free. dite (ℕ_discrete q p) (λ (same : q ≡ p). subst (λ (x : ℕ). has x (p ∷ order) ≡ true) (sym same) (has-here p order))
            (λ ne. has-else p q order ne ∙ is.free q lt (sym (get_or-set_other ps p q false false ne) ∙ free));
        counts = omega (arith, is.counts, put_count-set ps p false (omega (arith, is.wide)), ap {B = ℕ} (λ b. cond b 1 0) there);
        room = is.room;
      }),
      ap (λ (m : SeatState). puts_of m.0) new_is,
      ap (λ (m : SeatState). tries_of m.0) new_is,
    )

-- where a place is put, there is room for it in the order
pub has_room : (id : ℕ) (me : SeatState) (order : List ℕ) (capacity p : ℕ) → IsEngine id me order capacity → p < 64 → is_put (puts_of me.0) p ≡ true → length order < capacity
has_room id me order capacity p is small there = omega (arith, is.counts, is.room, put_count-set (puts_of me.0) p false (omega (arith, is.wide)), ap {B = ℕ} (λ b. cond b 1 0) there)

-- the seat before is `old`, and then its slots were turned, with p in front
pub put_keeps : (id id' : ℕ) (old new : SeatState) (order after : List ℕ) (capacity capacity' p : ℕ) (slots : List (ℕ × SlotView)) → IsEngine id old order capacity → id' ≡ id → p < 64 → is_put (puts_of old.0) p ≡ false
    → held slots ≡ p ∷ after → ((q : ℕ) → has q (p ∷ after) ≡ has q order) → length (p ∷ after) ≡ length order → capacity ≤ capacity' → new ≡ (with_mark old.0 p true, rest slots)
    → IsEngine id' new after capacity' × (puts_of new.0 ≡ set (puts_of old.0) p true) × (tries_of new.0 ≡ tries_of old.0)
put_keeps id id' old new order after capacity capacity' p slots is e small free holds all long more f =
    let ps = puts_of old.0 in
    let ts = tries_of old.0 in
    let new_is : new ≡ (Engine (set ps p true) ts, rest slots) = f ∙ ap (λ v. (with_mark v p true, rest slots)) is.view in (
      subst (λ (x : ℕ × SeatState). IsEngine x.0 x.1 after capacity') (λ i. (sym e i, sym new_is i)) (record {
        first = is.first;
        view = refl;
        wide = length-set ps p true ∙ is.wide;
        holds = held_rest slots p after holds;
        free = λ q lt was. dite (ℕ_discrete q p)
            (λ (same : q ≡ p). absurd (true≢false (sym (get_or-set_same ps p true false (omega (arith, is.wide))) ∙ subst (λ (x : ℕ). is_put (set ps p true) x ≡ false) same was)))
            (λ ne. sym (has-else p q after ne) ∙ (all q ∙ is.free q lt (sym (get_or-set_other ps p q true false ne) ∙ was)));
        counts = omega (arith, is.counts, long, put_count-set ps p true (omega (arith, is.wide)), ap {B = ℕ} (λ b. cond b 1 0) free);
        room = omega (arith, is.room, more);
      }),
      ap (λ (m : SeatState). puts_of m.0) new_is,
      ap (λ (m : SeatState). tries_of m.0) new_is,
    )
  where
    held_rest : (xs : List (ℕ × SlotView)) (q : ℕ) (l : List ℕ) → held xs ≡ q ∷ l → held (rest xs) ≡ l
    held_rest xs q l h = rest_held xs ∙ ap (drop 1) h
      where
        rest_held : (ys : List (ℕ × SlotView)) → held (rest ys) ≡ drop 1 (held ys)
        rest_held [] = refl
        rest_held (y ∷ ys) = refl

-- the slot in front
pub front_is : (slots : List (ℕ × SlotView)) (p : ℕ) (l : List ℕ) → held slots ≡ p ∷ l → (x : SlotView) × (slots ≡ (p, x) ∷ rest slots)
front_is [] p l e = absurd (omega (arith, ap length e))
front_is (y ∷ ys) p l e = let same : y.0 ≡ p = ap (λ xs. get_or xs 0 0) e in (y.1, λ i. (same i, y.1) ∷ ys)

-- one turn more
turn_more : (i : ℕ) (xs before : List (ℕ × SlotView)) → i < length xs → turned (drop i xs ++ (before ++ take i xs)) ≡ drop (suc i) xs ++ (before ++ take (suc i) xs)
turn_more i [] before h = absurd (omega arith)
turn_more zero (x ∷ xs) before h = append_assoc xs (before ++ []) (x ∷ []) ∙ ap (λ l. xs ++ l) (append_assoc before [] (x ∷ []))
turn_more (suc i) (x ∷ xs) before h = ap (λ l. turned (drop i xs ++ l)) (sym (append_assoc before (x ∷ []) (take i xs))) ∙ (turn_more i xs (before ++ x ∷ []) (omega arith) ∙ ap (λ l. drop (suc i) xs ++ l) (append_assoc before (x ∷ []) (take (suc i) xs)))

pub rotated-more : (i : ℕ) (xs : List (ℕ × SlotView)) → i < length xs → turned (rotated i xs) ≡ rotated (i + 1) xs
rotated-more i xs h = let e : i + 1 ≡ suc i = omega arith in turn_more i xs [] h ∙ ap (λ n. rotated n xs) (sym e)

pub rotated-none : {A : Type 0} (xs : List A) → rotated 0 xs ≡ xs
rotated-none xs = append-nil xs

pub held-rotated : (n : ℕ) (slots : List (ℕ × SlotView)) → held (rotated n slots) ≡ rotated n (held slots)
held-rotated n slots = map-append (λ (x : ℕ × SlotView). x.0) (drop n slots) (take n slots) ∙ λ i. sym (drop-map (λ (x : ℕ × SlotView). x.0) n slots) i ++ sym (take-map (λ (x : ℕ × SlotView). x.0) n slots) i

-- the place is in front once the others before it are behind
pub front_of_rotated : (n p : ℕ) (xs : List ℕ) → drop n xs ≡ p ∷ drop (n + 1) xs → rotated n xs ≡ p ∷ drop 1 (rotated n xs)
front_of_rotated n p xs e = let f : rotated n xs ≡ p ∷ (drop (n + 1) xs ++ take n xs) = ap (λ l. l ++ take n xs) e in f ∙ ap (λ l. p ∷ drop 1 l) (sym f)

pub places_from-more : (p n : ℕ) → places_from p (n + 1) ≡ places_from p n ++ (p + n) ∷ []
places_from-more p zero = let e : p + 0 ≡ p = omega arith in rw e refl
places_from-more p (suc n) = let e : suc n + 1 ≡ suc (n + 1) = omega arith in let f : p + suc n ≡ suc p + n = omega arith in rw (e, f) (ap (λ l. p ∷ l) (places_from-more (suc p) n))

pub length-places_from : (p n : ℕ) → length (places_from p n) ≡ n
length-places_from p zero = refl
length-places_from p (suc n) = ap suc (length-places_from (suc p) n)

held-slots_from : (p n : ℕ) → held (empty_slots_from p n) ≡ places_from p n
held-slots_from p zero = refl
held-slots_from p (suc n) = ap (λ l. p ∷ l) (held-slots_from (suc p) n)

has-places_from : (p n q : ℕ) → p ≤ q → q < p + n → has q (places_from p n) ≡ true
has-places_from p zero q le lt = absurd (omega arith)
has-places_from p (suc n) q le lt = dite (ℕ_discrete q p)
    (λ (e : q ≡ p). subst (λ (x : ℕ). has x (p ∷ places_from (suc p) n) ≡ true) (sym e) (has-here p (places_from (suc p) n)))
    (λ ne. has-else p q (places_from (suc p) n) ne ∙ has-places_from (suc p) n q (omega arith) (omega arith))

-- the engine's pass of a new board
pub opened_is : (id : ℕ) (me : SeatState) (order : List ℕ) (capacity : ℕ) → id ≡ 0 → me ≡ (Engine (replicate 64 false) [], empty_slots_from 0 64) → order ≡ places_from 0 64 → 64 ≤ capacity → IsEngine id me order capacity
opened_is id me order capacity first is all room = subst (λ (x : ℕ × SeatState × List ℕ). IsEngine x.0 x.1 x.2 capacity) (λ i. (sym first i, sym is i, sym all i)) (record {
  first = refl;
  view = refl;
  wide = refl;
  holds = held-slots_from 0 64;
  free = λ q lt _. has-places_from 0 64 q (omega arith) lt;
  counts = refl;
  room = room;
})
