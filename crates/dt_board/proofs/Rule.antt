-- Each step keeps the rule.
use Rattle.std.proofs.Common.{◌≡◌, ◌≢◌, ℕ, zero, suc, ◌+◌, ◌<◌, ◌≤◌, Bool, true, false, true≢false, List, [], ◌∷◌, ◌++◌, map, length, get_or, set, replicate, sym, refl, ap, ◌∙◌, subst, ◌⊎◌, inl, inr, ⊎_elim, arith, eqb, length-set, get_or-set_other, get_or-set_same, Some, None, Option}
use mathlib.Core.Option.{Option as Maybe, none, some, some-injective, some-ne-none}
use mathlib.Core.Logic.{dite}
use native.Mathlib.Decide.{ℕ_discrete}
use lib.ListN.{get_elem?}
use lib.Seq.{set-get_or}
use prog.Atomic.{either}
use Rattle.atomic_table.specs.Table.{step, Act, keeps, takes, gives, chain, Valid, carried_after, homes_after, stepped, opening, Allows, Splits, Joins}
use Rattle.atomic_table.proofs.Lists.{set_here, set_else, at_longer, set_again, exchanged}
use Rattle.dt_board.specs.Job.{JobView, finished}
use Rattle.dt_board.specs.Board.{SlotView, BoardState, Try, word_index, is_put, claim_count, claimants, IsPlace, IsBoard, IsOpening, BoardRule}
use Rattle.dt_board.specs.Board.IsPlace.{is_free, is_waiting, is_claimed, is_finished}
use Rattle.dt_board.specs.Steps.{SeatState, ComesWith, with_try, with_mark, with_claim, empty_slots_from, opening_tells, put_tells, claim_tells, finish_tells, take_tells}
use Rattle.dt_board.specs.Passes.{puts_of}
use Rattle.dt_board.specs.declared.view.View.{View}
use Rattle.dt_board.specs.declared.view.View.TheVariants.{Opening, Engine, Worker, Spent}
use Rattle.dt_board.proofs.Lists.{claimants-append, claimants-set, claim_count_le, claim_here, claim_else, get_or-zeros}

-- a step at the place p, whose seat goes from v to w
at_place : (s : BoardState) (o : IsBoard s) (p id : ℕ) (v w : View) (n : ℕ) (hs : List (Maybe SlotView)) (puts : List Bool) (tries : List Try) → p < 64 → get_elem? s.views id ≡ some v
    → length hs ≡ 64 → ((q : ℕ) → q ≢ p → get_elem? hs q ≡ get_elem? s.homes q)
    → get_elem? (set s.views id w) 0 ≡ some (Engine puts tries) → length puts ≡ 64 → ((q : ℕ) → q ≢ p → is_put puts q ≡ is_put o.puts q)
    → ((q : ℕ) → q ≢ p → claim_count q w ≡ claim_count q v)
    → IsPlace n (is_put puts p) (get_elem? hs p) (claimants p (set s.views id w))
    → IsBoard (record { words = set s.words (word_index p) n; homes = hs; views = set s.views id w })
at_place s o p id v w n hs puts tries small me slots slot engine wide puts_else claim_same here = record {
  puts = puts;
  tries = tries;
  words = length-set s.words (word_index p) n ∙ o.words;
  word_zero = get_or-set_other s.words (word_index p) 0 n 0 (λ e. omega arith) ∙ o.word_zero;
  slots = slots;
  engine = engine;
  wide = wide;
  places = λ q lt. dite (ℕ_discrete q p)
      (λ (e : q ≡ p). subst (λ (r : ℕ). IsPlace (get_or (set s.words (word_index p) n) (word_index r) 0) (is_put puts r) (get_elem? hs r) (claimants r (set s.views id w))) (sym e)
      (subst (λ (m : ℕ). IsPlace m (is_put puts p) (get_elem? hs p) (claimants p (set s.views id w))) (sym (get_or-set_same s.words (word_index p) n 0 (omega (arith, o.words)))) here))
      (λ ne. let word : get_or (set s.words (word_index p) n) (word_index q) 0 ≡ get_or s.words (word_index q) 0 = get_or-set_other s.words (word_index p) (word_index q) n 0 (λ e. ne (omega arith)) in
      let count : claimants q (set s.views id w) ≡ claimants q s.views = omega (arith, claimants-set q s.views id v w me, claim_same q ne) in
      rw (word, puts_else q ne, slot q ne, count) (o.places q lt));
}

pub starts : (ws : List ℕ) (xs : List SlotView) → ws ≡ replicate 65 0 → xs ≡ replicate 64 None → BoardRule (opening ws xs Opening)
starts ws xs e f = inl (record { words = e; slots = ap (map some) f; views = refl })

-- once a pass is no opening one, neither is the board
not_opening : (s : BoardState) (id : ℕ) (v : View) → BoardRule s → get_elem? s.views id ≡ some v → v ≢ Opening → IsBoard s
not_opening s id v (inr o) me ne = o
not_opening s zero v (inl o) me ne = absurd (ne (sym (some-injective Opening v (ap (λ vs. get_elem? vs 0) (sym o.views) ∙ me))))
not_opening s (suc id) v (inl o) me ne = absurd (some-ne-none v (sym me ∙ ap (λ vs. get_elem? vs (suc id)) o.views))

some_first : (vs : List View) (v : View) → get_elem? vs 0 ≡ some v → 0 < length vs
some_first [] v e = absurd (some-ne-none v (sym e))
some_first (x ∷ xs) v e = omega arith

worker≢engine : (c : Option ℕ) (ts : List Try) (ps : List Bool) (us : List Try) → Worker c ts ≢ Engine ps us
worker≢engine c ts ps us e = true≢false (ap is_worker e)
  where
    is_worker : View → Bool
    is_worker (Worker a b) = true
    is_worker (Engine a b) = false
    is_worker Opening = false
    is_worker Spent = false

-- what is told of p is told of the place whose word p's is
told : (p : ℕ) (T : ℕ → Type 0) → T p → (q : ℕ) → word_index p ≡ word_index q → T q
told p T t q e = let same : p ≡ q = omega arith in subst T same t

-- the engine's place is not a worker's
apart : (s : BoardState) (o : IsBoard s) (id : ℕ) (c : Option ℕ) (ts : List Try) → get_elem? s.views id ≡ some (Worker c ts) → 0 ≢ id
apart s o id c ts me e = worker≢engine c ts o.puts o.tries (some-injective _ _ (sym me ∙ (ap (get_elem? s.views) (sym e) ∙ o.engine)))

Worker≢Opening : (c : Option ℕ) (ts : List Try) → Worker c ts ≢ Opening
Worker≢Opening c ts e = true≢false (ap is_worker e)
  where
    is_worker : View → Bool
    is_worker (Worker a b) = true
    is_worker (Engine a b) = false
    is_worker Opening = false
    is_worker Spent = false

pub Engine≢Opening : (ps : List Bool) (ts : List Try) → Engine ps ts ≢ Opening
Engine≢Opening ps ts e = true≢false (ap is_engine e)
  where
    is_engine : View → Bool
    is_engine (Worker a b) = false
    is_engine (Engine a b) = true
    is_engine Opening = false
    is_engine Spent = false

abbrev Goes : BoardState → ℕ → ℕ → SeatState → ℕ → (SeatState → Type 0) → Type 0
Goes s i id m k then = (w : View) × (a : Act SlotView) × Valid s.homes m.1 a × BoardRule (stepped s i k id m.1 w a) × then (w, carried_after m.1 a)

-- the slot of a place is given, taken, or another's
set_slot : (hs : List (Maybe SlotView)) (p : ℕ) (x : Maybe SlotView) → length hs ≡ 64 → length (set hs p x) ≡ 64
set_slot hs p x e = length-set hs p x ∙ e

claim_hit : (n : ℕ) (s : BoardState) (o : IsBoard s) (id : ℕ) (ts : List Try) (p : ℕ) → p < 64 → get_elem? s.views id ≡ some (Worker None ts) → get_or s.words (word_index p) 0 ≡ 1
    → Goes s (word_index p) id (Worker None ts, []) 2 (claim_tells (step n (word_index p) 1 2 none) (Worker None ts, []) (get_or s.words (word_index p) 0))
claim_hit n s o id ts p small me hit =
    let r : ℕ = get_or s.words (word_index p) 0 in
    let v : View = Worker None ts in
    let w : View = Worker (Some p) (ts ++ (p, r) ∷ []) in
    let engine : get_elem? (set s.views id w) 0 ≡ some (Engine o.puts o.tries) = set_else s.views id 0 w (apart s o id None ts me) ∙ o.engine in
    elim (o.places p small) [
      | is_free z a b c ↦ absurd (omega (arith, z, hit))
      | is_waiting z a home c ↦ (
        w,
        takes p (Some home.0),
        home.1,
        inr (at_place s o p id v w 2 (set s.homes p none) o.puts o.tries small me (set_slot s.homes p none o.slots) (λ q ne. set_else s.homes p q none ne) engine o.wide (λ q ne. refl)
            (λ q ne. claim_else p q (ts ++ (p, r) ∷ []) ne)
            (is_claimed refl a (set_here s.homes p none (omega (arith, o.slots))) (omega (arith, claimants-set p s.views id v w me, c, claim_here p (ts ++ (p, r) ∷ []))))),
        told p (λ q. (r ≡ 1 → ComesWith false q (with_claim (with_try v q r) (Some q)) (v, []) (w, (p, Some home.0) ∷ [])) × (r ≢ 1 → (w, (p, Some home.0) ∷ []) ≡ (with_try v q r, []))) ((λ _. (home.0, home.2, refl)), λ miss. absurd (miss hit)),
      )
      | is_claimed z a b c ↦ absurd (omega (arith, z, hit))
      | is_finished z a b c ↦ absurd (omega (arith, z, hit))
    ]

pub claims_job : (n id : ℕ) (m : SeatState) (ts : List Try) (p : ℕ) → m ≡ (Worker None ts, []) → p < 64
    → Allows BoardRule n id m (word_index p) (λ x. either (eqb x 1) 2 x) (claim_tells (step n (word_index p) 1 2 none) m)
claims_job n id m ts p is small = subst (λ (x : SeatState). Allows BoardRule n id x (word_index p) (λ y. either (eqb y 1) 2 y) (claim_tells (step n (word_index p) 1 2 none) x)) (sym is) (λ s ordered wide me _.
    let v : View = Worker None ts in
    let o = not_opening s id v ordered me (Worker≢Opening None ts) in
    let r : ℕ = get_or s.words (word_index p) 0 in
    exchanged r 1 2 (λ k. Goes s (word_index p) id (v, []) k (claim_tells (step n (word_index p) 1 2 none) (v, []) r))
    (claim_hit n s o id ts p small me)
    (λ miss. let w : View = Worker None (ts ++ (p, r) ∷ []) in
    let count : claimants p (set s.views id w) ≡ claimants p s.views = omega (arith, claimants-set p s.views id v w me) in (
      w,
      keeps,
      tt,
      inr (at_place s o p id v w r s.homes o.puts o.tries small me o.slots (λ q ne. refl) (set_else s.views id 0 w (apart s o id None ts me) ∙ o.engine) o.wide (λ q ne. refl) (λ q ne. refl)
          (rw count (o.places p small))),
      told p (λ q. (r ≡ 1 → ComesWith false q (with_claim (with_try v q r) (Some q)) (v, []) (w, [])) × (r ≢ 1 → (w, []) ≡ (with_try v q r, []))) ((λ hit. absurd (miss hit)), λ _. refl),
    )))

pub finishes : (n id : ℕ) (m : SeatState) (ts : List Try) (p : ℕ) (job : JobView) → m ≡ (Worker (Some p) ts, (p, Some job) ∷ []) → p < 64 → finished job ≡ true
    → Allows BoardRule n id m (word_index p) (λ _. 3) (λ _. finish_tells (step n (word_index p) 3 0 none) m 3)
finishes n id m ts p job is small done = subst (λ (x : SeatState). Allows BoardRule n id x (word_index p) (λ _. 3) (λ _. finish_tells (step n (word_index p) 3 0 none) x 3)) (sym is) (λ s ordered wide me _.
    let v : View = Worker (Some p) ts in
    let w : View = Worker None ts in
    let o = not_opening s id v ordered me (Worker≢Opening (Some p) ts) in
    let mine = claim_count_le p s.views id v me in
    let one = claim_here p ts in
    let put_claims : (is_put o.puts p ≡ true) × (claimants p s.views ≡ 1) = elim (o.places p small) [
      | is_free z a b c ↦ absurd (omega (arith, mine, one, c))
      | is_waiting z a b c ↦ absurd (omega (arith, mine, one, c))
      | is_claimed z a b c ↦ (a, c)
      | is_finished z a b c ↦ absurd (omega (arith, mine, one, c))
    ] in (
      w,
      gives,
      tt,
      inr (at_place s o p id v w 3 (set s.homes p (some (Some job))) o.puts o.tries small me (set_slot s.homes p (some (Some job)) o.slots) (λ q ne. set_else s.homes p q (some (Some job)) ne)
          (set_else s.views id 0 w (apart s o id (Some p) ts me) ∙ o.engine) o.wide (λ q ne. refl) (λ q ne. sym (claim_else p q ts ne))
          (is_finished refl put_claims.0 (job, set_here s.homes p (some (Some job)) (omega (arith, o.slots)), done) (omega (arith, claimants-set p s.views id v w me, put_claims.1, one)))),
      (refl, refl),
    ))

-- the engine's view is the first
engine_is : (s : BoardState) (o : IsBoard s) (ps : List Bool) (ts : List Try) → get_elem? s.views 0 ≡ some (Engine ps ts) → ps ≡ o.puts
engine_is s o ps ts me = ap puts_of (some-injective (Engine ps ts) (Engine o.puts o.tries) (sym me ∙ o.engine))

pub puts_job : (n id : ℕ) (m : SeatState) (ps : List Bool) (ts : List Try) (p : ℕ) (job : JobView) (more : List (ℕ × SlotView)) → m ≡ (Engine ps ts, (p, Some job) ∷ more) → id ≡ 0 → p < 64 → is_put ps p ≡ false → length ps ≡ 64 → finished job ≡ false
    → Allows BoardRule n id m (word_index p) (λ _. 1) (λ _. put_tells (step n (word_index p) 1 0 none) m 1)
puts_job n id m ps ts p job more is first small free long unrun = subst (λ (x : ℕ × SeatState). Allows BoardRule n x.0 x.1 (word_index p) (λ _. 1) (λ _. put_tells (step n (word_index p) 1 0 none) x.1 1)) (λ i. (sym first i, sym is i)) (λ s ordered wide me _.
    let v : View = Engine ps ts in
    let w : View = Engine (set ps p true) ts in
    let o = not_opening s 0 v ordered me (Engine≢Opening ps ts) in
    let same = engine_is s o ps ts me in
    let free' : is_put o.puts p ≡ false = ap (λ l. is_put l p) (sym same) ∙ free in
    let none_claims : claimants p s.views ≡ 0 = elim (o.places p small) [
      | is_free z a b c ↦ c
      | is_waiting z a b c ↦ absurd (true≢false (sym a ∙ free'))
      | is_claimed z a b c ↦ absurd (true≢false (sym a ∙ free'))
      | is_finished z a b c ↦ absurd (true≢false (sym a ∙ free'))
    ] in (
      w,
      gives,
      tt,
      inr (at_place s o p 0 v w 1 (set s.homes p (some (Some job))) (set ps p true) ts small me (set_slot s.homes p (some (Some job)) o.slots) (λ q ne. set_else s.homes p q (some (Some job)) ne)
          (set_here s.views 0 w (some_first s.views v me)) (length-set ps p true ∙ long) (λ q ne. get_or-set_other ps p q true false ne ∙ ap (λ l. is_put l q) same) (λ q ne. refl)
          (is_waiting refl (get_or-set_same ps p true false (omega (arith, long))) (job, set_here s.homes p (some (Some job)) (omega (arith, o.slots)), unrun) (omega (arith, claimants-set p s.views 0 v w me, none_claims)))),
      told p (λ q. (◌≡◌ {A = ℕ} 1 1) × ((w, more) ≡ (with_mark v q true, more))) (refl, refl),
    ))

take_hit : (n : ℕ) (s : BoardState) (o : IsBoard s) (ps : List Bool) (ts : List Try) (p : ℕ) (more : List (ℕ × SlotView)) → p < 64 → is_put ps p ≡ true → length ps ≡ 64 → get_elem? s.views 0 ≡ some (Engine ps ts) → get_or s.words (word_index p) 0 ≡ 3
    → Goes s (word_index p) 0 (Engine ps ts, more) 0 (take_tells (step n (word_index p) 3 0 none) (Engine ps ts, more) (get_or s.words (word_index p) 0))
take_hit n s o ps ts p more small is long me hit =
    let r : ℕ = get_or s.words (word_index p) 0 in
    let v : View = Engine ps ts in
    let w : View = Engine (set ps p false) (ts ++ (p, r) ∷ []) in
    let same = engine_is s o ps ts me in
    elim (o.places p small) [
      | is_free z a b c ↦ absurd (omega (arith, z, hit))
      | is_waiting z a b c ↦ absurd (omega (arith, z, hit))
      | is_claimed z a b c ↦ absurd (omega (arith, z, hit))
      | is_finished z a home c ↦ (
        w,
        takes p (Some home.0),
        home.1,
        inr (at_place s o p 0 v w 0 (set s.homes p none) (set ps p false) (ts ++ (p, r) ∷ []) small me (set_slot s.homes p none o.slots) (λ q ne. set_else s.homes p q none ne)
            (set_here s.views 0 w (some_first s.views v me)) (length-set ps p false ∙ long) (λ q ne. get_or-set_other ps p q false false ne ∙ ap (λ l. is_put l q) same) (λ q ne. refl)
            (is_free refl (get_or-set_same ps p false false (omega (arith, long))) (set_here s.homes p none (omega (arith, o.slots))) (omega (arith, claimants-set p s.views 0 v w me, c)))),
        told p (λ q. (r ≡ 3 → ComesWith true q (with_mark (with_try v q r) q false) (v, more) (w, (p, Some home.0) ∷ more)) × (r ≢ 3 → ((r ≡ 1) ⊎ (r ≡ 2)) × ((w, (p, Some home.0) ∷ more) ≡ (with_try v q r, more)))) ((λ _. (home.0, home.2, refl)), λ miss. absurd (miss hit)),
      )
    ]

pub takes_job : (n id : ℕ) (m : SeatState) (ps : List Bool) (ts : List Try) (p : ℕ) → m.0 ≡ Engine ps ts → id ≡ 0 → p < 64 → is_put ps p ≡ true → length ps ≡ 64
    → Allows BoardRule n id m (word_index p) (λ x. either (eqb x 3) 0 x) (take_tells (step n (word_index p) 3 0 none) m)
takes_job n id m ps ts p is first small put_there long = subst (λ (x : ℕ × View). Allows BoardRule n x.0 (x.1, m.1) (word_index p) (λ y. either (eqb y 3) 0 y) (take_tells (step n (word_index p) 3 0 none) (x.1, m.1))) (λ i. (sym first i, sym is i)) (λ s ordered wide me _.
    let v : View = Engine ps ts in
    let o = not_opening s 0 v ordered me (Engine≢Opening ps ts) in
    let r : ℕ = get_or s.words (word_index p) 0 in
    exchanged r 3 0 (λ k. Goes s (word_index p) 0 (v, m.1) k (take_tells (step n (word_index p) 3 0 none) (v, m.1) r))
    (take_hit n s o ps ts p m.1 small put_there long me)
    (λ miss. let w : View = Engine ps (ts ++ (p, r) ∷ []) in
    let same = engine_is s o ps ts me in
    let there : is_put o.puts p ≡ true = ap (λ l. is_put l p) (sym same) ∙ put_there in
    let one_or_two : (r ≡ 1) ⊎ (r ≡ 2) = elim (o.places p small) [
      | is_free z a b c ↦ absurd (true≢false (sym there ∙ a))
      | is_waiting z a b c ↦ inl z
      | is_claimed z a b c ↦ inr z
      | is_finished z a b c ↦ absurd (miss z)
    ] in
    let count : claimants p (set s.views 0 w) ≡ claimants p s.views = omega (arith, claimants-set p s.views 0 v w me) in (
      w,
      keeps,
      tt,
      inr (at_place s o p 0 v w r s.homes ps (ts ++ (p, r) ∷ []) small me o.slots (λ q ne. refl) (set_here s.views 0 w (some_first s.views v me)) long (λ q ne. ap (λ l. is_put l q) same) (λ q ne. refl)
          (rw (count, same) (o.places p small))),
      told p (λ q. (r ≡ 3 → ComesWith true q (with_mark (with_try v q r) q false) (v, m.1) (w, m.1)) × (r ≢ 3 → ((r ≡ 1) ⊎ (r ≡ 2)) × ((w, m.1) ≡ (with_try v q r, m.1)))) ((λ hit. absurd (miss hit)), λ _. (one_or_two, refl)),
    )))

pub splits : (id : ℕ) (v : View) → v ≢ Opening → Splits BoardRule id v v (Worker None [])
splits id v ne s ordered me =
    let o = not_opening s id v ordered me ne in
    let w : View = Worker None [] in
    rw (set_again s.views id v me) (inr (record {
      puts = o.puts;
      tries = o.tries;
      words = o.words;
      word_zero = o.word_zero;
      slots = o.slots;
      engine = at_longer s.views (w ∷ []) 0 (Engine o.puts o.tries) o.engine;
      wide = o.wide;
      places = λ q lt. let count : claimants q (s.views ++ w ∷ []) ≡ claimants q s.views = omega (arith, claimants-append q s.views (w ∷ [])) in rw count (o.places q lt);
    }))

pub joins : (id : ℕ) (v : View) (other : ℕ) (u : View) (ts : List Try) → v ≢ Opening → u ≡ Worker None ts → Joins BoardRule id v other u v Spent
joins id v other u ts ne is s ordered me apart_from there =
    let o = not_opening s id v ordered me ne in
    let same = set_again s.views id v me in
    let u_at : get_elem? s.views other ≡ some (Worker None ts) = ap (λ l. get_elem? l other) (sym same) ∙ (there ∙ ap some is) in
    rw same (inr (record {
      puts = o.puts;
      tries = o.tries;
      words = o.words;
      word_zero = o.word_zero;
      slots = o.slots;
      engine = set_else s.views other 0 Spent (apart s o other None ts u_at) ∙ o.engine;
      wide = o.wide;
      places = λ q lt. let count : claimants q (set s.views other Spent) ≡ claimants q s.views = omega (arith, claimants-set q s.views other (Worker None ts) Spent u_at) in rw count (o.places q lt);
    }))

-- a seat that takes so many slots from one on, the last first
abbrev take_from : ℕ → ℕ → Act SlotView
take_from place zero = keeps
take_from place (suc n) = chain (take_from (suc place) n) (takes place None)

carried : (place n : ℕ) → carried_after [] (take_from place n) ≡ empty_slots_from place n
carried place zero = refl
carried place (suc n) = ap (λ l. (place, None) ∷ l) (carried (suc place) n)

abbrev gone : ℕ → ℕ → List (Maybe SlotView) → List (Maybe SlotView)
gone place n hs = homes_after hs [] (take_from place n)

gone-length : (place n : ℕ) (hs : List (Maybe SlotView)) → length (gone place n hs) ≡ length hs
gone-length place zero hs = refl
gone-length place (suc n) hs = length-set (gone (suc place) n hs) place none ∙ gone-length (suc place) n hs

gone-else : (place n : ℕ) (hs : List (Maybe SlotView)) (q : ℕ) → q < place → get_elem? (gone place n hs) q ≡ get_elem? hs q
gone-else place zero hs q lt = refl
gone-else place (suc n) hs q lt = set_else (gone (suc place) n hs) place q none (λ e. omega arith) ∙ gone-else (suc place) n hs q (omega arith)

gone-here : (place n : ℕ) (hs : List (Maybe SlotView)) (q : ℕ) → place ≤ q → q < place + n → place + n ≤ length hs → get_elem? (gone place n hs) q ≡ some none
gone-here place zero hs q le lt long = absurd (omega arith)
gone-here place (suc n) hs q le lt long = dite (ℕ_discrete q place)
    (λ (e : q ≡ place). subst (λ (x : ℕ). get_elem? (gone place (suc n) hs) x ≡ some none) (sym e) (set_here (gone (suc place) n hs) place none (omega (arith, gone-length (suc place) n hs))))
    (λ ne. set_else (gone (suc place) n hs) place q none ne ∙ gone-here (suc place) n hs q (omega arith) (omega arith) (omega arith))

gone-valid : (place n : ℕ) (hs : List (Maybe SlotView)) → ((q : ℕ) → place ≤ q → q < place + n → get_elem? hs q ≡ some (some None)) → Valid hs [] (take_from place n)
gone-valid place zero hs all = tt
gone-valid place (suc n) hs all = (gone-valid (suc place) n hs (λ q le lt. all q (omega arith) (omega arith)), gone-else (suc place) n hs place (omega arith) ∙ all place (omega arith) (omega arith))

empty_slot : (n q : ℕ) → q < n → get_elem? (map {A = SlotView} some (replicate n None)) q ≡ some (some None)
empty_slot zero q lt = absurd (omega arith)
empty_slot (suc n) zero lt = refl
empty_slot (suc n) (suc q) lt = empty_slot n q (omega arith)

none_put : (n q : ℕ) → is_put (replicate n false) q ≡ false
none_put zero q = refl
none_put (suc n) zero = refl
none_put (suc n) (suc q) = none_put n q

pub opens : (n id : ℕ) (m : SeatState) → id ≡ 0 → m ≡ (Opening, []) → Allows BoardRule n id m 0 (λ y. y) (opening_tells (step n 0 0 0 none) m)
opens n id m first is = subst (λ (x : ℕ × SeatState). Allows BoardRule n x.0 x.1 0 (λ y. y) (opening_tells (step n 0 0 0 none) x.1)) (λ i. (sym first i, sym is i)) (λ s ordered wide me _.
    ⊎_elim
    (λ (o : IsOpening s).
    let w : View = Engine (replicate 64 false) [] in
    let same = set-get_or s.words 0 0 in
    let slots : length s.homes ≡ 64 = ap length o.slots in
    let zeros : (q : ℕ) → get_or s.words q 0 ≡ 0 = λ q. ap (λ l. get_or l q 0) o.words ∙ get_or-zeros 65 q in (
      w,
      take_from 0 64,
      gone-valid 0 64 s.homes (λ q le lt. ap (λ hs. get_elem? hs q) o.slots ∙ empty_slot 64 q lt),
      inr (record {
        puts = replicate 64 false;
        tries = [];
        words = length-set s.words 0 (get_or s.words 0 0) ∙ ap length o.words;
        word_zero = ap (λ l. get_or l 0 0) same ∙ zeros 0;
        slots = gone-length 0 64 s.homes ∙ slots;
        engine = ap (λ vs. get_elem? (set vs 0 w) 0) o.views;
        wide = refl;
        places = λ q lt. is_free (ap (λ l. get_or l (word_index q) 0) same ∙ zeros (word_index q)) (none_put 64 q) (gone-here 0 64 s.homes q (omega arith) lt (omega (arith, slots))) (ap (λ vs. claimants q (set vs 0 w)) o.views);
      }),
      (refl, λ i. (w, carried 0 64 i)),
    ))
    (λ (o : IsBoard s). absurd (Engine≢Opening o.puts o.tries (some-injective _ _ (sym o.engine ∙ me))))
    ordered)
