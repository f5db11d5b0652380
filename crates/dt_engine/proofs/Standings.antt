-- Where processes stand after a turn of the queue's head, and after an arrival.
use Rattle.std.proofs.Common.{◌≡◌, ◌≢◌, ℕ, ◌==◌, Bool, true, false, cond, List, [], ◌∷◌, ◌++◌, map, refl, sym, ap, subst, ◌∙◌, arith}
use Rattle.std.specs.Prelude.{IsSome, IsTrue}
use Rattle.std.proofs.lemmas.Bool.Decides.{nat_tests}
use Rattle.std.specs.Cmp.{nat_cmp_total}
use Rattle.std.specs.FinMap.{get, insert, remove, nat_cmp-IsAntisymmetric}
use Rattle.dt_tables.proofs.Maps.{at_insert, get-insert_same, get-insert_other, get-remove_other}
use Rattle.dt_rv64.specs.declared.segments.Seg.{Seg}
use Rattle.dt_rv64.specs.declared.segments.Stop.{Stop}
use Rattle.dt_rv64.specs.declared.segments.Stop.TheVariants.{Slice}
use Rattle.dt_sched.specs.declared.process.Process.{Process}
use Rattle.dt_sched.specs.declared.process.Phase.{Phase}
use Rattle.dt_sched.specs.declared.process.Phase.TheVariants.{Owes, Ran}
use Rattle.dt_sched.specs.Core.{is_queued, owing_process, process_after_turn, processes_after_turn, phase_after_turn, process_after_arrival}
use Rattle.dt_calls.specs.declared.container.Served.{Served}
use Rattle.dt_calls.specs.declared.container.Served.TheVariants.{Done, Child, LastChild, Blocked, Progress, Ended, Unsupported}
use Rattle.dt_calls.specs.Settle.{is_end_of_all}
use Rattle.dt_engine.specs.Turn.{settled_of}
use Rattle.dt_engine.specs.inner.InCode.{Stops, phase_at, noted_stop, with_stop, phase_in, stops_after}

-- a process that isn't among those
pub phase-absent : (q : ℕ) (xs : List Process) → is_queued q xs ≡ false → phase_at q xs ≡ Owes
phase-absent q [] absent = refl
phase-absent q (x ∷ xs) absent = grind (arith, nat_tests, phase-absent q xs)

-- those behind, among which it isn't or owes
phase-behind : (q : ℕ) (xs ys : List Process) → phase_at q ys ≡ Owes → phase_at q (xs ++ ys) ≡ phase_at q xs
phase-behind q [] ys owes = owes
phase-behind q (x ∷ xs) ys owes = ap (cond (x.vpid == q) x.phase) (phase-behind q xs ys owes)

-- those before, among which it isn't
phase-before : (q : ℕ) (xs ys : List Process) → is_queued q xs ≡ false → phase_at q (xs ++ ys) ≡ phase_at q ys
phase-before q [] ys absent = refl
phase-before q (x ∷ xs) ys absent = grind (arith, nat_tests, phase-before q xs ys)

pub phase-first : (x : Process) (xs : List Process) → phase_at x.vpid (x ∷ xs) ≡ x.phase
phase-first x xs = grind (arith, nat_tests)

pub phase-other : (q : ℕ) (x : Process) (xs : List Process) → q ≢ x.vpid → phase_at q (x ∷ xs) ≡ phase_at q xs
phase-other q x xs apart = grind (arith, nat_tests)

one-other : (q : ℕ) (x : Process) → q ≢ x.vpid → phase_at q (x ∷ []) ≡ Owes
one-other q x apart = phase-other q x [] apart

two-other : (q : ℕ) (x y : Process) → q ≢ x.vpid → q ≢ y.vpid → phase_at q (x ∷ y ∷ []) ≡ Owes
two-other q x y apart far = phase-other q x (y ∷ []) apart ∙ one-other q y far

pub one-owes : (q n : ℕ) → phase_at q (owing_process n ∷ []) ≡ Owes
one-owes q n = grind (arith, nat_tests)

-- what was served made no child of this pid
abbrev pub IsNoChild : ℕ → Served → Type 0
IsNoChild q Done = Unit {0}
IsNoChild q (Child vpid) = q ≢ vpid
IsNoChild q (LastChild vpid) = q ≢ vpid
IsNoChild q Blocked = Unit {0}
IsNoChild q Progress = Unit {0}
IsNoChild q Ended = Unit {0}
IsNoChild q (Unsupported number) = Unit {0}

-- a child has this pid
abbrev pub IsNext : ℕ → Served → Type 0
IsNext q Done = Unit {0}
IsNext q (Child vpid) = vpid ≡ q
IsNext q (LastChild vpid) = vpid ≡ q
IsNext q Blocked = Unit {0}
IsNext q Progress = Unit {0}
IsNext q Ended = Unit {0}
IsNext q (Unsupported number) = Unit {0}

-- what was served made a child
abbrev pub makes_child : Served → Bool
makes_child Done = false
makes_child (Child vpid) = true
makes_child (LastChild vpid) = true
makes_child Blocked = false
makes_child Progress = false
makes_child Ended = false
makes_child (Unsupported number) = false

-- the process whose stop was served goes on
abbrev pub GoesOn : Served → Type 0
GoesOn Done = Unit {0}
GoesOn (Child vpid) = Unit {0}
GoesOn (LastChild vpid) = ⊥
GoesOn Blocked = Unit {0}
GoesOn Progress = Unit {0}
GoesOn Ended = ⊥
GoesOn (Unsupported number) = Unit {0}

-- what is noted of any other process that isn't a child stays
pub stop-stays : (stops : Stops) (p q : ℕ) (served : Served) → IsNoChild q served → q ≢ p
    → get (stops_after stops p served) q ≡ get stops q
stop-stays stops p q Done none apart = refl
stop-stays stops p q (Child vpid) none apart = get-insert_other nat_cmp_total nat_cmp-IsAntisymmetric stops vpid Slice q none
stop-stays stops p q (LastChild vpid) none apart =
    get-insert_other nat_cmp_total nat_cmp-IsAntisymmetric (remove stops p) vpid Slice q none
    ∙ get-remove_other nat_cmp_total nat_cmp-IsAntisymmetric stops p q apart
stop-stays stops p q Blocked none apart = refl
stop-stays stops p q Progress none apart = refl
stop-stays stops p q Ended none apart = get-remove_other nat_cmp_total nat_cmp-IsAntisymmetric stops p q apart
stop-stays stops p q (Unsupported number) none apart = refl

module _ (stops : Stops) (x : Process) (rest : List Process) where
  -- where processes stand before and after the turn of x
  abbrev pub before : ℕ → Phase Seg
  before = phase_in (x ∷ rest) stops

  abbrev pub after : Served → ℕ → Phase Seg
  after served = phase_in (processes_after_turn x rest (settled_of served)) (stops_after stops x.vpid served)

  unless-over : (b : Bool) (ps : List Process) (q : ℕ) → b ≡ false → phase_at q (cond b [] ps) ≡ phase_at q ps
  unless-over true ps q on = cc
  unless-over false ps q on = refl

  phase-stays : (served : Served) (q : ℕ) → q ≢ x.vpid → IsNoChild q served → is_end_of_all x.vpid served ≡ false
      → phase_at q (processes_after_turn x rest (settled_of served)) ≡ phase_at q rest
  phase-stays Done q apart none on = phase-behind q rest _ (one-other q _ apart)
  phase-stays (Child vpid) q apart none on = phase-behind q rest _ (two-other q _ (owing_process vpid) apart none)
  phase-stays (LastChild vpid) q apart none on =
      unless-over (x.vpid == 1) (rest ++ owing_process vpid ∷ []) q on
      ∙ phase-behind q rest _ (one-other q (owing_process vpid) none)
  phase-stays Blocked q apart none on = phase-behind q rest _ (one-other q _ apart)
  phase-stays Progress q apart none on = phase-behind q rest _ (one-other q _ apart)
  phase-stays Ended q apart none on = unless-over (x.vpid == 1) rest q on
  phase-stays (Unsupported number) q apart none on = phase-other q x rest apart

  -- any other process stands where it did
  pub stays : (served : Served) (q : ℕ) → q ≢ x.vpid → IsNoChild q served → is_end_of_all x.vpid served ≡ false
      → after served q ≡ before q
  stays served q apart none on =
      let phases = phase-stays served q apart none on ∙ sym (phase-other q x rest apart) in
      let stopped = ap noted_stop (stop-stays stops x.vpid q served none apart) in
      λ i. with_stop (phases i) (stopped i)

  own-first : (t : _) (ys : List Process) → is_queued x.vpid rest ≡ false
      → phase_at x.vpid (rest ++ process_after_turn x t ∷ ys) ≡ phase_after_turn x.phase t
  own-first t ys once = phase-before x.vpid rest (process_after_turn x t ∷ ys) once ∙ phase-first (process_after_turn x t) ys

  own-queued : (served : Served) → is_queued x.vpid rest ≡ false → GoesOn served
      → phase_at x.vpid (processes_after_turn x rest (settled_of served)) ≡ phase_after_turn x.phase (settled_of served)
  own-queued Done once on = own-first (settled_of Done) [] once
  own-queued (Child vpid) once on = own-first (settled_of (Child vpid)) (owing_process vpid ∷ []) once
  own-queued (LastChild vpid) once on = absurd on
  own-queued Blocked once on = own-first (settled_of Blocked) [] once
  own-queued Progress once on = own-first (settled_of Progress) [] once
  own-queued Ended once on = absurd on
  own-queued (Unsupported number) once on = phase-first x rest

  own-stop : (served : Served) → GoesOn served → IsNoChild x.vpid served
      → get (stops_after stops x.vpid served) x.vpid ≡ get stops x.vpid
  own-stop Done on none = refl
  own-stop (Child vpid) on none = get-insert_other nat_cmp_total nat_cmp-IsAntisymmetric stops vpid Slice x.vpid none
  own-stop (LastChild vpid) on none = absurd on
  own-stop Blocked on none = refl
  own-stop Progress on none = refl
  own-stop Ended on none = absurd on
  own-stop (Unsupported number) on none = refl

  stops-with : (phase : Phase ℕ) (served : Served) (old new : Stop) → GoesOn served → new ≡ old
      → with_stop (phase_after_turn phase (settled_of served)) new ≡ phase_after_turn (with_stop phase old) (settled_of served)
  stops-with phase Done old new on is = refl
  stops-with phase (Child vpid) old new on is = refl
  stops-with phase (LastChild vpid) old new on is = absurd on
  stops-with phase Blocked old new on is = refl
  stops-with phase Progress old new on is = refl
  stops-with phase Ended old new on is = absurd on
  stops-with phase (Unsupported number) old new on is = ap (with_stop phase) is

  -- the process of the turn stands where the turn puts it
  pub own-phase : (served : Served) → is_queued x.vpid rest ≡ false → GoesOn served → IsNoChild x.vpid served
      → after served x.vpid ≡ phase_after_turn (with_stop x.phase (noted_stop (get stops x.vpid))) (settled_of served)
  own-phase served once on none =
      ap (λ phase. with_stop phase (noted_stop (get (stops_after stops x.vpid served) x.vpid))) (own-queued served once on)
      ∙ stops-with x.phase served _ _ on (ap noted_stop (own-stop served on none))

  next-phase : (served : Served) (q : ℕ) → IsNext q served → is_queued q rest ≡ false → q ≢ x.vpid
      → is_end_of_all x.vpid served ≡ false → phase_at q (processes_after_turn x rest (settled_of served)) ≡ Owes
  next-phase Done q is new apart on = phase-stays Done q apart tt on ∙ phase-absent q rest new
  next-phase (Child vpid) q is new apart on =
      phase-before q rest _ new ∙ phase-other q (process_after_turn x (settled_of (Child vpid))) (owing_process vpid ∷ []) apart ∙ one-owes q vpid
  next-phase (LastChild vpid) q is new apart on =
      unless-over (x.vpid == 1) (rest ++ owing_process vpid ∷ []) q on
      ∙ phase-before q rest (owing_process vpid ∷ []) new ∙ one-owes q vpid
  next-phase Blocked q is new apart on = phase-stays Blocked q apart tt on ∙ phase-absent q rest new
  next-phase Progress q is new apart on = phase-stays Progress q apart tt on ∙ phase-absent q rest new
  next-phase Ended q is new apart on = phase-stays Ended q apart tt on ∙ phase-absent q rest new
  next-phase (Unsupported number) q is new apart on = phase-stays (Unsupported number) q apart tt on ∙ phase-absent q rest new

  -- a child owes
  pub next-owes : (served : Served) (q : ℕ) → IsNext q served → is_queued q rest ≡ false → q ≢ x.vpid
      → is_end_of_all x.vpid served ≡ false → after served q ≡ Owes
  next-owes served q is new apart on =
      ap (λ phase. with_stop phase (noted_stop (get (stops_after stops x.vpid served) q))) (next-phase served q is new apart on)

-- a stop that is noted of a process is noted still
pub noted-stays : (stops : Stops) (p : ℕ) (served : Served) (q : ℕ) → q ≢ p → IsSome (get stops q)
    → IsSome (get (stops_after stops p served) q)
noted-stays stops p Done q apart some = some
noted-stays stops p (Child vpid) q apart some = at_insert nat_cmp_total nat_cmp-IsAntisymmetric
    (λ found. IsSome found) stops vpid Slice q (λ _. refl) (λ _. some)
noted-stays stops p (LastChild vpid) q apart some = at_insert nat_cmp_total nat_cmp-IsAntisymmetric
    (λ found. IsSome found) (remove stops p) vpid Slice q (λ _. refl)
    (λ _. subst IsSome (sym (get-remove_other nat_cmp_total nat_cmp-IsAntisymmetric stops p q apart)) some)
noted-stays stops p Blocked q apart some = some
noted-stays stops p Progress q apart some = some
noted-stays stops p Ended q apart some = subst IsSome (sym (get-remove_other nat_cmp_total nat_cmp-IsAntisymmetric stops p q apart)) some
noted-stays stops p (Unsupported number) q apart some = some

pub own-noted : (stops : Stops) (p : ℕ) (served : Served) → GoesOn served → IsSome (get stops p)
    → IsSome (get (stops_after stops p served) p)
own-noted stops p Done on some = some
own-noted stops p (Child vpid) on some = at_insert nat_cmp_total nat_cmp-IsAntisymmetric
    (λ found. IsSome found) stops vpid Slice p (λ _. refl) (λ _. some)
own-noted stops p (LastChild vpid) on some = absurd on
own-noted stops p Blocked on some = some
own-noted stops p Progress on some = some
own-noted stops p Ended on some = absurd on
own-noted stops p (Unsupported number) on some = some

-- a stop is noted of a child
pub child-noted : (stops : Stops) (p q : ℕ) (served : Served) → IsNext q served
    → IsTrue (makes_child served) → IsSome (get (stops_after stops p served) q)
child-noted stops p q Done is child = cc
child-noted stops p q (Child vpid) is child =
    subst (λ n. IsSome (get (insert stops vpid Slice) n)) is
    (subst IsSome (sym (get-insert_same nat_cmp_total nat_cmp-IsAntisymmetric stops vpid Slice)) refl)
child-noted stops p q (LastChild vpid) is child =
    subst (λ n. IsSome (get (insert (remove stops p) vpid Slice) n)) is
    (subst IsSome (sym (get-insert_same nat_cmp_total nat_cmp-IsAntisymmetric (remove stops p) vpid Slice)) refl)
child-noted stops p q Blocked is child = cc
child-noted stops p q Progress is child = cc
child-noted stops p q Ended is child = cc
child-noted stops p q (Unsupported number) is child = cc

-- after an arrival the process that arrived has its count, and any other stands as it did
pub phase-arrived : (p count : ℕ) (xs : List Process) → is_queued p xs ≡ true
    → phase_at p (map (process_after_arrival p count) xs) ≡ Ran count
phase-arrived p count [] there = cc
phase-arrived p count (x ∷ xs) there = grind (arith, nat_tests, phase-arrived p count xs)

pub phase-arrived-other : (p count q : ℕ) (xs : List Process) → q ≢ p
    → phase_at q (map (process_after_arrival p count) xs) ≡ phase_at q xs
phase-arrived-other p count q [] apart = refl
phase-arrived-other p count q (x ∷ xs) apart = grind (arith, nat_tests, phase-arrived-other p count q xs apart)
