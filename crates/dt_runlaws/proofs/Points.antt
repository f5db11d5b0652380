-- The point of a run to which each action of a driver leads.
use Rattle.std.proofs.Common.{◌≡◌, ℕ, zero, suc, ◌+◌, ◌<◌, ◌≤◌, ◌==◌, ◌||◌, ◌&&◌, not, Bool, true, false, cond, List, [], ◌∷◌, ◌++◌, length, get_or, drop, remove, Option, Some, None, Result, Ok, Err, inl, inr, refl, sym, ap, subst, ◌∙◌, arith}
use Rattle.std.specs.Prelude.{◌⊎◌, OnOk, slice_get}
use Rattle.std.specs.List.{list_any}
use Rattle.std.specs.Ordering.{nat_cmp}
use Rattle.std.specs.FinMap.{get, find}
use Rattle.std.proofs.lemmas.List.{map-append, drop_more, drop_all}
use Rattle.std.proofs.lemmas.List.Elements.{All-contains, All-from_recursion}
use Rattle.dt_base.specs.declared.event.Event.{Event}
use Rattle.dt_base.specs.declared.event.Verdict.{Verdict}
use Rattle.dt_base.specs.Image.{ImageParts}
use Rattle.dt_base.specs.Command.{Words}
use Rattle.dt_host.specs.World.{World}
use Rattle.dt_rv64.specs.declared.machine.Machine.{Machine}
use Rattle.dt_rv64.specs.declared.segments.Seg.{Seg}
use Rattle.dt_rv64.specs.Segment.{segment_of}
use Rattle.dt_engine.specs.declared.happening.Admitted.{Admitted}
use Rattle.dt_engine.specs.declared.happening.Admitted.TheVariants as admitted
use Rattle.dt_engine.specs.declared.happening.Happening.{Happening}
use Rattle.dt_engine.specs.Work.{owing_work, work_after_segment}
use Rattle.dt_engine.specs.Turn.{turn}
use Rattle.dt_engine.specs.Playing.{Playing, first_playing}
use Rattle.dt_engine.specs.Admission.{admission, admission_by, answer_of_turn, awaited}
use Rattle.dt_engine.specs.Lent.{playing_without_work, playing_with_work, returned_work}
use Rattle.dt_engine.specs.Played.{played}
use Rattle.dt_engine.specs.InPlay.{EngineView, playing_of, works_of, owing_of}
use Rattle.dt_rounds.proofs.Rounds.{map-removed}
use Rattle.dt_runlaws.specs.declared.driver.Action.{Action}
use Rattle.dt_runlaws.specs.declared.driver.LentMachine.{LentMachine}
use Rattle.dt_runlaws.specs.declared.driver.Driver.{Driver}
use Rattle.dt_runlaws.specs.Shown.{lent_pids, lent_works}
use Rattle.dt_runlaws.specs.Carried.{MayLendOwed}
use Rattle.dt_runlaws.proofs.Pids.{all-among, absent-rest}
use Rattle.dt_runlaws.proofs.Lends.{none-absent, unless-some}
use Rattle.dt_runlaws.proofs.Steps.{may-owe}
use Rattle.dt_runlaws.specs.Driver.{first_point, point_after, point_after_all, lent_of, machine_of, Point, point_of, IsAt, point_after_lending, point_after_return, point_after_admission, point_after_happening}

-- an engine and the machines that are lent are at a point
abbrev pub AreAt : Point → EngineView → List LentMachine → World → Type 0
AreAt d e items w = (let now : Point = record { playing = playing_of e w; lent = lent_of items; shown = d.shown } in now ≡ d)

at-parts : (d : Point) (e : EngineView) (items : List LentMachine) (w : World) → playing_of e w ≡ d.playing
    → lent_of items ≡ d.lent → AreAt d e items w
at-parts d e items w run lent = λ i. record { playing = run i; lent = lent i; shown = d.shown }

-- a driver that has begun
pub first-at : (image : ImageParts) (words : Words) (seed budget : ℕ) (e : EngineView) (items : List LentMachine) (w : World)
    → first_playing image words seed budget ≡ playing_of e w → items ≡ []
    → AreAt (first_point image words seed budget) e items w
first-at image words seed budget e items w run none =
    at-parts (first_point image words seed budget) e items w (sym run) (ap lent_of none)

-- the pids of machines in code
pub any-pid : (items : List LentMachine) (p : ℕ) → list_any (λ (l : LentMachine). l.vpid == p) items
    ≡ list_any (λ q. q == p) (lent_pids (lent_of items))
any-pid [] p = refl
any-pid (x ∷ xs) p = ap (λ b. (x.vpid == p) || b) (any-pid xs p)

-- an entry of a list, if there is one
pub entry-past : {X : Type 0} → (xs : List X) (k : ℕ) → length xs ≤ k → slice_get xs k ≡ None
entry-past [] k past = refl
entry-past (x ∷ xs) zero past = absurd (omega arith)
entry-past (x ∷ xs) (suc k) past = entry-past xs k (omega arith)

-- a machine is lent, where it may be
abbrev lent_if : ℕ → Point → Bool → Point
lent_if p d b = cond b (point_after_lending p d) d

pub lend-not : (f : Driver) (w : World) (shown : List Event) (p : ℕ) (b : Bool) → b ≡ false → IsAt (lent_if p (point_of f w shown) b) f w
lend-not f w shown p true is = cc
lend-not f w shown p false is = refl

pub lend-at : (f : Driver) (new : EngineView) (now : List LentMachine) (w : World) (shown : List Event) (l : LentMachine) (b : Bool) → b ≡ true
    → get (works_of f.engine) l.vpid ≡ Some (owing_work l.machine)
    → playing_of new w ≡ playing_without_work l.vpid (playing_of f.engine w) → now ≡ f.lent.items ++ l ∷ []
    → AreAt (lent_if l.vpid (point_of f w shown) b) new now w
lend-at f new now w shown l false may is run added = cc
lend-at f new now w shown l true may is run added =
    at-parts (point_after_lending l.vpid (point_of f w shown)) new now w run
    (ap lent_of added
    ∙ map-append (λ (l : LentMachine). (l.vpid, l.machine)) f.lent.items (l ∷ [])
    ∙ ap (λ found. lent_of f.lent.items ++ machine_of l.vpid found) (sym is))

pub lend-shows-none : (p : ℕ) (d : Point) (b : Bool) → (let after = lent_if p d b in after.shown ≡ d.shown)
lend-shows-none p d true = refl
lend-shows-none p d false = refl

-- a machine comes back, if there is one
pub return-not : (f : Driver) (w : World) (shown : List Event) (k : ℕ) → slice_get (lent_of f.lent.items) k ≡ None
    → IsAt (point_after_return k (slice_get (lent_of f.lent.items) k) (point_of f w shown)) f w
return-not f w shown k none = subst (λ found. IsAt (point_after_return k found (point_of f w shown)) f w) (sym none) refl

pub return-at : (f : Driver) (new : EngineView) (now : List LentMachine) (w : World) (shown : List Event) (k : ℕ) (l : LentMachine) (m : Machine) (seg : Seg)
    → slice_get (lent_of f.lent.items) k ≡ Some (l.vpid, l.machine)
    → segment_of l.machine ≡ record { count = seg.count; stop = seg.stop; machine = m }
    → playing_of new w ≡ playing_with_work l.vpid (returned_work m seg) (playing_of f.engine w)
    → now ≡ remove f.lent.items k
    → AreAt (point_after_return k (slice_get (lent_of f.lent.items) k) (point_of f w shown)) new now w
return-at f new now w shown k l m seg found ran run removed =
    subst (λ found. AreAt (point_after_return k found (point_of f w shown)) new now w) (sym found)
    (at-parts (point_after_return k (Some (l.vpid, l.machine)) (point_of f w shown)) new now w
    (run ∙ ap (λ work. playing_with_work l.vpid work (playing_of f.engine w)) (sym (ap work_after_segment ran)))
    (ap lent_of removed ∙ map-removed (λ (l : LentMachine). (l.vpid, l.machine)) f.lent.items k))

pub return-shows-none : (k : ℕ) (found : Option (ℕ × Machine)) (d : Point) → (let after = point_after_return k found d in after.shown ≡ d.shown)
return-shows-none k None d = refl
return-shows-none k (Some l) d = refl

-- an admission
pub admit-at : {T E : Type 0} → (r : Result T E) (f : Driver) (new : EngineView) (now : List LentMachine) (w v : World) (shown : List Event)
    → lent_of now ≡ lent_of f.lent.items
    → OnOk r (let a = admission (playing_of f.engine w) in a.next ≡ playing_of new v)
    → OnOk r (AreAt (point_after_admission (point_of f w shown)) new now v)
admit-at (Ok x) f new now w v shown same run = at-parts (point_after_admission (point_of f w shown)) new now v (sym run) same
admit-at (Err e) f new now w v shown same run = tt

-- what its answer says of the verdict
answered-going : (v : Option Verdict) → (answer_of_turn v ≡ admitted.Turn) → v ≡ None
answered-going None is = refl
answered-going (Some v) is = cc

turn-by : (e : Playing) (v : Option Verdict) (late : Option ℕ) → e.verdict ≡ v
    → (let a = admission_by e v late in a.answer ≡ admitted.Turn → a.next.verdict ≡ None)
turn-by e (Some v) late stands = λ is. cc
turn-by e None (Some p) stands = λ is. cc
turn-by e None None stands = λ is. let t = turn e.state in answered-going t.verdict is

late-by : (e : Playing) (v : Option Verdict) (late : Option ℕ) (p : ℕ) → e.verdict ≡ v
    → (let a = admission_by e v late in a.answer ≡ admitted.NotArrived p → a.next.verdict ≡ None)
late-by e (Some v) late p stands = λ is. cc
late-by e None (Some q) p stands = λ is. stands
late-by e None None p stands = λ is. let t = turn e.state in not-late t.verdict is
  where
    not-late : (v : Option Verdict) → answer_of_turn v ≡ admitted.NotArrived p → v ≡ None
    not-late None is = refl
    not-late (Some v) is = cc

pub going-on : (e : Playing) (answer : Admitted) → (let a = admission e in a.answer ≡ answer)
    → ((p : ℕ) × (answer ≡ admitted.NotArrived p)) ⊎ (answer ≡ admitted.Turn) → (let a = admission e in a.next.verdict ≡ None)
unfolding admission
going-on e answer so (inl late) = late-by e e.verdict (awaited e.state) late.0 refl (so ∙ late.1)
going-on e answer so (inr is) = turn-by e e.verdict (awaited e.state) refl (so ∙ is)

-- a happening
pub happening-not : (h : Happening) (items : List LentMachine) (d : Point) → (length items ≡ 0 → ⊥)
    → point_after_happening h (lent_of items) d ≡ d
happening-not h [] d some = absurd (some refl)
happening-not h (x ∷ xs) d some = refl

pub happening-at : (f : Driver) (new : EngineView) (now : List LentMachine) (w v : World) (shown : List Event) (h : Happening) → lent_of f.lent.items ≡ []
    → lent_of now ≡ lent_of f.lent.items
    → (let d = played (playing_of f.engine w) (h ∷ []) in d.step.next ≡ playing_of new v)
    → AreAt (point_after_happening h (lent_of f.lent.items) (point_of f w shown)) new now v
happening-at f new now w v shown h none same run =
    subst (λ lent. AreAt (point_after_happening h lent (point_of f w shown)) new now v) (sym none)
    (at-parts (point_after_happening h [] (point_of f w shown)) new now v (sym run) same)

-- the actions that are left
pub next-rest : (actions : List Action) (k : ℕ) (d : Point) (x : Action) → k < length actions
    → point_after_all (drop k actions) d ≡ point_after_all (drop (k + 1) actions) (point_after (get_or actions k x) d)
next-rest actions k d x within = ap (λ rest. point_after_all rest d) (drop_more actions k x within)

pub no-rest : (actions : List Action) (k : ℕ) (d : Point) → length actions ≤ k → point_after_all (drop k actions) d ≡ d
no-rest actions k d past = ap (λ rest. point_after_all rest d) (drop_all k actions past)

-- what may be lent
both-so : (a b : Bool) → a ≡ true → b ≡ false → (a && not b) ≡ true
both-so true true one other = cc
both-so true false one other = refl
both-so false b one other = cc

pub may-lend-owed : MayLendOwed
may-lend-owed e lent p = (
  may-owe e lent p,
  λ h. both-so (list_any (λ q. q == p) (owing_of e.state)) (list_any (λ q. q == p) (lent_pids lent))
      (All-contains (λ p. list_any (λ q. q == p) (owing_of e.state) ≡ true) (owing_of e.state) p
      (All-from_recursion (λ p. list_any (λ q. q == p) (owing_of e.state) ≡ true) (owing_of e.state) (all-among (owing_of e.state))) h.0)
      (absent-rest p (lent_pids lent) (none-absent lent p (unless-some (find nat_cmp p (lent_works lent)) h.1))),
)
