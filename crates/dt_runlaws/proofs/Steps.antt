-- What the actions of a driver make of what was shown and written.
use Rattle.std.proofs.Common.{◌≡◌, ℕ, zero, suc, ◌<◌, ◌==◌, ◌&&◌, not, Bool, true, false, List, [], ◌∷◌, ◌++◌, length, get_or, remove, Option, Some, Result, Ok, Err, refl, sym, ap, subst, ◌∙◌, arith, append-nil, append_assoc}
use Rattle.std.specs.Prelude.{slice_get, IfOk, IfSome, OnOk}
use Rattle.std.proofs.lemmas.List.{map-append, get_or-map, length-map}
use Rattle.std.specs.List.{Contains, list_any}
use Rattle.std.specs.Ordering.{nat_cmp}
use Rattle.std.specs.FinMap.{find, get, empty}
use Rattle.std.specs.FinSet as set
use Rattle.dt_base.specs.declared.event.Event.{Event}
use Rattle.dt_base.specs.declared.event.Verdict.{Verdict}
use Rattle.dt_base.specs.Image.{ImageParts}
use Rattle.dt_base.specs.declared.limits.TheConstants.{FIRST_PID}
use Rattle.dt_base.specs.Command.{Words}
use Rattle.dt_host.specs.Sink.{added, AddsPart}
use Rattle.dt_host.specs.World.{World}
use Rattle.dt_host.proofs.Growth.{added-added}
use Rattle.dt_image.specs.Report.{header, events_text}
use Rattle.dt_rv64.specs.declared.machine.Machine.{Machine}
use Rattle.dt_rv64.specs.declared.segments.Seg.{Seg}
use Rattle.dt_rv64.specs.Segment.{segment_of}
use Rattle.dt_procs.specs.Members.{end_of}
use Rattle.dt_procs.specs.Table.{members_of}
use Rattle.dt_calls.specs.InCode.{shared_of}
use Rattle.dt_calls.specs.Sound.{IsSoundContainer}
use Rattle.dt_engine.specs.declared.error.RunErr.{RunErr}
use Rattle.dt_engine.specs.declared.happening.Admitted.{Admitted}
use Rattle.dt_engine.specs.declared.happening.Admitted.TheVariants as admitted
use Rattle.dt_engine.specs.declared.happening.Happening.{Happening}
use Rattle.dt_engine.specs.Work.{owing_work, work_after_segment}
use Rattle.dt_engine.specs.Run.{Run, run_of, after_events, status_by}
use Rattle.dt_engine.specs.Completed.{Completes}
use Rattle.dt_engine.specs.Ahead.{state_with_works}
use Rattle.dt_engine.specs.Playing.{Playing, first_playing, last_text}
use Rattle.dt_engine.specs.Admission.{admission}
use Rattle.dt_engine.specs.Lent.{playing_without_work, playing_with_work, returned_work}
use Rattle.dt_engine.specs.Played.{played}
use Rattle.dt_engine.specs.InPlay.{EngineView, playing_of, works_of, owing_of, IsInPlay}
use Rattle.dt_engine.specs.Onward.{IsDone}
use Rattle.dt_rounds.proofs.Completed.{completed}
use Rattle.dt_engine.proofs.Going.{texts-append, over-stands}
use Rattle.dt_engine.proofs.Queueing.{found-contained}
use Rattle.dt_rounds.proofs.Rounds.{map-removed}
use Rattle.dt_runlaws.specs.declared.driver.LentMachine.{LentMachine}
use Rattle.dt_runlaws.specs.Shown.{Lent, lent_pids, lent_works, IsLent, AreLent, left_with_lent, Shows, HasWritten, WritesPrefix}
use Rattle.dt_runlaws.specs.declared.driver.Driver.{Driver}
use Rattle.dt_runlaws.specs.Driver.{lent_of, may_lend, point_of, point_after_happening, IsDrivingAt, HasShown, HasReported}
use Rattle.dt_runlaws.proofs.Pids.{any-absent}
use Rattle.dt_runlaws.proofs.Begins.{begin-shows}
use Rattle.dt_runlaws.proofs.Carries.{lend-shows, return-shows, admission-shows, happenings-show, verdict-shows}
use Rattle.dt_runlaws.proofs.Lends.{found-none, not-both}
use Rattle.dt_runlaws.proofs.Writes.{nothing-writes, happenings-write, end-writes}

-- a host that keeps nothing
abbrev pub nowhere : World
nowhere = record { forest = record { nodes = empty; root = 0 }; pipes = empty; pids = set.empty }

-- machines are lent whatever the host keeps
pub lent-anywhere : (e : EngineView) (v w : World) (lent : Lent) → AreLent (playing_of e v) lent → AreLent (playing_of e w) lent
unfolding state_with_works
lent-anywhere e v w lent h = record {
  once = h.once;
  away = record { given = h.away.given; apart = h.away.apart };
  live = h.live;
  full = h.full;
  ordered = record { once = h.ordered.once; given = h.ordered.given };
}

-- all that is left was not shown yet
pub none-shown : (e : Playing) (lent : Lent) → AreLent e lent → Shows (after_events [] (left_with_lent e lent)) [] e lent
none-shown e lent h = record { whole = refl; machines = h }

-- before the first turn
pub first-shown : (image : ImageParts) (words : Words) (seed budget : ℕ) (e : Playing) → first_playing image words seed budget ≡ e
    → Shows (run_of image words seed budget) [] e []
first-shown image words seed budget e is =
    subst (λ e. Shows (run_of image words seed budget) [] e []) is (begin-shows image words seed budget)

pub first-written : (version : ℕ) (start told : Option (List ℕ)) → told ≡ added start (header version) → HasWritten version [] start told
first-written version start told is = is ∙ ap (added start) (sym (append-nil (header version)))

-- one that isn't found among those that are lent
pub not-lent : (lent : Lent) (p : ℕ) → list_any (λ q. q == p) (lent_pids lent) ≡ false → IsLent p lent → ⊥
not-lent lent p none some =
    not-both (find nat_cmp p (lent_works lent)) some (found-none lent p (any-absent p (lent_pids lent) none))

-- what may be lent
both-true : (a b : Bool) → (a && not b) ≡ true → (a ≡ true) × (b ≡ false)
both-true true true is = cc
both-true true false is = (refl, refl)
both-true false b is = cc

pub may-owe : (e : Playing) (lent : Lent) (p : ℕ) → may_lend e lent p ≡ true
    → Contains (owing_of e.state) p × (IsLent p lent → ⊥)
may-owe e lent p may =
    let tests = both-true (list_any (λ q. q == p) (owing_of e.state)) (list_any (λ q. q == p) (lent_pids lent)) may in
    (found-contained p (owing_of e.state) tests.0, not-lent lent p tests.1)

-- a machine is lent
pub lend-shown : (all : Run) (shown : List Event) (e new : EngineView) (w : World) (items now : List LentMachine) (l : LentMachine)
    → Shows all shown (playing_of e w) (lent_of items)
    → Contains (owing_of (let p = playing_of e w in p.state)) l.vpid → get (works_of e) l.vpid ≡ Some (owing_work l.machine)
    → playing_of new w ≡ playing_without_work l.vpid (playing_of e w) → now ≡ items ++ l ∷ []
    → Shows all shown (playing_of new w) (lent_of now)
lend-shown all shown e new w items now l h owes is run added =
    subst (λ p. Shows all shown p (lent_of now)) (sym run)
    (subst (Shows all shown (playing_without_work l.vpid (playing_of e w)))
    (sym (ap lent_of added ∙ map-append (λ (l : LentMachine). (l.vpid, l.machine)) items (l ∷ [])))
    (lend-shows all shown (playing_of e w) (lent_of items) l.vpid l.machine h owes is))

-- a machine comes back
pub within-lent : (items : List LentMachine) (k : ℕ) → k < length items → k < length (lent_of items)
within-lent items k within =
    let same : length (lent_of items) ≡ length items = length-map items (λ (l : LentMachine). (l.vpid, l.machine)) in omega arith

-- an entry of a list
pub entry-within : {X : Type 0} → (xs : List X) (k : ℕ) (d : X) → k < length xs → slice_get xs k ≡ Some (get_or xs k d)
entry-within [] k d within = absurd (omega arith)
entry-within (x ∷ xs) zero d within = refl
entry-within (x ∷ xs) (suc k) d within = entry-within xs k d (omega arith)

pub lent-item : (items : List LentMachine) (k : ℕ) (l : LentMachine) → k < length items → l ≡ get_or items k l
    → slice_get (lent_of items) k ≡ Some (l.vpid, l.machine)
lent-item items k l within is =
    entry-within (lent_of items) k (l.vpid, l.machine) (within-lent items k within)
    ∙ ap Some (get_or-map (λ (l : LentMachine). (l.vpid, l.machine)) items k l (l.vpid, l.machine) within
    ∙ ap (λ (l : LentMachine). (l.vpid, l.machine)) (sym is))

pub return-shown : (all : Run) (shown : List Event) (e new : EngineView) (w : World) (items now : List LentMachine) (k : ℕ)
    (l : LentMachine) (m : Machine) (seg : Seg) → Shows all shown (playing_of e w) (lent_of items)
    → slice_get (lent_of items) k ≡ Some (l.vpid, l.machine)
    → segment_of l.machine ≡ record { count = seg.count; stop = seg.stop; machine = m }
    → playing_of new w ≡ playing_with_work l.vpid (returned_work m seg) (playing_of e w) → now ≡ remove items k
    → Shows all shown (playing_of new w) (lent_of now)
return-shown all shown e new w items now k l m seg h found ran run removed =
    subst (λ p. Shows all shown p (lent_of now)) (sym run)
    (subst (Shows all shown (playing_with_work l.vpid (returned_work m seg) (playing_of e w)))
    (sym (ap lent_of removed ∙ map-removed (λ (l : LentMachine). (l.vpid, l.machine)) items k))
    (subst (λ work. Shows all shown (playing_with_work l.vpid work (playing_of e w)) (remove (lent_of items) k))
    (ap work_after_segment ran)
    (return-shows all shown (playing_of e w) (lent_of items) k l.vpid l.machine h found)))

-- more was written
pub written-more : (version : ℕ) (shown more : List Event) (start told new : Option (List ℕ)) → HasWritten version shown start told
    → new ≡ added told (events_text more) → HasWritten version (shown ++ more) start new
written-more version shown more start told new written wrote =
    wrote
    ∙ ap (λ told. added told (events_text more)) written
    ∙ added-added start (header version ++ events_text shown) (events_text more)
    ∙ ap (added start) (append_assoc (header version) (events_text shown) (events_text more)
    ∙ ap (λ text. header version ++ text) (sym (texts-append shown more)))

-- an admission
pub admitted-shown : (all : Run) (shown : List Event) (e next : Playing) (lent : Lent) → Shows all shown e lent
    → (let a = admission e in a.next ≡ next) → (let a = admission e in Shows all (shown ++ a.events) next lent)
admitted-shown all shown e next lent h is =
    let a = admission e in subst (λ next. Shows all (shown ++ a.events) next lent) is (admission-shows all shown e lent h)

pub admitted-over : (r : Admitted) (e next : Playing) (w : Verdict) → (let a = admission e in a.answer ≡ r) → r ≡ admitted.Over w
    → (let a = admission e in a.next ≡ next) → next.verdict ≡ Some w
admitted-over r e next w answer is to = over-stands e next w (answer ∙ is) to

-- happenings
pub played-shown : (all : Run) (shown : List Event) (e next : Playing) (hs : List Happening) → Shows all shown e []
    → (let d = played e hs in d.step.next ≡ next) → (let d = played e hs in Shows all (shown ++ d.step.events) next [])
played-shown all shown e next hs h is =
    let d = played e hs in subst (λ next. Shows all (shown ++ d.step.events) next []) is (happenings-show all shown e hs h)

pub no-items : (items : List LentMachine) → length items ≡ 0 → lent_of items ≡ []
no-items [] none = refl
no-items (x ∷ xs) none = absurd (omega arith)

-- what was written holds fewer events all the more
pub prefix-fewer : (version : ℕ) (all : Run) (shown more : List Event) (start told : Option (List ℕ)) → WritesPrefix version all (shown ++ more) start told
    → WritesPrefix version all shown start told
prefix-fewer version all shown more start told h =
    let split = λ (text : List ℕ). ap (λ front. front ++ text) (texts-append shown more)
    ∙ append_assoc (events_text shown) (events_text more) text in
    record {
      more = events_text more ++ h.more;
      rest = h.rest;
      wrote = h.wrote ∙ ap (λ text. added start (header version ++ text)) (split h.more);
      whole = h.whole ∙ ap (λ text. header version ++ text)
          (split (h.more ++ h.rest) ∙ ap (λ text. events_text shown ++ text) (sym (append_assoc (events_text more) h.more h.rest)));
    }

-- a run of which everything was shown is over, and what it shows was written
pub done-by : (version : ℕ) (all : Run) (shown : List Event) (e : EngineView) (w : World) (lent : Lent) (v : Verdict) (start told : Option (List ℕ))
    → Shows all shown (playing_of e w) lent → HasWritten version shown start told → e.verdict ≡ Some v
    → IsDone all (added start (header version)) e w told
done-by version all shown e w lent v start told h written stands =
    let whole = verdict-shows all shown (playing_of e w) lent v h stands in
    record {
      verdict = stands ∙ ap Some (sym (ap (λ (r : Run). r.verdict) whole));
      last = ap (λ (r : Run). r.last) whole;
      wrote = written ∙ sym (added-added start (header version) (events_text shown))
          ∙ ap (λ events. added (added start (header version)) (events_text events)) (sym (ap (λ (r : Run). r.events) whole));
    }

-- what an answer says, where it says both
pub ok-both : {T E : Type 0} → (r : Result T E) (P Q R : Type 0) → (P → Q → R) → OnOk r P → OnOk r Q → OnOk r R
ok-both (Ok a) P Q R both p q = both p q
ok-both (Err e) P Q R both p q = tt

pub ok-one : {T E : Type 0} → (r : Result T E) (P R : Type 0) → (P → R) → OnOk r P → OnOk r R
ok-one (Ok a) P R gives p = gives p
ok-one (Err e) P R gives p = tt

-- an admission, by its answer
pub driving-admitted : {T E : Type 0} → (r : Result T E) (f now : Driver) (w v : World) → IsDrivingAt f w → lent_of now.lent.items ≡ lent_of f.lent.items
    → now.engine.finished ≡ f.engine.finished → OnOk r (IsInPlay now.engine) → OnOk r (IsSoundContainer now.engine.state.container v)
    → OnOk r (let a = admission (playing_of f.engine w) in a.next ≡ playing_of now.engine v) → OnOk r (IsDrivingAt now v)
driving-admitted (Ok a) f now w v h same unfinished whole sound run =
    let lent = lent_of f.lent.items in
    let shows = admitted-shown _ [] (playing_of f.engine w) (playing_of now.engine v) lent
    (none-shown (playing_of f.engine w) lent (h.driving.machines w)) run in
    record {
      driving = record {
        whole = whole;
        machines = λ u. lent-anywhere now.engine v u (lent_of now.lent.items)
            (subst (AreLent (playing_of now.engine v)) (sym same) shows.machines);
        unfinished = unfinished ∙ h.driving.unfinished;
      };
      sound = sound;
    }
driving-admitted (Err e) f now w v h same unfinished whole sound run = tt

pub reported-admitted : {T E : Type 0} → (r : Result T E) (version : ℕ) (all : Run) (shown : List Event) (start : Option (List ℕ)) (f now : Driver) (w v : World)
    (told new : Option (List ℕ)) → HasReported version all shown start f w told → lent_of now.lent.items ≡ lent_of f.lent.items
    → OnOk r (let a = admission (playing_of f.engine w) in a.next ≡ playing_of now.engine v)
    → OnOk r (let a = admission (playing_of f.engine w) in new ≡ added told (events_text a.events))
    → OnOk r (let a = admission (playing_of f.engine w) in HasReported version all (shown ++ a.events) start now v new)
reported-admitted (Ok x) version all shown start f now w v told new h same run wrote =
    let a = admission (playing_of f.engine w) in
    record {
      shows = subst (Shows all (shown ++ a.events) (playing_of now.engine v)) (sym same)
          (admitted-shown all shown (playing_of f.engine w) (playing_of now.engine v) (lent_of f.lent.items) h.shows run);
      wrote = written-more version shown a.events start told new h.wrote wrote;
    }
reported-admitted (Err e) version all shown start f now w v told new h same run wrote = tt

pub over-admitted : {E : Type 0} → (r : Result Admitted E) (e next : Playing) → IfOk r (λ answer. let a = admission e in a.answer ≡ answer)
    → OnOk r (let a = admission e in a.next ≡ next) → IfOk r (λ answer. (w : Verdict) → answer ≡ admitted.Over w → next.verdict ≡ Some w)
over-admitted (Ok answer) e next so to = λ w over. admitted-over answer e next w so over to
over-admitted (Err x) e next so to = tt

-- happenings, where nothing is lent
pub driving-played : (f now : Driver) (w v : World) (hs : List Happening) → IsDrivingAt f w → length f.lent.items ≡ 0
    → lent_of now.lent.items ≡ lent_of f.lent.items → now.engine.finished ≡ f.engine.finished → IsInPlay now.engine → IsSoundContainer now.engine.state.container v
    → (let d = played (playing_of f.engine w) hs in d.step.next ≡ playing_of now.engine v) → IsDrivingAt now v
driving-played f now w v hs h bare same unfinished whole sound run =
    let none = no-items f.lent.items bare in
    let shows = played-shown _ [] (playing_of f.engine w) (playing_of now.engine v) hs
    (none-shown (playing_of f.engine w) [] (subst (AreLent (playing_of f.engine w)) none (h.driving.machines w))) run in
    record {
      driving = record {
        whole = whole;
        machines = λ u. lent-anywhere now.engine v u (lent_of now.lent.items)
            (subst (AreLent (playing_of now.engine v)) (sym (same ∙ none)) shows.machines);
        unfinished = unfinished ∙ h.driving.unfinished;
      };
      sound = sound;
    }

pub reported-played : (version : ℕ) (all : Run) (shown : List Event) (start : Option (List ℕ)) (f now : Driver) (w v : World) (h : Happening)
    (told new : Option (List ℕ)) → HasReported version all shown start f w told → length f.lent.items ≡ 0
    → lent_of now.lent.items ≡ lent_of f.lent.items
    → (let d = played (playing_of f.engine w) (h ∷ []) in d.step.next ≡ playing_of now.engine v)
    → (let d = played (playing_of f.engine w) (h ∷ []) in new ≡ added told (events_text d.step.events))
    → (let after = point_after_happening h (lent_of f.lent.items) (point_of f w shown) in HasReported version all after.shown start now v new)
reported-played version all shown start f now w v h told new reported bare same run wrote =
    let none = no-items f.lent.items bare in
    let d = played (playing_of f.engine w) (h ∷ []) in
    let so : HasReported version all (shown ++ d.step.events) start now v new = record {
      shows = subst (Shows all (shown ++ d.step.events) (playing_of now.engine v))
          (sym (same ∙ none))
          (played-shown all shown (playing_of f.engine w) (playing_of now.engine v) (h ∷ [])
          (subst (Shows all shown (playing_of f.engine w)) none reported.shows) run);
      wrote = written-more version shown d.step.events start told new reported.wrote wrote;
    } in
    subst (λ lent. (let after = point_after_happening h lent (point_of f w shown) in HasReported version all after.shown start now v new))
    (sym none) so

pub part-played : (version : ℕ) (all : Run) (shown : List Event) (start : Option (List ℕ)) (f : Driver) (w : World) (hs : List Happening)
    (told new : Option (List ℕ)) → HasReported version all shown start f w told → length f.lent.items ≡ 0
    → (let d = played (playing_of f.engine w) hs in AddsPart told new (events_text d.step.events)) → WritesPrefix version all shown start new
part-played version all shown start f w hs told new h bare part =
    happenings-write version all shown (playing_of f.engine w) hs start told new
    (subst (Shows all shown (playing_of f.engine w)) (no-items f.lent.items bare) h.shows) h.wrote part

-- nothing was done
pub part-still : (version : ℕ) (all : Run) (shown : List Event) (start : Option (List ℕ)) (f : Driver) (w : World) (told : Option (List ℕ))
    → HasReported version all shown start f w told → WritesPrefix version all shown start told
part-still version all shown start f w told h =
    nothing-writes version all shown (playing_of f.engine w) (lent_of f.lent.items) start told h.shows h.wrote

-- a machine was lent, or has come back: nothing was shown
pub reported-still : (version : ℕ) (all : Run) (shown same : List Event) (start : Option (List ℕ)) (f now : Driver) (w : World) (told : Option (List ℕ))
    → same ≡ shown → HasReported version all shown start f w told → (HasShown all shown f w → HasShown all shown now w)
    → HasReported version all same start now w told
reported-still version all shown same start f now w told is h still =
    subst (λ events. HasReported version all events start now w told) (sym is) (record { shows = still h.shows; wrote = h.wrote })

-- the end of the report
pub finished-so : (version : ℕ) (all : Run) (shown : List Event) (e : EngineView) (w : World) (lent : Lent) (v : Verdict) (start told : Option (List ℕ))
    → Shows all shown (playing_of e w) lent → HasWritten version shown start told → e.verdict ≡ Some v → (status : ℕ) (now : World)
    (new : Option (List ℕ)) → now ≡ w → IsSoundContainer e.state.container w
    → status ≡ status_by (end_of (members_of e.state.container.shared.pids) FIRST_PID)
    → IfSome e.verdict (λ v. new ≡ added told (last_text v (shared_of e.state.container.shared w)))
    → Completes version all status start new now
finished-so version all shown e w lent v start told h written stands status now new same sound ends wrote =
    completed version all start (added start (header version)) told e w refl (done-by version all shown e w lent v start told h written stands)
    {E = RunErr} (Ok status) now new same sound ends wrote

pub part-ended : (version : ℕ) (all : Run) (shown more : List Event) (e : EngineView) (w : World) (lent : Lent) (v : Verdict)
    (start told new : Option (List ℕ)) → Shows all (shown ++ more) (playing_of e w) lent → HasWritten version (shown ++ more) start told
    → e.verdict ≡ Some v → IfSome e.verdict (λ v. AddsPart told new (last_text v (shared_of e.state.container.shared w)))
    → WritesPrefix version all shown start new
part-ended version all shown more e w lent v start told new h written stands part =
    prefix-fewer version all shown more start new
    (end-writes version all (shown ++ more) (playing_of e w) lent v start told new h written stands
    (subst (λ v. IfSome v (λ v. AddsPart told new (last_text v (shared_of e.state.container.shared w)))) stands part))
