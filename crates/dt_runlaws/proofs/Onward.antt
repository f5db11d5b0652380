-- Each action of a driver carries on what was shown of its run.
use Rattle.std.proofs.Common.{◌≡◌, ℕ, Bool, true, false, cond, List, [], ◌∷◌, ◌++◌, Option, Some, None, refl, ap, ◌∙◌}
use Rattle.std.specs.Prelude.{IsTrue, slice_get}
use Rattle.std.specs.FinMap.{get}
use Rattle.dt_base.specs.declared.event.Event.{Event}
use Rattle.dt_rv64.specs.declared.machine.Machine.{Machine}
use Rattle.dt_rv64.specs.declared.segments.Seg.{Seg}
use Rattle.dt_sched.specs.Core.{is_owing}
use Rattle.dt_sched.specs.declared.process.Phase.{Phase}
use Rattle.dt_sched.specs.declared.process.Phase.TheVariants.{Owes, Ran, Waits}
use Rattle.dt_engine.specs.declared.happening.Happening.{Happening}
use Rattle.dt_engine.specs.Work.{Work, owing_work}
use Rattle.dt_engine.specs.Run.{Run, run_of}
use Rattle.dt_engine.specs.Playing.{Playing}
use Rattle.dt_engine.specs.Happenings.{is_owing_work}
use Rattle.dt_engine.specs.Lent.{playing_without_work}
use Rattle.dt_runlaws.specs.declared.driver.Action.{Action}
use Rattle.dt_runlaws.specs.declared.driver.Action.TheVariants.{Lend, Return, Admit, Play}
use Rattle.dt_runlaws.specs.Shown.{Lent, Shows}
use Rattle.dt_runlaws.specs.Driver.{Point, may_lend, machine_of, first_point, point_after_lending, point_after_return, point_after_happening, point_after, point_after_all}
use Rattle.dt_runlaws.specs.Carried.{PointsShow}
use Rattle.dt_runlaws.proofs.Begins.{begin-shows}
use Rattle.dt_runlaws.proofs.Carries.{owes-at-home, lend-shows, return-shows, admission-shows, happenings-show}
use Rattle.dt_runlaws.proofs.Steps.{may-owe}

-- what was shown at a point, and what is left there, is a run
abbrev ShowsAt : Run → Point → Type 0
ShowsAt all d = Shows all d.shown d.playing d.lent

-- a work that owes a segment
owes-phase : (phase : Phase Seg) → is_owing phase ≡ true → phase ≡ Owes
owes-phase Owes is = refl
owes-phase (Ran seg) is = cc
owes-phase Waits is = cc

owes-so : (w : Work) → is_owing w.phase ≡ true → w ≡ owing_work w.machine
owes-so w is = ap (λ (phase : Phase Seg). (let now : Work = record { machine = w.machine; phase = phase } in now)) (owes-phase w.phase is)

module _ (all : Run) (d : Point) (h : ShowsAt all d) where
  lend-found : (p : ℕ) → may_lend d.playing d.lent p ≡ true → (found : Option Work) → get d.playing.state.works p ≡ found
      → IsTrue (is_owing_work found) → Shows all d.shown (playing_without_work p d.playing) (d.lent ++ machine_of p found)
  lend-found p may None is owes = cc
  lend-found p may (Some w) is owes =
      let both = may-owe d.playing d.lent p may in
      lend-shows all d.shown d.playing d.lent p w.machine h both.0 (is ∙ ap Some (owes-so w owes))

  lend-on : (p : ℕ) (b : Bool) → may_lend d.playing d.lent p ≡ b → ShowsAt all (cond b (point_after_lending p d) d)
  lend-on p true may =
      let both = may-owe d.playing d.lent p may in
      lend-found p may (get d.playing.state.works p) refl (owes-at-home d.playing d.lent p h.machines both.0 both.1)
  lend-on p false may = h

  return-on : (k : ℕ) (found : Option (ℕ × Machine)) → slice_get d.lent k ≡ found → ShowsAt all (point_after_return k found d)
  return-on k None is = h
  return-on k (Some l) is = return-shows all d.shown d.playing d.lent k l.0 l.1 h is

happening-on : (all : Run) (shown : List Event) (e : Playing) (lent : Lent) (x : Happening) → Shows all shown e lent
    → ShowsAt all (point_after_happening x lent (record { playing = e; lent = lent; shown = shown }))
happening-on all shown e [] x h = happenings-show all shown e (x ∷ []) h
happening-on all shown e (l ∷ ls) x h = h

action-on : (all : Run) (a : Action) (d : Point) → ShowsAt all d → ShowsAt all (point_after a d)
action-on all (Lend p) d h = lend-on all d h p (may_lend d.playing d.lent p) refl
action-on all (Return k) d h = return-on all d h k (slice_get d.lent k) refl
action-on all Admit d h = admission-shows all d.shown d.playing d.lent h
action-on all (Play x) d h = happening-on all d.shown d.playing d.lent x h

actions-on : (all : Run) (actions : List Action) (d : Point) → ShowsAt all d → ShowsAt all (point_after_all actions d)
actions-on all [] d h = h
actions-on all (a ∷ rest) d h = actions-on all rest (point_after a d) (action-on all a d h)

pub points-show : PointsShow
points-show entries words seed budget actions =
    actions-on (run_of entries words seed budget) actions (first_point entries words seed budget) (begin-shows entries words seed budget)
