-- The tasks of processes after a change of one of them.
use Rattle.std.proofs.Common.{arith, ◌≡◌, ℕ, ◌+◌, ◌<◌, true, Option, None, Some, refl, sym, ap, subst, ◌∙◌}
use Rattle.std.specs.Prelude.{IsSome, IfSome, is_some, unwrap_or}
use Rattle.std.specs.Cmp.{nat_cmp_total}
use Rattle.std.specs.FinMap.{get, insert, nat_cmp-IsAntisymmetric}
use Rattle.dt_host.specs.World.{World, IsDir}
use Rattle.dt_tables.proofs.Maps.{at_insert, get-insert_same, insert_same}
use Rattle.dt_tables.proofs.Totals.{total-insert}
use Rattle.dt_tables.specs.inner.Weight.{weight}
use Rattle.dt_procs.specs.Members.{has_live}
use Rattle.dt_procs.specs.Table.{members_of}
use Rattle.dt_signals.specs.Signals.{with_pending}
use Rattle.dt_tree.specs.Shape.{one_for}
use Rattle.dt_tree.specs.Table.{shape_of}
use Rattle.dt_calls.specs.declared.shared.Shared.{Shared}
use Rattle.dt_calls.specs.declared.task.Task.{Task}
use Rattle.dt_calls.specs.Container.{Tasks, blank_task, task_in, with_signals, tasks_after_raise, tasks_after_raise_in}
use Rattle.dt_calls.specs.Sound.{directories_of, IsSound, KeepsSound, ChangesTasks}

-- how often a process holds a node as its working directory
abbrev pub by_task : ℕ → Task → ℕ
by_task n t = one_for t.caller.cwd n

-- the task that stands there
pub some-task : (tasks : Tasks) (p : ℕ) → IsSome (get tasks p) → get tasks p ≡ Some (task_in tasks p)
some-task tasks p some = by_found (get tasks p) some
  where
    by_found : (found : Option Task) → IsSome found → found ≡ Some (unwrap_or found (blank_task p))
    by_found None some = cc
    by_found (Some t) some = refl

pub task-put : (tasks : Tasks) (p : ℕ) (t : Task) → task_in (insert tasks p t) p ≡ t
task-put tasks p t = ap (λ found. unwrap_or found (blank_task p)) (get-insert_same nat_cmp_total nat_cmp-IsAntisymmetric tasks p t)

-- of two tasks put at one pid the later stays
pub put-twice : (tasks : Tasks) (p : ℕ) (t u : Task) → insert (insert tasks p t) p u ≡ insert tasks p u
put-twice tasks p t u = insert_same nat_cmp_total nat_cmp-IsAntisymmetric tasks p t u

pub task-here : (tasks : Tasks) (p : ℕ) (t : Task) → IsSome (get (insert tasks p t) p)
task-here tasks p t = ap is_some (get-insert_same nat_cmp_total nat_cmp-IsAntisymmetric tasks p t)

-- with another task for a process, each that had one has one still
pub still-insert : (tasks : Tasks) (p : ℕ) (t : Task) (q : ℕ) → IsSome (get tasks q) → IsSome (get (insert tasks p t) q)
still-insert tasks p t q some =
    at_insert nat_cmp_total nat_cmp-IsAntisymmetric (λ found. IsSome found) tasks p t q (λ is. refl) (λ apart. some)

pub still-raised : (p signal : ℕ) (tasks : Tasks) (q : ℕ) → IsSome (get tasks q) → IsSome (get (tasks_after_raise p signal tasks) q)
still-raised p signal tasks q some = by_found (get tasks p)
  where
    by_found : (found : Option Task) → IsSome (get (tasks_after_raise_in p signal tasks found) q)
    by_found None = some
    by_found (Some t) = still-insert tasks p (with_signals t (with_pending signal t.signals)) q some

-- another task in the place of a process's
pub count-put : (tasks : Tasks) (p : ℕ) (own new : Task) → get tasks p ≡ Some own → (n : ℕ) → directories_of (insert tasks p new) n + one_for own.caller.cwd n ≡ directories_of tasks n + one_for new.caller.cwd n
count-put tasks p own new is n =
    let more = total-insert nat_cmp_total (by_task n) tasks p new in
    let one = ap (weight (by_task n)) is in
    omega arith

module _ (c : Shared) (p : ℕ) (w : World) (own new : Task) (sound : IsSound c w) (here : get c.tasks p ≡ Some own) (vpid : new.caller.vpid ≡ own.caller.vpid) (cwd : new.caller.cwd ≡ own.caller.cwd) where
  abbrev now : Tasks
  now = insert c.tasks p new

  each : (P : ℕ → Option Task → Type 0) → P p (Some new) → ((q : ℕ) → P q (get c.tasks q)) → (q : ℕ) → P q (get now q)
  each P mine theirs q =
      at_insert nat_cmp_total nat_cmp-IsAntisymmetric (P q) c.tasks p new q (λ is. subst (λ k. P k (Some new)) (sym is) mine) (λ apart. theirs q)

  dir-new : IsDir (shape_of c.fs.tree w.forest) new.caller.cwd
  dir-new = subst (IsDir (shape_of c.fs.tree w.forest)) (sym cwd)
      (subst (λ found. IfSome found (λ t. IsDir (shape_of c.fs.tree w.forest) t.caller.cwd)) here (sound.directories p))

  -- what is sound stays so where a task alone changes, but not its pid and its working directory
  pub sound-task : IsSound (record c { tasks = insert c.tasks p new }) w
  sound-task = record {
    stands = sound.stands;
    pids = sound.pids;
    all_in = sound.all_in;
    directories = each (λ q found. IfSome found (λ t. IsDir (shape_of c.fs.tree w.forest) t.caller.cwd)) dir-new sound.directories;
    holds = λ n.
        let count = count-put c.tasks p own new here n in
        let same = ap (λ d. one_for d n) cwd in
        omega (arith, sound.holds n);
    piped = sound.piped;
    named = each (λ q found. IfSome found (λ t. t.caller.vpid ≡ q))
        (vpid ∙ subst (λ found. IfSome found (λ t. t.caller.vpid ≡ p)) here (sound.named p)) sound.named;
    given = each (λ q found. IsSome found → q < c.pids.next) (λ some. sound.given p (ap is_some here)) sound.given;
    lives = each (λ q found. IsSome found → has_live (members_of c.pids) q ≡ true) (λ some. sound.lives p (ap is_some here)) sound.lives;
    fresh = sound.fresh;
  }

  pub keeps-task : KeepsSound c (record c { tasks = insert c.tasks p new }) w
  keeps-task = record { sound = sound-task; tasks = still-insert c.tasks p new; next = refl }

-- a call changes the task of a process, but not its pid and its working directory
pub changes-task : (c : Shared) (tasks : Tasks) (p : ℕ) (t : Task) → IsSome (get c.tasks p) → tasks ≡ insert c.tasks p t → t.caller.vpid ≡ (task_in c.tasks p).caller.vpid → t.caller.cwd ≡ (task_in c.tasks p).caller.cwd → ChangesTasks c (record c { tasks = tasks })
changes-task c tasks p t some is vpid cwd =
    subst (λ (x : Tasks). ChangesTasks c (record c { tasks = x })) (sym is)
    (record { rest = refl; kept = λ w sound. keeps-task c p w (task_in c.tasks p) t sound (some-task c.tasks p some) vpid cwd })

-- a signal is pending at a process, if that lives
pub keeps-raised : (c : Shared) (p signal : ℕ) (w : World) → IsSound c w → KeepsSound c (record c { tasks = tasks_after_raise p signal c.tasks }) w
keeps-raised c p signal w sound = by_found (get c.tasks p) refl
  where
    by_found : (found : Option Task) → get c.tasks p ≡ found → KeepsSound c (record c { tasks = tasks_after_raise_in p signal c.tasks found }) w
    by_found None is = record { sound = sound; tasks = λ q some. some; next = refl }
    by_found (Some t) is = keeps-task c p w t (with_signals t (with_pending signal t.signals)) sound is refl refl

pub changes-raised : (c : Shared) (tasks : Tasks) (p signal : ℕ) → tasks ≡ tasks_after_raise p signal c.tasks → ChangesTasks c (record c { tasks = tasks })
changes-raised c tasks p signal is =
    subst (λ (x : Tasks). ChangesTasks c (record c { tasks = x })) (sym is)
    (record { rest = refl; kept = λ w sound. keeps-raised c p signal w sound })
