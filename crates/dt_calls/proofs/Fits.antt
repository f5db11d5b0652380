-- What became of a process fits the machines after its turn.
use Rattle.std.proofs.Common.{◌≡◌, ℕ, ◌==◌, ◌||◌, ◌&&◌, not, nat_lt, Bool, true, false, cond, List, Option, None, refl}
use Rattle.std.specs.Prelude.{IsSome, Result, Ok, Err}
use Rattle.dt_base.specs.declared.abi.TheConstants.{A0, A1, A2, A3, A7, EXIT, EXIT_GROUP, BRK, MUNMAP, MMAP, MPROTECT, SET_TID_ADDRESS, SET_ROBUST_LIST, ROBUST_LIST_SIZE, UNAME, GETPID, GETPPID, GETTID, CLONE, EXECVE, WAIT4, WNOHANG, WAIT_OPTIONS, KILL, TKILL, TGKILL, RT_SIGACTION, RT_SIGPROCMASK, RT_SIGRETURN, SIGNAL_LIMIT, SIGSEGV}
use Rattle.dt_base.specs.Abi.{has_flag, low_word}
use Rattle.dt_base.specs.declared.answer.Answer.{Answer}
use Rattle.dt_base.specs.declared.answer.Answer.TheVariants as answer
use Rattle.dt_base.specs.declared.errno.Errno.{Errno}
use Rattle.dt_base.specs.declared.errno.Errno.TheVariants.{Inval, Srch, NoSys, Again, Fault as BadAddress}
use Rattle.dt_base.specs.declared.event.End.{End}
use Rattle.dt_base.specs.declared.event.End.TheVariants.{Signal}
use Rattle.dt_callbase.specs.Arguments.{has_only}
use Rattle.dt_callbase.specs.Scene.{Reply}
use Rattle.dt_exec.specs.declared.program.Program.{Program}
use Rattle.dt_exec.specs.Program.{execve_program}
use Rattle.dt_late.specs.declared.numbers.TheConstants.{SETITIMER, GETITIMER, PPOLL}
use Rattle.dt_late.specs.Itimer.{setitimer_of, getitimer_of}
use Rattle.dt_late.specs.Poll.{PollResult, ppoll_of}
use Rattle.dt_mcalls.specs.Called.{MemoryCallResult}
use Rattle.dt_mcalls.specs.Mmap.{mmap_of}
use Rattle.dt_mcalls.specs.Munmap.{munmap_of}
use Rattle.dt_mcalls.specs.Mprotect.{mprotect_of}
use Rattle.dt_procs.specs.declared.member.Reaped.{Reaped}
use Rattle.dt_procs.specs.declared.member.Reaped.TheVariants.{Got, NoneReady, NoChild}
use Rattle.dt_procs.specs.Members.{is_full, look_for, without_member}
use Rattle.dt_rv64.specs.declared.machine.Machine.{Machine}
use Rattle.dt_rv64.specs.declared.segments.Stop.{Stop}
use Rattle.dt_rv64.specs.declared.segments.Stop.TheVariants.{Call, Counter, Slice, Fault}
use Rattle.dt_rv64.specs.Effects.{register}
use Rattle.dt_sigcalls.specs.Sigaction.{sigaction_of}
use Rattle.dt_sigcalls.specs.Sigprocmask.{sigprocmask_of}
use Rattle.dt_signals.specs.Called.{SignalCallResult}
use Rattle.dt_signals.specs.Delivery.{delivery_of}
use Rattle.dt_signals.specs.declared.delivery.Delivery.{Delivery}
use Rattle.dt_signals.specs.declared.delivery.Delivery.TheVariants as delivery
use Rattle.dt_space.specs.declared.access.Miss.{Miss}
use Rattle.dt_space.specs.Argument.{is_writable_or_null, with_bytes_unless_null}
use Rattle.dt_space.specs.Space.{PageView}
use Rattle.dt_space.specs.Write.{pages_after_store}
use Rattle.dt_virt.specs.Words.{start_bytes}
use Rattle.dt_calls.specs.declared.container.Served.{Served}
use Rattle.dt_calls.specs.declared.container.Served.TheVariants.{Done, Child, LastChild, Blocked, Progress, Ended, Unsupported}
use Rattle.dt_calls.specs.declared.numbers.TheConstants.{RUSAGE_SIZE}
use Rattle.dt_calls.specs.Call.{exit_call, is_zero_call, is_missing_call, signal_call, identity_call, memory_call, call_of, effect_of_stop}
use Rattle.dt_calls.specs.Clone.{is_supported, clone_effect, clone_call}
use Rattle.dt_calls.specs.Container.{Shared, task_at, with_task, with_signals, tasks_after_raise}
use Rattle.dt_calls.specs.Delivery.{effect_after_delivery, with_delivered, with_delivery, task_after_delivery, served_at_handler, takes_signals, call_state, forced_signal}
use Rattle.dt_calls.specs.Effect.{Effect, quiet_effect, done_effect, refused_effect, effect_of_answer}
use Rattle.dt_calls.specs.Ends.{with_end, served_after_end}
use Rattle.dt_calls.specs.Execve.{execve_call, effect_of_program}
use Rattle.dt_calls.specs.FileCalls.{arguments, scene_of, with_scene, row_of, task_after_row, effect_of_row, file_call}
use Rattle.dt_calls.specs.Identity.{getpid_call, getppid_call, set_robust_list_call, uname_call, done_with_pages, utsname}
use Rattle.dt_calls.specs.Kill.{is_below_one, is_unsupported_signal, has_member, kill_call, tkill_call, tgkill_call, send_effect_to}
use Rattle.dt_calls.specs.LateCalls.{setitimer_call, getitimer_call, with_polling, events_of, effect_of_poll, ppoll_call, late_call}
use Rattle.dt_calls.specs.MemoryCalls.{effect_of_memory_call, brk_call, munmap_call, mmap_call, mprotect_call}
use Rattle.dt_calls.specs.Settle.{ProcessTurn, machine_after, turn_of_machine, machine_to_serve}
use Rattle.dt_calls.specs.SignalCalls.{AfterSigreturn, after_sigreturn, with_signals_of, effect_of_signal_call, sigaction_call, sigprocmask_call, sigreturn_call, effect_of_sigreturn}
use Rattle.dt_calls.specs.Timers.{effect_after_timers}
use Rattle.dt_calls.specs.Wait.{is_group, which_child, status_bytes, usage_bytes, wait4_call, effect_of_reaped, reap_effect}
use Rattle.dt_base.specs.Profile.{has_atomics}

-- a process that lives on has a machine, and one that ended has none
abbrev pub FitsOwn : Served → Option Machine → Type 0
FitsOwn Done own = IsSome own
FitsOwn (Child vpid) own = IsSome own
FitsOwn (LastChild vpid) own = own ≡ None
FitsOwn Blocked own = IsSome own
FitsOwn Progress own = IsSome own
FitsOwn Ended own = own ≡ None
FitsOwn (Unsupported number) own = IsSome own

-- a child has the pid that was next
pub record IsBorn (next vpid : ℕ) (child : Option Machine) : Type 0 where
  pub is_next : vpid ≡ next
  pub machine : IsSome child

abbrev pub FitsChild : ℕ → Served → Option Machine → Type 0
FitsChild next Done child = Unit {0}
FitsChild next (Child vpid) child = IsBorn next vpid child
FitsChild next (LastChild vpid) child = IsBorn next vpid child
FitsChild next Blocked child = Unit {0}
FitsChild next Progress child = Unit {0}
FitsChild next Ended child = Unit {0}
FitsChild next (Unsupported number) child = Unit {0}

-- what became of a process fits the machines then
pub record Fits (next : ℕ) (r : ProcessTurn) : Type 0 where
  pub own : FitsOwn r.served r.own
  pub child : FitsChild next r.served r.child

own-fits : (served : Served) (m : Machine) → FitsOwn served (machine_after served m)
own-fits Done m = refl
own-fits (Child vpid) m = refl
own-fits (LastChild vpid) m = refl
own-fits Blocked m = refl
own-fits Progress m = refl
own-fits Ended m = refl
own-fits (Unsupported number) m = refl

ended-fits : (next p : ℕ) (end : End) (r : Effect) → FitsChild next r.served r.child → (let e = with_end p end r in FitsChild next e.served e.child)
ended-fits next p end r fits = by_served r.served fits
  where
    by_served : (served : Served) → FitsChild next served r.child → FitsChild next (served_after_end served) r.child
    by_served Done fits = tt
    by_served (Child vpid) fits = fits
    by_served (LastChild vpid) fits = fits
    by_served Blocked fits = tt
    by_served Progress fits = tt
    by_served Ended fits = tt
    by_served (Unsupported number) fits = tt

-- a child that a call made has the pid that was next
record Born (next : ℕ) (r : Effect) : Type 0 where
  fits : FitsChild next r.served r.child

module _ (next : ℕ) where
  either : (b : Bool) (x y : Effect) → Born next x → Born next y → Born next (cond b x y)
  either true x y first second = first
  either false x y first second = second

  done-fits : (c : Shared) (m : Machine) (value : ℕ) → Born next (done_effect c m value)
  done-fits c m value = record { fits = tt }

  refused-fits : (c : Shared) (m : Machine) (errno : Errno) → Born next (refused_effect c m errno)
  refused-fits c m errno = record { fits = tt }

  unsupported-fits : (c : Shared) (m : Machine) (number : ℕ) → Born next (quiet_effect c m (Unsupported number))
  unsupported-fits c m number = record { fits = tt }

  answer-fits : (c : Shared) (m : Machine) (number : ℕ) (a : Answer) → Born next (effect_of_answer c m number a)
  answer-fits c m number (answer.Value value) = record { fits = tt }
  answer-fits c m number (answer.Refused errno) = record { fits = tt }
  answer-fits c m number (answer.Output stream bytes) = record { fits = tt }
  answer-fits c m number answer.Waits = record { fits = tt }
  answer-fits c m number (answer.Part moved) = record { fits = tt }
  answer-fits c m number (answer.Pipe (Ok moved)) = record { fits = tt }
  answer-fits c m number (answer.Pipe (Err errno)) = record { fits = tt }
  answer-fits c m number answer.Unsupported = record { fits = tt }

  row-fits : (c : Shared) (p : ℕ) (m : Machine) (number : ℕ) (r : Reply) → Born next (effect_of_row c p m number r)
  row-fits c p m number r =
      answer-fits (with_task (with_scene c r.next) p (task_after_row (task_at c p) r)) (record m { space = r.next.space }) number r.answer

  file-fits : (number : ℕ) (c : Shared) (p : ℕ) (m : Machine) → Born next (file_call number c p m)
  unfolding file_call
  file-fits number c p m = row-fits c p m number (row_of number (arguments m) (scene_of c p m))

  send-fits : (c : Shared) (m : Machine) (pid signal : ℕ) → Born next (send_effect_to c m pid signal)
  send-fits c m pid signal =
      either (nat_lt SIGNAL_LIMIT signal) _ _ (refused-fits c m Inval) (either (not (has_member c pid)) _ _ (refused-fits c m Srch)
      (either (signal == 0) _ _ (done-fits c m 0) (done-fits (record c { tasks = tasks_after_raise pid signal c.tasks }) m 0)))

  kill-fits : (c : Shared) (m : Machine) → Born next (kill_call c m)
  unfolding kill_call
  kill-fits c m =
      let pid = low_word (register m A0) in
      let signal = low_word (register m A1) in
      either (is_below_one pid || is_unsupported_signal signal) _ _ (unsupported-fits c m KILL) (send-fits c m pid signal)

  tkill-fits : (c : Shared) (m : Machine) → Born next (tkill_call c m)
  unfolding tkill_call
  tkill-fits c m =
      let tid = low_word (register m A0) in
      let signal = low_word (register m A1) in
      either (is_unsupported_signal signal) _ _ (unsupported-fits c m TKILL) (either (is_below_one tid) _ _ (refused-fits c m Inval)
      (send-fits c m tid signal))

  tgkill-fits : (c : Shared) (m : Machine) → Born next (tgkill_call c m)
  unfolding tgkill_call
  tgkill-fits c m =
      let tgid = low_word (register m A0) in
      let tid = low_word (register m A1) in
      let signal = low_word (register m A2) in
      either (is_unsupported_signal signal) _ _ (unsupported-fits c m TGKILL)
      (either (is_below_one tgid || is_below_one tid || nat_lt SIGNAL_LIMIT signal) _ _ (refused-fits c m Inval)
      (either (not (tgid == tid)) _ _ (refused-fits c m Srch) (send-fits c m tid signal)))

  handled-fits : (c : Shared) (p : ℕ) (m : Machine) (number : ℕ) (r : SignalCallResult) → Born next (effect_of_signal_call c p m number r)
  handled-fits c p m number r = answer-fits (with_signals_of c p r.signals) (record m { space = r.pages }) number r.answer

  sigaction-fits : (c : Shared) (p : ℕ) (m : Machine) → Born next (sigaction_call c p m)
  unfolding sigaction_call
  sigaction-fits c p m = handled-fits c p m RT_SIGACTION
      (sigaction_of (task_at c p).signals m.space (register m A0) (register m A1) (register m A2) (register m A3))

  sigprocmask-fits : (c : Shared) (p : ℕ) (m : Machine) → Born next (sigprocmask_call c p m)
  unfolding sigprocmask_call
  sigprocmask-fits c p m = handled-fits c p m RT_SIGPROCMASK
      (sigprocmask_of (task_at c p).signals m.space (register m A0) (register m A1) (register m A2) (register m A3))

  returned-fits : (c : Shared) (p : ℕ) (b : AfterSigreturn) → Born next (effect_of_sigreturn c p b)
  returned-fits c p b = by_read b.is_read
    where
      by_read : (is_read : Bool) → (let r = quiet_effect (with_signals_of c p b.signals) b.machine Done in Born next (cond is_read r (with_end p (Signal SIGSEGV) r)))
      by_read true = record { fits = tt }
      by_read false = record { fits = tt }

  sigreturn-fits : (c : Shared) (p : ℕ) (m : Machine) → Born next (sigreturn_call c p m)
  unfolding sigreturn_call
  sigreturn-fits c p m = returned-fits c p (after_sigreturn (task_at c p).signals m)

  setitimer-fits : (c : Shared) (p : ℕ) (m : Machine) → Born next (setitimer_call c p m)
  unfolding setitimer_call
  setitimer-fits c p m = handled-fits c p m SETITIMER
      (setitimer_of (task_at c p).signals m.space c.clock (register m A0) (register m A1) (register m A2))

  getitimer-fits : (c : Shared) (p : ℕ) (m : Machine) → Born next (getitimer_call c p m)
  unfolding getitimer_call
  getitimer-fits c p m = handled-fits c p m GETITIMER
      (getitimer_of (task_at c p).signals m.space c.clock (register m A0) (register m A1))

  polled-fits : (c : Shared) (p : ℕ) (m : Machine) (r : PollResult) → Born next (effect_of_poll c p m r)
  polled-fits c p m r = answer-fits (with_task c p (with_polling (task_at c p) r.polling)) (record m { space = r.pages }) PPOLL r.answer

  ppoll-fits : (c : Shared) (p : ℕ) (m : Machine) → Born next (ppoll_call c p m)
  unfolding ppoll_call
  ppoll-fits c p m = polled-fits c p m (ppoll_of (events_of c p) c.clock (task_at c p).polling m.space (arguments m))

  late-fits : (number : ℕ) (c : Shared) (p : ℕ) (m : Machine) → Born next (late_call number c p m)
  unfolding late_call
  late-fits number c p m =
      either (number == SETITIMER) _ _ (setitimer-fits c p m) (either (number == GETITIMER) _ _ (getitimer-fits c p m)
      (either (number == PPOLL) _ _ (ppoll-fits c p m) (file-fits number c p m)))

  signal-fits : (number : ℕ) (c : Shared) (p : ℕ) (m : Machine) → Born next (signal_call number c p m)
  unfolding signal_call
  signal-fits number c p m =
      either (number == KILL) _ _ (kill-fits c m) (either (number == TKILL) _ _ (tkill-fits c m) (either (number == TGKILL) _ _ (tgkill-fits c m)
      (either (number == RT_SIGACTION) _ _ (sigaction-fits c p m) (either (number == RT_SIGPROCMASK) _ _ (sigprocmask-fits c p m)
      (either (number == RT_SIGRETURN) _ _ (sigreturn-fits c p m) (late-fits number c p m))))))

  list-fits : (c : Shared) (m : Machine) → Born next (set_robust_list_call c m)
  unfolding set_robust_list_call
  list-fits c m = either (register m A1 == ROBUST_LIST_SIZE) _ _ (done-fits c m 0) (refused-fits c m Inval)

  pages-fits : (c : Shared) (m : Machine) (r : Result (List PageView) Miss) → Born next (done_with_pages c m r)
  pages-fits c m (Err miss) = record { fits = tt }
  pages-fits c m (Ok pages) = record { fits = tt }

  uname-fits : (c : Shared) (m : Machine) → Born next (uname_call c m)
  unfolding uname_call
  uname-fits c m = pages-fits c m (pages_after_store m.space (register m A0) utsname)

  getpid-fits : (c : Shared) (p : ℕ) (m : Machine) → Born next (getpid_call c p m)
  unfolding getpid_call
  getpid-fits c p m = record { fits = tt }

  getppid-fits : (c : Shared) (p : ℕ) (m : Machine) → Born next (getppid_call c p m)
  unfolding getppid_call
  getppid-fits c p m = record { fits = tt }

  identity-fits : (number : ℕ) (c : Shared) (p : ℕ) (m : Machine) → Born next (identity_call number c p m)
  unfolding identity_call
  identity-fits number c p m =
      either ((number == GETPID) || (number == GETTID) || (number == SET_TID_ADDRESS)) _ _ (getpid-fits c p m)
      (either (number == GETPPID) _ _ (getppid-fits c p m) (either (number == SET_ROBUST_LIST) _ _ (list-fits c m)
      (either (number == UNAME) _ _ (uname-fits c m) (either (is_zero_call number) _ _ (done-fits c m 0)
      (either (is_missing_call number) _ _ (refused-fits c m NoSys) (signal-fits number c p m))))))

  paged-fits : (c : Shared) (m : Machine) (number : ℕ) (r : MemoryCallResult) → Born next (effect_of_memory_call c m number r)
  paged-fits c m number r = answer-fits c (record m { space = r.pages }) number r.answer

  brk-fits : (c : Shared) (p : ℕ) (m : Machine) → Born next (brk_call c p m)
  unfolding brk_call
  brk-fits c p m = record { fits = tt }

  munmap-fits : (c : Shared) (m : Machine) → Born next (munmap_call c m)
  unfolding munmap_call
  munmap-fits c m = paged-fits c m MUNMAP (munmap_of m.space (register m A0) (register m A1))

  mmap-fits : (c : Shared) (m : Machine) → Born next (mmap_call c m)
  unfolding mmap_call
  mmap-fits c m = paged-fits c m MMAP (mmap_of m.space (register m A0) (register m A1) (register m A2) (register m A3))

  mprotect-fits : (c : Shared) (m : Machine) → Born next (mprotect_call c m)
  unfolding mprotect_call
  mprotect-fits c m = paged-fits c m MPROTECT (mprotect_of m.space (register m A0) (register m A1) (register m A2))

  memory-fits : (number : ℕ) (c : Shared) (p : ℕ) (m : Machine) → Born next (memory_call number c p m)
  unfolding memory_call
  memory-fits number c p m =
      either (number == BRK) _ _ (brk-fits c p m) (either (number == MUNMAP) _ _ (munmap-fits c m) (either (number == MMAP) _ _ (mmap-fits c m)
      (either (number == MPROTECT) _ _ (mprotect-fits c m) (identity-fits number c p m))))

  exit-fits : (c : Shared) (p : ℕ) (m : Machine) → Born next (exit_call c p m)
  unfolding exit_call
  exit-fits c p m = record { fits = tt }

  child-fits : (c : Shared) (p : ℕ) (m : Machine) → Born next (clone_effect c next p m)
  child-fits c p m = record { fits = record { is_next = refl; machine = refl } }

  clone-fits : (c : Shared) (p : ℕ) (m : Machine) → Born next (clone_call c next p m)
  unfolding clone_call
  clone-fits c p m =
      either (not (is_supported (register m A0))) _ _ (unsupported-fits c m CLONE) (either (is_full c.members) _ _ (refused-fits c m Again)
      (child-fits c p m))

  program-fits : (c : Shared) (p : ℕ) (m : Machine) (r : Result Program Errno) → Born next (effect_of_program c p m r)
  program-fits c p m (Err errno) = record { fits = tt }
  program-fits c p m (Ok program) = record { fits = tt }

  execve-fits : (c : Shared) (p : ℕ) (m : Machine) → Born next (execve_call c p m)
  unfolding execve_call
  execve-fits c p m = program-fits c p m (execve_program c.tree.shape (task_at c p).caller.cwd m.space
      (register m A0) (register m A1) (register m A2) (start_bytes c.rand) (has_atomics c.tree.version))

  reap-fits : (c : Shared) (m : Machine) (status usage vpid : ℕ) (end : End) → Born next (reap_effect c m status usage vpid end)
  reap-fits c m status usage vpid end =
      by_both (is_writable_or_null m.space status 4 && is_writable_or_null m.space usage RUSAGE_SIZE)
    where
      by_both : (both : Bool) → (let done = done_effect (record c { members = without_member c.members vpid }) (record m { space = with_bytes_unless_null (with_bytes_unless_null m.space status (status_bytes end)) usage usage_bytes }) vpid in Born next (cond both done (refused_effect c m BadAddress)))
      by_both true = record { fits = tt }
      by_both false = record { fits = tt }

  reaped-fits : (c : Shared) (m : Machine) (r : Reaped) → Born next (effect_of_reaped c m r)
  reaped-fits c m (Got vpid end) = reap-fits c m (register m A1) (register m A3) vpid end
  reaped-fits c m NoneReady = either (has_flag (low_word (register m A2)) WNOHANG) _ _ (done-fits c m 0) (blocked c m)
    where
      blocked : (c : Shared) (m : Machine) → Born next (quiet_effect c m Blocked)
      blocked c m = record { fits = tt }
  reaped-fits c m NoChild = record { fits = tt }

  wait-fits : (c : Shared) (p : ℕ) (m : Machine) → Born next (wait4_call c p m)
  unfolding wait4_call
  wait-fits c p m =
      either (is_group (low_word (register m A0))) _ _ (unsupported-fits c m WAIT4)
      (either (not (has_only (low_word (register m A2)) WAIT_OPTIONS)) _ _ (refused-fits c m Inval)
      (reaped-fits c m (look_for c.members p (which_child (low_word (register m A0))))))

  call-fits : (number : ℕ) (c : Shared) (p : ℕ) (m : Machine) → Born next (call_of number c next p m)
  unfolding call_of
  call-fits number c p m =
      either ((number == EXIT) || (number == EXIT_GROUP)) _ _ (exit-fits c p m) (either (number == CLONE) _ _ (clone-fits c p m)
      (either (number == EXECVE) _ _ (execve-fits c p m) (either (number == WAIT4) _ _ (wait-fits c p m) (memory-fits number c p m))))

  stop-fits : (c : Shared) (p : ℕ) (m : Machine) (stop : Stop) → Born next (effect_of_stop c next p m stop)
  unfolding effect_of_stop
  stop-fits c p m Call = call-fits (register m A7) c p m
  stop-fits c p m (Counter rd) = record { fits = tt }
  stop-fits c p m (Fault signal) = record { fits = tt }
  stop-fits c p m Slice = record { fits = tt }

  timers-fits : (r : Effect) → Born next r → Born next (effect_after_timers r)
  timers-fits r fits = record { fits = fits.fits }

  handler-fits : (served : Served) (child : Option Machine) → FitsChild next served child → FitsChild next (served_at_handler served) child
  handler-fits Done child fits = tt
  handler-fits (Child vpid) child fits = fits
  handler-fits (LastChild vpid) child fits = fits
  handler-fits Blocked child fits = tt
  handler-fits Progress child fits = tt
  handler-fits Ended child fits = tt
  handler-fits (Unsupported number) child fits = tt

  delivery-fits : (p : ℕ) (r : Effect) (d : Delivery) → Born next r → Born next (with_delivery p r d)
  delivery-fits p r delivery.Nothing fits = fits
  delivery-fits p r delivery.Handler fits = record { fits = handler-fits r.served r.child fits.fits }
  delivery-fits p r (delivery.Ends signal) fits = record { fits = ended-fits next p (Signal signal) r fits.fits }

  delivered-fits : (forced : Option ℕ) (p : ℕ) (r : Effect) → Born next r → Born next (effect_after_delivery forced p r)
  unfolding effect_after_delivery
  delivered-fits forced p r fits =
      let t = task_at r.shared p in
      let d = delivery_of forced (call_state t r.served) t.signals r.machine in
      let left = task_after_delivery d.delivery (with_signals t d.signals) in
      either (takes_signals r.served) (with_delivered p r d) r
      (delivery-fits p (record r { shared = with_task r.shared p left; machine = d.machine }) d.delivery (record { fits = fits.fits })) fits

-- what serving a stop comes to
pub served-fits : (c : Shared) (next p : ℕ) (stop : Stop) (m : Machine) → Fits next (turn_of_machine c next p stop m)
unfolding turn_of_machine
served-fits c next p stop m = record {
  own = own-fits _ _;
  child = let served = machine_to_serve stop m in let born = delivered-fits next (forced_signal stop) p (effect_after_timers (effect_of_stop c next p served stop))
      (timers-fits next (effect_of_stop c next p served stop) (stop-fits next c p served stop)) in born.fits;
}
