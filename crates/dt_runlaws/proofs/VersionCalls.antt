-- Each stop that is served leaves the version of the file tree and the standard input, and a machine that has atomics
-- just where the version has them.
use Rattle.std.proofs.Common.{◌≡◌, ℕ, ◌==◌, ◌||◌, ◌&&◌, not, List, [], ◌∷◌, Bool, true, false, cond, Option, ◌∙◌, ap}
use Rattle.std.specs.Prelude.{IfSome, IfOk, Result, Ok, Err, nat_lt}
use Rattle.std.specs.FinMap.{keys}
use Rattle.dt_base.specs.Abi.{has_flag, low_word, exit_code}
use Rattle.dt_base.specs.Profile.{has_atomics}
use Rattle.dt_base.specs.declared.abi.TheConstants as abi
use Rattle.dt_base.specs.declared.abi.TheConstants.{A0, A1, A2, A3, A4, A7}
use Rattle.dt_base.specs.declared.answer.Answer.{Answer}
use Rattle.dt_base.specs.declared.answer.Answer.TheVariants as answer
use Rattle.dt_base.specs.declared.errno.Errno.{Errno}
use Rattle.dt_base.specs.declared.errno.Errno.TheVariants as errno
use Rattle.dt_base.specs.declared.event.End.{End}
use Rattle.dt_base.specs.declared.event.End.TheVariants.{Code, Signal}
use Rattle.dt_base.specs.declared.limits.TheConstants.{FIRST_PID}
use Rattle.dt_callbase.specs.Arguments.{has_only}
use Rattle.dt_callbase.specs.Scene.{Scene, Reply}
use Rattle.dt_fds.specs.Holding.{holding_of, without_process}
use Rattle.dt_iocalls.specs.Calls.{is_io}
use Rattle.dt_namecalls.specs.Calls.{is_naming}
use Rattle.dt_timecalls.specs.Calls.{is_time_call}
use Rattle.dt_late.specs.declared.numbers.TheConstants as late
use Rattle.dt_late.specs.Itimer.{setitimer_of, getitimer_of}
use Rattle.dt_late.specs.Poll.{PollResult, ppoll_of}
use Rattle.dt_mcalls.specs.Called.{MemoryCallResult}
use Rattle.dt_mcalls.specs.Mmap.{mmap_of}
use Rattle.dt_mcalls.specs.Munmap.{munmap_of}
use Rattle.dt_mcalls.specs.Mprotect.{mprotect_of}
use Rattle.dt_procs.specs.declared.member.Reaped.{Reaped}
use Rattle.dt_procs.specs.declared.member.Reaped.TheVariants.{Got, NoneReady, NoChild}
use Rattle.dt_procs.specs.Members.{is_full, look_for, without_member}
use Rattle.dt_exec.specs.declared.program.Program.{Program}
use Rattle.dt_exec.specs.Program.{execve_program}
use Rattle.dt_rv64.specs.declared.machine.Machine.{Machine}
use Rattle.dt_rv64.specs.declared.segments.Stop.{Stop}
use Rattle.dt_rv64.specs.declared.segments.Stop.TheVariants.{Call, Counter, Slice, Fault}
use Rattle.dt_rv64.specs.Effects.{register, with_register, machine_after_counter, machine_after_answer}
use Rattle.dt_sigcalls.specs.Called.{SignalCallResult}
use Rattle.dt_sigcalls.specs.Sigaction.{sigaction_of}
use Rattle.dt_sigcalls.specs.Sigprocmask.{sigprocmask_of}
use Rattle.dt_signals.specs.declared.delivery.Delivery.{Delivery}
use Rattle.dt_signals.specs.declared.delivery.Delivery.TheVariants as delivery
use Rattle.dt_signals.specs.Delivery.{DeliveryResult, delivery_of}
use Rattle.dt_space.specs.declared.access.Miss.{Miss}
use Rattle.dt_space.specs.Argument.{is_writable_or_null}
use Rattle.dt_space.specs.Space.{PageView}
use Rattle.dt_space.specs.Write.{pages_after_store}
use Rattle.dt_virt.specs.Words.{start_bytes}
use Rattle.dt_calls.specs.declared.container.Served.{Served}
use Rattle.dt_calls.specs.declared.container.Served.TheVariants.{Done, Blocked, Unsupported}
use Rattle.dt_calls.specs.declared.task.Task.{Task}
use Rattle.dt_calls.specs.declared.numbers.TheConstants.{RUSAGE_SIZE}
use Rattle.dt_calls.specs.Call.{exit_call, is_zero_call, is_missing_call, signal_call, identity_call, memory_call, call_of, effect_of_stop}
use Rattle.dt_calls.specs.Clone.{is_supported, with_pid, with_stack, clone_effect, clone_call}
use Rattle.dt_calls.specs.Container.{Shared, task_at, with_task, with_signals, tasks_after_raise}
use Rattle.dt_calls.specs.Delivery.{effect_after_delivery, with_delivered, with_delivery, task_after_delivery, takes_signals, call_state, forced_signal}
use Rattle.dt_calls.specs.Effect.{Effect, quiet_effect, done_effect, refused_effect, effect_of_answer}
use Rattle.dt_calls.specs.Ends.{with_end, shared_after_one_end, shared_after_kills, shared_after_end}
use Rattle.dt_calls.specs.Execve.{execve_call, effect_of_program, with_exec}
use Rattle.dt_calls.specs.FileCalls.{arguments, scene_of, with_scene, row_of, task_after_row, effect_of_row, file_call}
use Rattle.dt_calls.specs.Identity.{getpid_call, getppid_call, set_robust_list_call, uname_call, done_with_pages, utsname}
use Rattle.dt_calls.specs.Kill.{is_below_one, is_unsupported_signal, has_member, kill_call, tkill_call, tgkill_call, send_effect_to}
use Rattle.dt_calls.specs.MemoryCalls.{effect_of_memory_call, brk_call, munmap_call, mmap_call, mprotect_call}
use Rattle.dt_calls.specs.LateCalls.{setitimer_call, getitimer_call, with_polling, events_of, effect_of_poll, ppoll_call, late_call}
use Rattle.dt_calls.specs.Settle.{machine_to_serve, effect_of_turn}
use Rattle.dt_calls.specs.SignalCalls.{AfterSigreturn, after_sigreturn, with_signals_of, effect_of_signal_call, sigaction_call, sigprocmask_call, sigreturn_call, effect_of_sigreturn}
use Rattle.dt_calls.specs.Timers.{shared_after_timers, effect_after_timers}
use Rattle.dt_calls.specs.Wait.{is_group, which_child, wait4_call, effect_of_reaped, reap_effect}
use Rattle.dt_runlaws.specs.Version.{IsShared}
use Rattle.dt_runlaws.proofs.VersionFiles.{io-kept}
use Rattle.dt_runlaws.proofs.VersionHandlers.{delivered-keeps, returned-keeps}
use Rattle.dt_runlaws.proofs.VersionMachines.{registered}
use Rattle.dt_runlaws.proofs.VersionNames.{name-kept}
use Rattle.dt_runlaws.proofs.VersionPaths.{file-kept}
use Rattle.dt_runlaws.proofs.VersionPrograms.{executed-has}
use Rattle.dt_runlaws.proofs.VersionReplies as replies
use Rattle.dt_runlaws.proofs.VersionReplies.{Kept}
use Rattle.dt_runlaws.proofs.VersionTimes.{timed-kept}
use Rattle.dt_runlaws.proofs.VersionTrees.{held-version, released-version, cloexec-version, process-version}

-- the row of each call leaves the version and the input
row-kept : (number : ℕ) (args : List ℕ) (s : Scene) → Kept s (row_of number args s)
unfolding row_of
row-kept number args s =
    replies.either s (is_io number) _ _ (io-kept number args s) (replies.either s (is_naming number) _ _ (name-kept number args s)
    (replies.either s (is_time_call number) _ _ (timed-kept number args s) (file-kept number args s)))

-- of that version, with that input
module _ (version : ℕ) (input : List ℕ) where
  -- a process ends
  one_end-keeps : (p : ℕ) (end : End) (c : Shared) → IsShared version input c → IsShared version input (shared_after_one_end p end c)
  unfolding shared_after_one_end
  one_end-keeps p end c is = record {
    version = released-version (without_process p (holding_of c.tree c.pipes c.files)).tree _ ∙ process-version p (holding_of c.tree c.pipes c.files) ∙ is.version;
    input = is.input;
  }

  kills-keep : (ps : List ℕ) (c : Shared) → IsShared version input c → IsShared version input (shared_after_kills ps c)
  unfolding shared_after_kills
  kills-keep [] c is = is
  kills-keep (p ∷ ps) c is = kills-keep ps (shared_after_one_end p (Signal abi.SIGKILL) c) (one_end-keeps p (Signal abi.SIGKILL) c is)

  end-keeps : (p : ℕ) (end : End) (c : Shared) → IsShared version input c → IsShared version input (shared_after_end p end c)
  unfolding shared_after_end
  end-keeps p end c is = by_first (p == FIRST_PID)
    where
      left : Shared
      left = shared_after_one_end p end c

      by_first : (b : Bool) → IsShared version input (cond b (shared_after_kills (keys left.tasks) left) left)
      by_first true = kills-keep (keys left.tasks) left (one_end-keeps p end c is)
      by_first false = one_end-keeps p end c is

  -- timers fire
  pub timers-keep : (c : Shared) → IsShared version input c → IsShared version input (shared_after_timers c)
  unfolding shared_after_timers
  timers-keep c is = record { version = is.version; input = is.input }

-- where p's stop is served
module _ (version : ℕ) (input : List ℕ) (next p : ℕ) (c : Shared) (start : IsShared version input c) where
  -- a machine has atomics just where the version has them
  abbrev Has : Machine → Type 0
  Has m = m.atomics ≡ has_atomics version

  -- an effect leaves the version and the input, and such machines
  pub record Comes (r : Effect) : Type 0 where
    pub shared : IsShared version input r.shared
    pub own : r.machine.atomics ≡ has_atomics version
    pub child : IfSome r.child (λ m. m.atomics ≡ has_atomics version)

  either : (b : Bool) (x y : Effect) → Comes x → Comes y → Comes (cond b x y)
  either true x y first second = first
  either false x y first second = second

  task-keeps : (d : Shared) (t : Task) → IsShared version input d → IsShared version input (with_task d p t)
  task-keeps d t is = record { version = is.version; input = is.input }

  quiet : (d : Shared) (m : Machine) (served : Served) → IsShared version input d → Has m → Comes (quiet_effect d m served)
  quiet d m served is has = record { shared = is; own = has; child = tt }

  by_answer : (d : Shared) (m : Machine) (number : ℕ) (a : Answer) → IsShared version input d → Has m → Comes (effect_of_answer d m number a)
  by_answer d m number (answer.Value value) is has = quiet d _ _ is has
  by_answer d m number (answer.Refused errno) is has = quiet d _ _ is has
  by_answer d m number (answer.Output stream bytes) is has = record { shared = is; own = has; child = tt }
  by_answer d m number answer.Waits is has = quiet d _ _ is has
  by_answer d m number (answer.Part moved) is has = quiet d _ _ is has
  by_answer d m number (answer.Pipe (Ok moved)) is has = quiet d _ _ is has
  by_answer d m number (answer.Pipe (Err errno)) is has = quiet d _ _ is has
  by_answer d m number answer.Unsupported is has = quiet d _ _ is has

  -- a process ends
  ended : (end : End) (r : Effect) → Comes r → Comes (with_end p end r)
  ended end r comes = record { shared = end-keeps version input p end r.shared comes.shared; own = comes.own; child = comes.child }

  done : (m : Machine) (value : ℕ) → Has m → Comes (done_effect c m value)
  done m value has = quiet c _ Done start has

  refused : (m : Machine) (errno : Errno) → Has m → Comes (refused_effect c m errno)
  refused m errno has = quiet c _ Done start has

  unsupported : (m : Machine) (number : ℕ) → Has m → Comes (quiet_effect c m (Unsupported number))
  unsupported m number has = quiet c m (Unsupported number) start has

  file : (number : ℕ) (m : Machine) → Has m → Comes (file_call number c p m)
  unfolding file_call
  file number m has = by_row (row_of number (arguments m) (scene_of c p m)) (row-kept number (arguments m) (scene_of c p m))
    where
      by_row : (r : Reply) → Kept (scene_of c p m) r → Comes (effect_of_row c p m number r)
      by_row r kept =
          by_answer (with_task (with_scene c r.next) p (task_after_row (task_at c p) r)) (record m { space = r.next.space }) number r.answer
          (record { version = kept.version ∙ start.version; input = kept.input ∙ start.input }) has

  send : (m : Machine) (pid signal : ℕ) → Has m → Comes (send_effect_to c m pid signal)
  send m pid signal has =
      either (nat_lt abi.SIGNAL_LIMIT signal) _ _ (refused m errno.Inval has) (either (not (has_member c pid)) _ _ (refused m errno.Srch has)
      (either (signal == 0) _ _ (done m 0 has) (quiet (record c { tasks = tasks_after_raise pid signal c.tasks }) _ Done (record { version = start.version; input = start.input }) has)))

  kill : (m : Machine) → Has m → Comes (kill_call c m)
  unfolding kill_call
  kill m has =
      let pid = low_word (register m A0) in
      let signal = low_word (register m A1) in
      either (is_below_one pid || is_unsupported_signal signal) _ _ (unsupported m abi.KILL has) (send m pid signal has)

  tkill : (m : Machine) → Has m → Comes (tkill_call c m)
  unfolding tkill_call
  tkill m has =
      let tid = low_word (register m A0) in
      let signal = low_word (register m A1) in
      either (is_unsupported_signal signal) _ _ (unsupported m abi.TKILL has) (either (is_below_one tid) _ _ (refused m errno.Inval has) (send m tid signal has))

  tgkill : (m : Machine) → Has m → Comes (tgkill_call c m)
  unfolding tgkill_call
  tgkill m has =
      let tgid = low_word (register m A0) in
      let tid = low_word (register m A1) in
      let signal = low_word (register m A2) in
      either (is_unsupported_signal signal) _ _ (unsupported m abi.TGKILL has)
      (either (is_below_one tgid || is_below_one tid || nat_lt abi.SIGNAL_LIMIT signal) _ _ (refused m errno.Inval has)
      (either (not (tgid == tid)) _ _ (refused m errno.Srch has) (send m tid signal has)))

  handled : (m : Machine) (number : ℕ) (r : SignalCallResult) → Has m → Comes (effect_of_signal_call c p m number r)
  handled m number r has = by_answer (with_signals_of c p r.signals) (record m { space = r.pages }) number r.answer (task-keeps c _ start) has

  sigaction : (m : Machine) → Has m → Comes (sigaction_call c p m)
  unfolding sigaction_call
  sigaction m has = handled m abi.RT_SIGACTION (sigaction_of (task_at c p).signals m.space (register m A0) (register m A1) (register m A2) (register m A3)) has

  sigprocmask : (m : Machine) → Has m → Comes (sigprocmask_call c p m)
  unfolding sigprocmask_call
  sigprocmask m has = handled m abi.RT_SIGPROCMASK (sigprocmask_of (task_at c p).signals m.space (register m A0) (register m A1) (register m A2) (register m A3)) has

  returned : (b : AfterSigreturn) → Has b.machine → Comes (effect_of_sigreturn c p b)
  returned b has = either b.is_read _ _ goes_on (ended (Signal abi.SIGSEGV) _ goes_on)
    where
      goes_on : Comes (quiet_effect (with_signals_of c p b.signals) b.machine Done)
      goes_on = quiet (with_signals_of c p b.signals) b.machine Done (task-keeps c _ start) has

  sigreturn : (m : Machine) → Has m → Comes (sigreturn_call c p m)
  unfolding sigreturn_call
  sigreturn m has = returned (after_sigreturn (task_at c p).signals m) (returned-keeps (task_at c p).signals m ∙ has)

  setitimer : (m : Machine) → Has m → Comes (setitimer_call c p m)
  unfolding setitimer_call
  setitimer m has = handled m late.SETITIMER (setitimer_of (task_at c p).signals m.space c.clock (register m A0) (register m A1) (register m A2)) has

  getitimer : (m : Machine) → Has m → Comes (getitimer_call c p m)
  unfolding getitimer_call
  getitimer m has = handled m late.GETITIMER (getitimer_of (task_at c p).signals m.space c.clock (register m A0) (register m A1)) has

  polled : (m : Machine) (r : PollResult) → Has m → Comes (effect_of_poll c p m r)
  polled m r has =
      let t = with_polling (task_at c p) r.polling in
      by_answer (with_task c p t) (record m { space = r.pages }) late.PPOLL r.answer (task-keeps c t start) has

  ppoll : (m : Machine) → Has m → Comes (ppoll_call c p m)
  unfolding ppoll_call
  ppoll m has = polled m (ppoll_of (events_of c p) c.clock (task_at c p).polling m.space (arguments m)) has

  later : (number : ℕ) (m : Machine) → Has m → Comes (late_call number c p m)
  unfolding late_call
  later number m has =
      either (number == late.SETITIMER) _ _ (setitimer m has) (either (number == late.GETITIMER) _ _ (getitimer m has)
      (either (number == late.PPOLL) _ _ (ppoll m has) (file number m has)))

  signal : (number : ℕ) (m : Machine) → Has m → Comes (signal_call number c p m)
  unfolding signal_call
  signal number m has =
      either (number == abi.KILL) _ _ (kill m has) (either (number == abi.TKILL) _ _ (tkill m has) (either (number == abi.TGKILL) _ _ (tgkill m has)
      (either (number == abi.RT_SIGACTION) _ _ (sigaction m has) (either (number == abi.RT_SIGPROCMASK) _ _ (sigprocmask m has)
      (either (number == abi.RT_SIGRETURN) _ _ (sigreturn m has) (later number m has))))))

  robust_list : (m : Machine) → Has m → Comes (set_robust_list_call c m)
  unfolding set_robust_list_call
  robust_list m has = either (register m A1 == abi.ROBUST_LIST_SIZE) _ _ (done m 0 has) (refused m errno.Inval has)

  filled : (m : Machine) (r : Result (List PageView) Miss) → Has m → Comes (done_with_pages c m r)
  filled m (Err miss) has = refused m errno.Fault has
  filled m (Ok pages) has = done (record m { space = pages }) 0 has

  uname : (m : Machine) → Has m → Comes (uname_call c m)
  unfolding uname_call
  uname m has = filled m (pages_after_store m.space (register m A0) utsname) has

  getpid : (m : Machine) → Has m → Comes (getpid_call c p m)
  unfolding getpid_call
  getpid m has = done m p has

  getppid : (m : Machine) → Has m → Comes (getppid_call c p m)
  unfolding getppid_call
  getppid m has = quiet c _ Done start has

  identity : (number : ℕ) (m : Machine) → Has m → Comes (identity_call number c p m)
  unfolding identity_call
  identity number m has =
      either ((number == abi.GETPID) || (number == abi.GETTID) || (number == abi.SET_TID_ADDRESS)) _ _ (getpid m has)
      (either (number == abi.GETPPID) _ _ (getppid m has) (either (number == abi.SET_ROBUST_LIST) _ _ (robust_list m has)
      (either (number == abi.UNAME) _ _ (uname m has) (either (is_zero_call number) _ _ (done m 0 has)
      (either (is_missing_call number) _ _ (refused m errno.NoSys has) (signal number m has))))))

  paged : (m : Machine) (number : ℕ) (r : MemoryCallResult) → Has m → Comes (effect_of_memory_call c m number r)
  paged m number r has = by_answer c (record m { space = r.pages }) number r.answer start has

  brk : (m : Machine) → Has m → Comes (brk_call c p m)
  unfolding brk_call
  brk m has = quiet _ _ Done (task-keeps c _ start) has

  munmap : (m : Machine) → Has m → Comes (munmap_call c m)
  unfolding munmap_call
  munmap m has = paged m abi.MUNMAP (munmap_of m.space (register m A0) (register m A1)) has

  mmap : (m : Machine) → Has m → Comes (mmap_call c m)
  unfolding mmap_call
  mmap m has = paged m abi.MMAP (mmap_of m.space (register m A0) (register m A1) (register m A2) (register m A3)) has

  mprotect : (m : Machine) → Has m → Comes (mprotect_call c m)
  unfolding mprotect_call
  mprotect m has = paged m abi.MPROTECT (mprotect_of m.space (register m A0) (register m A1) (register m A2)) has

  memory : (number : ℕ) (m : Machine) → Has m → Comes (memory_call number c p m)
  unfolding memory_call
  memory number m has =
      either (number == abi.BRK) _ _ (brk m has) (either (number == abi.MUNMAP) _ _ (munmap m has) (either (number == abi.MMAP) _ _ (mmap m has)
      (either (number == abi.MPROTECT) _ _ (mprotect m has) (identity number m has))))

  exit : (m : Machine) → Has m → Comes (exit_call c p m)
  unfolding exit_call
  exit m has = ended (Code (exit_code (register m A0))) (quiet_effect c m Done) (quiet c m Done start has)

  -- a child is made
  with_pid-has : (flag : Bool) (address vpid : ℕ) (m : Machine) → Has m → Has (with_pid flag address vpid m)
  with_pid-has true address vpid m has = has
  with_pid-has false address vpid m has = has

  with_stack-has : (stack : ℕ) (m : Machine) → Has m → Has (with_stack stack m)
  with_stack-has stack m has = by_zero (stack == 0) (with_register m abi.SP stack) has
    where
      by_zero : (b : Bool) (n : Machine) → Has n → Has (cond b m n)
      by_zero true n other = has
      by_zero false n other = other

  born : (m : Machine) → Has m → Comes (clone_effect c next p m)
  born m has = record {
    shared = record { version = held-version c.tree (task_at c p).caller.cwd ∙ start.version; input = start.input };
    own = with_pid-has _ (register m A2) next (machine_after_answer m next) has;
    child = with_pid-has _ (register m A4) next _ (with_stack-has (register m A1) (machine_after_answer m 0) has);
  }

  clone : (m : Machine) → Has m → Comes (clone_call c next p m)
  unfolding clone_call
  clone m has =
      either (not (is_supported (register m A0))) _ _ (unsupported m abi.CLONE has) (either (is_full c.members) _ _ (refused m errno.Again has) (born m has))

  by_program : (m : Machine) (r : Result Program Errno) → Has m → IfOk r (λ program. program.machine.atomics ≡ has_atomics c.tree.version) → Comes (effect_of_program c p m r)
  by_program m (Err errno) has fits = refused m errno has
  by_program m (Ok program) has fits = quiet (with_exec c p program.break_start) program.machine Done
      (record { version = cloexec-version p (holding_of c.tree c.pipes c.files) ∙ start.version; input = start.input })
      (fits ∙ ap has_atomics start.version)

  execve : (m : Machine) → Has m → Comes (execve_call c p m)
  unfolding execve_call
  execve m has =
      let atomics = has_atomics c.tree.version in
      by_program m (execve_program c.tree.shape (task_at c p).caller.cwd m.space (register m A0) (register m A1) (register m A2) (start_bytes c.rand) atomics) has
      (executed-has c.tree.shape (task_at c p).caller.cwd m.space (register m A0) (register m A1) (register m A2) (start_bytes c.rand) atomics)

  reap : (m : Machine) (status usage v : ℕ) (end : End) → Has m → Comes (reap_effect c m status usage v end)
  reap m status usage v end has =
      either (is_writable_or_null m.space status 4 && is_writable_or_null m.space usage RUSAGE_SIZE) _ _
      (quiet (record c { members = without_member c.members v }) _ Done (record { version = start.version; input = start.input }) has) (refused m errno.Fault has)

  reaped : (m : Machine) (r : Reaped) → Has m → Comes (effect_of_reaped c m r)
  reaped m (Got v end) has = reap m (register m A1) (register m A3) v end has
  reaped m NoneReady has = either (has_flag (low_word (register m A2)) abi.WNOHANG) _ _ (done m 0 has) (quiet c m Blocked start has)
  reaped m NoChild has = refused m errno.Child has

  wait : (m : Machine) → Has m → Comes (wait4_call c p m)
  unfolding wait4_call
  wait m has =
      either (is_group (low_word (register m A0))) _ _ (unsupported m abi.WAIT4 has)
      (either (not (has_only (low_word (register m A2)) abi.WAIT_OPTIONS)) _ _ (refused m errno.Inval has)
      (reaped m (look_for c.members p (which_child (low_word (register m A0)))) has))

  call : (number : ℕ) (m : Machine) → Has m → Comes (call_of number c next p m)
  unfolding call_of
  call number m has =
      either ((number == abi.EXIT) || (number == abi.EXIT_GROUP)) _ _ (exit m has) (either (number == abi.CLONE) _ _ (clone m has)
      (either (number == abi.EXECVE) _ _ (execve m has) (either (number == abi.WAIT4) _ _ (wait m has) (memory number m has))))

  stopped : (m : Machine) (stop : Stop) → Has m → Comes (effect_of_stop c next p m stop)
  unfolding effect_of_stop
  stopped m Call has = call (register m A7) m has
  stopped m (Counter rd) has =
      let keeps = registered m rd _ in
      quiet _ (machine_after_counter m rd _) Done (record { version = start.version; input = start.input }) (keeps.atomics ∙ has)
  stopped m (Fault signal) has = quiet c m Done start has
  stopped m Slice has = quiet c m Done start has

  fired : (r : Effect) → Comes r → Comes (effect_after_timers r)
  fired r comes = record { shared = timers-keep version input r.shared comes.shared; own = comes.own; child = comes.child }

  -- a signal is delivered
  delivered_as : (r : Effect) (d : Delivery) → Comes r → Comes (with_delivery p r d)
  delivered_as r delivery.Nothing comes = comes
  delivered_as r delivery.Handler comes = record { shared = comes.shared; own = comes.own; child = comes.child }
  delivered_as r (delivery.Ends signal) comes = ended (Signal signal) r comes

  delivered_by : (r : Effect) (d : DeliveryResult) → d.machine.atomics ≡ r.machine.atomics → Comes r → Comes (with_delivered p r d)
  delivered_by r d keeps comes =
      let t = task_after_delivery d.delivery (with_signals (task_at r.shared p) d.signals) in
      delivered_as (record r { shared = with_task r.shared p t; machine = d.machine }) d.delivery
      (record { shared = task-keeps r.shared t comes.shared; own = keeps ∙ comes.own; child = comes.child })

  delivered : (forced : Option ℕ) (r : Effect) → Comes r → Comes (effect_after_delivery forced p r)
  unfolding effect_after_delivery
  delivered forced r comes =
      let t = task_at r.shared p in
      let state = call_state t r.served in
      either (takes_signals r.served) _ _
      (delivered_by r (delivery_of forced state t.signals r.machine) (delivered-keeps forced state t.signals r.machine) comes) comes

  served-has : (stop : Stop) (m : Machine) → Has m → Has (machine_to_serve stop m)
  served-has Slice m has = has
  served-has Call m has = has
  served-has (Counter rd) m has = has
  served-has (Fault signal) m has = has

  -- what a turn comes to
  pub turned : (m : Machine) (stop : Stop) → Has m → Comes (effect_of_turn c next p m stop)
  turned m stop has =
      let n = machine_to_serve stop m in
      delivered (forced_signal stop) (effect_after_timers (effect_of_stop c next p n stop))
      (fired (effect_of_stop c next p n stop) (stopped n stop (served-has stop m has)))
