-- What a stop of a process shows before a signal is delivered, and what it leaves.
use Rattle.std.proofs.Common.{arith, ◌≡◌, ℕ, ◌≤◌, ◌==◌, ◌||◌, ◌&&◌, not, List, [], ◌∷◌, ◌++◌, length, Bool, true, false, cond, Option, None, Some, refl, sym, ap, subst, ◌∙◌, length-append, append-nil}
use Rattle.std.proofs.lemmas.List.Elements.{filter_map-append, All-cons, All-nil}
use Rattle.std.specs.Prelude.{IsSome, IfSome, Result, Ok, Err, nat_lt}
use Rattle.std.specs.Cmp.{nat_cmp_total}
use Rattle.std.specs.List.{All}
use Rattle.std.specs.FinMap.{get, insert, nat_cmp-IsAntisymmetric}
use Rattle.dt_base.specs.Profile.{has_atomics}
use Rattle.dt_base.specs.declared.abi.TheConstants as abi
use Rattle.dt_base.specs.declared.abi.TheConstants.{A0, A1, A2, A3, A7, TRANSFER_LIMIT}
use Rattle.dt_base.specs.Abi.{low_word, exit_code}
use Rattle.dt_base.specs.declared.answer.Answer.{Answer}
use Rattle.dt_base.specs.declared.answer.Answer.TheVariants as answer
use Rattle.dt_base.specs.declared.errno.Errno.{Errno}
use Rattle.dt_base.specs.declared.errno.Errno.TheVariants as errno
use Rattle.dt_base.specs.declared.event.End.{End}
use Rattle.dt_base.specs.declared.event.End.TheVariants.{Code, Signal}
use Rattle.dt_base.specs.declared.event.Event.TheVariants.{Out}
use Rattle.dt_base.specs.Abi.{has_flag}
use Rattle.dt_callbase.specs.Arguments.{has_only}
use Rattle.dt_callbase.specs.Scene.{Scene, Reply}
use Rattle.dt_exec.specs.declared.program.Program.{Program}
use Rattle.dt_exec.specs.Program.{execve_program}
use Rattle.dt_iocalls.specs.Calls.{is_io}
use Rattle.dt_namecalls.specs.Calls.{is_naming}
use Rattle.dt_timecalls.specs.Calls.{is_time_call}
use Rattle.dt_late.specs.declared.numbers.TheConstants as late
use Rattle.dt_late.specs.Itimer.{setitimer_of, getitimer_of}
use Rattle.dt_late.specs.Poll.{PollResult, ppoll_of}
use Rattle.dt_mcalls.specs.Called.{MemoryCallResult}
use Rattle.dt_mcalls.specs.Mmap.{mmap_of}
use Rattle.dt_mcalls.specs.Munmap.{munmap_of}
use Rattle.dt_mcalls.specs.Mprotect.{mprotect_of}
use Rattle.dt_procs.specs.declared.member.Reaped.{Reaped}
use Rattle.dt_procs.specs.declared.member.Reaped.TheVariants.{Got, NoneReady, NoChild}
use Rattle.dt_procs.specs.Members.{has_live, is_full, look_for, vpids_of, with_child, without_member}
use Rattle.dt_rv64.specs.declared.machine.Machine.{Machine}
use Rattle.dt_rv64.specs.declared.segments.Stop.{Stop}
use Rattle.dt_rv64.specs.declared.segments.Stop.TheVariants.{Call, Counter, Slice, Fault}
use Rattle.dt_rv64.specs.Effects.{register}
use Rattle.dt_sigcalls.specs.Called.{SignalCallResult}
use Rattle.dt_sigcalls.specs.Sigaction.{sigaction_of}
use Rattle.dt_sigcalls.specs.Sigprocmask.{sigprocmask_of}
use Rattle.dt_signals.specs.Delivery.{delivery_of}
use Rattle.dt_signals.specs.declared.signals.Sig.{Sig}
use Rattle.dt_signals.specs.declared.delivery.Delivery.{Delivery}
use Rattle.dt_signals.specs.declared.delivery.Delivery.TheVariants as delivery
use Rattle.dt_space.specs.declared.access.Miss.{Miss}
use Rattle.dt_space.specs.Argument.{is_writable_or_null, with_bytes_unless_null}
use Rattle.dt_space.specs.Space.{PageView}
use Rattle.dt_space.specs.Write.{pages_after_store}
use Rattle.dt_virt.specs.Words.{start_bytes}
use Rattle.dt_tables.proofs.Maps.{at_insert}
use Rattle.dt_calls.specs.declared.container.Served.{Served}
use Rattle.dt_calls.specs.declared.container.Served.TheVariants.{Done, Child, LastChild, Blocked, Progress, Ended, Unsupported}
use Rattle.dt_calls.specs.declared.task.Task.{Task}
use Rattle.dt_calls.specs.declared.numbers.TheConstants.{RUSAGE_SIZE}
use Rattle.dt_calls.specs.Call.{exit_call, is_zero_call, is_missing_call, signal_call, identity_call, memory_call, call_of, effect_of_stop}
use Rattle.dt_calls.specs.Clone.{is_supported, clone_effect, clone_call, child_task}
use Rattle.dt_calls.specs.Container.{Shared, task_at, with_task, with_signals, tasks_after_raise}
use Rattle.dt_calls.specs.Delivery.{effect_after_delivery, with_delivered, with_delivery, task_after_delivery, takes_signals, call_state, forced_signal}
use Rattle.dt_calls.specs.Effect.{Effect, quiet_effect, done_effect, refused_effect, output_effect, effect_of_answer}
use Rattle.dt_calls.specs.Ends.{with_end, end_events, served_after_end}
use Rattle.dt_calls.specs.Execve.{execve_call, effect_of_program, with_exec}
use Rattle.dt_calls.specs.FileCalls.{arguments, scene_of, with_scene, row_of, task_after_row, effect_of_row, file_call}
use Rattle.dt_calls.specs.Identity.{getpid_call, getppid_call, set_robust_list_call, uname_call, done_with_pages, utsname}
use Rattle.dt_calls.specs.Kill.{is_below_one, is_unsupported_signal, has_member, kill_call, tkill_call, tgkill_call, send_effect_to}
use Rattle.dt_calls.specs.MemoryCalls.{effect_of_memory_call, brk_call, munmap_call, mmap_call, mprotect_call}
use Rattle.dt_calls.specs.LateCalls.{setitimer_call, getitimer_call, with_polling, events_of, effect_of_poll, ppoll_call, late_call}
use Rattle.dt_calls.specs.Settle.{next_after, effect_of_turn, turn_of_machine, machine_to_serve}
use Rattle.dt_calls.specs.SignalCalls.{AfterSigreturn, after_sigreturn, with_signals_of, effect_of_signal_call, sigaction_call, sigprocmask_call, sigreturn_call, effect_of_sigreturn}
use Rattle.dt_calls.specs.Timers.{tasks_after_timers, shared_after_timers, effect_after_timers}
use Rattle.dt_calls.specs.Wait.{is_group, which_child, status_bytes, usage_bytes, wait4_call, effect_of_reaped, reap_effect}
use Rattle.dt_calls.proofs.Delivering.{takes-lives}
use Rattle.dt_calls.specs.Sound.{LivesOn, IsLeftAfter}
use Rattle.dt_calls.proofs.Fired.{still-timers}
use Rattle.dt_calls.proofs.Tasks.{still-insert, still-raised, task-here}
use Rattle.dt_runlaws.specs.Few.{outputs, output_of, ShowsFew, HasFewProcesses, ProcessTurnsShowFew}
use Rattle.dt_runlaws.proofs.FewEnds.{live-put, live-raised, live-timers, end-few, end-kept, end-outputs, end-events}
use Rattle.dt_runlaws.proofs.FewMembers.{few-child, lives-beside, child-lives, few-reaped, lives-on}
use Rattle.dt_runlaws.proofs.FewFiles.{io-short}
use Rattle.dt_runlaws.proofs.FewNames.{name-short}
use Rattle.dt_runlaws.proofs.FewPaths.{file-short}
use Rattle.dt_runlaws.proofs.FewReplies as replies
use Rattle.dt_runlaws.proofs.FewReplies.{IsShort, Short}
use Rattle.dt_runlaws.proofs.FewSelf.{mmap-short, munmap-short, mprotect-short, sigaction-short, sigprocmask-short, setitimer-short, getitimer-short, ppoll-short}
use Rattle.dt_runlaws.proofs.FewTimes.{timed-short}

-- nothing shows
pub shows-none : ShowsFew []
shows-none = record { events = omega arith; output = omega arith; bytes = All-nil (λ (bytes : List ℕ). length bytes ≤ TRANSFER_LIMIT) }

-- one output shows
pub shows-output : (stream : ℕ) (bytes : List ℕ) → length bytes ≤ TRANSFER_LIMIT → ShowsFew (Out stream bytes ∷ [])
shows-output stream bytes few = record {
  events = omega arith;
  output = omega arith;
  bytes = All-cons (λ (bytes : List ℕ). length bytes ≤ TRANSFER_LIMIT) bytes [] few (All-nil (λ (bytes : List ℕ). length bytes ≤ TRANSFER_LIMIT));
}

-- the row of each call answers no more bytes than one call moves
row-short : (number : ℕ) (args : List ℕ) (s : Scene) → Short (row_of number args s)
unfolding row_of
row-short number args s =
    replies.either (is_io number) _ _ (io-short number args s) (replies.either (is_naming number) _ _ (name-short number args s)
    (replies.either (is_time_call number) _ _ (timed-short number args s) (file-short number args s)))

-- where p's stop is served, that had a task among few processes, and next is the pid of a child
module _ (next p : ℕ) (c : Shared) (start : HasFewProcesses c next) (here : IsSome (get c.tasks p)) where
  -- what is shared has few processes still, and each that had a task has one
  pub record Sees (d : Shared) : Type 0 where
    pub few : HasFewProcesses d next
    pub kept : (q : ℕ) → IsSome (get c.tasks q) → IsSome (get d.tasks q)

  -- an effect shows little and leaves few processes; where a signal may be delivered after it at most one event shows
  pub record Comes (r : Effect) : Type 0 where
    pub shown : ShowsFew r.events
    pub few : HasFewProcesses r.shared (next_after next r.child)
    pub kept : (q : ℕ) → LivesOn p r.served q → IsSome (get c.tasks q) → IsSome (get r.shared.tasks q)
    pub child : IfSome r.child (λ _. LivesOn p r.served next → IsSome (get r.shared.tasks next))
    pub going : takes_signals r.served ≡ true → length r.events ≤ 1

  pub same : Sees c
  same = record { few = start; kept = λ q some. some }

  pub either : (b : Bool) (x y : Effect) → Comes x → Comes y → Comes (cond b x y)
  either true x y first second = first
  either false x y first second = second

  -- another task for the process
  pub sees-task : (d : Shared) (t : Task) → Sees d → Sees (with_task d p t)
  sees-task d t sees = record {
    few = record { members = sees.few.members; lives = live-put d.tasks d.members p t sees.few.lives (sees.few.lives p (sees.kept p here)) };
    kept = λ q some. still-insert d.tasks p t q (sees.kept q some);
  }

  -- a signal that is pending at one
  pub sees-raised : (d : Shared) (q signal : ℕ) → Sees d → Sees (record d { tasks = tasks_after_raise q signal d.tasks })
  sees-raised d q signal sees = record {
    few = record { members = sees.few.members; lives = live-raised d.tasks d.members q signal sees.few.lives };
    kept = λ other some. still-raised q signal d.tasks other (sees.kept other some);
  }

  -- files, pipes, time and random bytes have no part in it
  pub sees-scene : (d : Shared) (s : Scene) → Sees d → Sees (with_scene d s)
  sees-scene d s sees = record { few = record { members = sees.few.members; lives = sees.few.lives }; kept = sees.kept }

  -- one that was found to have ended is reaped
  pub sees-reaped : (which : Option ℕ) (v : ℕ) (end : End) → look_for c.members p which ≡ Got v end → Sees (record c { members = without_member c.members v })
  sees-reaped which v end found = record {
    few = record {
      members = few-reaped c.members next v start.members;
      lives = λ q some. lives-on c.members p v q which end start.members.rising found (start.lives q some);
    };
    kept = λ q some. some;
  }

  pub quiet : (d : Shared) (m : Machine) (served : Served) → Sees d → Comes (quiet_effect d m served)
  quiet d m served sees = record {
    shown = shows-none;
    few = sees.few;
    kept = λ q lives some. sees.kept q some;
    child = tt;
    going = λ is. omega arith;
  }

  pub output : (d : Shared) (m : Machine) (stream : ℕ) (bytes : List ℕ) → Sees d → length bytes ≤ TRANSFER_LIMIT → Comes (output_effect d m stream bytes)
  output d m stream bytes sees short = record {
    shown = shows-output stream bytes short;
    few = sees.few;
    kept = λ q lives some. sees.kept q some;
    child = tt;
    going = λ is. omega arith;
  }

  pub by_answer : (d : Shared) (m : Machine) (number : ℕ) (a : Answer) → Sees d → IsShort a → Comes (effect_of_answer d m number a)
  by_answer d m number (answer.Value value) sees short = quiet d _ _ sees
  by_answer d m number (answer.Refused errno) sees short = quiet d _ _ sees
  by_answer d m number (answer.Output stream bytes) sees short = output d m stream bytes sees short
  by_answer d m number answer.Waits sees short = quiet d _ _ sees
  by_answer d m number (answer.Part moved) sees short = quiet d _ _ sees
  by_answer d m number (answer.Pipe (Ok moved)) sees short = quiet d _ _ sees
  by_answer d m number (answer.Pipe (Err errno)) sees short = quiet d _ _ sees
  by_answer d m number answer.Unsupported sees short = quiet d _ _ sees

  -- a child is made, where there is room for it
  pub born : (m : Machine) → is_full c.members ≡ false → Comes (clone_effect c next p m)
  born m room = record {
    shown = shows-none;
    few = record {
      members = few-child c.members next p room start.members;
      lives = λ q. at_insert nat_cmp_total nat_cmp-IsAntisymmetric (λ found. IsSome found → has_live (with_child c.members next p) q ≡ true)
          c.tasks next (child_task (task_at c p) next) q
          (λ is some. ap (has_live (with_child c.members next p)) is ∙ child-lives c.members next p)
          (λ apart some. lives-beside c.members next p q (start.lives q some));
    };
    kept = λ q lives some. still-insert c.tasks next (child_task (task_at c p) next) q some;
    child = λ lives. task-here c.tasks next (child_task (task_at c p) next);
    going = λ is. omega arith;
  }

  no_more : (served : Served) → takes_signals (served_after_end served) ≡ false
  no_more Done = refl
  no_more (Child v) = refl
  no_more (LastChild v) = refl
  no_more Blocked = refl
  no_more Progress = refl
  no_more Ended = refl
  no_more (Unsupported number) = refl

  left : (served : Served) (q : ℕ) → LivesOn p (served_after_end served) q → IsLeftAfter p q
  left Done q lives = lives
  left (Child v) q lives = lives
  left (LastChild v) q lives = lives
  left Blocked q lives = lives
  left Progress q lives = lives
  left Ended q lives = lives
  left (Unsupported number) q lives = lives

  -- a process ends that has shown one event at most, and all lived on before
  pub ended : (end : End) (r : Effect) → Comes r → length r.events ≤ 1 → ((q : ℕ) → LivesOn p r.served q) → Comes (with_end p end r)
  ended end r comes one lives = record {
    shown = record {
      events = omega (arith, length-append r.events (end_events p end r.shared), end-events p (next_after next r.child) end r.shared comes.few task);
      output = subst (λ found. length found ≤ 1) (sym shows) comes.shown.output;
      bytes = subst (All (λ bytes. length bytes ≤ TRANSFER_LIMIT)) (sym shows) comes.shown.bytes;
    };
    few = end-few (next_after next r.child) p end r.shared comes.few;
    kept = λ q lives_on some. let l = left r.served q lives_on in end-kept p q end r.shared l.first l.apart (comes.kept q (lives q) some);
    child = by_child r.child comes.child;
    going = λ is. absurd (let no = sym (no_more r.served) ∙ is in cc);
  }
    where
      task : IsSome (get r.shared.tasks p)
      task = comes.kept p (lives p) here

      shows : outputs (r.events ++ end_events p end r.shared) ≡ outputs r.events
      shows = filter_map-append output_of r.events (end_events p end r.shared) ∙ ap (λ found. outputs r.events ++ found) (end-outputs p end r.shared) ∙ append-nil (outputs r.events)

      by_child : (child : Option Machine) → IfSome child (λ _. LivesOn p r.served next → IsSome (get r.shared.tasks next)) → (let e = with_end p end r in IfSome child (λ _. LivesOn p e.served next → IsSome (get e.shared.tasks next)))
      by_child None had = tt
      by_child (Some m) had = λ lives_on. let l = left r.served next lives_on in end-kept p next end r.shared l.first l.apart (had (lives next))

  done : (m : Machine) (value : ℕ) → Comes (done_effect c m value)
  done m value = quiet c _ Done same

  refused : (m : Machine) (errno : Errno) → Comes (refused_effect c m errno)
  refused m errno = quiet c _ Done same

  unsupported : (m : Machine) (number : ℕ) → Comes (quiet_effect c m (Unsupported number))
  unsupported m number = quiet c m (Unsupported number) same

  by_row : (m : Machine) (number : ℕ) (r : Reply) → Short r → Comes (effect_of_row c p m number r)
  by_row m number r short =
      by_answer (with_task (with_scene c r.next) p (task_after_row (task_at c p) r)) (record m { space = r.next.space }) number r.answer
      (sees-task (with_scene c r.next) (task_after_row (task_at c p) r) (sees-scene c r.next same)) short.short

  file : (number : ℕ) (m : Machine) → Comes (file_call number c p m)
  unfolding file_call
  file number m = by_row m number (row_of number (arguments m) (scene_of c p m)) (row-short number (arguments m) (scene_of c p m))

  send : (m : Machine) (pid signal : ℕ) → Comes (send_effect_to c m pid signal)
  send m pid signal =
      either (nat_lt abi.SIGNAL_LIMIT signal) _ _ (refused m errno.Inval) (either (not (has_member c pid)) _ _ (refused m errno.Srch)
      (either (signal == 0) _ _ (done m 0) (quiet (record c { tasks = tasks_after_raise pid signal c.tasks }) _ Done (sees-raised c pid signal same))))

  kill : (m : Machine) → Comes (kill_call c m)
  unfolding kill_call
  kill m =
      let pid = low_word (register m A0) in
      let signal = low_word (register m A1) in
      either (is_below_one pid || is_unsupported_signal signal) _ _ (unsupported m abi.KILL) (send m pid signal)

  tkill : (m : Machine) → Comes (tkill_call c m)
  unfolding tkill_call
  tkill m =
      let tid = low_word (register m A0) in
      let signal = low_word (register m A1) in
      either (is_unsupported_signal signal) _ _ (unsupported m abi.TKILL) (either (is_below_one tid) _ _ (refused m errno.Inval) (send m tid signal))

  tgkill : (m : Machine) → Comes (tgkill_call c m)
  unfolding tgkill_call
  tgkill m =
      let tgid = low_word (register m A0) in
      let tid = low_word (register m A1) in
      let signal = low_word (register m A2) in
      either (is_unsupported_signal signal) _ _ (unsupported m abi.TGKILL)
      (either (is_below_one tgid || is_below_one tid || nat_lt abi.SIGNAL_LIMIT signal) _ _ (refused m errno.Inval)
      (either (not (tgid == tid)) _ _ (refused m errno.Srch) (send m tid signal)))

  sees-signals : (g : Sig) → Sees (with_signals_of c p g)
  sees-signals g = sees-task c (with_signals (task_at c p) g) same

  handled : (m : Machine) (number : ℕ) (r : SignalCallResult) → IsShort r.answer → Comes (effect_of_signal_call c p m number r)
  handled m number r short = by_answer (with_signals_of c p r.signals) (record m { space = r.pages }) number r.answer (sees-signals r.signals) short

  sigaction : (m : Machine) → Comes (sigaction_call c p m)
  unfolding sigaction_call
  sigaction m =
      let short = sigaction-short (task_at c p).signals m.space (register m A0) (register m A1) (register m A2) (register m A3) in
      handled m abi.RT_SIGACTION (sigaction_of (task_at c p).signals m.space (register m A0) (register m A1) (register m A2) (register m A3)) short.short

  sigprocmask : (m : Machine) → Comes (sigprocmask_call c p m)
  unfolding sigprocmask_call
  sigprocmask m =
      let short = sigprocmask-short (task_at c p).signals m.space (register m A0) (register m A1) (register m A2) (register m A3) in
      handled m abi.RT_SIGPROCMASK (sigprocmask_of (task_at c p).signals m.space (register m A0) (register m A1) (register m A2) (register m A3)) short.short

  returned : (b : AfterSigreturn) → Comes (effect_of_sigreturn c p b)
  returned b = by_read b.is_read
    where
      by_read : (is_read : Bool) → (let r = quiet_effect (with_signals_of c p b.signals) b.machine Done in Comes (cond is_read r (with_end p (Signal abi.SIGSEGV) r)))
      by_read true = quiet (with_signals_of c p b.signals) b.machine Done (sees-signals b.signals)
      by_read false =
          ended (Signal abi.SIGSEGV) (quiet_effect (with_signals_of c p b.signals) b.machine Done)
          (quiet (with_signals_of c p b.signals) b.machine Done (sees-signals b.signals)) (omega arith) (λ q. tt)

  sigreturn : (m : Machine) → Comes (sigreturn_call c p m)
  unfolding sigreturn_call
  sigreturn m = returned (after_sigreturn (task_at c p).signals m)

  setitimer : (m : Machine) → Comes (setitimer_call c p m)
  unfolding setitimer_call
  setitimer m =
      let short = setitimer-short (task_at c p).signals m.space c.clock (register m A0) (register m A1) (register m A2) in
      handled m late.SETITIMER (setitimer_of (task_at c p).signals m.space c.clock (register m A0) (register m A1) (register m A2)) short.short

  getitimer : (m : Machine) → Comes (getitimer_call c p m)
  unfolding getitimer_call
  getitimer m =
      let short = getitimer-short (task_at c p).signals m.space c.clock (register m A0) (register m A1) in
      handled m late.GETITIMER (getitimer_of (task_at c p).signals m.space c.clock (register m A0) (register m A1)) short.short

  polled : (m : Machine) (r : PollResult) → IsShort r.answer → Comes (effect_of_poll c p m r)
  polled m r short =
      let t = with_polling (task_at c p) r.polling in
      by_answer (with_task c p t) (record m { space = r.pages }) late.PPOLL r.answer (sees-task c t same) short

  ppoll : (m : Machine) → Comes (ppoll_call c p m)
  unfolding ppoll_call
  ppoll m =
      let short = ppoll-short (events_of c p) c.clock (task_at c p).polling m.space (arguments m) in
      polled m (ppoll_of (events_of c p) c.clock (task_at c p).polling m.space (arguments m)) short.short

  later : (number : ℕ) (m : Machine) → Comes (late_call number c p m)
  unfolding late_call
  later number m =
      either (number == late.SETITIMER) _ _ (setitimer m) (either (number == late.GETITIMER) _ _ (getitimer m)
      (either (number == late.PPOLL) _ _ (ppoll m) (file number m)))

  signal : (number : ℕ) (m : Machine) → Comes (signal_call number c p m)
  unfolding signal_call
  signal number m =
      either (number == abi.KILL) _ _ (kill m) (either (number == abi.TKILL) _ _ (tkill m) (either (number == abi.TGKILL) _ _ (tgkill m)
      (either (number == abi.RT_SIGACTION) _ _ (sigaction m) (either (number == abi.RT_SIGPROCMASK) _ _ (sigprocmask m)
      (either (number == abi.RT_SIGRETURN) _ _ (sigreturn m) (later number m))))))

  robust_list : (m : Machine) → Comes (set_robust_list_call c m)
  unfolding set_robust_list_call
  robust_list m = either (register m A1 == abi.ROBUST_LIST_SIZE) _ _ (done m 0) (refused m errno.Inval)

  filled : (m : Machine) (r : Result (List PageView) Miss) → Comes (done_with_pages c m r)
  filled m (Err miss) = refused m errno.Fault
  filled m (Ok pages) = done (record m { space = pages }) 0

  uname : (m : Machine) → Comes (uname_call c m)
  unfolding uname_call
  uname m = filled m (pages_after_store m.space (register m A0) utsname)

  getpid : (m : Machine) → Comes (getpid_call c p m)
  unfolding getpid_call
  getpid m = done m p

  getppid : (m : Machine) → Comes (getppid_call c p m)
  unfolding getppid_call
  getppid m = quiet c _ Done same

  identity : (number : ℕ) (m : Machine) → Comes (identity_call number c p m)
  unfolding identity_call
  identity number m =
      either ((number == abi.GETPID) || (number == abi.GETTID) || (number == abi.SET_TID_ADDRESS)) _ _ (getpid m)
      (either (number == abi.GETPPID) _ _ (getppid m) (either (number == abi.SET_ROBUST_LIST) _ _ (robust_list m)
      (either (number == abi.UNAME) _ _ (uname m) (either (is_zero_call number) _ _ (done m 0)
      (either (is_missing_call number) _ _ (refused m errno.NoSys) (signal number m))))))

  paged : (m : Machine) (number : ℕ) (r : MemoryCallResult) → IsShort r.answer → Comes (effect_of_memory_call c m number r)
  paged m number r short = by_answer c (record m { space = r.pages }) number r.answer same short

  brk : (m : Machine) → Comes (brk_call c p m)
  unfolding brk_call
  brk m = quiet _ _ Done (sees-task c _ same)

  munmap : (m : Machine) → Comes (munmap_call c m)
  unfolding munmap_call
  munmap m =
      let short = munmap-short m.space (register m A0) (register m A1) in
      paged m abi.MUNMAP (munmap_of m.space (register m A0) (register m A1)) short.short

  mmap : (m : Machine) → Comes (mmap_call c m)
  unfolding mmap_call
  mmap m =
      let short = mmap-short m.space (register m A0) (register m A1) (register m A2) (register m A3) in
      paged m abi.MMAP (mmap_of m.space (register m A0) (register m A1) (register m A2) (register m A3)) short.short

  mprotect : (m : Machine) → Comes (mprotect_call c m)
  unfolding mprotect_call
  mprotect m =
      let short = mprotect-short m.space (register m A0) (register m A1) (register m A2) in
      paged m abi.MPROTECT (mprotect_of m.space (register m A0) (register m A1) (register m A2)) short.short

  memory : (number : ℕ) (m : Machine) → Comes (memory_call number c p m)
  unfolding memory_call
  memory number m =
      either (number == abi.BRK) _ _ (brk m) (either (number == abi.MUNMAP) _ _ (munmap m) (either (number == abi.MMAP) _ _ (mmap m)
      (either (number == abi.MPROTECT) _ _ (mprotect m) (identity number m))))

  exit : (m : Machine) → Comes (exit_call c p m)
  unfolding exit_call
  exit m = ended (Code (exit_code (register m A0))) (quiet_effect c m Done) (quiet c m Done same) (omega arith) (λ q. tt)

  clone : (m : Machine) → Comes (clone_call c next p m)
  unfolding clone_call
  clone m = either (not (is_supported (register m A0))) _ _ (unsupported m abi.CLONE) (by_room (is_full c.members) refl)
    where
      by_room : (b : Bool) → is_full c.members ≡ b → Comes (cond b (refused_effect c m errno.Again) (clone_effect c next p m))
      by_room true is = refused m errno.Again
      by_room false is = born m is

  by_program : (m : Machine) (r : Result Program Errno) → Comes (effect_of_program c p m r)
  by_program m (Err errno) = refused m errno
  by_program m (Ok program) = quiet (with_exec c p program.break_start) program.machine Done
      (record { few = record { members = start.members; lives = live-put c.tasks c.members p _ start.lives (start.lives p here) }; kept = λ q some. still-insert c.tasks p _ q some })

  execve : (m : Machine) → Comes (execve_call c p m)
  unfolding execve_call
  execve m = by_program m (execve_program c.tree.shape (task_at c p).caller.cwd m.space
      (register m A0) (register m A1) (register m A2) (start_bytes c.rand) (has_atomics c.tree.version))

  reap : (m : Machine) (status usage v : ℕ) (end : End) → Sees (record c { members = without_member c.members v }) → Comes (reap_effect c m status usage v end)
  reap m status usage v end sees = by_both (is_writable_or_null m.space status 4 && is_writable_or_null m.space usage RUSAGE_SIZE)
    where
      by_both : (both : Bool) → (let done = done_effect (record c { members = without_member c.members v }) (record m { space = with_bytes_unless_null (with_bytes_unless_null m.space status (status_bytes end)) usage usage_bytes }) v in Comes (cond both done (refused_effect c m errno.Fault)))
      by_both true = quiet (record c { members = without_member c.members v }) _ Done sees
      by_both false = refused m errno.Fault

  reaped : (m : Machine) (which : Option ℕ) (r : Reaped) → look_for c.members p which ≡ r → Comes (effect_of_reaped c m r)
  reaped m which (Got v end) is = reap m (register m A1) (register m A3) v end (sees-reaped which v end is)
  reaped m which NoneReady is = either (has_flag (low_word (register m A2)) abi.WNOHANG) _ _ (done m 0) (quiet c m Blocked same)
  reaped m which NoChild is = refused m errno.Child

  wait : (m : Machine) → Comes (wait4_call c p m)
  unfolding wait4_call
  wait m =
      either (is_group (low_word (register m A0))) _ _ (unsupported m abi.WAIT4)
      (either (not (has_only (low_word (register m A2)) abi.WAIT_OPTIONS)) _ _ (refused m errno.Inval)
      (reaped m (which_child (low_word (register m A0))) (look_for c.members p (which_child (low_word (register m A0)))) refl))

  call : (number : ℕ) (m : Machine) → Comes (call_of number c next p m)
  unfolding call_of
  call number m =
      either ((number == abi.EXIT) || (number == abi.EXIT_GROUP)) _ _ (exit m) (either (number == abi.CLONE) _ _ (clone m)
      (either (number == abi.EXECVE) _ _ (execve m) (either (number == abi.WAIT4) _ _ (wait m) (memory number m))))

  stopped : (m : Machine) (stop : Stop) → Comes (effect_of_stop c next p m stop)
  unfolding effect_of_stop
  stopped m Call = call (register m A7) m
  stopped m (Counter rd) = quiet _ _ Done (record { few = record { members = start.members; lives = start.lives }; kept = λ q some. some })
  stopped m (Fault signal) = quiet c m Done same
  stopped m Slice = quiet c m Done same

  lived : (child : Option Machine) (d : Shared) (served other : Served) → LivesOn p served next → IfSome child (λ _. LivesOn p served next → IsSome (get d.tasks next)) → IfSome child (λ _. LivesOn p other next → IsSome (get d.tasks next))
  lived None d served other lives had = tt
  lived (Some m) d served other lives had = λ _. had lives

  delivered_as : (r : Effect) (d : Delivery) → Comes r → length r.events ≤ 1 → ((q : ℕ) → LivesOn p r.served q) → Comes (with_delivery p r d)
  delivered_as r delivery.Nothing comes one lives = comes
  delivered_as r delivery.Handler comes one lives = record {
    shown = comes.shown;
    few = comes.few;
    kept = λ q _ some. comes.kept q (lives q) some;
    child = lived r.child r.shared r.served _ (lives next) comes.child;
    going = λ _. one;
  }
  delivered_as r (delivery.Ends signal) comes one lives = ended (Signal signal) r comes one lives

  -- another task for the process, and another machine
  changed : (r : Effect) (t : Task) (m : Machine) → Comes r → ((q : ℕ) → LivesOn p r.served q) → Comes (record r { shared = with_task r.shared p t; machine = m })
  changed r t m comes lives = record {
    shown = comes.shown;
    few = record {
      members = comes.few.members;
      lives = live-put r.shared.tasks r.shared.members p t comes.few.lives (comes.few.lives p (comes.kept p (lives p) here));
    };
    kept = λ q lives_on some. still-insert r.shared.tasks p t q (comes.kept q lives_on some);
    child = by_child r.child comes.child;
    going = comes.going;
  }
    where
      by_child : (child : Option Machine) → IfSome child (λ _. LivesOn p r.served next → IsSome (get r.shared.tasks next)) → IfSome child (λ _. LivesOn p r.served next → IsSome (get (insert r.shared.tasks p t) next))
      by_child None had = tt
      by_child (Some child) had = λ lives_on. still-insert r.shared.tasks p t next (had lives_on)

  -- timers that fire
  pub fired : (r : Effect) → Comes r → Comes (effect_after_timers r)
  unfolding shared_after_timers
  fired r comes = record {
    shown = comes.shown;
    few = record {
      members = comes.few.members;
      lives = live-timers r.shared.clock (vpids_of r.shared.members) r.shared.tasks r.shared.members comes.few.lives;
    };
    kept = λ q lives some. still-timers r.shared.clock (vpids_of r.shared.members) r.shared.tasks q (comes.kept q lives some);
    child = by_child r.child comes.child;
    going = comes.going;
  }
    where
      by_child : (child : Option Machine) → IfSome child (λ _. LivesOn p r.served next → IsSome (get r.shared.tasks next))
          → IfSome child (λ _. LivesOn p r.served next → IsSome (get (tasks_after_timers r.shared.clock (vpids_of r.shared.members) r.shared.tasks) next))
      by_child None had = tt
      by_child (Some child) had = λ lives. still-timers r.shared.clock (vpids_of r.shared.members) r.shared.tasks next (had lives)

  delivered : (forced : Option ℕ) (r : Effect) → Comes r → Comes (effect_after_delivery forced p r)
  unfolding effect_after_delivery
  delivered forced r comes = by_takes (takes_signals r.served) refl
    where
      by_takes : (b : Bool) → takes_signals r.served ≡ b → (let t = task_at r.shared p in Comes (cond b (with_delivered p r (delivery_of forced (call_state t r.served) t.signals r.machine)) r))
      by_takes true is =
          let t = task_at r.shared p in
          let d = delivery_of forced (call_state t r.served) t.signals r.machine in
          let lives = λ (q : ℕ). takes-lives p r.served q is in
          let after = task_after_delivery d.delivery (with_signals t d.signals) in
          delivered_as (record r { shared = with_task r.shared p after; machine = d.machine }) d.delivery (changed r after d.machine comes lives) (comes.going is) lives
      by_takes false is = comes

  -- what a turn comes to
  pub turned : (m : Machine) (stop : Stop) → Comes (effect_of_turn c next p m stop)
  turned m stop =
      let served = machine_to_serve stop m in
      delivered (forced_signal stop) (effect_after_timers (effect_of_stop c next p served stop))
      (fired (effect_of_stop c next p served stop) (stopped served stop))

pub turns-show-few : ProcessTurnsShowFew
unfolding turn_of_machine
turns-show-few c next p stop m few here = let comes = turned next p c few here m stop in record { shown = comes.shown; processes = comes.few }
