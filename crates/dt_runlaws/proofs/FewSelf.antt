-- No call on a process's memory, signals or timer, and no ppoll(2), answers bytes that go out.
use Rattle.std.proofs.Common.{ℕ, List, Bool, true, false, cond}
use Rattle.std.specs.Prelude.{Option, None, Some, Result, Ok, Err}
use Rattle.dt_mcalls.specs.Called.{MemoryCallResult}
use Rattle.dt_mcalls.specs.Mmap.{mmap_at_free, mmap_fixed, mmap_by_gap, mmap_anywhere, mmap_of}
use Rattle.dt_mcalls.specs.Munmap.{munmap_of}
use Rattle.dt_mcalls.specs.Mprotect.{mprotect_of}
use Rattle.dt_late.specs.declared.itimer.Itimerval.{Itimerval}
use Rattle.dt_late.specs.declared.poll.Polling.{Polling}
use Rattle.dt_late.specs.Itimer.{setitimer_by_new, setitimer_of, getitimer_of}
use Rattle.dt_late.specs.Poll.{PollResult, poll_by_entries, poll_by_timeout, ppoll_of}
use Rattle.dt_sigcalls.specs.Called.{SignalCallResult, signal_call_by_store}
use Rattle.dt_sigcalls.specs.Sigaction.{sigaction_of, sigaction_by_new}
use Rattle.dt_sigcalls.specs.Sigprocmask.{sigprocmask_of, sigprocmask_by_set}
use Rattle.dt_base.specs.declared.errno.Errno.{Errno}
use Rattle.dt_signals.specs.declared.action.Action.{Action}
use Rattle.dt_signals.specs.declared.signals.Sig.{Sig}
use Rattle.dt_space.specs.declared.access.Miss.{Miss}
use Rattle.dt_space.specs.Space.{PageView}
use Rattle.dt_runlaws.proofs.FewReplies.{IsShort}

-- the answer of a call on memory is short
pub record PagesShort (r : MemoryCallResult) : Type 0 where
  pub short : IsShort r.answer

either_pages : (b : Bool) (x y : MemoryCallResult) → PagesShort x → PagesShort y → PagesShort (cond b x y)
either_pages true x y first second = first
either_pages false x y first second = second

free-short : (pages : List PageView) (first count rights : ℕ) → PagesShort (mmap_at_free pages first count rights)
unfolding mmap_at_free
free-short pages first count rights = search either_pages

fixed-short : (pages : List PageView) (address count rights : ℕ) → PagesShort (mmap_fixed pages address count rights)
unfolding mmap_fixed
fixed-short pages address count rights = search either_pages

gap-short : (pages : List PageView) (gap : Option ℕ) (count rights : ℕ) → PagesShort (mmap_by_gap pages gap count rights)
gap-short pages None count rights = record { short = tt }
gap-short pages (Some first) count rights = free-short pages first count rights

anywhere-short : (pages : List PageView) (count rights : ℕ) → PagesShort (mmap_anywhere pages count rights)
unfolding mmap_anywhere
anywhere-short pages count rights = search gap-short

pub mmap-short : (pages : List PageView) (address len prot flags : ℕ) → PagesShort (mmap_of pages address len prot flags)
unfolding mmap_of
mmap-short pages address len prot flags = search (either_pages, fixed-short, anywhere-short)

pub munmap-short : (pages : List PageView) (address len : ℕ) → PagesShort (munmap_of pages address len)
unfolding munmap_of
munmap-short pages address len = search either_pages

pub mprotect-short : (pages : List PageView) (address len prot : ℕ) → PagesShort (mprotect_of pages address len prot)
unfolding mprotect_of
mprotect-short pages address len prot = search either_pages

-- the answer of a call on signals is short
pub record SignalsShort (r : SignalCallResult) : Type 0 where
  pub short : IsShort r.answer

either_signals : (b : Bool) (x y : SignalCallResult) → SignalsShort x → SignalsShort y → SignalsShort (cond b x y)
either_signals true x y first second = first
either_signals false x y first second = second

store-short : (g : Sig) (pages : List PageView) (next : Sig) (told : Result (List PageView) Miss) → SignalsShort (signal_call_by_store g pages next told)
store-short g pages next (Err miss) = record { short = tt }
store-short g pages next (Ok told) = record { short = tt }

new-short : (g : Sig) (pages : List PageView) (signal old : ℕ) (action : Result (Option Action) Miss) → SignalsShort (sigaction_by_new g pages signal old action)
new-short g pages signal old (Err miss) = record { short = tt }
new-short g pages signal old (Ok action) = search store-short

pub sigaction-short : (g : Sig) (pages : List PageView) (number act old size : ℕ) → SignalsShort (sigaction_of g pages number act old size)
unfolding sigaction_of
sigaction-short g pages number act old size = search (either_signals, new-short)

set-short : (g : Sig) (pages : List PageView) (how old : ℕ) (set : Result (Option ℕ) Miss) → SignalsShort (sigprocmask_by_set g pages how old set)
set-short g pages how old (Err miss) = record { short = tt }
set-short g pages how old (Ok None) = search store-short
set-short g pages how old (Ok (Some set)) = search (either_signals, store-short)

pub sigprocmask-short : (g : Sig) (pages : List PageView) (how set old size : ℕ) → SignalsShort (sigprocmask_of g pages how set old size)
unfolding sigprocmask_of
sigprocmask-short g pages how set old size = search (either_signals, set-short)

timer-short : (g : Sig) (pages : List PageView) (ticks old : ℕ) (new : Result Itimerval Errno) → SignalsShort (setitimer_by_new g pages ticks old new)
timer-short g pages ticks old (Err errno) = record { short = tt }
timer-short g pages ticks old (Ok new) = search either_signals

pub setitimer-short : (g : Sig) (pages : List PageView) (ticks which new old : ℕ) → SignalsShort (setitimer_of g pages ticks which new old)
unfolding setitimer_of
setitimer-short g pages ticks which new old = search (either_signals, timer-short)

pub getitimer-short : (g : Sig) (pages : List PageView) (ticks which buffer : ℕ) → SignalsShort (getitimer_of g pages ticks which buffer)
unfolding getitimer_of
getitimer-short g pages ticks which buffer = search either_signals depth 8

-- the answer of a try of ppoll(2) is short
pub record PollShort (r : PollResult) : Type 0 where
  pub short : IsShort r.answer

either_poll : (b : Bool) (x y : PollResult) → PollShort x → PollShort y → PollShort (cond b x y)
either_poll true x y first second = first
either_poll false x y first second = second

entries-short : (found : ℕ → ℕ → ℕ) (ticks : ℕ) (pages : List PageView) (address count : ℕ) (due : Option ℕ) (entries : Result (List ℕ) Errno)
    → PollShort (poll_by_entries found ticks pages address count due entries)
entries-short found ticks pages address count due (Err errno) = record { short = tt }
entries-short found ticks pages address count due (Ok entries) = search either_poll

timeout-short : (found : ℕ → ℕ → ℕ) (ticks : ℕ) (polling : Polling) (pages : List PageView) (address count : ℕ) (timeout : Result (Option ℕ) Errno)
    → PollShort (poll_by_timeout found ticks polling pages address count timeout)
timeout-short found ticks polling pages address count (Err errno) = record { short = tt }
timeout-short found ticks polling pages address count (Ok timeout) = entries-short found ticks pages address count _ _

pub ppoll-short : (found : ℕ → ℕ → ℕ) (ticks : ℕ) (polling : Polling) (pages : List PageView) (args : List ℕ) → PollShort (ppoll_of found ticks polling pages args)
unfolding ppoll_of
ppoll-short found ticks polling pages args = search (either_poll, timeout-short)
