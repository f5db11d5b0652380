-- A call on a process's own signals, its timer or its descriptors, once its answer is given.
use Rattle.std.proofs.Common.{◌≡◌, ℕ, List, refl, sym, ap, subst, ◌∙◌}
use Rattle.std.specs.Prelude.{IsSome, IfOk, OnOk, Result, Ok, Err}
use Rattle.std.specs.FinMap.{get, insert}
use Rattle.dt_base.specs.declared.answer.Answer.{Answer}
use Rattle.dt_base.specs.declared.memory.NoMemory.{NoMemory}
use Rattle.dt_host.specs.World.{World}
use Rattle.dt_late.specs.declared.numbers.TheConstants.{PPOLL}
use Rattle.dt_late.specs.declared.poll.Polling.{Polling}
use Rattle.dt_late.specs.Poll.{PollResult, poll_result}
use Rattle.dt_rv64.specs.declared.machine.Machine.{Machine}
use Rattle.dt_signals.specs.Called.{SignalCallResult}
use Rattle.dt_space.specs.Space.{PageView}
use Rattle.dt_calls.specs.declared.call.effect.Effect.{Effect as EffectInCode}
use Rattle.dt_calls.specs.declared.shared.Shared.{Shared as SharedInCode}
use Rattle.dt_calls.specs.declared.task.Task.{Task}
use Rattle.dt_calls.specs.Container.{Shared, Tasks, task_in}
use Rattle.dt_calls.specs.Effect.{effect_of_answer}
use Rattle.dt_calls.specs.InCode.{CalledAt, PolledAt, effect_as}
use Rattle.dt_calls.specs.LateCalls.{with_polling, effect_of_poll}
use Rattle.dt_calls.specs.SignalCalls.{effect_of_signal_call}
use Rattle.dt_calls.specs.Sound.{IsSound, KeepsSound, ChangesTasks}
use Rattle.dt_calls.proofs.Tasks.{some-task, keeps-task}

-- what it did is what the definition says, once its answer is given
pub called-served : (r : SignalCallResult) (c : Shared) (p : ℕ) (m mid new : Machine) (number : ℕ) (after : Tasks) (given : Answer) (result : Result EffectInCode NoMemory)
    → CalledAt r p c.tasks after m mid given
    → IfOk result (λ e. effect_of_answer (record c { tasks = after }) mid number given ≡ effect_as (record c { tasks = after }) new e)
    → IfOk result (λ e. effect_of_signal_call c p m number r ≡ effect_as (record c { tasks = after }) new e)
called-served r c p m mid new number after given (Ok e) d is =
    (λ i. effect_of_answer (record c { tasks = sym d.tasks i }) (sym d.machine i) number (sym d.answer i)) ∙ is
called-served r c p m mid new number after given (Err x) d is = is

-- what it left is as it was left, once its answer is given
pub called-kept : {P : Type 0} → (result : Result EffectInCode NoMemory) → P → OnOk result P
called-kept (Ok e) is = is
called-kept (Err x) is = tt

-- likewise a try of ppoll(2)
pub polled-served : (r : PollResult) (c : Shared) (p : ℕ) (m mid new : Machine) (after : Tasks) (given : Answer) (result : Result EffectInCode NoMemory)
    → PolledAt r p c.tasks after m mid given
    → IfOk result (λ e. effect_of_answer (record c { tasks = after }) mid PPOLL given ≡ effect_as (record c { tasks = after }) new e)
    → IfOk result (λ e. effect_of_poll c p m r ≡ effect_as (record c { tasks = after }) new e)
polled-served r c p m mid new after given (Ok e) d is =
    (λ i. effect_of_answer (record c { tasks = sym d.tasks i }) (sym d.machine i) PPOLL (sym d.answer i)) ∙ is
polled-served r c p m mid new after given (Err x) d is = is

-- and as the code has it in hand
pub polled-at : (r : PollResult) (p n : ℕ) (tasks : Tasks) (own : Task) (m : Machine) (pages : List PageView) (polling : Polling) (result : Result Answer NoMemory)
    → task_in tasks p ≡ own → n ≡ p → IfOk result (λ answer. r ≡ poll_result pages polling answer)
    → IfOk result (PolledAt r p tasks (insert tasks n (with_polling own polling)) m (record m { space = pages }))
polled-at r p n tasks own m pages polling (Ok answer) own_is number called = record {
  tasks = (λ i. insert tasks (number i) (with_polling (sym own_is i) (let x = sym called i in x.polling)));
  machine = (λ i. record m { space = (let x = sym called i in x.pages) });
  answer = ap (λ (x : PollResult). x.answer) (sym called);
}
polled-at r p n tasks own m pages polling (Err x) own_is number called = tt

-- it changes what is known of the call alone
pub changes-polled : (c : SharedInCode) (tasks : Tasks) (p : ℕ) → IsSome (get c.tasks p)
    → ((w : World) → IsSound c w → (polling : Polling) × (tasks ≡ insert c.tasks p (with_polling (task_in c.tasks p) polling)))
    → ChangesTasks c (record c { tasks = tasks })
changes-polled c tasks p some changes = record {
  rest = refl;
  kept = λ w sound.
      let to = changes w sound in
      let own = task_in c.tasks p in
      subst (λ (x : Tasks). KeepsSound c (record c { tasks = x }) w) (sym to.1)
      (keeps-task c p w own (with_polling own to.0) sound (some-task c.tasks p some) refl refl);
}
