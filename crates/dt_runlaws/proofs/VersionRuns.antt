-- A run keeps its image's version and its command's input, and its machines have atomics just where the version has them.
use Rattle.std.proofs.Common.{◌≡◌, ℕ, zero, suc, ◌-◌, ◌+◌, List, Bool, true, false, cond, Option, None, Some, refl, sym, ap, subst, ◌∙◌}
use Rattle.std.specs.Prelude.{IfSome, IfOk, Result, Ok, Err, nat_le, option_map}
use Rattle.std.specs.Ordering.{nat_cmp}
use Rattle.std.specs.Cmp.{nat_cmp_total}
use Rattle.std.specs.FinMap.{empty, get, insert, remove, get-empty, nat_cmp-IsAntisymmetric}
use Rattle.dt_base.specs.Command.{Words}
use Rattle.dt_base.specs.Image.{ImageParts}
use Rattle.dt_base.specs.Profile.{has_atomics}
use Rattle.dt_base.specs.declared.errno.Errno.{Errno}
use Rattle.dt_base.specs.declared.event.Verdict.{Verdict}
use Rattle.dt_base.specs.declared.limits.TheConstants.{FIRST_PID}
use Rattle.dt_exec.specs.declared.program.Program.{Program}
use Rattle.dt_exec.specs.Program.{start_program}
use Rattle.dt_rv64.specs.declared.machine.Machine.{Machine}
use Rattle.dt_rv64.specs.declared.segments.Seg.{Seg}
use Rattle.dt_sched.specs.declared.process.Phase.{Phase}
use Rattle.dt_sched.specs.declared.process.Phase.TheVariants.{Owes, Ran, Waits}
use Rattle.dt_sched.specs.Order.{Schedule, is_all_waiting}
use Rattle.dt_tables.specs.Values.{map_values}
use Rattle.dt_tables.proofs.Maps.{at_insert, at_remove}
use Rattle.dt_tables.proofs.Valued.{get-map_values}
use Rattle.dt_tree.specs.declared.limits.TheConstants.{ROOT}
use Rattle.dt_tree.specs.ImageTree.{image_tree}
use Rattle.dt_virt.specs.Words.{start_bytes}
use Rattle.dt_calls.specs.Container.{Shared, Machines, Container, first_container}
use Rattle.dt_calls.specs.Ends.{has_ended}
use Rattle.dt_calls.specs.Effect.{Effect}
use Rattle.dt_calls.specs.Launch.{launch, launch_of_program, with_input}
use Rattle.dt_calls.specs.Settle.{turn_of_machine, effect_of_turn, process_turn, with_own}
use Rattle.dt_calls.specs.Timers.{earliest_of, shared_after_jump}
use Rattle.dt_engine.specs.Turn.{State, Turn, Act, settled_of, own_work_after, act_of_turn, act_by_earliest, act_unless_over, act_after_waiting, paid_act, unpaid_act, act, is_ended_verdict, with_child_work, works_after_act, turn_of_work, turn_of_head, head_pid, turn}
use Rattle.dt_engine.specs.Work.{Work, Works, Prepared, owing_work, prepared_in, prepared_of}
use Rattle.dt_engine.specs.Run.{Run, run_after_turn, run_at_most, run_of_turns, first_state, run_from, run_of}
use Rattle.dt_engine.specs.Playing.{Playing, playing_from, first_playing}
use Rattle.dt_engine.specs.Happenings.{step_of_turn}
use Rattle.dt_engine.specs.Played.{turns}
use Rattle.dt_runlaws.specs.Version.{IsShared, IsStateOf, RunsKeepVersion, StatesKeepVersion, FirstVersionHasNoAtomics}
use Rattle.dt_runlaws.proofs.VersionCalls.{Comes, turned, timers-keep}
use Rattle.dt_runlaws.proofs.VersionMachines.{segment-keeps}
use Rattle.dt_runlaws.proofs.VersionPrograms.{started-has}
use Rattle.dt_runlaws.proofs.VersionTrees.{held-version}

-- a process that is prepared has atomics just where it had them
prepared-by : (w : Work) (phase : Phase Seg) → (let d = prepared_in w phase in d.work.machine.atomics) ≡ w.machine.atomics
prepared-by w Owes = let keeps = segment-keeps w.machine in keeps.atomics
prepared-by w (Ran seg) = refl
prepared-by w Waits = refl

prepared-keeps : (w : Work) → (let d = prepared_of w in d.work.machine.atomics) ≡ w.machine.atomics
unfolding prepared_of
prepared-keeps w = prepared-by w w.phase

module _ (v : ℕ) (bytes : List ℕ) where
  -- a machine, and all works at home, have atomics just where the version has them
  abbrev Has : Machine → Type 0
  Has m = m.atomics ≡ has_atomics v

  abbrev AllHave : Works → Type 0
  AllHave works = (p : ℕ) → IfSome (get works p) (λ w. w.machine.atomics ≡ has_atomics v)

  -- what a turn of one process comes to
  record ActIs (a : Act) : Type 0 where
    shared : IsShared v bytes a.shared
    own : IfSome a.own (λ w. w.machine.atomics ≡ has_atomics v)
    child : IfSome a.child (λ m. m.atomics ≡ has_atomics v)

  none-have : AllHave empty
  none-have p = subst (λ found. IfSome found (λ (w : Work). w.machine.atomics ≡ has_atomics v)) (sym (get-empty nat_cmp p)) tt

  put-have : (works : Works) (p : ℕ) (w : Work) → Has w.machine → AllHave works → AllHave (insert works p w)
  put-have works p w has all q =
      at_insert nat_cmp_total nat_cmp-IsAntisymmetric (λ found. IfSome found (λ (w : Work). w.machine.atomics ≡ has_atomics v)) works p w q (λ is. has) (λ apart. all q)

  taken-have : (works : Works) (p : ℕ) → AllHave works → AllHave (remove works p)
  taken-have works p all q =
      at_remove nat_cmp_total nat_cmp-IsAntisymmetric (λ found. IfSome found (λ (w : Work). w.machine.atomics ≡ has_atomics v)) works p q (λ is. tt) (λ apart. all q)

  own-have : (works : Works) (p : ℕ) (own : Option Work) → IfSome own (λ w. w.machine.atomics ≡ has_atomics v) → AllHave works → AllHave (with_own works p own)
  own-have works p None has all = taken-have works p all
  own-have works p (Some w) has all = put-have works p w has all

  child-have : (works : Works) (next : ℕ) (child : Option Machine) → IfSome child (λ m. m.atomics ≡ has_atomics v) → AllHave works → AllHave (with_child_work works next child)
  child-have works next None has all = all
  child-have works next (Some m) has all = put-have works next (owing_work m) has all

  acted-have : (works : Works) (p next : ℕ) (a : Act) → ActIs a → AllHave works → AllHave (works_after_act works p next a)
  unfolding works_after_act
  acted-have works p next a is all = by_end (is_ended_verdict a.verdict)
    where
      by_end : (b : Bool) → AllHave (cond b empty (with_child_work (with_own works p a.own) next a.child))
      by_end true = none-have
      by_end false = child-have (with_own works p a.own) next a.child is.child (own-have works p a.own is.own all)

  -- what follows where all wait
  jumped : (due : ℕ) (c : Shared) → IsShared v bytes c → IsShared v bytes (shared_after_jump due c)
  unfolding shared_after_jump
  jumped due c is = timers-keep v bytes _ (record { version = is.version; input = is.input })

  by_earliest : (a : Act) (due : Option ℕ) → ActIs a → ActIs (act_by_earliest a due)
  by_earliest a None is = record { shared = is.shared; own = is.own; child = is.child }
  by_earliest a (Some due) is = record { shared = jumped due a.shared is.shared; own = is.own; child = is.child }

  unless_over : (a : Act) (verdict : Option Verdict) → ActIs a → ActIs (act_unless_over a verdict)
  unless_over a (Some verdict) is = is
  unless_over a None is = by_all (is_all_waiting a.schedule)
    where
      by_all : (b : Bool) → ActIs (cond b (act_by_earliest a (earliest_of a.shared)) a)
      by_all true = by_earliest a (earliest_of a.shared) is
      by_all false = is

  waited : (a : Act) → ActIs a → ActIs (act_after_waiting a)
  unfolding act_after_waiting
  waited a is = unless_over a a.verdict is

  -- a turn that was paid for, and one that was not
  paid : (next p : ℕ) (c : Shared) (start : IsShared v bytes c) (q : Schedule) (w : Work) (r : Effect) → Comes v bytes next p c start r → ActIs (act_of_turn q p w (process_turn r))
  unfolding act_of_turn
  paid next p c start q w r comes = record { shared = comes.shared; own = by_end (has_ended r.served); child = comes.child }
    where
      by_end : (b : Bool) → IfSome (own_work_after w (settled_of r.served) (cond b None (Some r.machine))) (λ w. w.machine.atomics ≡ has_atomics v)
      by_end true = tt
      by_end false = comes.own

  took : (c : Shared) (q : Schedule) (next p : ℕ) (d : Prepared) → IsShared v bytes c → Has d.work.machine → ActIs (act c q next p d)
  unfolding act paid_act turn_of_machine
  took c q next p d start has = by_cost (nat_le d.cost q.left)
    where
      by_cost : (b : Bool) → ActIs (cond b (paid_act c (record q { left = q.left - d.cost }) next p d) (unpaid_act c q d.work))
      by_cost true =
          waited _ (paid next p c start (record q { left = q.left - d.cost }) d.work (effect_of_turn c next p d.work.machine d.stop)
          (turned v bytes next p c start d.work.machine d.stop has))
      by_cost false = record { shared = start; own = has; child = tt }

  worked : (s : State) (p : ℕ) (found : Option Work) → IfSome found (λ w. w.machine.atomics ≡ has_atomics v) → IsStateOf v bytes s → (let t = turn_of_work s p found in IsStateOf v bytes t.next)
  worked s p None has is = is
  worked s p (Some w) has is =
      let a = act s.shared s.schedule s.next p (prepared_of w) in
      let comes = took s.shared s.schedule s.next p (prepared_of w) is.shared (prepared-keeps w ∙ has) in
      record { shared = comes.shared; atomics = acted-have s.works p s.next a comes is.atomics }

  headed : (s : State) (head : Option ℕ) → IsStateOf v bytes s → (let t = turn_of_head s head in IsStateOf v bytes t.next)
  headed s None is = is
  headed s (Some p) is = worked s p (get s.works p) (is.atomics p) is

  turn-keeps : (s : State) → IsStateOf v bytes s → (let t = turn s in IsStateOf v bytes t.next)
  unfolding turn
  turn-keeps s is = headed s (head_pid s.schedule.order) is

  -- turns of a run in play
  step-keeps : (e : Playing) (verdict : Option Verdict) → IsStateOf v bytes e.state → (let s = step_of_turn e verdict in IsStateOf v bytes s.next.state)
  step-keeps e (Some verdict) is = is
  step-keeps e None is = turn-keeps e.state is

  turns-keep : (count : ℕ) (e : Playing) → IsStateOf v bytes e.state → (let t = turns count e in IsStateOf v bytes t.next.state)
  unfolding turns
  turns-keep zero e is = is
  turns-keep (suc count) e is = let s = step_of_turn e e.verdict in turns-keep count s.next (step-keeps e e.verdict is)

  -- a whole run
  ends : (t : Turn) (verdict : Option Verdict) (rest : State → Run) → IsStateOf v bytes t.next → ((s : State) → IsStateOf v bytes s → (let r = rest s in r.last.tree.version ≡ v)) → (let r = run_after_turn t verdict rest in r.last.tree.version ≡ v)
  ends t (Some verdict) rest is keeps = is.shared.version
  ends t None rest is keeps = keeps t.next is

  at_most-keeps : (most : ℕ) (s : State) → IsStateOf v bytes s → (let r = run_at_most most s in r.last.tree.version ≡ v)
  unfolding run_at_most
  at_most-keeps zero s is = is.shared.version
  at_most-keeps (suc most) s is =
      let t = turn s in ends t t.verdict (run_at_most most) (turn-keeps s is) (λ n at. at_most-keeps most n at)

  run-keeps : (s : State) → IsStateOf v bytes s → (let r = run_of_turns s in r.last.tree.version ≡ v)
  unfolding run_of_turns
  run-keeps s is = at_most-keeps (s.schedule.left + 1) s is

  -- the first state
  owing-have : (machines : Machines) → ((p : ℕ) → IfSome (get machines p) (λ m. m.atomics ≡ has_atomics v)) → AllHave (map_values owing_work machines)
  owing-have machines has p =
      subst (λ found. IfSome found (λ (w : Work). w.machine.atomics ≡ has_atomics v)) (sym (get-map_values nat_cmp_total owing_work machines p)) (by_found (get machines p) (has p))
    where
      by_found : (found : Option Machine) → IfSome found (λ m. m.atomics ≡ has_atomics v) → IfSome (option_map owing_work found) (λ w. w.machine.atomics ≡ has_atomics v)
      by_found None has = tt
      by_found (Some m) has = has

  -- a container whose machines are such
  record ContainerIs (c : Container) : Type 0 where
    shared : IsShared v bytes c.shared
    atomics : (p : ℕ) → IfSome (get c.machines p) (λ m. m.atomics ≡ has_atomics v)

  first-is : (budget : ℕ) (c : Container) → ContainerIs c → IsStateOf v bytes (first_state c budget)
  first-is budget c is = record { shared = is.shared; atomics = owing-have c.machines is.atomics }

  program-is : (c : Container) (r : Result Program Errno) → ContainerIs c → IfOk r (λ program. program.machine.atomics ≡ has_atomics v) → (let l = launch_of_program c r in ContainerIs l.container)
  program-is c (Err errno) is has = is
  program-is c (Ok program) is has = record {
    shared = record { version = is.shared.version; input = is.shared.input };
    atomics = λ q. at_insert nat_cmp_total nat_cmp-IsAntisymmetric (λ found. IfSome found (λ (m : Machine). m.atomics ≡ has_atomics v)) c.machines FIRST_PID program.machine q (λ same. has) (λ apart. is.atomics q);
  }

  -- by what the launch came to
  playing-is : (budget : ℕ) (c : Container) (r : Result Program Errno) → (let l = launch_of_program c r in ContainerIs l.container) → (let l = launch_of_program c r in let e = playing_from budget l.container l.launch in IsStateOf v bytes e.state)
  playing-is budget c (Err errno) is = let first = first-is budget c is in record { shared = first.shared; atomics = first.atomics }
  playing-is budget c (Ok program) is = let l = launch_of_program c (Ok program) in first-is budget l.container is

  run-is : (budget : ℕ) (c : Container) (r : Result Program Errno) → (let l = launch_of_program c r in ContainerIs l.container) → (let l = launch_of_program c r in let run = run_from budget l.container l.launch in run.last.tree.version ≡ v)
  run-is budget c (Err errno) is = is.shared.version
  run-is budget c (Ok program) is =
      let l = launch_of_program c (Ok program) in run-keeps (first_state l.container budget) (first-is budget l.container is)

-- the container that a run begins in, with its input
first-container : (image : ImageParts) (words : Words) (seed : ℕ) → (let c = first_container (image_tree image) seed in ContainerIs image.version words.input (record c { shared = with_input words.input c.shared }))
first-container image words seed = record {
  shared = record { version = held-version (image_tree image) ROOT; input = refl };
  atomics = λ p. subst (λ found. IfSome found (λ (m : Machine). m.atomics ≡ has_atomics image.version)) (sym (get-empty nat_cmp p)) tt;
}

launched-is : (image : ImageParts) (words : Words) (seed : ℕ) → (let c = first_container (image_tree image) seed in
    let l = launch_of_program (record c { shared = with_input words.input c.shared }) (start_program c.shared.tree.shape words (start_bytes c.shared.rand) (has_atomics c.shared.tree.version)) in
    ContainerIs image.version words.input l.container)
launched-is image words seed =
    let c = first_container (image_tree image) seed in
    program-is image.version words.input (record c { shared = with_input words.input c.shared }) _ (first-container image words seed)
    (subst (λ b. IfOk (start_program c.shared.tree.shape words (start_bytes c.shared.rand) (has_atomics c.shared.tree.version)) (λ (program : Program). program.machine.atomics ≡ b))
    (ap has_atomics (held-version (image_tree image) ROOT))
    (started-has c.shared.tree.shape words (start_bytes c.shared.rand) (has_atomics c.shared.tree.version)))

pub runs-keep-version : RunsKeepVersion
unfolding run_of launch
runs-keep-version image words seed budget =
    let c = first_container (image_tree image) seed in
    run-is image.version words.input budget (record c { shared = with_input words.input c.shared }) _ (launched-is image words seed)

first-playing : (image : ImageParts) (words : Words) (seed budget : ℕ) → (let e = first_playing image words seed budget in IsStateOf image.version words.input e.state)
unfolding first_playing launch
first-playing image words seed budget =
    let c = first_container (image_tree image) seed in
    playing-is image.version words.input budget (record c { shared = with_input words.input c.shared }) _ (launched-is image words seed)

pub states-keep-version : StatesKeepVersion
states-keep-version image words seed budget count =
    turns-keep image.version words.input count (first_playing image words seed budget) (first-playing image words seed budget)

pub first-version-has-no-atomics : FirstVersionHasNoAtomics
first-version-has-no-atomics image words seed budget count p is =
    let t = turns count (first_playing image words seed budget) in
    let kept = states-keep-version image words seed budget count in
    subst (λ b. IfSome (get t.next.state.works p) (λ (w : Work). w.machine.atomics ≡ b)) (ap has_atomics is) (kept.atomics p)
