-- A container has few processes from its start on, and shows few events after each turn.
use Rattle.std.proofs.Common.{arith, ◌≡◌, ◌+◌, ◌<◌, [], Option, None, Some, refl, subst}
use Rattle.std.proofs.lemmas.List.Elements.{All-cons, All-nil}
use Rattle.std.specs.Prelude.{IsSome, Result, Ok, Err, option_map}
use Rattle.std.specs.FinMap.{get, insert, empty, get-empty}
use Rattle.std.specs.Ordering.{nat_cmp}
use Rattle.dt_base.specs.Profile.{has_atomics}
use Rattle.dt_base.specs.declared.errno.Errno.{Errno}
use Rattle.dt_base.specs.declared.limits.TheConstants.{FIRST_PID}
use Rattle.dt_exec.specs.declared.program.Program.{Program}
use Rattle.dt_exec.specs.Program.{start_program}
use Rattle.dt_procs.specs.declared.member.Member.{Member}
use Rattle.dt_procs.specs.Members.{newborn, first_members}
use Rattle.dt_rv64.specs.declared.machine.Machine.{Machine}
use Rattle.dt_virt.specs.Words.{start_bytes}
use Rattle.dt_calls.specs.declared.task.Task.{Task}
use Rattle.dt_calls.specs.Container.{Container, blank_task}
use Rattle.dt_calls.specs.InCode.{machines_at_home, container_of, container_turn_as}
use Rattle.dt_calls.specs.Launch.{launch, launch_of_program, with_input}
use Rattle.dt_calls.specs.Settle.{ContainerTurn, turn_of_machine, turn_of_container, with_process_turn}
use Rattle.dt_calls.proofs.Homes.{home-place}
use Rattle.dt_runlaws.specs.Few.{AreMembers, HasFew, LastTurnShowsFew, ContainersBeginFew, LaunchesLeaveFew, ContainersShowFew}
use Rattle.dt_runlaws.proofs.FewCalls.{turns-show-few}
use Rattle.dt_runlaws.proofs.FewEnds.{AreLive, live-put}

first-members : AreMembers first_members (FIRST_PID + 1)
first-members = record {
  rising = λ i j d before within. absurd (omega arith);
  given = All-cons (λ (m : Member). m.vpid < FIRST_PID + 1) (newborn FIRST_PID 0) [] (omega arith) (All-nil (λ (m : Member). m.vpid < FIRST_PID + 1));
  few = omega arith;
}

first-lives : AreLive (insert empty FIRST_PID (blank_task FIRST_PID)) first_members
first-lives = live-put empty first_members FIRST_PID (blank_task FIRST_PID)
    (λ q some. let none = subst (λ found. IsSome found) (get-empty {X = Task} nat_cmp q) some in cc) refl

pub containers-begin-few : ContainersBeginFew
containers-begin-few t seed = record { members = first-members; lives = first-lives }

pub launches-leave-few : LaunchesLeaveFew
unfolding launch
launches-leave-few c words here few =
    by_program (start_program c.shared.tree.shape words (start_bytes c.shared.rand) (has_atomics c.shared.tree.version))
  where
    fed : Container
    fed = record c { shared = with_input words.input c.shared }

    by_program : (r : Result Program Errno) → (let l = launch_of_program fed r in HasFew l.container)
    by_program (Err errno) = record { members = few.members; lives = few.lives }
    by_program (Ok program) = record {
      members = few.members;
      lives = live-put c.shared.tasks c.shared.members FIRST_PID _ few.lives (few.lives FIRST_PID here);
    }

pub containers-show-few : ContainersShowFew
unfolding turn_of_container
containers-show-few old new v w p stop served sound home turned few = by_machine (get (machines_at_home old.places) p) turned
  where
    here : IsSome (get old.shared.tasks p)
    here = sound.paired p (home-place old.places p home)

    by_machine : (found : Option Machine) → (let o = container_of old v in option_map (λ m. with_process_turn o p (turn_of_machine o.shared o.next p stop m)) found ≡ Some (container_turn_as (container_of new w) served)) → LastTurnShowsFew (container_of new w)
    by_machine None is = cc
    by_machine (Some m) is =
        let o = container_of old v in
        let leaves = turns-show-few o.shared o.next p stop m few here in
        let turn = with_process_turn o p (turn_of_machine o.shared o.next p stop m) in
        let same : turn ≡ container_turn_as (container_of new w) served = cc in
        subst (λ (t : ContainerTurn). LastTurnShowsFew t.container) same (record { shown = leaves.shown; few = leaves.processes })
