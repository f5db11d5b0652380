use Rattle.std.proofs.Common.{rules, ◌≡◌, true, false, sym, ap, subst, ◌∙◌, Some}
use Rattle.dt_base.specs.declared.abi.TheConstants.{A0}
use Rattle.dt_procs.specs.Members.{is_full}
use Rattle.dt_rv64.specs.Effects.{register}
use Rattle.dt_calls.specs.declared.container.Served.TheVariants.{Child}
use Rattle.dt_calls.specs.Clone.{is_supported, child_task, child_machine, parent_machine, with_child_of}
use Rattle.dt_calls.specs.Container.{Shared, task_in}
use Rattle.dt_calls.specs.InCode.{shared_of}
use Rattle.dt_calls.specs.Sound.{LeavesSound}
use Rattle.dt_calls.proofs.Done.{effect-is, clone_call-made}
use Rattle.dt_calls.proofs.Held.{keeps-child}
use Rattle.dt_calls.proofs.call.clone.clone.Goals as goal

pub returns-in_ok-copy_machine-in-Ok : goal.returns-in_ok-copy_machine-in-Ok
returns-in_ok-copy_machine-in-Ok g c =
    let shared = c.args.shared.now in
    let p = c.args.vpid in
    let m = c.args.machine.now in
    let world = g.H.Host.view c.args.host.now in
    let new = c.add_child.new.self in
    let after = g.H.Host.view c.add_child.new.host in
    let next = shared.pids.next in
    let before = shared_of shared world in
    let supported : is_supported (register m A0) ≡ true = search rules in
    let room : is_full before.members ≡ false = search rules in
    let vpid : c.in-Ok.child ≡ next = c.in-Ok.ensures.vpid in
    let made : shared_of new after ≡ with_child_of before p next = subst (λ q. shared_of new after ≡ with_child_of before p q) vpid c.in-Ok.ensures.made in
    let e = c.in_ok-copy_machine-in-Ok.field-0 in
    let machine : c.copy_machine.new.machine ≡ parent_machine m next = subst (λ q. c.copy_machine.new.machine ≡ parent_machine m q) vpid c.in_ok-copy_machine-in-Ok.ensures.parent in
    let child : e.child ≡ Some (child_machine m next) = subst (λ q. e.child ≡ Some (child_machine m q)) vpid c.in_ok-copy_machine-in-Ok.ensures.child in
    let served : e.served ≡ Child next = subst (λ q. e.served ≡ Child q) vpid c.in_ok-copy_machine-in-Ok.ensures.served in
    let kept = keeps-child p e.served shared new (child_task (task_in shared.tasks p) next) after (child_machine m next) c.in-Ok.ensures.sound c.in-Ok.ensures.next (ap (λ (s : Shared). s.tasks) made) in
    record {
      served = clone_call-made before next p m supported room
          ∙ effect-is (with_child_of before p next) (shared_of new after) (parent_machine m next) c.copy_machine.new.machine (Some (child_machine m next)) (Child next) e (sym made) (sym machine) child c.in_ok-copy_machine-in-Ok.ensures.events served;
      kept = subst (λ made. LeavesSound p e.served made shared new after) (sym child) kept;
      cause = search rules;
    }
