use Rattle.std.proofs.Common.{rules, ◌≡◌, ◌&&◌, true, sym, ap, subst, ◌∙◌, None, List}
use Rattle.std.proofs.lemmas.Bool.{and_parts}
use Rattle.dt_base.specs.declared.abi.TheConstants.{A0, A1, A3}
use Rattle.dt_base.specs.Abi.{low_word}
use Rattle.dt_fds.specs.OpenFiles.{pipes_at}
use Rattle.dt_procs.specs.declared.member.Member.{Member}
use Rattle.dt_procs.specs.declared.member.Reaped.{Reaped}
use Rattle.dt_procs.specs.declared.member.Reaped.TheVariants.{Got}
use Rattle.dt_procs.specs.Members.{look_for, members_after_reap, without_member}
use Rattle.dt_procs.specs.Table.{members_of}
use Rattle.dt_rv64.specs.Effects.{register, machine_after_answer}
use Rattle.dt_space.specs.Argument.{is_writable_or_null, with_bytes_unless_null}
use Rattle.dt_tree.specs.Table.{tree_of}
use Rattle.dt_calls.specs.declared.container.Served.TheVariants.{Done}
use Rattle.dt_calls.specs.declared.numbers.TheConstants.{RUSAGE_SIZE}
use Rattle.dt_calls.specs.declared.shared.Shared.{Shared}
use Rattle.dt_calls.specs.InCode.{shared_of}
use Rattle.dt_calls.specs.Sound.{LeavesSound}
use Rattle.dt_calls.specs.Wait.{status_bytes, usage_bytes, which_child}
use Rattle.dt_calls.proofs.Done.{effect-is, reaps-done}
use Rattle.dt_calls.proofs.Held.{leaves, keeps-reaped}
use Rattle.dt_calls.proofs.call.wait.reap.Goals as goal

pub fill_unless_null-requires-2 : goal.fill_unless_null-requires-2
fill_unless_null-requires-2 g c =
    let m = c.args.machine.now in
    let both : (is_writable_or_null m.space (register m A1) 4 && is_writable_or_null m.space (register m A3) RUSAGE_SIZE) ≡ true = search rules in
    let may = (and_parts (is_writable_or_null m.space (register m A1) 4) (is_writable_or_null m.space (register m A3) RUSAGE_SIZE) both).1 in
    subst (λ u. is_writable_or_null c.fill_unless_null.new.space u RUSAGE_SIZE ≡ true) (sym c.reg-usage.ensures) (c.fill_unless_null.ensures.kept _ _ may)

pub returns : goal.returns
returns g c =
    let shared = c.args.shared.now in
    let m = c.args.machine.now in
    let world = g.H.Host.view c.args.host.now in
    let after = g.H.Host.view c.wait_for.new.host in
    let both : (is_writable_or_null m.space (register m A1) 4 && is_writable_or_null m.space (register m A3) RUSAGE_SIZE) ≡ true = search rules in
    let which : c.which_child-which.result ≡ which_child (low_word (register m A0)) = search rules in
    let found : c.in_ok-wait_for.field-0 ≡ Got c.args.child c.args.end = c.in_ok-wait_for.ensures.found ∙ ap (look_for (members_of shared.pids) c.args.vpid) which ∙ c.requires.found in
    let members : members_of c.wait_for.new.self ≡ without_member (members_of shared.pids) c.args.child = c.in_ok-wait_for.ensures.members ∙ ap (λ (r : Reaped). members_after_reap (members_of shared.pids) r) found in
    let left : Shared = record shared { pids = c.wait_for.new.self } in
    let only = c.wait_for.ensures.rest in
    let tree : shared_of left world ≡ shared_of left after = λ i. record (shared_of left world) { tree = tree_of shared.fs.tree (sym only.forest i); pipes = pipes_at shared.fs.files (sym only.pipes i) } in
    let all = ap (λ (ms : List Member). record (shared_of shared world) { members = ms }) (sym members) in
    let kept = keeps-reaped shared world c.requires.sound c.wait_for.new.self after c.args.vpid (which_child (low_word (register m A0))) c.args.child c.args.end c.next-next.ensures.sound.rising c.requires.found only c.in_ok-wait_for.ensures.stands members c.in_ok-wait_for.ensures.next in
    let first : c.fill_unless_null.new.space ≡ with_bytes_unless_null m.space (register m A1) (status_bytes c.args.end) = search rules in
    let both_written = with_bytes_unless_null (with_bytes_unless_null m.space (register m A1) (status_bytes c.args.end)) (register m A3) usage_bytes in
    let second : c.fill_unless_null-2.new.space ≡ both_written = search rules in
    let machine : machine_after_answer (record m { space = both_written }) c.args.child ≡ c.done.new.machine = search rules in
    record {
      served = reaps-done (shared_of shared world) m (register m A1) (register m A3) c.args.child c.args.end both
          ∙ effect-is _ (shared_of left after) (machine_after_answer (record m { space = both_written }) c.args.child) c.done.new.machine None Done c.done.result (all ∙ tree) machine c.done.ensures.child c.done.ensures.events c.done.ensures.served;
      kept = subst (λ made. LeavesSound c.args.vpid c.done.result.served made shared left after) (sym c.done.ensures.child) (leaves c.args.vpid c.done.result.served shared left after kept);
      cause = search rules;
    }
