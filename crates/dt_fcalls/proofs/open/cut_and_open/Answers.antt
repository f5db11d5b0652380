use Rattle.std.proofs.Common.{Result, subst}
use Rattle.dt_base.specs.declared.errno.Errno.{Errno}
use Rattle.dt_callbase.specs.Sound.{stage, scene}
use Rattle.dt_callbase.proofs.Kept.{reaches_next}
use Rattle.dt_fcalls.specs.Open.{file_truncation, open_reply, file_desc}
use Rattle.dt_fcalls.specs.inner.Steps.{IsNextStep}
use Rattle.dt_fcalls.proofs.open.cut_and_open.Goals as goal

pub returns-in-Ok : goal.returns-in-Ok
returns-in-Ok g c =
    let old = stage c.args.fs.now (g.H.Host.view c.args.host.now) c.args.caller.now c.args.space.now in
    let mid = stage c.cut_file.new.fs (g.H.Host.view c.cut_file.new.host) c.args.caller.now c.args.space.now in
    let step = c.in_ok-cut_file.ensures.step in
    let next = subst (λ (r : Result (Unit {0}) Errno). IsNextStep (scene old) (file_truncation c.args.n (scene old)) (scene mid) r) c.in-Ok.is step.next in
    reaches_next _ _ old mid _ _ _ _ _ step.others step.rest.pids step.cause.later
    (next (λ done s. open_reply c.args.flags (file_desc c.args.flags c.args.n) s)) c.open_file.ensures

pub returns-in-Err : goal.returns-in-Err
returns-in-Err g c =
    let old = stage c.args.fs.now (g.H.Host.view c.args.host.now) c.args.caller.now c.args.space.now in
    let mid = stage c.cut_file.new.fs (g.H.Host.view c.cut_file.new.host) c.args.caller.now c.args.space.now in
    let step = c.in_ok-cut_file.ensures.step in
    let next = subst (λ (r : Result (Unit {0}) Errno). IsNextStep (scene old) (file_truncation c.args.n (scene old)) (scene mid) r) c.in-Err.is step.next in
    record {
      served = next (λ done s. open_reply c.args.flags (file_desc c.args.flags c.args.n) s);
      sound = step.sound;
      others = step.others;
      rest = step.rest.pids;
      cause = record { later = step.cause.later; rose = λ failed. cc };
    }
