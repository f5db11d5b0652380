use Rattle.std.proofs.Common.{All, arith, ◌≡◌, ◌∙◌, Err, refl, sym, ap, subst}
use Rattle.std.specs.Prelude.{IsSome}
use Rattle.dt_host.specs.Sink.{AddsPart}
use Rattle.dt_engine.specs.Run.{Run, run_of, report_of}
use Rattle.dt_engine.specs.Completed.{Completes}
use Rattle.dt_calls.specs.InCode.{ContainerView, shared_of}
use Rattle.dt_engine.specs.InPlay.{EngineView, playing_of}
use Rattle.dt_engine.specs.Onward.{left_of}
use Rattle.dt_host.proofs.Asking.{cause-from, passed_on}
use Rattle.dt_rounds.proofs.Completed.{run-is, part-begun, part-going, part-finished, finished}
use Rattle.dt_rounds.specs.inner.Crew.{IsIdle}
use Rattle.dt_rounds.proofs.run.run_to_end.Goals as goal

-- the workers are idle before the run
pub go_on-requires-clause-crew : goal.go_on-requires-clause-crew
go_on-requires-clause-crew g c = λ _ _.
    subst (λ board. All (IsIdle board) c.new-runner.result.crew.items) (sym c.new-runner.ensures.board)
    (subst (λ crew. All (IsIdle c.in_ok-board.board) crew) (sym c.new-runner.ensures.crew) c.in_ok-crew.ensures.idle)

-- and after it
pub dismiss-requires-clause-idle : goal.dismiss-requires-clause-idle
dismiss-requires-clause-idle g c =
    subst (λ board. All (IsIdle board) c.go_on.new.runner.crew.items) (c.go_on.ensures.runner ∙ c.new-runner.ensures.board)
    c.go_on.ensures.crew

pub returns-in_err-engine-clause-part : goal.returns-in_err-engine-clause-part
returns-in_err-engine-clause-part g c =
    part-begun c.args.image.now.version (run_of c.args.image.now c.args.command.now c.args.seed c.args.budget) _ _ c.begin.ensures.part

pub finish-requires-clause-over : goal.finish-requires-clause-over
finish-requires-clause-over g c = subst IsSome (sym c.in_ok-go_on.ensures.done.verdict) refl

pub returns-in_err-go_on-clause-part : goal.returns-in_err-go_on-clause-part
returns-in_err-go_on-clause-part g c =
    let old = g.O.Sink.told c.args.out.now in
    let e = playing_of c.in_ok-engine.engine (g.H.Host.view c.begin.new.host) in
    let same = run-is _ _ c.args.seed c.args.budget e c.in_ok-engine.ensures.run in
    subst (λ (r : Run). AddsPart old (g.O.Sink.told c.go_on.new.out) (report_of c.args.image.now.version r)) same
    (part-going c.args.image.now.version (left_of e) old (g.O.Sink.told c.begin.new.out) c.in_ok-engine.ensures.wrote (g.O.Sink.told c.go_on.new.out) c.go_on.ensures.part)

pub returns-in_err-status-clause-part : goal.returns-in_err-status-clause-part
returns-in_err-status-clause-part g c =
    let old = g.O.Sink.told c.args.out.now in
    let e = playing_of c.in_ok-engine.engine (g.H.Host.view c.begin.new.host) in
    let same = run-is _ _ c.args.seed c.args.budget e c.in_ok-engine.ensures.run in
    subst (λ (r : Run). AddsPart old (g.O.Sink.told c.finish.new.out) (report_of c.args.image.now.version r)) same
    (part-finished c.args.image.now.version (left_of e) old (g.O.Sink.told c.begin.new.out) (g.O.Sink.told c.go_on.new.out) c.go_on.new.self.engine
    (g.H.Host.view c.go_on.new.host) c.in_ok-engine.ensures.wrote c.in_ok-go_on.ensures.done
    (g.O.Sink.told c.finish.new.out) c.finish.ensures.part)

pub returns-clause-part : goal.returns-clause-part
returns-clause-part g c =
    let old = g.O.Sink.told c.args.out.now in
    let e = playing_of c.in_ok-engine.engine (g.H.Host.view c.begin.new.host) in
    let same = run-is _ _ c.args.seed c.args.budget e c.in_ok-engine.ensures.run in
    subst (λ (r : Run). AddsPart old (g.O.Sink.told c.finish.new.out) (report_of c.args.image.now.version r)) same
    (part-finished c.args.image.now.version (left_of e) old (g.O.Sink.told c.begin.new.out) (g.O.Sink.told c.go_on.new.out) c.go_on.new.self.engine
    (g.H.Host.view c.go_on.new.host) c.in_ok-engine.ensures.wrote c.in_ok-go_on.ensures.done
    (g.O.Sink.told c.finish.new.out) c.finish.ensures.part)

pub returns-clause-completed : goal.returns-clause-completed
returns-clause-completed g c =
    let old = g.O.Sink.told c.args.out.now in
    let e = playing_of c.in_ok-engine.engine (g.H.Host.view c.begin.new.host) in
    let same = run-is _ _ c.args.seed c.args.budget e c.in_ok-engine.ensures.run in
    subst (λ (r : Run). Completes c.args.image.now.version r c.in_ok-status.status old (g.O.Sink.told c.finish.new.out) (g.H.Host.view c.finish.new.host)) same
    (finished c.args.image.now.version (left_of e) old (g.O.Sink.told c.begin.new.out) (g.O.Sink.told c.go_on.new.out) c.go_on.new.self.engine
    (g.H.Host.view c.go_on.new.host) c.in_ok-engine.ensures.wrote c.in_ok-go_on.ensures.done
    (g.H.Host.view c.finish.new.host) (g.O.Sink.told c.finish.new.out) c.in_ok-status.status c.finish.ensures.stays c.in_ok-go_on.ensures.sound
    c.in_ok-status.ensures.status c.in_ok-status.ensures.wrote)

pub returns-in_err-go_on-clause-host : goal.returns-in_err-go_on-clause-host
returns-in_err-go_on-clause-host g c =
    cause-from _ _ _ c.begin.ensures.host.later (record {
      later = c.go_on.ensures.host.later;
      rose = λ failed. c.in_err-go_on.ensures.host.rose (ap Err (passed_on _ _ _ c.from_residual-in_err-go_on.ensures.1 failed));
    })

pub returns-in_err-go_on-clause-sink : goal.returns-in_err-go_on-clause-sink
returns-in_err-go_on-clause-sink g c =
    cause-from _ _ _ c.begin.ensures.sink.later (record {
      later = c.go_on.ensures.sink.later;
      rose = λ failed. c.in_err-go_on.ensures.sink.rose (ap Err (passed_on _ _ _ c.from_residual-in_err-go_on.ensures.1 failed));
    })

pub returns-in_err-status-clause-host : goal.returns-in_err-status-clause-host
returns-in_err-status-clause-host g c =
    cause-from _ _ _ (omega (arith, c.begin.ensures.host.later, c.go_on.ensures.host.later)) (record {
      later = c.finish.ensures.host.later;
      rose = λ failed. c.in_err-status.ensures.host.rose (ap Err (passed_on _ _ _ c.from_residual-in_err-status.ensures.1 failed));
    })

pub returns-in_err-status-clause-sink : goal.returns-in_err-status-clause-sink
returns-in_err-status-clause-sink g c =
    cause-from _ _ _ (omega (arith, c.begin.ensures.sink.later, c.go_on.ensures.sink.later)) (record {
      later = c.finish.ensures.sink.later;
      rose = λ failed. c.in_err-status.ensures.sink.rose (ap Err (passed_on _ _ _ c.from_residual-in_err-status.ensures.1 failed));
    })

pub returns-clause-left : goal.returns-clause-left
returns-clause-left g c =
    let e = playing_of c.in_ok-engine.engine (g.H.Host.view c.begin.new.host) in
    let same = run-is _ _ c.args.seed c.args.budget e c.in_ok-engine.ensures.run in
    let kept : c.close.result ≡ c.go_on.new.self.engine.state.container =
    c.close.ensures ∙ ap (λ (s : EngineView). s.state.container) c.in_ok-status.ensures.finished in
    let all = run_of c.args.image.now c.args.command.now c.args.seed c.args.budget in
    subst (λ (k : ContainerView). all.last ≡ shared_of k.shared (g.H.Host.view c.finish.new.host)) (sym kept)
    (subst (λ w. all.last ≡ shared_of c.go_on.new.self.engine.state.container.shared w) (sym c.finish.ensures.stays)
    (ap (λ (r : Run). r.last) (sym same) ∙ c.in_ok-go_on.ensures.done.last))

pub returns-clause-host : goal.returns-clause-host
returns-clause-host g c = record {
  later = omega (arith, c.begin.ensures.host.later, c.go_on.ensures.host.later, c.finish.ensures.host.later);
  rose = λ failed. cc;
}

pub returns-clause-sink : goal.returns-clause-sink
returns-clause-sink g c = record {
  later = omega (arith, c.begin.ensures.sink.later, c.go_on.ensures.sink.later, c.finish.ensures.sink.later);
  rose = λ failed. cc;
}
