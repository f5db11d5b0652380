use Rattle.std.proofs.Common.{List, sym, subst}
use Rattle.dt_rounds.specs.declared.lent.Lent.{Lent}
use Rattle.dt_rounds.specs.inner.Round.{KeepsRun, GoesOn, TakesOn}
use Rattle.dt_engine.proofs.Queueing.{full-good}
use Rattle.dt_rounds.proofs.Brought.{stands-not}
use Rattle.dt_rounds.proofs.Taking.{none-by, stands-by, on-kept}
use Rattle.dt_rounds.proofs.Circle.{live-lent, part-lent, takes-on, takes-over}
use Rattle.dt_rounds.proofs.live.Live.round.Goals as goal

pub lend_all-requires-clause-good : goal.lend_all-requires-clause-good
lend_all-requires-clause-good g c =
    full-good c.args.self.now.engine.state (g.H.Host.view c.args.host.now) c.requires.rest.whole.kept (c.requires.rest.full c.requires.running)

pub run_all-requires-clause-live : goal.run_all-requires-clause-live
run_all-requires-clause-live g c = λ _ _.
    let first = c.args.self.now.engine in
    let w = g.H.Host.view c.args.host.now in
    let now = c.lend_all.new.self.engine in
    let lents = c.lend_all.new.self.lents.items in
    let once = c.owing_queue-queue.ensures.core.each_once in
    let lent = c.in_ok-lend_all.ensures.lent in
    let pids = c.in_ok-lend_all.ensures.vpids in
    live-lent first now lents w c.requires.rest c.requires.running once lent pids
    c.in_ok-lend_all.ensures.whole (c.in_ok-lend_all.ensures.sound w c.requires.rest.sound)

pub returns-in_err-run_all-clause-part : goal.returns-in_err-run_all-clause-part
returns-in_err-run_all-clause-part g c =
    let first = c.args.self.now.engine in
    let w = g.H.Host.view c.args.host.now in
    let now = c.lend_all.new.self.engine in
    let lents = c.lend_all.new.self.lents.items in
    let once = c.owing_queue-queue.ensures.core.each_once in
    let lent = c.in_ok-lend_all.ensures.lent in
    let pids = c.in_ok-lend_all.ensures.vpids in
    part-lent first now lents w c.requires.rest c.requires.running once lent pids _ _ c.run_all.ensures.part

-- the run is over
pub returns-then-is_over-clause-on : goal.returns-then-is_over-clause-on
returns-then-is_over-clause-on g c =
    let first = c.args.self.now.engine in
    let w = g.H.Host.view c.args.host.now in
    let now = c.lend_all.new.self.engine in
    let lents = c.lend_all.new.self.lents.items in
    let once = c.owing_queue-queue.ensures.core.each_once in
    let lent = c.in_ok-lend_all.ensures.lent in
    let pids = c.in_ok-lend_all.ensures.vpids in
    takes-over first now lents w c.requires.rest c.requires.running once lent pids _ _ c.run_all.new.self.engine _ _
    (stands-by c.run_all.new.self.engine.verdict c.is_over.ensures c.if-is_over.true) c.in_ok-run_all.ensures.on

pub returns-then-is_over-clause-home : goal.returns-then-is_over-clause-home
returns-then-is_over-clause-home g c = λ none.
    stands-not c.run_all.new.self.engine.verdict
    (stands-by c.run_all.new.self.engine.verdict c.is_over.ensures c.if-is_over.true) none

pub returns-then-is_over-clause-part : goal.returns-then-is_over-clause-part
returns-then-is_over-clause-part g c =
    let first = c.args.self.now.engine in
    let w = g.H.Host.view c.args.host.now in
    let now = c.lend_all.new.self.engine in
    let lents = c.lend_all.new.self.lents.items in
    let once = c.owing_queue-queue.ensures.core.each_once in
    let lent = c.in_ok-lend_all.ensures.lent in
    let pids = c.in_ok-lend_all.ensures.vpids in
    part-lent first now lents w c.requires.rest c.requires.running once lent pids _ _ c.run_all.ensures.part

-- all come home
pub fetch_all-requires-clause-running : goal.fetch_all-requires-clause-running
fetch_all-requires-clause-running g c = none-by c.run_all.new.self.engine.verdict c.is_over.ensures c.if-is_over.false

pub returns-in_err-fetch_all-clause-part : goal.returns-in_err-fetch_all-clause-part
returns-in_err-fetch_all-clause-part g c =
    let first = c.args.self.now.engine in
    let w = g.H.Host.view c.args.host.now in
    let now = c.lend_all.new.self.engine in
    let lents = c.lend_all.new.self.lents.items in
    let once = c.owing_queue-queue.ensures.core.each_once in
    let lent = c.in_ok-lend_all.ensures.lent in
    let pids = c.in_ok-lend_all.ensures.vpids in
    part-lent first now lents w c.requires.rest c.requires.running once lent pids _ _ c.run_all.ensures.part

pub returns-clause-on : goal.returns-clause-on
returns-clause-on g c =
    let first = c.args.self.now.engine in
    let w = g.H.Host.view c.args.host.now in
    let now = c.lend_all.new.self.engine in
    let lents = c.lend_all.new.self.lents.items in
    let once = c.owing_queue-queue.ensures.core.each_once in
    let lent = c.in_ok-lend_all.ensures.lent in
    let pids = c.in_ok-lend_all.ensures.vpids in
    let next = c.fetch_all.new.self.engine in
    let v = g.H.Host.view c.run_all.new.host in
    let told = g.O.Sink.told c.args.out.now in
    let new = g.O.Sink.told c.run_all.new.out in
    let on = on-kept _ _ _ _ _ _ _ _ c.in_ok-run_all.ensures.on next c.fetch_all.new.self.lents.items
    (subst (λ v. KeepsRun c.run_all.new.self.engine c.run_all.new.self.lents.items next c.fetch_all.new.self.lents.items v)
    c.fetch_all.ensures.stays c.in_ok-fetch_all.ensures.keeps) in
    subst (λ v. TakesOn first w told next v new) (sym c.fetch_all.ensures.stays)
    (takes-on first now lents w c.requires.rest c.requires.running once lent pids told new next v c.requires.some
    (subst (λ (home : List Lent). GoesOn now lents w told next home v new) c.in_ok-fetch_all.ensures.home on))

pub returns-clause-part : goal.returns-clause-part
returns-clause-part g c =
    let first = c.args.self.now.engine in
    let w = g.H.Host.view c.args.host.now in
    let now = c.lend_all.new.self.engine in
    let lents = c.lend_all.new.self.lents.items in
    let once = c.owing_queue-queue.ensures.core.each_once in
    let lent = c.in_ok-lend_all.ensures.lent in
    let pids = c.in_ok-lend_all.ensures.vpids in
    part-lent first now lents w c.requires.rest c.requires.running once lent pids _ _ c.run_all.ensures.part
