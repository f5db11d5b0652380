use Rattle.std.proofs.Common.{sym, ap, subst, ◌∙◌}
use Rattle.std.specs.FinMap.{empty}
use Rattle.std.specs.FinSet as set
use Rattle.dt_host.specs.World.{World}
use Rattle.dt_engine.specs.Ahead.{with_segment_of}
use Rattle.dt_engine.specs.InCode.{state_of}
use Rattle.dt_engine.specs.InPlay.{EngineView, IsInPlay}
use Rattle.dt_engine.specs.inner.Good.{IsGood}
use Rattle.dt_engine.proofs.Kept.{kept-good}
use Rattle.dt_engine.proofs.Queueing.{full-good, good-full}
use Rattle.dt_engine.proofs.engine.Engine.arrive.Goals as goal

pub arrive-requires-clause-good : goal.arrive-requires-clause-good
arrive-requires-clause-good c =
    let nowhere : World = record { forest = record { nodes = empty; root = 0 }; pipes = empty; pids = set.empty } in
    subst IsGood (sym (ap (λ (e : EngineView). e.state) c.self.view_is))
    (full-good c.args.self.now.state nowhere c.requires.whole.kept (c.requires.full nowhere))

pub returns-clause-ran : goal.returns-clause-ran
returns-clause-ran c = λ w.
    let verdict = c.self.inside.verdict in
    ap (λ state. record { state = state; verdict = verdict }) (c.in_ok-stop.ensures.ran w)
    ∙ ap (λ (e : EngineView). record { state = with_segment_of c.args.vpid (state_of e.state w); verdict = e.verdict }) c.self.view_is

pub returns-clause-whole : goal.returns-clause-whole
returns-clause-whole c =
    let whole = subst IsInPlay (sym c.self.view_is) c.requires.whole in
    record {
      kept = kept-good c.arrive.new.self c.in_ok-stop.ensures.good;
      running = λ none. c.in_ok-stop.ensures.verdict ∙ whole.running none;
      awake = c.in_ok-stop.ensures.awake whole.awake;
    }

pub returns-clause-full : goal.returns-clause-full
returns-clause-full c = λ w. good-full c.arrive.new.self w c.in_ok-stop.ensures.good
