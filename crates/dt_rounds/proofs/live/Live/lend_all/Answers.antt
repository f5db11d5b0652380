use Rattle.std.proofs.Common.{◌≡◌, ◌+◌, ◌<◌, take, length, get_or, sym, ap, subst, ◌∙◌, arith}
use Rattle.std.specs.Prelude.{IsTrue}
use Rattle.std.specs.FinMap.{get}
use Rattle.std.proofs.lemmas.List.{get_or_default}
use Rattle.dt_sched.specs.Core.{owing_vpids, is_distinct}
use Rattle.dt_engine.specs.Happenings.{is_owing_work}
use Rattle.dt_engine.specs.InPlay.{EngineView, works_of}
use Rattle.dt_rounds.specs.declared.lent.Lent.{Lent}
use Rattle.dt_rounds.specs.inner.Round.{lent_vpids, HasLent}
use Rattle.dt_rounds.proofs.Lending.{none-lent, may-lend, vpids-more, lent-more}
use Rattle.dt_rounds.proofs.live.Live.lend_all.Goals as goal

-- the next that owes is at home
pub lend-requires-clause-owing : goal.lend-requires-clause-owing
lend-requires-clause-owing c =
    let l = c.loop-index in
    let queue = c.args.self.now.engine.state.core.queue in
    let same = c.drop_late.ensures.engine in
    let are : c.in_ok-vpids.vpids.items ≡ owing_vpids queue
    = c.in_ok-vpids.ensures.items ∙ c.owing_queue.ensures.order ∙ ap (λ (e : EngineView). owing_vpids e.state.core.queue) same in
    let once = subst (λ (e : EngineView). IsTrue (is_distinct e.state.core.queue)) same c.owing_queue.ensures.core.each_once in
    let here : l.index < length c.in_ok-vpids.vpids.items = omega (arith, c.len-index-end.ensures, c.loop-index-test.true) in
    let inside = subst (λ ps. l.index < length ps) are here in
    let found = c.index.ensures ∙ get_or_default c.in_ok-vpids.vpids.items l.index c.index.result.now 0 here in
    let pids : lent_vpids l.self.lents.items ≡ take l.index (owing_vpids queue) = l.invariant.pids ∙ ap (take l.index) are in
    subst (λ p. IsTrue (is_owing_work (get (works_of l.self.engine) p)))
    (sym (found ∙ ap (λ ps. get_or ps l.index 0) are))
    (may-lend c.args.self.now.engine l.self.engine l.self.lents.items l.index l.invariant.lent c.requires.good once inside pids)

pub loop-index-preserved : goal.loop-index-preserved
loop-index-preserved c =
    let l = c.loop-index in
    let queue = c.args.self.now.engine.state.core.queue in
    let same = c.drop_late.ensures.engine in
    let are : c.in_ok-vpids.vpids.items ≡ owing_vpids queue
    = c.in_ok-vpids.ensures.items ∙ c.owing_queue.ensures.order ∙ ap (λ (e : EngineView). owing_vpids e.state.core.queue) same in
    let once = subst (λ (e : EngineView). IsTrue (is_distinct e.state.core.queue)) same c.owing_queue.ensures.core.each_once in
    let here : l.index < length c.in_ok-vpids.vpids.items = omega (arith, c.len-index-end.ensures, c.loop-index-test.true) in
    let inside = subst (λ ps. l.index < length ps) are here in
    let found = c.index.ensures ∙ get_or_default c.in_ok-vpids.vpids.items l.index c.index.result.now 0 here in
    let pids : lent_vpids l.self.lents.items ≡ take l.index (owing_vpids queue) = l.invariant.pids ∙ ap (take l.index) are in
    let lends = c.in_ok-lend.ensures.lends in
    let is : lends.lent.vpid ≡ get_or (owing_vpids queue) l.index 0
    = lends.pid ∙ found ∙ ap (λ ps. get_or ps l.index 0) are in
    record {
      board = c.in_ok-lend.ensures.board ∙ l.invariant.board;
      lent = subst (λ lents. HasLent c.args.self.now.engine lents c.lend.new.self.engine) (sym lends.more)
          (lent-more c.args.self.now.engine l.self.engine l.self.lents.items l.index l.invariant.lent c.requires.good once inside pids
          lends.lent is lends.work c.lend.new.self.engine lends.run lends.rest);
      pids = ap lent_vpids lends.more
          ∙ vpids-more c.args.self.now.engine l.self.engine l.self.lents.items l.index l.invariant.lent c.requires.good once inside pids
          lends.lent is lends.work
          ∙ sym (ap (take (l.index + 1)) are);
      whole = lends.whole;
      sound = λ w sound. lends.sound w (l.invariant.sound w sound);
      open_still = lends.finished ∙ l.invariant.open_still;
    }
