use Rattle.std.proofs.lemmas.Result.{on_ok_weaker}
use Rattle.dt_rounds.proofs.Taking.{on-then, on-kept, on-part-then}
use Rattle.dt_rounds.proofs.live.Live.run_all.Goals as goal

-- they have gone back to it
pub returns-clause-on : goal.returns-clause-on
returns-clause-on g c =
    let kept = c.in_ok-fetch_head.ensures.keeps (g.H.Host.view c.run_beside.new.host) c.in_ok-run_beside.ensures.on.live in
    let here = on-kept _ _ _ _ _ _ _ _ c.in_ok-run_beside.ensures.on c.fetch_head.new.self.engine c.fetch_head.new.self.lents.items kept in
    on_ok_weaker c.run_beside-2.result (λ on. on-then _ _ _ _ _ _ _ _ here _ _ _ _ on) c.run_beside-2.ensures.on

pub returns-clause-part : goal.returns-clause-part
returns-clause-part g c =
    let kept = c.in_ok-fetch_head.ensures.keeps (g.H.Host.view c.run_beside.new.host) c.in_ok-run_beside.ensures.on.live in
    let here = on-kept _ _ _ _ _ _ _ _ c.in_ok-run_beside.ensures.on c.fetch_head.new.self.engine c.fetch_head.new.self.lents.items kept in
    on-part-then _ _ _ _ _ _ _ _ here _ c.run_beside-2.ensures.part
