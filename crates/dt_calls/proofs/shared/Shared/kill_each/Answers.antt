use Rattle.std.proofs.Common.{arith, ◌≢◌, ◌<◌, length, refl, sym, subst, ◌∙◌}
use Rattle.std.proofs.Math.ListN.{get_or}
use Rattle.std.specs.Prelude.{IsSome}
use Rattle.std.specs.FinMap.{get}
use Rattle.dt_calls.proofs.Keys.{key-there, key-apart}
use Rattle.dt_calls.proofs.Ended.{kills-next, others-kept}
use Rattle.dt_calls.proofs.shared.Shared.kill_each.Goals as goal

pub loop-vpid-init : goal.loop-vpid-init
loop-vpid-init g c = record {
  later = omega arith;
  whole = refl;
  sound = c.requires.sound;
  next = refl;
  lives = λ k least within.
      subst (λ ks. k < length ks → IsSome (get c.args.self.now.tasks (get_or ks k 0))) c.requires.all (key-there c.args.self.now.tasks k) within;
}

pub loop-vpid-preserved : goal.loop-vpid-preserved
loop-vpid-preserved g c =
    let i = c.loop-vpid.vpid-index in
    let vpids = c.args.vpids.now in
    let ended = c.in_ok-end_one.ensures.ended in
    record {
      later = omega (arith, c.loop-vpid.invariant.later, c.end_one.ensures.cause.later);
      whole = kills-next vpids i _ _ _ _ (omega arith) refl c.loop-vpid.invariant.whole ended;
      sound = c.in_ok-end_one.ensures.sound;
      next = c.in_ok-end_one.ensures.next ∙ c.loop-vpid.invariant.next;
      lives = λ k least within.
          let apart : get_or vpids i 0 ≢ get_or vpids k 0 = subst (λ ks. k < length ks → get_or ks i 0 ≢ get_or ks k 0) c.requires.all (key-apart c.args.self.now.tasks i k (omega arith)) within in
          others-kept _ (get_or vpids k 0) _ _ _ ended (λ is. apart (sym is)) (c.loop-vpid.invariant.lives k (omega arith) within);
    }
