use Rattle.std.proofs.Common.{rules, ◌≡◌, None, refl, sym, ap, subst, ◌∙◌}
use Rattle.dt_calls.specs.declared.container.Served.TheVariants.{Done}
use Rattle.dt_calls.specs.Effect.{Effect}
use Rattle.dt_calls.specs.Ends.{with_end, served_after_end}
use Rattle.dt_calls.specs.InCode.{shared_of}
use Rattle.dt_calls.specs.Sound.{LeavesSound}
use Rattle.dt_calls.proofs.Delivering.{ended-leaves}
use Rattle.dt_calls.proofs.Done.{effect-is}
use Rattle.dt_calls.proofs.Held.{leaves}
use Rattle.dt_calls.proofs.call.effect.Effect.ended.Goals as goal

pub returns : goal.returns
returns g c = λ m.
    let shared = c.args.shared.now in
    let p = c.args.vpid in
    let w = g.H.Host.view c.args.host.now in
    let new = c.end.new.shared in
    let v = g.H.Host.view c.end.new.host in
    let e = c.end.new.self in
    let quiet = c.quiet-effect.ensures in
    let ended = c.in_ok-end.ensures.ended m in
    let child : None ≡ e.child = sym quiet.child ∙ ap (λ (r : Effect). r.child) ended in
    let served : served_after_end Done ≡ e.served = sym (ap served_after_end quiet.served) ∙ ap (λ (r : Effect). r.served) ended in
    record {
      served = ap (with_end p c.args.end) (effect-is (shared_of shared w) (shared_of shared w) m m None Done c.quiet-effect.result refl refl quiet.child quiet.events quiet.served) ∙ ended;
      kept = subst (λ made. LeavesSound p e.served made shared new v) child
          (subst (λ s. LeavesSound p s None shared new v) served
          (ended-leaves p Done None shared shared new w v
          (leaves p Done shared shared w (record { sound = c.requires.sound; tasks = λ q there. there; next = refl })) (λ q. tt)
          c.in_ok-end.ensures.sound c.in_ok-end.ensures.next (λ q first apart. c.in_ok-end.ensures.others q first apart)));
      cause = search rules;
    }
