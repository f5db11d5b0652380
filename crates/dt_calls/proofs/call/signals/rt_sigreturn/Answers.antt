use Rattle.std.proofs.Common.{rules, None, refl, sym, subst, ◌∙◌}
use Rattle.dt_calls.specs.declared.container.Served.TheVariants.{Done}
use Rattle.dt_calls.specs.InCode.{shared_of}
use Rattle.dt_calls.specs.Sound.{LeavesSound}
use Rattle.dt_calls.proofs.Done.{effect-is}
use Rattle.dt_calls.proofs.Held.{leaves, effect-then}
use Rattle.dt_calls.proofs.Returning.{returned, not-returned, keeps-returned}
use Rattle.dt_calls.proofs.call.signals.rt_sigreturn.Goals as goal

pub ended-requires-clause-sound : goal.ended-requires-clause-sound
ended-requires-clause-sound g c =
    let kept = keeps-returned c.args.shared.now c.args.vpid (g.H.Host.view c.args.host.now) c.args.machine.now c.return_from_handler.new.tasks c.return_from_handler.new.machine c.return_from_handler.result c.return_from_handler.ensures c.requires.sound c.requires.lives in
    kept.sound

pub ended-requires-clause-lives : goal.ended-requires-clause-lives
ended-requires-clause-lives g c =
    let kept = keeps-returned c.args.shared.now c.args.vpid (g.H.Host.view c.args.host.now) c.args.machine.now c.return_from_handler.new.tasks c.return_from_handler.new.machine c.return_from_handler.result c.return_from_handler.ensures c.requires.sound c.requires.lives in
    kept.tasks c.args.vpid c.requires.lives

pub returns-then-return_from_handler : goal.returns-then-return_from_handler
returns-then-return_from_handler g c =
    let shared = c.args.shared.now in
    let p = c.args.vpid in
    let w = g.H.Host.view c.args.host.now in
    let back = c.return_from_handler in
    let mid = record shared { tasks = back.new.tasks } in
    let kept = keeps-returned shared p w c.args.machine.now back.new.tasks back.new.machine back.result back.ensures c.requires.sound c.requires.lives in
    record {
      served = returned shared p w c.args.machine.now back.new.tasks back.new.machine back.result back.ensures c.if-return_from_handler.true
          ∙ effect-is (shared_of mid w) (shared_of mid w) back.new.machine back.new.machine None Done c.quiet.result refl refl c.quiet.ensures.child c.quiet.ensures.events c.quiet.ensures.served;
      kept = subst (λ made. LeavesSound p c.quiet.result.served made shared mid w) (sym c.quiet.ensures.child) (leaves p c.quiet.result.served shared mid w kept);
      cause = search rules;
    }

pub returns : goal.returns
returns g c =
    let shared = c.args.shared.now in
    let p = c.args.vpid in
    let w = g.H.Host.view c.args.host.now in
    let back = c.return_from_handler in
    let mid = record shared { tasks = back.new.tasks } in
    let kept = keeps-returned shared p w c.args.machine.now back.new.tasks back.new.machine back.result back.ensures c.requires.sound c.requires.lives in
    effect-then p _ _ shared mid c.ended.new.shared w (g.H.Host.view c.ended.new.host) back.new.machine c.ended.result _ _
    (not-returned shared p w c.args.machine.now back.new.tasks back.new.machine back.result back.ensures c.if-return_from_handler.false)
    kept (c.ended.ensures back.new.machine)
