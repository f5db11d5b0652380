use Rattle.std.proofs.Common.{rules, ◌≡◌, ℕ, true, false, Option, subst}
use Rattle.std.specs.Prelude.{Ok}
use Rattle.dt_calls.specs.Call.{effect_of_stop}
use Rattle.dt_calls.specs.Delivery.{effect_after_delivery, forced_signal, takes_signals}
use Rattle.dt_calls.specs.InCode.{shared_of}
use Rattle.dt_calls.specs.Sound.{HasEffect, left}
use Rattle.dt_calls.specs.Timers.{effect_after_timers}
use Rattle.dt_calls.proofs.Delivering.{takes-lives, keeps-delivered, serves-none, serves-nothing, serves-handler, serves-signal}
use Rattle.dt_calls.proofs.call.serve_and_deliver.Goals as goal

pub deliver_at-requires : goal.deliver_at-requires
deliver_at-requires g c =
    let e = c.in_ok-effect.effect in
    let takes : takes_signals e.served ≡ true = search rules in
    c.in_ok-effect.ensures.kept.tasks c.args.vpid (takes-lives c.args.vpid e.served c.args.vpid takes) c.requires.lives

pub returns-then-not-takes_signals : goal.returns-then-not-takes_signals
returns-then-not-takes_signals g c =
    let shared = c.args.shared.now in
    let p = c.args.vpid in
    let m = c.args.machine.now in
    let w = g.H.Host.view c.args.host.now in
    let e = c.in_ok-effect.effect in
    let none : takes_signals e.served ≡ false = search rules in
    serves-none p (forced_signal c.args.stop) (effect_after_timers (effect_of_stop (shared_of shared w) shared.pids.next p m c.args.stop)) shared c.serve_and_fire.new.shared (g.H.Host.view c.serve_and_fire.new.host) c.serve_and_fire.new.machine e
    (g.H.Host.count c.args.host.now) (g.H.Host.count c.serve_and_fire.new.host) c.in_ok-effect.ensures none

pub returns-in-Nothing : goal.returns-in-Nothing
returns-in-Nothing g c =
    let shared = c.args.shared.now in
    let p = c.args.vpid in
    let m = c.args.machine.now in
    let w = g.H.Host.view c.args.host.now in
    let defined = effect_after_timers (effect_of_stop (shared_of shared w) shared.pids.next p m c.args.stop) in
    let mid = c.serve_and_fire.new.shared in
    let v = g.H.Host.view c.serve_and_fire.new.host in
    let e = c.in_ok-effect.effect in
    let takes : takes_signals e.served ≡ true = search rules in
    let lives = c.in_ok-effect.ensures.kept.tasks p (takes-lives p e.served p takes) c.requires.lives in
    let forced = c.forced_signal-forced.result in
    subst (λ (f : Option ℕ). HasEffect p (effect_after_delivery f p defined) shared (left (record mid { tasks = c.deliver_at.new.tasks }) v c.deliver_at.new.machine) (Ok e) (g.H.Host.count c.args.host.now) (g.H.Host.count c.serve_and_fire.new.host)) c.forced_signal-forced.ensures
    (serves-nothing p forced defined shared mid v c.serve_and_fire.new.machine e (g.H.Host.count c.args.host.now) (g.H.Host.count c.serve_and_fire.new.host)
    c.in_ok-effect.ensures takes lives c.deliver_at.new.tasks c.deliver_at.new.machine c.in_ok-deliver_at.field-0 c.in_ok-deliver_at.ensures c.in-Nothing.is)

pub returns-in-Handler : goal.returns-in-Handler
returns-in-Handler g c =
    let shared = c.args.shared.now in
    let p = c.args.vpid in
    let m = c.args.machine.now in
    let w = g.H.Host.view c.args.host.now in
    let defined = effect_after_timers (effect_of_stop (shared_of shared w) shared.pids.next p m c.args.stop) in
    let mid = c.serve_and_fire.new.shared in
    let v = g.H.Host.view c.serve_and_fire.new.host in
    let e = c.in_ok-effect.effect in
    let takes : takes_signals e.served ≡ true = search rules in
    let lives = c.in_ok-effect.ensures.kept.tasks p (takes-lives p e.served p takes) c.requires.lives in
    let forced = c.forced_signal-forced.result in
    subst (λ (f : Option ℕ). HasEffect p (effect_after_delivery f p defined) shared (left (record mid { tasks = c.deliver_at.new.tasks }) v c.deliver_at.new.machine) (Ok (record e { served = c.at_handler-effect.result })) (g.H.Host.count c.args.host.now) (g.H.Host.count c.serve_and_fire.new.host)) c.forced_signal-forced.ensures
    (serves-handler p forced defined shared mid v c.serve_and_fire.new.machine e (g.H.Host.count c.args.host.now) (g.H.Host.count c.serve_and_fire.new.host)
    c.in_ok-effect.ensures takes lives c.deliver_at.new.tasks c.deliver_at.new.machine c.in_ok-deliver_at.field-0 c.in_ok-deliver_at.ensures c.at_handler-effect.result c.in-Handler.is c.at_handler-effect.ensures)

pub end-requires-clause-sound : goal.end-requires-clause-sound
end-requires-clause-sound g c =
    let shared = c.args.shared.now in
    let p = c.args.vpid in
    let m = c.args.machine.now in
    let w = g.H.Host.view c.args.host.now in
    let defined = effect_after_timers (effect_of_stop (shared_of shared w) shared.pids.next p m c.args.stop) in
    let mid = c.serve_and_fire.new.shared in
    let v = g.H.Host.view c.serve_and_fire.new.host in
    let e = c.in_ok-effect.effect in
    let takes : takes_signals e.served ≡ true = search rules in
    let lives = c.in_ok-effect.ensures.kept.tasks p (takes-lives p e.served p takes) c.requires.lives in
    let forced = c.forced_signal-forced.result in
    let kept = keeps-delivered p forced defined shared mid v c.serve_and_fire.new.machine e (g.H.Host.count c.args.host.now) (g.H.Host.count c.serve_and_fire.new.host)
    c.in_ok-effect.ensures takes lives c.deliver_at.new.tasks c.deliver_at.new.machine c.in_ok-deliver_at.field-0 c.in_ok-deliver_at.ensures in
    kept.sound

pub end-requires-clause-lives : goal.end-requires-clause-lives
end-requires-clause-lives g c =
    let shared = c.args.shared.now in
    let p = c.args.vpid in
    let m = c.args.machine.now in
    let w = g.H.Host.view c.args.host.now in
    let defined = effect_after_timers (effect_of_stop (shared_of shared w) shared.pids.next p m c.args.stop) in
    let mid = c.serve_and_fire.new.shared in
    let v = g.H.Host.view c.serve_and_fire.new.host in
    let e = c.in_ok-effect.effect in
    let takes : takes_signals e.served ≡ true = search rules in
    let lives = c.in_ok-effect.ensures.kept.tasks p (takes-lives p e.served p takes) c.requires.lives in
    let forced = c.forced_signal-forced.result in
    let kept = keeps-delivered p forced defined shared mid v c.serve_and_fire.new.machine e (g.H.Host.count c.args.host.now) (g.H.Host.count c.serve_and_fire.new.host)
    c.in_ok-effect.ensures takes lives c.deliver_at.new.tasks c.deliver_at.new.machine c.in_ok-deliver_at.field-0 c.in_ok-deliver_at.ensures in
    kept.tasks p lives

pub returns-in_ok-end-in-Ends : goal.returns-in_ok-end-in-Ends
returns-in_ok-end-in-Ends g c =
    let shared = c.args.shared.now in
    let p = c.args.vpid in
    let m = c.args.machine.now in
    let w = g.H.Host.view c.args.host.now in
    let defined = effect_after_timers (effect_of_stop (shared_of shared w) shared.pids.next p m c.args.stop) in
    let mid = c.serve_and_fire.new.shared in
    let v = g.H.Host.view c.serve_and_fire.new.host in
    let e = c.in_ok-effect.effect in
    let takes : takes_signals e.served ≡ true = search rules in
    let lives = c.in_ok-effect.ensures.kept.tasks p (takes-lives p e.served p takes) c.requires.lives in
    let forced = c.forced_signal-forced.result in
    let done = c.in_ok-end-in-Ends.ensures in
    let later = c.end.ensures.cause.later in
    subst (λ (f : Option ℕ). HasEffect p (effect_after_delivery f p defined) shared (left c.end.new.shared (g.H.Host.view c.end.new.host) c.deliver_at.new.machine) (Ok c.end.new.self) (g.H.Host.count c.args.host.now) (g.H.Host.count c.end.new.host)) c.forced_signal-forced.ensures
    (serves-signal p forced defined shared mid v c.serve_and_fire.new.machine e (g.H.Host.count c.args.host.now) (g.H.Host.count c.serve_and_fire.new.host)
    c.in_ok-effect.ensures takes lives c.deliver_at.new.tasks c.deliver_at.new.machine c.in_ok-deliver_at.field-0 c.in_ok-deliver_at.ensures c.in-Ends.signal c.end.new.shared (g.H.Host.view c.end.new.host) c.end.new.self (g.H.Host.count c.end.new.host) c.in-Ends.is
    (done.ended c.deliver_at.new.machine) done.sound done.next (λ q first apart. done.others q first apart) later)
