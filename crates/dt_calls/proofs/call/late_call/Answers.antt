use Rattle.std.proofs.Common.{ℕ, ap, ◌∙◌}
use Rattle.dt_fds.proofs.Moving.{has_ends}
use Rattle.dt_calls.specs.LateCalls.{late_call}
use Rattle.dt_calls.specs.InCode.{shared_of}
use Rattle.dt_calls.proofs.Held.{serves-tasks}
use Rattle.dt_calls.proofs.call.late_call.Goals as goal

pub returns-in_ok-setitimer-in-103 : goal.returns-in_ok-setitimer-in-103
unfolding late_call
returns-in_ok-setitimer-in-103 g c =
    let shared = c.args.shared.now in
    let p = c.args.vpid in
    let m = c.args.machine.now in
    let world = g.H.Host.view c.args.host.now in
    let before = shared_of shared world in
    let done = c.in_ok-setitimer-in-103.ensures in
    serves-tasks p (late_call c.args.number before p m) shared c.setitimer.new.shared world c.setitimer.new.machine c.in_ok-setitimer-in-103.field-0 (g.H.Host.count c.args.host.now) c.requires.sound done.child done.kept
    (ap (λ (n : ℕ). late_call n before p m) c.in-103.is ∙ done.served world)

pub returns-in_ok-getitimer-in-102 : goal.returns-in_ok-getitimer-in-102
unfolding late_call
returns-in_ok-getitimer-in-102 g c =
    let shared = c.args.shared.now in
    let p = c.args.vpid in
    let m = c.args.machine.now in
    let world = g.H.Host.view c.args.host.now in
    let before = shared_of shared world in
    let done = c.in_ok-getitimer-in-102.ensures in
    serves-tasks p (late_call c.args.number before p m) shared c.getitimer.new.shared world c.getitimer.new.machine c.in_ok-getitimer-in-102.field-0 (g.H.Host.count c.args.host.now) c.requires.sound done.child done.kept
    (ap (λ (n : ℕ). late_call n before p m) c.in-102.is ∙ done.served world)

pub ppoll-requires-clause-ends : goal.ppoll-requires-clause-ends
ppoll-requires-clause-ends g c = has_ends c.args.shared.now.fs.files (g.H.Host.view c.args.host.now).pipes c.requires.sound.piped

pub returns-in_ok-ppoll-in-73 : goal.returns-in_ok-ppoll-in-73
unfolding late_call
returns-in_ok-ppoll-in-73 g c =
    let shared = c.args.shared.now in
    let p = c.args.vpid in
    let m = c.args.machine.now in
    let world = g.H.Host.view c.args.host.now in
    let before = shared_of shared world in
    let done = c.in_ok-ppoll-in-73.ensures in
    serves-tasks p (late_call c.args.number before p m) shared c.ppoll.new.shared world c.ppoll.new.machine c.in_ok-ppoll-in-73.field-0 (g.H.Host.count c.args.host.now) c.requires.sound done.child done.kept
    (ap (λ (n : ℕ). late_call n before p m) c.in-73.is ∙ done.served world c.requires.sound)
