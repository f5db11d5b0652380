use Rattle.std.proofs.Common.{ℕ, ap, ◌∙◌}
use Rattle.dt_calls.specs.Call.{signal_call}
use Rattle.dt_calls.specs.InCode.{shared_of}
use Rattle.dt_calls.proofs.Held.{serves-tasks}
use Rattle.dt_calls.proofs.call.signal_call.Goals as goal

pub returns-in-129 : goal.returns-in-129
unfolding signal_call
returns-in-129 g c =
    let shared = c.args.shared.now in
    let p = c.args.vpid in
    let m = c.args.machine.now in
    let world = g.H.Host.view c.args.host.now in
    let before = shared_of shared world in
    let done = c.kill.ensures in
    serves-tasks p (signal_call c.args.number before p m) shared c.kill.new.shared world c.kill.new.machine c.kill.result (g.H.Host.count c.args.host.now) c.requires.sound done.child done.kept
    (ap (λ (n : ℕ). signal_call n before p m) c.in-129.is ∙ done.served world)

pub returns-in-130 : goal.returns-in-130
unfolding signal_call
returns-in-130 g c =
    let shared = c.args.shared.now in
    let p = c.args.vpid in
    let m = c.args.machine.now in
    let world = g.H.Host.view c.args.host.now in
    let before = shared_of shared world in
    let done = c.tkill.ensures in
    serves-tasks p (signal_call c.args.number before p m) shared c.tkill.new.shared world c.tkill.new.machine c.tkill.result (g.H.Host.count c.args.host.now) c.requires.sound done.child done.kept
    (ap (λ (n : ℕ). signal_call n before p m) c.in-130.is ∙ done.served world)

pub returns-in-131 : goal.returns-in-131
unfolding signal_call
returns-in-131 g c =
    let shared = c.args.shared.now in
    let p = c.args.vpid in
    let m = c.args.machine.now in
    let world = g.H.Host.view c.args.host.now in
    let before = shared_of shared world in
    let done = c.tgkill.ensures in
    serves-tasks p (signal_call c.args.number before p m) shared c.tgkill.new.shared world c.tgkill.new.machine c.tgkill.result (g.H.Host.count c.args.host.now) c.requires.sound done.child done.kept
    (ap (λ (n : ℕ). signal_call n before p m) c.in-131.is ∙ done.served world)

pub returns-in_ok-rt_sigaction-in-134 : goal.returns-in_ok-rt_sigaction-in-134
unfolding signal_call
returns-in_ok-rt_sigaction-in-134 g c =
    let shared = c.args.shared.now in
    let p = c.args.vpid in
    let m = c.args.machine.now in
    let world = g.H.Host.view c.args.host.now in
    let before = shared_of shared world in
    let done = c.in_ok-rt_sigaction-in-134.ensures in
    serves-tasks p (signal_call c.args.number before p m) shared c.rt_sigaction.new.shared world c.rt_sigaction.new.machine c.in_ok-rt_sigaction-in-134.field-0 (g.H.Host.count c.args.host.now) c.requires.sound done.child done.kept
    (ap (λ (n : ℕ). signal_call n before p m) c.in-134.is ∙ done.served world)

pub returns-in_ok-rt_sigprocmask-in-135 : goal.returns-in_ok-rt_sigprocmask-in-135
unfolding signal_call
returns-in_ok-rt_sigprocmask-in-135 g c =
    let shared = c.args.shared.now in
    let p = c.args.vpid in
    let m = c.args.machine.now in
    let world = g.H.Host.view c.args.host.now in
    let before = shared_of shared world in
    let done = c.in_ok-rt_sigprocmask-in-135.ensures in
    serves-tasks p (signal_call c.args.number before p m) shared c.rt_sigprocmask.new.shared world c.rt_sigprocmask.new.machine c.in_ok-rt_sigprocmask-in-135.field-0 (g.H.Host.count c.args.host.now) c.requires.sound done.child done.kept
    (ap (λ (n : ℕ). signal_call n before p m) c.in-135.is ∙ done.served world)
