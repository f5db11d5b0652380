use Rattle.std.proofs.Common.{arith, ◌∙◌}
use Rattle.dt_calls.proofs.Keys.{keys-below}
use Rattle.dt_calls.proofs.Ended.{others-kept}
use Rattle.dt_calls.proofs.shared.Shared.end.Goals as goal

pub show_kills-requires : goal.show_kills-requires
show_kills-requires g c =
    let most = c.next-next.ensures.sound.most in
    let same = c.in_ok-end_one.ensures.next in
    keys-below c.end_one.new.self.tasks c.deref.result.now c.end_one.new.self.pids.next _
    (c.deref.ensures.value ∙ c.in_ok-others.ensures) c.in_ok-end_one.ensures.sound.given (omega arith)

pub kill_each-requires-clause-small : goal.kill_each-requires-clause-small
kill_each-requires-clause-small g c =
    let most = c.next-next.ensures.sound.most in
    let same = c.in_ok-end_one.ensures.next in
    keys-below c.end_one.new.self.tasks c.deref-then-vpid-eq-FIRST_PID.result.now c.end_one.new.self.pids.next _
    (c.deref-then-vpid-eq-FIRST_PID.ensures.value ∙ c.in_ok-others.ensures) c.in_ok-end_one.ensures.sound.given (omega arith)

pub returns-else-vpid-eq-FIRST_PID-clause-others : goal.returns-else-vpid-eq-FIRST_PID-clause-others
returns-else-vpid-eq-FIRST_PID-clause-others g c = λ q other apart lives. others-kept _ q _ _ _ c.in_ok-end_one.ensures.ended apart lives
