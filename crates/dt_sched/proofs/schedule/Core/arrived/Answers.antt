use Rattle.std.proofs.lemmas.List.{length-map}
use Rattle.std.proofs.Common.{subst, sym, IsTrue}
use Rattle.dt_sched.proofs.Tables.{each_once-arrived, counted-arrived, holds-arrived}
use Rattle.dt_sched.proofs.schedule.Core.arrived.Goals as goal

pub invariant_of-self : goal.invariant_of-self
invariant_of-self c =
    let queue = c.self.inside.queue in
    let going = c.self.invariant.going in
    let vpid = c.args.vpid in
    rw c.arrived.ensures (record {
      each_once = subst IsTrue (sym (each_once-arrived vpid c.args.cost queue)) c.self.invariant.each_once;
      counted = counted-arrived vpid c.args.cost queue c.requires.count c.self.invariant.counted;
      few = rw length-map c.self.invariant.few;
      going = λ none. record {
        first = subst IsTrue (sym (holds-arrived vpid c.args.cost 1 queue)) (going none).first;
        blocked = rw length-map (going none).blocked;
      };
    })
