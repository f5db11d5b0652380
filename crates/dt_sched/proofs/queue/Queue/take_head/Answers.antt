use Rattle.std.proofs.Common.{ap, ◌∙◌, arith}
use Rattle.dt_sched.specs.inner.Queue.{indices_without_head}
use Rattle.dt_sched.proofs.Tables.{moved-whole, table-taken, ready-first}
use Rattle.dt_sched.proofs.queue.Queue.take_head.Goals as goal

pub invariant_of-self : goal.invariant_of-self
invariant_of-self c =
    let joined = c.in-Some.ensures.items in
    record {
      table = table-taken c.in-Some.first _ _ _ _ _ c.self.invariant.table joined
          (ready-first c.in-Some.first _ _ _ c.self.view_is joined c.requires)
          (moved-whole _ _ _ (omega (arith, c.self.inside.indices.ok.0)) (c.move_up.ensures ∙ ap indices_without_head c.deref_mut.ensures.value));
      room = record {
        processes = omega (arith, c.self.invariant.room.processes, c.pop_front.ensures.capacity);
        owed = c.self.invariant.room.owed;
        indices = c.self.invariant.room.indices;
      };
    }
