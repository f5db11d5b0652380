use Rattle.std.proofs.Common.{arith}
use Rattle.dt_sched.proofs.Tables.{owed-few, table-push}
use Rattle.dt_sched.proofs.queue.Queue.add.Goals as goal

pub owe-requires-clause-owed : goal.owe-requires-clause-owed
owe-requires-clause-owed c =
    let few = owed-few _ _ _ _ c.self.invariant.table c.self.view_is c.requires.room in
    omega (arith, few.0, c.self.inside.owed.ok.0, c.self.invariant.room.owed)

pub owe-requires-clause-indices : goal.owe-requires-clause-indices
owe-requires-clause-indices c =
    let few = owed-few _ _ _ _ c.self.invariant.table c.self.view_is c.requires.room in
    omega (arith, few.1, c.self.inside.indices.ok.0, c.self.invariant.room.indices)

pub invariant_of-self : goal.invariant_of-self
invariant_of-self c = record {
  table = table-push _ _ _ _ c.len-index.result _ _ _ _ c.self.invariant.table c.self.view_is c.requires.apart c.requires.room
      (omega (arith, c.len-index.ensures, c.self.inside.processes.ok.0)) c.in-Ok.ensures.items c.owe.ensures.owed c.owe.ensures.indices;
  room = record {
    processes = omega (arith, c.self.invariant.room.processes, c.in-Ok.ensures.capacity);
    owed = omega (arith, c.self.invariant.room.owed, c.owe.ensures.owed_room);
    indices = omega (arith, c.self.invariant.room.indices, c.owe.ensures.indices_room);
  };
}
