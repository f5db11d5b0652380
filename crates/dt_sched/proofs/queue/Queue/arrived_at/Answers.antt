use Rattle.std.proofs.Common.{map, ap, ◌∙◌, arith}
use Rattle.std.specs.List.{slice_index_or}
use Rattle.dt_sched.specs.Core.{owing_vpids, process_after_arrival}
use Rattle.dt_sched.proofs.Tables.{index-there, place-there, arrived-there, table-arrived}
use Rattle.dt_sched.proofs.queue.Queue.arrived_at.Goals as goal

pub remove-at-requires : goal.remove-at-requires
remove-at-requires c =
    let there = index-there c.args.index _ _ _ _ c.self.invariant.table c.self.view_is c.requires in
    omega (arith, there, c.self.inside.indices.ok.0)

pub index_mut-requires : goal.index_mut-requires
index_mut-requires c =
    let h = place-there c.args.index c.remove-at.result _ _ _ _ c.self.invariant.table c.self.view_is c.requires c.remove-at.ensures.value in
    omega (arith, h.is, h.within, c.self.inside.processes.ok.0)

pub invariant_of-self : goal.invariant_of-self
invariant_of-self c =
    let new = arrived-there c.args.index c.remove-at.result c.args.cost _ _ _ _ c.index_mut.result.now c.self.invariant.table
    c.self.view_is c.requires c.remove-at.ensures.value c.index_mut.ensures.value in
    record {
      table = table-arrived c.args.index c.args.cost 0 _ _ _ _ _ _ _ c.self.invariant.table c.self.view_is c.requires new
          c.remove.ensures.items c.remove-at.ensures.items;
      room = record {
        processes = c.self.invariant.room.processes;
        owed = omega (arith, c.self.invariant.room.owed, c.remove.ensures.capacity);
        indices = omega (arith, c.self.invariant.room.indices, c.remove-at.ensures.capacity);
      };
    }

pub returns : goal.returns
returns c =
    arrived-there c.args.index c.remove-at.result c.args.cost _ _ _ _ c.index_mut.result.now c.self.invariant.table
    c.self.view_is c.requires c.remove-at.ensures.value c.index_mut.ensures.value
    ∙ ap (λ queue. map (process_after_arrival (slice_index_or (owing_vpids queue) c.args.index 0) c.args.cost) queue) c.self.view_is
