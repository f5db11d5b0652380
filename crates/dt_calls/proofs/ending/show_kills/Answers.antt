use Rattle.std.proofs.Common.{rules, arith, ◌<◌, ◌^◌}
use Rattle.std.proofs.lemmas.List.Elements.{All-get_or}
use Rattle.dt_calls.proofs.ending.show_kills.Goals as goal

pub overflow_cast-vpid : goal.overflow_cast-vpid
overflow_cast-vpid c =
    let small = All-get_or (λ v. v < 2 ^ 32) c.args.vpids.now c.loop-vpid.vpid-index 0 (omega arith) c.requires in
    search rules
