use Rattle.std.proofs.Common.{arith, ◌≡◌, ap, ◌∙◌}
use Rattle.dt_callbase.specs.Scene.{value_reply}
use Rattle.dt_callbase.specs.Sound.{stage, scene}
use Rattle.dt_iocalls.specs.Ranges.{total_len}
use Rattle.dt_iocalls.specs.Writing.{device_write_reply}
use Rattle.dt_iocalls.specs.inner.Written.{ranges_write_reply}
use Rattle.dt_base.specs.declared.answer.Answer.TheVariants.{Value}
use Rattle.dt_iocalls.proofs.Flows.{reaches_still}
use Rattle.dt_iocalls.proofs.Written.{device-written}
use Rattle.dt_iocalls.proofs.writing.write_device.Goals as goal

pub returns-in-Ok : goal.returns-in-Ok
returns-in-Ok g c =
    let here = stage c.args.fs.now (g.H.Host.view c.args.host.now) c.args.caller.now c.args.space.now in
    let count : total_len c.args.ranges.now ≡ c.total_len.result = omega (arith, c.total_len.ensures, c.requires.few) in
    reaches_still (ranges_write_reply device_write_reply c.args.ranges.now (scene here)) here (Value c.total_len.result) (g.H.Host.count c.args.host.now) (g.H.Host.count c.args.host.now)
    c.requires.sound (omega arith) (device-written c.args.ranges.now (scene here) c.in-Ok.ensures ∙ ap (value_reply (scene here)) count)
