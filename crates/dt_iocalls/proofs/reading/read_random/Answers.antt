use Rattle.std.proofs.Common.{arith}
use Rattle.dt_base.specs.declared.answer.Answer.TheVariants.{Refused}
use Rattle.dt_base.specs.declared.errno.Errno.TheVariants.{Fault as BadAddress}
use Rattle.dt_virt.specs.Words.{next_bytes}
use Rattle.dt_callbase.specs.Sound.{stage, scene}
use Rattle.dt_iocalls.specs.Ranges.{total_len, scattered_pages}
use Rattle.dt_iocalls.specs.Reading.{drawn_reply}
use Rattle.dt_virt.proofs.Drawing.{length-drawn}
use Rattle.dt_iocalls.proofs.Drawn.{drawn-refused}
use Rattle.dt_iocalls.proofs.Flows.{reaches_still}
use Rattle.dt_iocalls.proofs.reading.read_random.Goals as goal

pub returns-in_default : goal.returns-in_default
returns-in_default g c =
    let here = stage c.args.fs.now (g.H.Host.view c.args.host.now) c.args.caller.now c.args.space.now in
    let count = total_len c.args.ranges.now in
    let bytes = next_bytes c.args.fs.now.rand count in
    let pages = scattered_pages c.args.space.now c.args.ranges.now bytes in
    reaches_still (drawn_reply (scene here) count pages) here (Refused BadAddress) (g.H.Host.count c.args.host.now) (g.H.Host.count c.args.host.now) c.requires.sound (omega arith)
    (drawn-refused (scene here) count pages (c.in_ok-bytes.ensures.none c.in_default.is bytes (length-drawn c.args.fs.now.rand count)))
