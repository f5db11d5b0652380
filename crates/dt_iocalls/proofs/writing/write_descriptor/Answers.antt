use Rattle.std.proofs.Common.{sym, ap, ◌∙◌}
use Rattle.dt_fds.specs.Descriptions.{write_pipe}
use Rattle.dt_tree.specs.Table.{shape_of}
use Rattle.dt_callbase.specs.Sound.{stage, scene}
use Rattle.dt_callbase.proofs.Kept.{reaches_same}
use Rattle.dt_iocalls.specs.Writing.{write_reply_by_kind, pipe_write_reply, device_write_reply, descriptor_write_reply}
use Rattle.dt_iocalls.specs.inner.Written.{ranges_write_reply}
use Rattle.dt_iocalls.proofs.Described.{kind_in}
use Rattle.dt_iocalls.proofs.Written.{written-pipe, written-device, written-whole}
use Rattle.dt_iocalls.proofs.writing.write_descriptor.Goals as goal

pub write_gathered-requires-clause-there : goal.write_gathered-requires-clause-there
write_gathered-requires-clause-there g c =
    kind_in (shape_of c.args.fs.now.tree (g.H.Host.view c.args.host.now).forest) c.args.fs.now.files.descriptors c.args.caller.now.vpid c.args.fd c.in-Some.desc.now c.requires.sound.all_in (sym c.in-Some.ensures.desc)

pub returns-in-PipeWrite : goal.returns-in-PipeWrite
returns-in-PipeWrite g c =
    let gone = stage c.args.fs.now (g.H.Host.view c.args.host.now) c.args.caller.now c.args.space.now in
    reaches_same (descriptor_write_reply c.args.fd c.args.ranges.now (scene gone)) (ranges_write_reply (pipe_write_reply c.args.fd) c.args.ranges.now (scene gone))
    gone (stage c.write_pipe.new.fs (g.H.Host.view c.write_pipe.new.host) c.args.caller.now c.args.space.now) c.write_pipe.result (g.H.Host.count c.args.host.now) (g.H.Host.count c.write_pipe.new.host)
    (written-pipe c.args.fd c.args.ranges.now (scene gone) c.in-Some.desc.now (sym c.in-Some.ensures.desc) (sym c.if-not-is_writable.ensures) _ (ap write_pipe c.in-PipeWrite.is))
    c.write_pipe.ensures

pub returns-in-Device : goal.returns-in-Device
returns-in-Device g c =
    let gone = stage c.args.fs.now (g.H.Host.view c.args.host.now) c.args.caller.now c.args.space.now in
    reaches_same (descriptor_write_reply c.args.fd c.args.ranges.now (scene gone)) (ranges_write_reply device_write_reply c.args.ranges.now (scene gone))
    gone gone c.write_device.result (g.H.Host.count c.args.host.now) (g.H.Host.count c.args.host.now)
    (written-device c.args.fd c.args.ranges.now (scene gone) c.in-Some.desc.now (sym c.in-Some.ensures.desc) (sym c.if-not-is_writable.ensures) _ c.in-Device.is)
    c.write_device.ensures

pub returns-in-File : goal.returns-in-File
returns-in-File g c =
    let gone = stage c.args.fs.now (g.H.Host.view c.args.host.now) c.args.caller.now c.args.space.now in
    let desc = c.in-Some.desc.now in
    reaches_same (descriptor_write_reply c.args.fd c.args.ranges.now (scene gone)) (ranges_write_reply (write_reply_by_kind c.args.fd desc.append c.offset_of-offset.result desc.kind) c.args.ranges.now (scene gone))
    gone (stage c.write_gathered.new.fs (g.H.Host.view c.write_gathered.new.host) c.args.caller.now c.args.space.now) c.write_gathered.result (g.H.Host.count c.args.host.now) (g.H.Host.count c.write_gathered.new.host)
    (written-whole c.args.fd c.args.ranges.now (scene gone) desc (sym c.in-Some.ensures.desc) (sym c.if-not-is_writable.ensures)
    ∙ ap (λ n. ranges_write_reply (write_reply_by_kind c.args.fd desc.append n desc.kind) c.args.ranges.now (scene gone)) (sym c.offset_of-offset.ensures))
    c.write_gathered.ensures
