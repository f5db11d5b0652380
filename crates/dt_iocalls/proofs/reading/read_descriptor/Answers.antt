use Rattle.std.proofs.Common.{sym}
use Rattle.dt_tree.specs.Table.{shape_of}
use Rattle.dt_iocalls.proofs.Described.{kind_in}
use Rattle.dt_iocalls.proofs.reading.read_descriptor.Goals as goal

pub read_by_kind-requires-clause-there : goal.read_by_kind-requires-clause-there
read_by_kind-requires-clause-there g c =
    kind_in (shape_of c.args.fs.now.tree (g.H.Host.view c.args.host.now).forest) c.args.fs.now.files.descriptors c.args.caller.now.vpid c.args.fd
    c.in-Some.desc.now c.requires.sound.all_in (sym c.in-Some.ensures.desc)
