use Rattle.std.proofs.Common.{is_some, sym, ap, ◌∙◌}
use Rattle.dt_base.specs.declared.image.What.TheVariants.{File}
use Rattle.dt_tree.specs.Table.{tree_of}
use Rattle.dt_export.proofs.Nodes.{device_told, file_told}
use Rattle.dt_export.proofs.image.read_what.Goals as goal

pub returns-in-Some-clause-ok : goal.returns-in-Some-clause-ok
returns-in-Some-clause-ok g c =
    let v = (g.H.Host.view c.args.host.now).forest in
    sym (device_told (tree_of c.args.tree.now v) c.args.inode c.in-Some.device (sym (c.device.ensures v c.requires.stands) ∙ c.in-Some.is))

pub returns-in_ok-read_file-in-None-clause-ok : goal.returns-in_ok-read_file-in-None-clause-ok
returns-in_ok-read_file-in-None-clause-ok g c =
    let v = (g.H.Host.view c.args.host.now).forest in
    let no_dir = sym (c.is_dir.ensures v c.requires.stands) ∙ c.if-is_dir.false in
    let no_link = sym (c.is_link.ensures v c.requires.stands) ∙ c.if-is_link.false in
    let no_device = ap is_some (sym (c.device.ensures v c.requires.stands) ∙ c.in-None.is) in
    let told = file_told (tree_of c.args.tree.now v) c.args.inode c.requires.live no_dir no_link no_device in
    ap File (c.new.ensures ∙ c.in_ok-read_file-in-None.ensures.ok) ∙ sym told.1
