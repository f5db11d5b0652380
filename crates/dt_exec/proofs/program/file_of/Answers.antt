use Rattle.std.proofs.Common.{Ok, is_some, sym, ap, ◌∙◌}
use Rattle.dt_tree.specs.Table.{shape_of}
use Rattle.dt_tree.proofs.NodeKinds.{is_file}
use Rattle.dt_exec.proofs.Opened.{file-bytes}
use Rattle.dt_exec.proofs.program.file_of.Goals as goal

pub returns-clause-ok : goal.returns-clause-ok
returns-clause-ok g c =
    let v = (g.H.Host.view c.args.host.now).forest in
    let no_dir = sym (c.is_dir.ensures v c.requires.stands) ∙ c.if-is_dir.false in
    let no_link = sym (c.is_link.ensures v c.requires.stands) ∙ c.if-is_link.false in
    let no_device = ap is_some (sym (c.device.ensures v c.requires.stands)) ∙ sym c.is_some.ensures ∙ c.if-is_some.false in
    ap Ok (c.new.ensures ∙ c.in_ok-read_file.ensures.ok)
    ∙ file-bytes (shape_of c.args.tree.now v) c.args.inode (is_file (shape_of c.args.tree.now v) c.args.inode c.requires.live no_dir no_link no_device)
