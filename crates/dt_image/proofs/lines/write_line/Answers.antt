use Rattle.std.proofs.Common.{◌++◌, ℕ, List, is_some, sym, ap, ◌∙◌}
use Rattle.dt_host.specs.World.{World, content}
use Rattle.dt_tree.specs.Table.{shape_of, tree_of}
use Rattle.dt_image.specs.Report.{file_line}
use Rattle.dt_image.specs.Paths.{path_pair}
use Rattle.dt_image.proofs.Shown.{line_of_file, line_of_device}
use Rattle.dt_image.proofs.lines.write_line.Goals as goal

pub returns-in_ok-write_device-in-Some-clause-ok : goal.returns-in_ok-write_device-in-Some-clause-ok
returns-in_ok-write_device-in-Some-clause-ok g c =
    let v = (g.H.Host.view c.args.host.now).forest in
    let is = sym (c.device.ensures v c.requires.stands) ∙ c.in-Some.is in
    c.in_ok-write_device-in-Some.ensures
    ∙ ap (λ more. c.args.text.now.items ++ more) (sym (line_of_device (tree_of c.args.tree.now v) (path_pair c.args.at.now) c.in_ok-meta.meta c.in_ok-meta.ensures.ok c.in-Some.device is))

pub returns-in_ok-write_file-in-None-clause-ok : goal.returns-in_ok-write_file-in-None-clause-ok
returns-in_ok-write_file-in-None-clause-ok g c =
    let v = (g.H.Host.view c.args.host.now).forest in
    let no_dir = sym (c.is_dir.ensures v c.requires.stands) ∙ c.if-is_dir.false in
    let no_link = sym (c.is_link.ensures v c.requires.stands) ∙ c.if-is_link.false in
    let no_device = ap is_some (sym (c.device.ensures v c.requires.stands) ∙ c.in-None.is) in
    let line = line_of_file (tree_of c.args.tree.now v) (path_pair c.args.at.now) c.in_ok-meta.meta c.in_ok-meta.ensures.ok no_dir no_link no_device in
    let bytes =
    c.deref.ensures.value ∙ c.in_ok-bytes-in-None.ensures.ok
    ∙ ap (λ (w : World). content (shape_of c.args.tree.now w.forest) c.args.at.now.inode) c.in_ok-meta.ensures.asks.stays in
    c.in_ok-write_file-in-None.ensures
    ∙ ap (λ (bytes : List ℕ). c.args.text.now.items ++ file_line c.args.at.now.inode c.in_ok-meta.meta.mode c.in_ok-meta.meta.stamp c.args.at.now.path bytes) bytes
    ∙ ap (λ more. c.args.text.now.items ++ more) (sym line.2)
