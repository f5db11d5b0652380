use Rattle.std.proofs.Common.{ap, sym, ◌∙◌}
use Rattle.std.specs.Option.{is_some}
use Rattle.dt_tree.specs.Table.{shape_of}
use Rattle.dt_tree.proofs.NodeKinds.{is_dir-true, is_link-true, is_file}
use Rattle.dt_tests_host.proofs.Numbers.{held_dir, held_link, held_file}
use Rattle.dt_tests_host.proofs.tree.held.text_of.Goals as goal

pub dir_text-requires : goal.dir_text-requires
dir_text-requires c =
    let v = c.args.host.now.view.forest in
    let is = sym (c.is_dir.ensures v c.requires.stands) ∙ c.if-is_dir.true in
    held_dir c.args.tree.now v c.requires.stands.mirrors.pairs c.args.inode c.args.real c.requires.number (is_dir-true (shape_of c.args.tree.now v) c.args.inode is)

pub link_text-requires : goal.link_text-requires
link_text-requires c =
    let v = c.args.host.now.view.forest in
    let is = sym (c.is_link.ensures v c.requires.stands) ∙ c.if-is_link.true in
    held_link c.args.tree.now v c.requires.stands.mirrors.pairs c.args.inode c.args.real c.requires.number (is_link-true (shape_of c.args.tree.now v) c.args.inode is)

pub file_text-requires : goal.file_text-requires
file_text-requires c =
    let v = c.args.host.now.view.forest in
    let no_dir = sym (c.is_dir.ensures v c.requires.stands) ∙ c.if-is_dir.false in
    let no_link = sym (c.is_link.ensures v c.requires.stands) ∙ c.if-is_link.false in
    let no_device = ap is_some (sym (c.device.ensures v c.requires.stands)) ∙ sym c.is_some.ensures ∙ c.if-is_some.false in
    held_file c.args.tree.now v c.requires.stands.mirrors.pairs c.args.inode c.args.real c.requires.number (is_file (shape_of c.args.tree.now v) c.args.inode c.requires.live no_dir no_link no_device)
