use Rattle.std.proofs.Common.{◌++◌, ◌-◌, ◌^◌, map, sym, ap, ◌∙◌, arith, append-nil}
use Rattle.dt_tree.specs.Table.{shape_of, tree_of}
use Rattle.dt_image.specs.Paths.{path_pair}
use Rattle.dt_image.specs.inner.PathView.{listed_path}
use Rattle.dt_image.proofs.Children.{listed_after, below_listed, none_below}
use Rattle.dt_image.proofs.paths.add_below.Goals as goal

pub list_after-requires-clause-directory : goal.list_after-requires-clause-directory
list_after-requires-clause-directory g c =
    let v = (g.H.Host.view c.args.host.now).forest in
    sym (c.is_dir.ensures v c.requires.stands) ∙ c.if-not-is_dir.false

pub returns-then-not-is_dir-clause-ok : goal.returns-then-not-is_dir-clause-ok
returns-then-not-is_dir-clause-ok g c =
    let v = (g.H.Host.view c.args.host.now).forest in
    let none = none_below (shape_of c.args.tree.now v) c.args.at.now.path c.args.at.now.inode (sym (c.is_dir.ensures v c.requires.stands) ∙ c.if-not-is_dir.true) in
    sym (ap (λ more. map path_pair c.args.next.now.items ++ more) none ∙ append-nil (map path_pair c.args.next.now.items))

pub returns-clause-ok : goal.returns-clause-ok
returns-clause-ok g c =
    let v = (g.H.Host.view c.args.host.now).forest in
    let t = tree_of c.args.tree.now v in
    let path = c.args.at.now.path in
    let list = c.deref.ensures.value ∙ c.in_ok-listed.ensures.ok ∙ listed_after t c.args.at.now.inode (2 ^ 64 - 1) c.requires.stands.tree (omega arith) in
    let all = ap (map (listed_path path)) list ∙ below_listed t.shape path c.args.at.now.inode in
    c.in_ok-add_listed.ensures
    ∙ ap (λ at. map path_pair c.args.next.now.items ++ map (listed_path at) c.deref.result.now) c.as_slice.ensures
    ∙ ap (λ more. map path_pair c.args.next.now.items ++ more) all
