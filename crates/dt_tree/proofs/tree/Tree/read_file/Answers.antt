use Rattle.std.proofs.Common.{◌≡◌, subst}
use Rattle.std.specs.Prelude.{IfOk}
use Rattle.std.proofs.lemmas.List.{take_all}
use Rattle.dt_base.specs.declared.limits.TheConstants.{FILE_LIMIT}
use Rattle.dt_host.specs.World.{content}
use Rattle.dt_tree.specs.Table.{tree_of}
use Rattle.dt_tree.proofs.Parts.{within}
use Rattle.dt_tree.proofs.tree.Tree.read_file.Goals as goal

pub returns-clause-ok : goal.returns-clause-ok
returns-clause-ok g c =
    let t = tree_of c.args.self.now (g.H.Host.view c.args.host.now).forest in
    let whole = take_all FILE_LIMIT (content t.shape c.args.inode) (within t c.args.inode c.requires.stands.tree) in
    subst (λ found. IfOk c.read_part.result (λ bytes. bytes.items ≡ found)) whole c.read_part.ensures.ok
