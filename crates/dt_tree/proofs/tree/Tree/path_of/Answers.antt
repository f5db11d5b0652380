use Rattle.std.proofs.Common.{ap, ◌∙◌}
use Rattle.std.specs.Prelude.{is_some, option_map}
use Rattle.dt_tree.specs.Above.{path_text}
use Rattle.dt_tree.proofs.Pathed.{path_of-removed}
use Rattle.dt_tree.proofs.tree.Tree.path_of.Goals as goal

pub returns-in_ok-path_text-in-Some-clause-removed : goal.returns-in_ok-path_text-in-Some-clause-removed
returns-in_ok-path_text-in-Some-clause-removed g c =
    let up = rw c.in-Some.is at c.in_ok-names.ensures.ok in
    ap (λ found. is_some (option_map path_text found)) up ∙ path_of-removed _ c.requires.stands.tree.shaped c.requires.stands.tree.few _ c.requires.directory

pub returns-in-None-clause-removed : goal.returns-in-None-clause-removed
returns-in-None-clause-removed g c =
    let up = rw c.in-None.is at c.in_ok-names.ensures.ok in
    ap (λ found. is_some (option_map path_text found)) up ∙ path_of-removed _ c.requires.stands.tree.shaped c.requires.stands.tree.few _ c.requires.directory
