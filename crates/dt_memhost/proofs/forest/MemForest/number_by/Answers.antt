use Rattle.std.proofs.Common.{◌≡◌, None, sym, ap, subst, ◌∙◌}
use Rattle.std.specs.Prelude.{option_and_then}
use Rattle.std.specs.Ordering.{nat_cmp}
use Rattle.std.specs.BTreeMap as tree
use Rattle.dt_memhost.specs.declared.number.TheConstants.{INODE_NUMBERS}
use Rattle.dt_memhost.specs.inner.Live.{has_number}
use Rattle.dt_memhost.specs.inner.Node.{node_of, entries_of, held_of}
use Rattle.dt_memhost.specs.Number.{IsChosenNumber}
use Rattle.dt_memhost.proofs.Numbered.{has-both, none_if, chosen_number, get-nodes_of}
use Rattle.dt_memhost.proofs.Forests.{get-orders_of, get-pipes_of}
use Rattle.dt_memhost.proofs.forest.MemForest.number_by.Goals as goal

pub returns-clause-chosen : goal.returns-clause-chosen
returns-clause-chosen c =
    let same = sym (has-both c.self.inside.nodes) in
    rw (← c.self.view_is) (subst (λ live. IsChosenNumber live INODE_NUMBERS c.args.word c.number_by.result) same c.number_by.ensures)

pub returns-clause-positive : goal.returns-clause-positive
returns-clause-positive c = (chosen_number (has_number c.self.inside.nodes) INODE_NUMBERS c.args.word c.number_by.result c.number_by.ensures).0

-- nothing stands under the number
nothing : (c : goal.After-number_by) → tree.get nat_cmp c.self.inside.nodes c.number_by.result ≡ None
nothing c = none_if _ (chosen_number (has_number c.self.inside.nodes) INODE_NUMBERS c.args.word c.number_by.result c.number_by.ensures).1

pub returns-clause-free : goal.returns-clause-free
returns-clause-free c =
    rw (← c.self.view_is) (get-nodes_of c.self.inside.nodes c.number_by.result ∙ ap (option_and_then node_of) (nothing c))

pub returns-clause-no_order : goal.returns-clause-no_order
returns-clause-no_order c =
    rw (← c.self.view_is) (get-orders_of c.self.inside.nodes c.number_by.result ∙ ap (option_and_then entries_of) (nothing c))

pub returns-clause-no_pipe : goal.returns-clause-no_pipe
returns-clause-no_pipe c =
    rw (← c.self.view_is) (get-pipes_of c.self.inside.nodes c.number_by.result ∙ ap (option_and_then held_of) (nothing c))
