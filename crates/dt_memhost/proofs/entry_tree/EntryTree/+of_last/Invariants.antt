use Rattle.dt_memhost.proofs.entry_tree.EntryTree.+of_last.Given as goal

abbrev pub decreases-of_last : goal.decreases-of_last
decreases-of_last l = l.count
