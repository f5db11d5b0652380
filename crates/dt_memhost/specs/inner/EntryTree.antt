-- A tree of entries as the list of them, from the first branch to the last.
use Rattle.std.specs.Prelude.{◌≡◌, List, [], ◌∷◌, ◌++◌, length}
use Rattle.dt_host.specs.declared.entry.HostEntry.{HostEntry}
use Rattle.dt_memhost.specs.declared.entry_tree.EntryTree.{EntryTree}
use Rattle.dt_memhost.specs.declared.entry_tree.EntryTree.TheVariants.{Empty, Leaf, Fork'}

-- the entries in order; p and q stand for the boxes of a fork
abbrev pub entries : EntryTree → List HostEntry
entries Empty = []
entries (Leaf entry) = entry ∷ []
entries (Fork' p before count q after) = entries before ++ entries after

-- each fork has the number of the entries of its first branch
abbrev pub IsCounted : EntryTree → Type 0
IsCounted Empty = Unit {0}
IsCounted (Leaf entry) = Unit {0}
IsCounted (Fork' p before count q after) = (count ≡ length (entries before)) × IsCounted before × IsCounted after

-- the tree is one leaf
abbrev pub IsLeaf : EntryTree → Type 0
IsLeaf Empty = ⊥
IsLeaf (Leaf entry) = Unit {0}
IsLeaf (Fork' p before count q after) = ⊥
