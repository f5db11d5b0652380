-- Inner words: no public clause cites these. A listing as it is written.
use Rattle.std.specs.Prelude.{ℕ, ◌&&◌, cond, nat_lt, List, [], ◌∷◌, ◌++◌, length, Option}
use Rattle.dt_host.specs.declared.entry.HostEntry.{HostEntry}
use Rattle.dt_host.specs.World.{Forest}
use Rattle.dt_tree.specs.declared.list.Listed.{Listed}
use Rattle.dt_tree.specs.Listing.{is_left, listed_entry}
use Rattle.dt_tree.specs.Table.{Table, vino_of, shape_of}

-- one entry more, where there is room for it and it is left
abbrev pub with_listed : Option (List ℕ) → ℕ → List Listed → Listed → List Listed
with_listed last most list l = cond (nat_lt (length list) most && is_left last l.name) (list ++ l ∷ []) list

-- an entry of the host, as it is listed
abbrev pub listed_host_entry : Table → Forest → HostEntry → Listed
listed_host_entry t v e = listed_entry (shape_of t v) (e.name, vino_of t e.ino)
