use Rattle.std.proofs.Common.{◌≡◌, ℕ, List, [], map, Some, sym, ap, ◌∙◌}
use Rattle.std.specs.Prelude.{unwrap_or}
use Rattle.std.specs.FinMap.{get}
use Rattle.dt_host.specs.World.{Forest, names_at, entry, IsDir}
use Rattle.dt_host.specs.Legal.{pair_of}
use Rattle.dt_host.specs.declared.entry.HostEntry.{HostEntry}
use Rattle.std.specs.List.Sorted.{IsPermutation}
use Rattle.std.specs.FinMap.{entries}
use Rattle.dt_tree.specs.declared.inode.Inode.{Inode}
use Rattle.dt_tree.specs.Above.{name_in, parent_at}
use Rattle.dt_tree.specs.inner.Names.{name_for}
use Rattle.dt_tree.specs.Table.{Table, Stands, shape_of}
use Rattle.dt_host.proofs.Spots.{IsDir-entry}
use Rattle.dt_tree.proofs.Shapes.{one_spot}
use Rattle.dt_tree.proofs.Aboves.{parent-entry}
use Rattle.dt_tree.proofs.Mirroring.{has_inode-dir, real_dir, entry-real, entry-virtual}
use Rattle.dt_tree.proofs.Pathed.{name_for-found}
use Rattle.dt_tree.proofs.tree.Tree.name_in.Goals as goal

-- the name that the host tells is the directory's
told : (t : Table) (v : Forest) (s : Stands t v) (d n : ℕ) (above inode : Inode) (list : List (List ℕ × ℕ)) → get t.inodes d ≡ Some above → get t.inodes n ≡ Some inode → IsDir (shape_of t v) n → parent_at (shape_of t v) n ≡ Some d → IsPermutation (entries (names_at v above.real)) list → unwrap_or (name_for inode.real list) [] ≡ unwrap_or (name_in (shape_of t v) d n) []
unfolding entry
told t v s d n above inode list at_d at_n is up same =
    let spot = parent-entry (shape_of t v) n d up in
    let found = name_for-found (names_at v above.real) inode.real spot.0 list same (entry-real t v s.mirrors.pairs d n above inode spot.0 at_d at_n spot.2) in
    let alike = one_spot (shape_of t v) s.tree.shaped n d d found.0 spot.0 is (entry-virtual t v s.mirrors.pairs d n above inode found.0 at_d at_n found.2) spot.2 in
    ap (λ name. unwrap_or name []) found.1 ∙ alike.1 ∙ sym (ap (λ name. unwrap_or name []) spot.1)

pub inode-requires : goal.inode-requires
inode-requires g c =
    let v = (g.H.Host.view c.args.host.now).forest in
    let spot = parent-entry (shape_of c.args.self.now v) c.args.n c.args.dir c.requires.parent in
    has_inode-dir _ v _ (IsDir-entry _ _ _ _ spot.2)

pub names-requires : goal.names-requires
names-requires g c =
    let v = (g.H.Host.view c.args.host.now).forest in
    let spot = parent-entry (shape_of c.args.self.now v) c.args.n c.args.dir c.requires.parent in
    real_dir _ _ c.requires.stands.mirrors.pairs _ _ c.inode.ensures (IsDir-entry _ _ _ _ spot.2)

pub inode-requires-2 : goal.inode-requires-2
inode-requires-2 g c = has_inode-dir _ (g.H.Host.view c.args.host.now).forest _ c.requires.directory

pub returns-clause-ok : goal.returns-clause-ok
returns-clause-ok g c =
    let v = (g.H.Host.view c.args.host.now).forest in
    c.in_ok-name_for.ensures
    ∙ ap (λ (xs : List HostEntry). unwrap_or (name_for c.inode-2.result.real (map pair_of xs)) []) c.deref.ensures.value
    ∙ told c.args.self.now v c.requires.stands c.args.dir c.args.n c.inode.result c.inode-2.result (map pair_of c.in_ok-entries.entries.items) c.inode.ensures c.inode-2.ensures c.requires.directory c.requires.parent c.in_ok-entries.ensures.ok
