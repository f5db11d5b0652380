use Rattle.std.proofs.Common.{◌≡◌, ◌∷◌, [], List, ℕ, Option, map, sym, ap, ◌∙◌}
use Rattle.std.specs.Prelude.{option_map, unwrap_or, codes}
use Rattle.dt_host.specs.declared.entry.HostEntry.{HostEntry}
use Rattle.dt_tree.specs.declared.list.Listed.{Listed}
use Rattle.dt_tree.specs.Listing.{next_of, listed_entry}
use Rattle.dt_tree.specs.Above.{dot_dot}
use Rattle.dt_tree.specs.Table.{shape_of}
use Rattle.dt_tree.specs.inner.Lists.{with_listed, listed_host_entry}
use Rattle.dt_tree.proofs.Mirroring.{has_inode-dir, real_dir}
use Rattle.dt_tree.proofs.Counting.{listed_all}
use Rattle.dt_tree.proofs.Listings.{next_of-nil, next_of-push}
use Rattle.dt_tree.proofs.tree.Tree.list_after.Goals as goal

pub inode-requires : goal.inode-requires
inode-requires g c = has_inode-dir _ (g.H.Host.view c.args.host.now).forest _ c.requires.directory

pub sorted_names-requires : goal.sorted_names-requires
sorted_names-requires g c = real_dir _ _ c.requires.stands.mirrors.pairs _ _ c.inode.ensures c.requires.directory

pub returns-clause-ok : goal.returns-clause-ok
returns-clause-ok g c =
    let v = (g.H.Host.view c.args.host.now).forest in
    let s = c.requires.stands in
    let shape = shape_of c.args.self.now v in
    let last : Option (List ℕ) = option_map (λ l. l.now) c.args.last in
    let dot : Listed = listed_entry shape (codes ".", c.args.dir) in
    let dots : Listed = listed_entry shape (codes "..", unwrap_or (dot_dot shape c.args.dir) 0) in
    let first : c.add.new.list.items ≡ next_of last c.args.most (dot ∷ []) =
    c.in_ok-add.ensures v s ∙ ap (λ xs. with_listed last c.args.most xs dot) (c.new-list.ensures.items ∙ next_of-nil last c.args.most) ∙ sym (next_of-push last c.args.most [] dot) in
    let second : c.add-2.new.list.items ≡ next_of last c.args.most (dot ∷ dots ∷ []) =
    c.in_ok-add-2.ensures v s
    ∙ ap (λ n. with_listed last c.args.most c.add.new.list.items (listed_entry shape (codes "..", n))) (c.unwrap_or.ensures ∙ ap (λ found. unwrap_or found 0) (c.dot_dot.ensures.value v s c.requires.directory))
    ∙ ap (λ xs. with_listed last c.args.most xs dots) first ∙ sym (next_of-push last c.args.most (dot ∷ []) dots) in
    c.in_ok-add_all.ensures v s (dot ∷ dots ∷ []) second
    ∙ ap (λ (xs : List HostEntry). next_of last c.args.most (dot ∷ dots ∷ map (listed_host_entry c.args.self.now v) xs)) c.deref.ensures.value
    ∙ ap (λ xs. next_of last c.args.most (dot ∷ dots ∷ xs)) (listed_all c.args.self.now v s.mirrors.pairs c.args.dir c.inode.result c.inode.ensures c.in_ok-entries.entries.items c.in_ok-entries.ensures.sorted)
