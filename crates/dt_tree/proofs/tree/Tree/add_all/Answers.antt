use Rattle.std.proofs.Common.{arith, ◌≡◌, ◌+◌, ◌∷◌, [], ◌++◌, ℕ, List, Option, map, take, sym, ap, ◌∙◌, append-nil, append_assoc}
use Rattle.std.proofs.lemmas.List.{map-append, take_more, take_all}
use Rattle.std.specs.Prelude.{option_map}
use Rattle.dt_host.specs.declared.entry.HostEntry.{HostEntry}
use Rattle.dt_tree.specs.declared.list.Listed.{Listed}
use Rattle.dt_tree.specs.Listing.{next_of, listed_entry}
use Rattle.dt_tree.specs.Table.{shape_of}
use Rattle.dt_tree.specs.inner.Lists.{with_listed, listed_host_entry}
use Rattle.dt_tree.proofs.Listings.{next_of-push}
use Rattle.dt_tree.proofs.tree.Tree.add_all.Goals as goal

pub loop-entry-init : goal.loop-entry-init
loop-entry-init c v s before e = e ∙ ap (next_of (option_map (λ l. l.now) c.args.last) c.args.most) (sym (append-nil before))

pub loop-entry-preserved : goal.loop-entry-preserved
loop-entry-preserved c v s before e =
    let last : Option (List ℕ) = option_map (λ l. l.now) c.args.last in
    let real = listed_host_entry c.args.self.now v in
    let list : List Listed = before ++ map real (take c.loop-entry.entry-index c.args.entries.now) in
    let name : real c.entry-item.result ≡ listed_entry (shape_of c.args.self.now v) (c.as_slice.result.now, c.vino-vino.result) = (λ i. listed_entry (shape_of c.args.self.now v) (sym c.as_slice.ensures i, sym c.vino-vino.ensures i)) in
    let more : before ++ map real (take (c.loop-entry.entry-index + 1) c.args.entries.now) ≡ list ++ real c.entry-item.result ∷ [] =
    ap (λ xs. before ++ map real xs) (take_more c.args.entries.now c.loop-entry.entry-index c.entry-item.result (omega arith) ∙ ap (λ x. take c.loop-entry.entry-index c.args.entries.now ++ x ∷ []) (sym c.entry-item.is))
    ∙ ap (λ xs. before ++ xs) (map-append real (take c.loop-entry.entry-index c.args.entries.now) (c.entry-item.result ∷ []))
    ∙ sym (append_assoc before (map real (take c.loop-entry.entry-index c.args.entries.now)) (real c.entry-item.result ∷ [])) in
    c.in_ok-add.ensures v s
    ∙ ap (λ xs. with_listed last c.args.most xs (listed_entry (shape_of c.args.self.now v) (c.as_slice.result.now, c.vino-vino.result))) (c.loop-entry.invariant v s before e)
    ∙ ap (with_listed last c.args.most (next_of last c.args.most list)) (sym name)
    ∙ sym (ap (next_of last c.args.most) more ∙ next_of-push last c.args.most list (real c.entry-item.result))

pub returns : goal.returns
returns c v s before e =
    c.loop-entry.invariant v s before e
    ∙ ap (λ (xs : List HostEntry). next_of (option_map (λ l. l.now) c.args.last) c.args.most (before ++ map (listed_host_entry c.args.self.now v) xs)) (take_all c.loop-entry.entry-index c.args.entries.now (omega arith))
