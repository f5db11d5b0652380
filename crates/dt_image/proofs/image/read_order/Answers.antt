use Rattle.std.proofs.Common.{◌≡◌, Err, map, sym, subst, ◌∙◌, ℕ, List, option_map}
use Rattle.std.specs.Prelude.{IfSome}
use Rattle.std.proofs.lemmas.List.Folds.{list_all-map}
use Rattle.dt_base.specs.declared.refusal.Refusal.TheVariants.{NoParent}
use Rattle.dt_image.specs.ImageOf.{has_listed_parent}
use Rattle.dt_image.specs.inner.IndexView.{entry_in, image_in_order}
use Rattle.dt_image.proofs.Indexed.{told_dirs, told_dirs_ok, told_no_dir}
use Rattle.dt_image.proofs.image.read_order.Goals as goal
use Rattle.std.specs.Borrow.{Bor}

pub returns-then-not-found-clause-refused : goal.returns-then-not-found-clause-refused
returns-then-not-found-clause-refused g c = λ r is.
    let same : NoParent ≡ r = cc in
    let other = list_all-map (has_listed_parent (map entry_in c.args.order.now)) entry_in c.args.order.now ∙ sym c.in_ok-found.ensures ∙ c.if-not-found.true in
    subst (λ s. IfSome (g.S.Store.told c.args.store.now) (λ held. image_in_order held c.args.folder.now (option_map (λ (name : Bor (List ℕ)). name.now) c.args.input) c.args.version (map entry_in c.args.order.now) ≡ Err s)) same (told_no_dir _ c.args.folder.now _ _ (map entry_in c.args.order.now) other)

pub returns-clause-ok : goal.returns-clause-ok
returns-clause-ok g c =
    let all = list_all-map (has_listed_parent (map entry_in c.args.order.now)) entry_in c.args.order.now ∙ sym c.in_ok-found.ensures ∙ c.if-not-found.false in
    told_dirs_ok _ _ _ _ _ c.with_blobs.result all c.with_blobs.ensures.ok

pub returns-clause-refused : goal.returns-clause-refused
returns-clause-refused g c = λ r is.
    let all = list_all-map (has_listed_parent (map entry_in c.args.order.now)) entry_in c.args.order.now ∙ sym c.in_ok-found.ensures ∙ c.if-not-found.false in
    told_dirs _ _ _ _ _ _ all (c.with_blobs.ensures.refused r is)
