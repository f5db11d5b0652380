use Rattle.std.proofs.Common.{◌≡◌, Err, map, sym, ap, subst, ◌∙◌, ℕ, List, option_map}
use Rattle.std.specs.Prelude.{IfSome, is_some}
use Rattle.std.proofs.lemmas.List.Folds.{list_all-map}
use Rattle.dt_base.specs.declared.refusal.Refusal.TheVariants.{BadPath, Twice}
use Rattle.dt_image.specs.Index.{is_good}
use Rattle.dt_image.specs.inner.IndexView.{entry_in}
use Rattle.dt_image.specs.ImageOf.{image_from}
use Rattle.dt_image.proofs.Indexed.{parts, sound_sorted, told_bad, told_twice, told_once, told_once_ok, not_twice, is_twice}
use Rattle.dt_image.proofs.image.read_entries.Goals as goal
use Rattle.std.specs.Borrow.{Bor}

pub returns-then-not-are_good-clause-refused : goal.returns-then-not-are_good-clause-refused
returns-then-not-are_good-clause-refused g c = λ r is.
    let same : BadPath ≡ r = cc in
    let other = list_all-map is_good entry_in c.args.entries.now ∙ sym c.are_good.ensures ∙ c.if-not-are_good.true in
    subst (λ s. IfSome (g.S.Store.told c.args.store.now) (λ held. image_from held c.args.folder.now (option_map (λ (name : Bor (List ℕ)). name.now) c.args.input) (parts c.args.version (map entry_in c.args.entries.now)) ≡ Err s)) same (told_bad _ _ _ _ _ other)

pub read_order-requires-clause-sound : goal.read_order-requires-clause-sound
read_order-requires-clause-sound g c =
    let good = list_all-map is_good entry_in c.args.entries.now ∙ sym c.are_good.ensures ∙ c.if-not-are_good.false in
    let order = ap (map entry_in) c.deref.ensures.value ∙ rw c.in-Some.is at c.in_ok-order.ensures.sorted in
    sound_sorted c.args.version _ _ order c.requires.listed good

pub returns-in-Some-clause-ok : goal.returns-in-Some-clause-ok
returns-in-Some-clause-ok g c =
    let good = list_all-map is_good entry_in c.args.entries.now ∙ sym c.are_good.ensures ∙ c.if-not-are_good.false in
    let order = ap (map entry_in) c.deref.ensures.value ∙ rw c.in-Some.is at c.in_ok-order.ensures.sorted in
    let once = not_twice _ (sym (ap is_some c.in-Some.is) ∙ c.in_ok-order.ensures.once) in
    told_once_ok _ _ _ _ _ _ c.read_order.result good once order c.read_order.ensures.ok

pub returns-in-Some-clause-refused : goal.returns-in-Some-clause-refused
returns-in-Some-clause-refused g c = λ r is.
    let good = list_all-map is_good entry_in c.args.entries.now ∙ sym c.are_good.ensures ∙ c.if-not-are_good.false in
    let order = ap (map entry_in) c.deref.ensures.value ∙ rw c.in-Some.is at c.in_ok-order.ensures.sorted in
    let once = not_twice _ (sym (ap is_some c.in-Some.is) ∙ c.in_ok-order.ensures.once) in
    told_once _ _ _ _ _ _ _ good once order (c.read_order.ensures.refused r is)

pub returns-in-None-clause-refused : goal.returns-in-None-clause-refused
returns-in-None-clause-refused g c = λ r is.
    let same : Twice ≡ r = cc in
    let good = list_all-map is_good entry_in c.args.entries.now ∙ sym c.are_good.ensures ∙ c.if-not-are_good.false in
    let again = is_twice _ (sym (ap is_some c.in-None.is) ∙ c.in_ok-order.ensures.once) in
    subst (λ s. IfSome (g.S.Store.told c.args.store.now) (λ held. image_from held c.args.folder.now (option_map (λ (name : Bor (List ℕ)). name.now) c.args.input) (parts c.args.version (map entry_in c.args.entries.now)) ≡ Err s)) same (told_twice _ _ _ _ _ good again)
