use Rattle.std.proofs.Common.{◌≡◌, Err, nat_le, length, map, IsTrue, sym, ap, subst, ◌∙◌, ℕ, List, Bool, option_map}
use Rattle.std.specs.Prelude.{IfSome}
use Rattle.std.proofs.lemmas.Bool.{leb-true}
use Rattle.std.specs.List.{list_all, All}
use Rattle.dt_base.specs.declared.refusal.Refusal.TheVariants.{TooBig, TooMany}
use Rattle.dt_base.specs.declared.limits.TheConstants.{ENTRY_LIMIT}
use Rattle.dt_image.specs.ImageOf.{with_blobs}
use Rattle.dt_image.specs.inner.IndexView.{entry_in, is_sound, path_kind_of, HasSize}
use Rattle.dt_host.proofs.Asking.{passed_on}
use Rattle.dt_image.proofs.Measures.{is_small, told_missing, told_big, told_many, told_no_input, told_with_blobs, sound_all}
use Rattle.dt_image.proofs.Rising.{IsImage-made}
use Rattle.dt_image.proofs.blobs.with_blobs.Goals as goal
use Rattle.std.specs.Borrow.{Bor}
use Rattle.dt_base.specs.Profile.{file_limit}
use Rattle.dt_image.specs.declared.blobs.Measured.{Measured}
use Rattle.dt_image.specs.inner.Input.{HasInputSize}

-- the limit is that of the version
within : (version limit : ℕ) (blobs : List Measured) (b : Bool) → limit ≡ file_limit version → b ≡ list_all (λ blob. nat_le blob.size limit) blobs → b ≡ list_all (is_small version) blobs
within version limit blobs b same is = is ∙ ap (λ limit. list_all (λ (blob : Measured). nat_le blob.size limit) blobs) same

pub returns-in_err-blobs-clause-refused : goal.returns-in_err-blobs-clause-refused
returns-in_err-blobs-clause-refused g c = λ r is.
    let lacks = c.in_err-blobs.ensures.refused r (ap Err (passed_on _ _ _ c.from_residual.ensures.1 is)) in
    told_missing _ _ _ _ _ r lacks.0 lacks.1

pub returns-then-not-are_within_limit-clause-refused : goal.returns-then-not-are_within_limit-clause-refused
returns-then-not-are_within_limit-clause-refused g c = λ r is.
    let same : TooBig ≡ r = cc in
    let big = sym (within c.args.version _ _ _ c.file_limit.ensures.value c.are_within_limit.ensures ∙ ap (list_all (is_small c.args.version)) c.deref.ensures.value) ∙ c.if-not-are_within_limit.true in
    subst (λ s. IfSome (g.S.Store.told c.args.store.now) (λ held. with_blobs held c.args.folder.now (option_map (λ (name : Bor (List ℕ)). name.now) c.args.input) c.args.version (map entry_in c.args.order.now) ≡ Err s)) same
    (told_big _ _ _ _ _ _ c.in_ok-blobs.ensures.entries c.in_ok-blobs.ensures.sizes big)

pub returns-then-not-are_few-clause-refused : goal.returns-then-not-are_few-clause-refused
returns-then-not-are_few-clause-refused g c = λ r is.
    let same : TooMany ≡ r = cc in
    let small = sym (within c.args.version _ _ _ c.file_limit.ensures.value c.are_within_limit.ensures ∙ ap (list_all (is_small c.args.version)) c.deref.ensures.value) ∙ c.if-not-are_within_limit.false in
    let many = ap (λ blobs. nat_le (length blobs) ENTRY_LIMIT) (sym c.deref-2.ensures.value) ∙ sym c.are_few.ensures ∙ c.if-not-are_few.true in
    subst (λ s. IfSome (g.S.Store.told c.args.store.now) (λ held. with_blobs held c.args.folder.now (option_map (λ (name : Bor (List ℕ)). name.now) c.args.input) c.args.version (map entry_in c.args.order.now) ≡ Err s)) same
    (told_many _ _ _ _ _ _ c.in_ok-blobs.ensures.entries c.in_ok-blobs.ensures.sizes small many)

pub returns-in_err-size-clause-refused : goal.returns-in_err-size-clause-refused
returns-in_err-size-clause-refused g c = λ r is.
    let small = sym (within c.args.version _ _ _ c.file_limit.ensures.value c.are_within_limit.ensures ∙ ap (list_all (is_small c.args.version)) c.deref.ensures.value) ∙ c.if-not-are_within_limit.false in
    let few = ap (λ blobs. nat_le (length blobs) ENTRY_LIMIT) (sym c.deref-2.ensures.value) ∙ sym c.are_few.ensures ∙ c.if-not-are_few.false in
    told_no_input _ _ _ _ _ _ _ r c.in_ok-blobs.ensures.entries c.in_ok-blobs.ensures.sizes small few c.measure.ensures.asks.stays
    (c.in_err-size.ensures.refused r (ap Err (passed_on _ _ _ c.from_residual-in_err-size.ensures.1 is)))

pub read-requires-clause-sound : goal.read-requires-clause-sound
read-requires-clause-sound g c =
    subst (All (λ blob. IsTrue (is_sound c.args.version (entry_in blob.entry)))) (sym c.deref-3.ensures.value)
    (sound_all c.args.version c.in_ok-blobs.blobs.items c.args.order.now c.in_ok-blobs.ensures.entries c.requires.sound)

pub new-requires : goal.new-requires
new-requires g c =
    let few = leb-true _ _ (ap (λ blobs. nat_le (length blobs) ENTRY_LIMIT) (sym c.deref-2.ensures.value) ∙ sym c.are_few.ensures ∙ c.if-not-are_few.false) in
    IsImage-made c.args.version c.in_ok-entries.entries.items c.in_ok-blobs.blobs.items c.args.order.now c.in_ok-blobs.ensures.entries
    (c.in_ok-entries.ensures.spots ∙ ap (map (λ blob. path_kind_of (entry_in blob.entry))) c.deref-3.ensures.value) few c.requires.version c.in_ok-entries.ensures.good c.requires.parents c.requires.rising

pub read-requires-clause-sizes : goal.read-requires-clause-sizes
read-requires-clause-sizes g c =
    subst (λ told. IfSome told (λ held. All (HasSize held c.args.folder.now) c.deref-3.result.now)) (sym (c.input_size.ensures.asks.stays ∙ c.measure.ensures.asks.stays))
    (subst (λ blobs. IfSome (g.S.Store.told c.args.store.now) (λ held. All (HasSize held c.args.folder.now) blobs)) (sym c.deref-3.ensures.value) c.in_ok-blobs.ensures.sizes)

pub read_input-requires-clause-size : goal.read_input-requires-clause-size
read_input-requires-clause-size g c =
    subst (λ told. IfSome told (λ held. HasInputSize held c.args.folder.now (option_map (λ (name : Bor (List ℕ)). name.now) c.args.input) c.in_ok-size.size)) (sym (c.read.ensures.asks.stays ∙ c.input_size.ensures.asks.stays)) c.in_ok-size.ensures.ok

pub returns-clause-ok : goal.returns-clause-ok
returns-clause-ok g c =
    let small = sym (within c.args.version _ _ _ c.file_limit.ensures.value c.are_within_limit.ensures ∙ ap (list_all (is_small c.args.version)) c.deref.ensures.value) ∙ c.if-not-are_within_limit.false in
    let few = ap (λ blobs. nat_le (length blobs) ENTRY_LIMIT) (sym c.deref-2.ensures.value) ∙ sym c.are_few.ensures ∙ c.if-not-are_few.false in
    told_with_blobs _ _ _ _ _ _ _ _ _ _ _ _ c.in_ok-blobs.ensures.entries c.in_ok-blobs.ensures.sizes small few
    (c.input_size.ensures.asks.stays ∙ c.measure.ensures.asks.stays) (c.read.ensures.asks.stays ∙ c.input_size.ensures.asks.stays ∙ c.measure.ensures.asks.stays)
    c.deref-3.ensures.value c.new.ensures c.in_ok-entries.ensures.ok c.in_ok-input.ensures.ok
