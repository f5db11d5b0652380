use Rattle.std.proofs.Common.{◌≡◌, ◌≤◌, length, sym, subst}
use Rattle.std.proofs.lemmas.Result.{on_ok_weaker, on_err_weaker}
use Rattle.std.specs.Prelude.{OnOk, OnErr}
use Rattle.dt_base.specs.Bytes.{with_bytes_at}
use Rattle.dt_host.specs.World.{IsFile, content}
use Rattle.dt_host.proofs.Sized.{short_overwritten}
use Rattle.dt_memhost.specs.inner.Forest.{OrderedForest, HasSizes, with_file_bytes}
use Rattle.dt_memhost.proofs.Forests.{ordered_of, by_outcome, content-forest_of, bytes_changed, nothing_changed}
use Rattle.dt_memhost.proofs.Sizes.{HasSizes-rewritten}
use Rattle.dt_memhost.proofs.forest.MemForest.write.Goals as goal

pub write-requires : goal.write-requires
write-requires c =
    let joined = subst (λ (o : OrderedForest). c.args.off ≤ length (content o.forest c.args.number)) (sym c.self.view_is) c.requires.joined in
    subst (λ bytes. c.args.off ≤ length bytes) (content-forest_of c.self.inside.nodes c.self.inside.root c.args.number) joined

is_file : (c : goal.After-write) → IsFile (ordered_of c.self.inside.nodes c.self.inside.root).forest c.args.number
is_file c = subst (λ (o : OrderedForest). IsFile o.forest c.args.number) (sym c.self.view_is) c.requires.file

-- the file has other bytes
changed : (c : goal.After-write) → OnOk c.write.result (ordered_of c.write.new.nodes c.self.inside.root ≡ with_file_bytes (ordered_of c.self.inside.nodes c.self.inside.root) c.args.number (with_bytes_at (content (ordered_of c.self.inside.nodes c.self.inside.root).forest c.args.number) c.args.off c.args.piece.now))
changed c = on_ok_weaker c.write.result (λ h. bytes_changed c.self.inside.nodes c.write.new.nodes c.self.inside.root c.args.number c.write.ensures.others (λ bytes. with_bytes_at bytes c.args.off c.args.piece.now) (is_file c) h c.write.ensures.order c.write.ensures.held) c.write.ensures.ok

-- nothing changed
stays : (c : goal.After-write) → OnErr c.write.result (ordered_of c.write.new.nodes c.self.inside.root ≡ ordered_of c.self.inside.nodes c.self.inside.root)
stays c = on_err_weaker c.write.result (λ h. nothing_changed c.self.inside.nodes c.write.new.nodes c.self.inside.root c.args.number c.write.ensures.others h c.write.ensures.order c.write.ensures.held) c.write.ensures.err

pub invariant_of-self : goal.invariant_of-self
invariant_of-self c =
    let old = ordered_of c.self.inside.nodes c.self.inside.root in
    let n = c.args.number in
    let joined = subst (λ (o : OrderedForest). c.args.off ≤ length (content o.forest n)) (sym c.self.view_is) c.requires.joined in
    let short = short_overwritten (content old.forest n) c.args.off c.args.piece.now joined (c.self.invariant.forest.files n) c.requires.fits in
    by_outcome c.write.result
    (on_ok_weaker c.write.result (λ h. subst HasSizes (sym h) (HasSizes-rewritten old n c.self.invariant _ (is_file c) short)) (changed c))
    (on_err_weaker c.write.result (λ h. subst HasSizes (sym h) c.self.invariant) (stays c))

pub returns-clause-ok : goal.returns-clause-ok
returns-clause-ok c = rw (← c.self.view_is) (changed c)

pub returns-clause-err : goal.returns-clause-err
returns-clause-err c = rw (← c.self.view_is) (stays c)
