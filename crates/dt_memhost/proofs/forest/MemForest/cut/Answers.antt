use Rattle.std.proofs.Common.{◌≡◌, arith, sym, subst}
use Rattle.std.proofs.lemmas.Result.{on_ok_weaker, on_err_weaker}
use Rattle.std.specs.Prelude.{OnOk, OnErr}
use Rattle.dt_base.specs.Bytes.{with_length}
use Rattle.dt_host.specs.World.{IsFile, content}
use Rattle.dt_host.proofs.Sized.{short_resized}
use Rattle.dt_memhost.specs.inner.Forest.{OrderedForest, HasSizes, with_file_bytes}
use Rattle.dt_memhost.proofs.Forests.{ordered_of, by_outcome, bytes_changed, nothing_changed}
use Rattle.dt_memhost.proofs.Sizes.{HasSizes-rewritten}
use Rattle.dt_memhost.proofs.forest.MemForest.cut.Goals as goal

is_file : (c : goal.After-cut) → IsFile (ordered_of c.self.inside.nodes c.self.inside.root).forest c.args.number
is_file c = subst (λ (o : OrderedForest). IsFile o.forest c.args.number) (sym c.self.view_is) c.requires

-- the file has other bytes
changed : (c : goal.After-cut) → OnOk c.cut.result (ordered_of c.cut.new.nodes c.self.inside.root ≡ with_file_bytes (ordered_of c.self.inside.nodes c.self.inside.root) c.args.number (with_length (content (ordered_of c.self.inside.nodes c.self.inside.root).forest c.args.number) c.args.len))
changed c = on_ok_weaker c.cut.result (λ h. bytes_changed c.self.inside.nodes c.cut.new.nodes c.self.inside.root c.args.number c.cut.ensures.others (λ bytes. with_length bytes c.args.len) (is_file c) h c.cut.ensures.order c.cut.ensures.held) c.cut.ensures.ok

-- nothing changed
stays : (c : goal.After-cut) → OnErr c.cut.result (ordered_of c.cut.new.nodes c.self.inside.root ≡ ordered_of c.self.inside.nodes c.self.inside.root)
stays c = on_err_weaker c.cut.result (λ h. nothing_changed c.self.inside.nodes c.cut.new.nodes c.self.inside.root c.args.number c.cut.ensures.others h c.cut.ensures.order c.cut.ensures.held) c.cut.ensures.err

pub invariant_of-self : goal.invariant_of-self
invariant_of-self c =
    let old = ordered_of c.self.inside.nodes c.self.inside.root in
    let n = c.args.number in
    let short = short_resized (content old.forest n) c.args.len (omega (arith, c.ranges.len.fits)) in
    by_outcome c.cut.result
    (on_ok_weaker c.cut.result (λ h. subst HasSizes (sym h) (HasSizes-rewritten old n c.self.invariant _ (is_file c) short)) (changed c))
    (on_err_weaker c.cut.result (λ h. subst HasSizes (sym h) c.self.invariant) (stays c))

pub returns-clause-ok : goal.returns-clause-ok
returns-clause-ok c = rw (← c.self.view_is) (changed c)

pub returns-clause-err : goal.returns-clause-err
returns-clause-err c = rw (← c.self.view_is) (stays c)
