use Rattle.std.proofs.Common.{◌≡◌, [], ◌++◌, sym, subst}
use Rattle.std.proofs.lemmas.Result.{on_ok_weaker, on_err_weaker}
use Rattle.std.specs.Prelude.{IsSome, OnOk, OnErr, unwrap_or}
use Rattle.std.specs.FinMap.{get}
use Rattle.dt_memhost.specs.inner.Forest.{OrderedForest, HasSizes, with_pipe_bytes}
use Rattle.dt_memhost.proofs.Forests.{ordered_of, by_outcome, held_changed, nothing_changed}
use Rattle.dt_memhost.proofs.Sizes.{HasSizes-refilled}
use Rattle.dt_memhost.proofs.forest.MemForest.put.Goals as goal

is_pipe : (c : goal.After-put) → IsSome (get (ordered_of c.self.inside.nodes c.self.inside.root).pipes c.args.number)
is_pipe c = subst (λ (o : OrderedForest). IsSome (get o.pipes c.args.number)) (sym c.self.view_is) c.requires

-- the pipe holds the bytes, too
joined : (c : goal.After-put) → OnOk c.put.result (ordered_of c.put.new.nodes c.self.inside.root ≡ with_pipe_bytes (ordered_of c.self.inside.nodes c.self.inside.root) c.args.number (unwrap_or (get (ordered_of c.self.inside.nodes c.self.inside.root).pipes c.args.number) [] ++ c.args.bytes.now))
joined c = on_ok_weaker c.put.result (λ h. held_changed c.self.inside.nodes c.put.new.nodes c.self.inside.root c.args.number c.put.ensures.others (λ held. held ++ c.args.bytes.now) (is_pipe c) h c.put.ensures.node c.put.ensures.order) c.put.ensures.ok

-- nothing changed
stays : (c : goal.After-put) → OnErr c.put.result (ordered_of c.put.new.nodes c.self.inside.root ≡ ordered_of c.self.inside.nodes c.self.inside.root)
stays c = on_err_weaker c.put.result (λ h. nothing_changed c.self.inside.nodes c.put.new.nodes c.self.inside.root c.args.number c.put.ensures.others c.put.ensures.node c.put.ensures.order h) c.put.ensures.err

pub invariant_of-self : goal.invariant_of-self
invariant_of-self c =
    by_outcome c.put.result
    (on_ok_weaker c.put.result (λ h. subst HasSizes (sym h) (HasSizes-refilled (ordered_of c.self.inside.nodes c.self.inside.root) c.args.number c.self.invariant _ (is_pipe c))) (joined c))
    (on_err_weaker c.put.result (λ h. subst HasSizes (sym h) c.self.invariant) (stays c))

pub returns-clause-ok : goal.returns-clause-ok
returns-clause-ok c = rw (← c.self.view_is) (joined c)

pub returns-clause-err : goal.returns-clause-err
returns-clause-err c = rw (← c.self.view_is) (stays c)
