use Rattle.std.proofs.Common.{◌≡◌, ◌≤◌, [], ◌++◌, Option, Some, None, ℕ, List, length, take, drop, sym, subst}
use Rattle.std.specs.Prelude.{IsSome, IfSome, unwrap_or}
use Rattle.std.specs.FinMap.{get}
use Rattle.dt_memhost.specs.inner.Forest.{OrderedForest, HasSizes}
use Rattle.dt_memhost.proofs.Forests.{ordered_of, get-pipes_of, held_changed}
use Rattle.dt_memhost.proofs.Sizes.{HasSizes-refilled}
use Rattle.dt_memhost.proofs.forest.MemForest.take.Goals as goal

-- what holds for what a pipe holds holds for what stands there
of_pipe : (found : Option (List ℕ)) (P : List ℕ → Type 0) → IsSome found → IfSome found P → P (unwrap_or found [])
of_pipe None P is h = cc
of_pipe (Some bytes) P is h = h

pub take-requires-clause-there : goal.take-requires-clause-there
take-requires-clause-there c =
    let n = c.args.number in
    let there = subst (λ (o : OrderedForest). c.args.count ≤ length (unwrap_or (get o.pipes n) [])) (sym c.self.view_is) c.requires.there in
    subst (λ found. c.args.count ≤ length (unwrap_or found [])) (get-pipes_of c.self.inside.nodes n) there

pub invariant_of-self : goal.invariant_of-self
invariant_of-self c =
    let old = c.self.inside.nodes in
    let root = c.self.inside.root in
    let n = c.args.number in
    let taken = c.take.ensures in
    let is = subst (λ (o : OrderedForest). IsSome (get o.pipes n)) (sym c.self.view_is) c.requires.pipe in
    subst HasSizes (sym (held_changed old c.take.new.nodes root n taken.others (drop c.args.count) is taken.left taken.node taken.order)) (HasSizes-refilled (ordered_of old root) n c.self.invariant _ is)

pub returns-clause-bytes : goal.returns-clause-bytes
returns-clause-bytes c =
    let n = c.args.number in
    let is = subst (λ (o : OrderedForest). IsSome (get o.pipes n)) (sym c.self.view_is) c.requires.pipe in
    let came = subst (λ found. IfSome found (λ held. c.take.new.buf ≡ take c.args.count held ++ drop c.args.count c.args.buf.now)) (sym (get-pipes_of c.self.inside.nodes n)) c.take.ensures.bytes in
    rw (← c.self.view_is) (of_pipe _ (λ held. c.take.new.buf ≡ take c.args.count held ++ drop c.args.count c.args.buf.now) is came)

pub returns-clause-left : goal.returns-clause-left
returns-clause-left c =
    let taken = c.take.ensures in
    let is = subst (λ (o : OrderedForest). IsSome (get o.pipes c.args.number)) (sym c.self.view_is) c.requires.pipe in
    rw (← c.self.view_is) (held_changed c.self.inside.nodes c.take.new.nodes c.self.inside.root c.args.number taken.others (drop c.args.count) is taken.left taken.node taken.order)
