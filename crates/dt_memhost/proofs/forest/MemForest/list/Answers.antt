use Rattle.std.proofs.Common.{◌≡◌, [], Option, Some, None, map, sym, subst}
use Rattle.std.specs.Prelude.{IsSome, IfSome, IfOk, unwrap_or}
use Rattle.std.specs.List.Sorted.{IsPermutation}
use Rattle.std.specs.FinMap.{entries, empty}
use Rattle.dt_host.specs.World.{Names, IsDir, names_at}
use Rattle.dt_host.specs.Legal.{pair_of}
use Rattle.dt_memhost.specs.inner.Forest.{OrderedForest}
use Rattle.dt_memhost.proofs.Forests.{dir_at-forest_of, get-orders_of}
use Rattle.dt_memhost.proofs.forest.MemForest.list.Goals as goal

-- what holds for a directory's names holds for those that stand there
of_dir : (found : Option Names) (P : Names → Type 0) → IsSome found → IfSome found P → P (unwrap_or found empty)
of_dir None P is h = cc
of_dir (Some names) P is h = h

pub returns-clause-order : goal.returns-clause-order
returns-clause-order c =
    let nodes = c.self.inside.nodes in
    rw (← c.self.view_is) (subst (λ order. IfOk c.list.result (λ found. map pair_of found.items ≡ unwrap_or order [])) (sym (get-orders_of nodes c.args.dir)) c.list.ensures.order)

pub returns-clause-each : goal.returns-clause-each
unfolding names_at
returns-clause-each c =
    let nodes = c.self.inside.nodes in
    let there = sym (dir_at-forest_of nodes c.self.inside.root c.args.dir) in
    let is = subst (λ (v : OrderedForest). IsDir v.forest c.args.dir) (sym c.self.view_is) c.requires in
    rw (← c.self.view_is) (of_dir _ (λ names. IfOk c.list.result (λ found. IsPermutation (entries names) (map pair_of found.items))) is (subst (λ found. IfSome found (λ names. IfOk c.list.result (λ found. IsPermutation (entries names) (map pair_of found.items)))) there c.list.ensures.each))
