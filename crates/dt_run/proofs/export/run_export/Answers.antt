use Rattle.std.proofs.Common.{◌≡◌, ap, sym, subst, ◌∙◌}
use Rattle.dt_tree.specs.Table.{tree_of}
use Rattle.dt_engine.specs.Run.{run_of}
use Rattle.dt_engine.specs.Completed.{reported, Finishes}
use Rattle.dt_run.specs.inner.Exporting.{PutsTree, FailsPut}
use Rattle.dt_run.proofs.Changes.{on_fail}
use Rattle.dt_run.proofs.Putting.{tree-put, fails-put, some-put, own-refusal}
use Rattle.dt_run.proofs.Wanting.{on_err}
use Rattle.dt_run.proofs.export.run_export.Goals as goal

pub returns-clause-completed : goal.returns-clause-completed
returns-clause-completed g c =
    let asked = c.args.options.now.run in
    let run = run_of c.args.image.now asked.command asked.seed asked.budget in
    let told = g.S.Store.told c.args.store.now in
    let now = g.S.Store.told c.put_tree.new.store in
    let forest = (g.H.Host.view c.run_image.new.host).forest in
    let last : tree_of c.tree.result.now forest ≡ run.last.tree = ap (λ t. tree_of t forest) c.tree.ensures ∙ sym (ap (λ shared. shared.tree) c.in_ok-ended.ensures.left) in
    let put = subst (λ folder. PutsTree (tree_of c.tree.result.now forest) folder told now) c.as_str.ensures c.in_ok-put_tree.ensures.put in (
      subst (λ world. Finishes (reported c.args.image.now.version run) c.in_ok-ended.ended.status (g.O.Sink.told c.args.out.now) (g.O.Sink.told c.run_image.new.out) world) (sym c.put_tree.ensures.stays) c.in_ok-ended.ensures.completed,
      tree-put c.args.options.now.to (reported c.args.image.now.version run) told now (subst (λ t. PutsTree t c.args.options.now.to told now) last put),
    )

pub returns-in_err-put_tree-clause-failed : goal.returns-in_err-put_tree-clause-failed
returns-in_err-put_tree-clause-failed g c =
    let asked = c.args.options.now.run in
    let run = run_of c.args.image.now asked.command asked.seed asked.budget in
    let told = g.S.Store.told c.args.store.now in
    let now = g.S.Store.told c.put_tree.new.store in
    let forest = (g.H.Host.view c.run_image.new.host).forest in
    let last : tree_of c.tree.result.now forest ≡ run.last.tree = ap (λ t. tree_of t forest) c.tree.ensures ∙ sym (ap (λ shared. shared.tree) c.in_ok-ended.ensures.left) in
    let there = subst (λ folder. FailsPut c.in_err-put_tree.field-0.0 (tree_of c.tree.result.now forest) folder told now) c.as_str.ensures c.in_err-put_tree.ensures.failed in
    let own = subst (λ t. FailsPut c.in_err-put_tree.field-0.0 t c.args.options.now.to told now) last there in
    on_err _ _ _ c.from_residual-in_err-put_tree.ensures.1
    (fails-put c.args.options.now.to (reported c.args.image.now.version run) _ _ _ told now own c.in_ok-ended.ensures.completed.report)

pub returns-in_err-put_tree-clause-begun : goal.returns-in_err-put_tree-clause-begun
returns-in_err-put_tree-clause-begun g c =
    let asked = c.args.options.now.run in
    let run = run_of c.args.image.now asked.command asked.seed asked.budget in
    let told = g.S.Store.told c.args.store.now in
    let now = g.S.Store.told c.put_tree.new.store in
    let forest = (g.H.Host.view c.run_image.new.host).forest in
    let last : tree_of c.tree.result.now forest ≡ run.last.tree = ap (λ t. tree_of t forest) c.tree.ensures ∙ sym (ap (λ shared. shared.tree) c.in_ok-ended.ensures.left) in
    let there = subst (λ folder. FailsPut c.in_err-put_tree.field-0.0 (tree_of c.tree.result.now forest) folder told now) c.as_str.ensures c.in_err-put_tree.ensures.failed in
    let own = subst (λ t. FailsPut c.in_err-put_tree.field-0.0 t c.args.options.now.to told now) last there in
    on_fail _ _ (some-put c.args.options.now.to (reported c.args.image.now.version run) _ _ _ told now own c.in_ok-ended.ensures.completed.report)

pub returns-in_err-put_tree-clause-refused_stays : goal.returns-in_err-put_tree-clause-refused_stays
returns-in_err-put_tree-clause-refused_stays g c = λ r is.
    let told = g.S.Store.told c.args.store.now in
    let now = g.S.Store.told c.put_tree.new.store in
    let t = tree_of c.tree.result.now (g.H.Host.view c.run_image.new.host).forest in
    (subst (λ f. FailsPut f t c.as_str.result.now told now) (own-refusal _ _ r c.from_residual-in_err-put_tree.ensures.1 is) c.in_err-put_tree.ensures.failed).1
