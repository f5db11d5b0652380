use Rattle.std.proofs.Common.{arith, ◌≡◌, cond, false, Some, sym, ap, ◌∙◌}
use Rattle.std.proofs.lemmas.Bool.Decides.{nat_tests}
use Rattle.std.specs.Prelude.{is_some, ◌==◌}
use Rattle.dt_tree.specs.Above.{parent_at}
use Rattle.dt_tree.specs.Table.{shape_of}
use Rattle.dt_tree.proofs.Pathed.{dot_dot-removed}
use Rattle.dt_tree.proofs.tree.Tree.dot_dot.Goals as goal

pub returns-clause-removed : goal.returns-clause-removed
unfolding shape_of
returns-clause-removed c v s is =
    let apart = c.if-dir-eq-ROOT.false in
    let here : (c.args.dir == 1) ≡ false = grind (arith, nat_tests) in
    ap is_some (c.parent.ensures v s is)
    ∙ ap (λ b. is_some (cond b (Some c.args.dir) (parent_at (shape_of c.args.self.now v) c.args.dir))) (sym here)
    ∙ dot_dot-removed (shape_of c.args.self.now v) s.tree.shaped c.args.dir is
