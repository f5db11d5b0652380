use Rattle.std.proofs.Common.{arith, sym, ap, ◌∙◌}
use Rattle.std.proofs.lemmas.List.Sums.{count_by_more_yes, count_by_more_no}
use Rattle.dt_host.specs.declared.entry.HostEntry.{HostEntry}
use Rattle.dt_tree.specs.Shape.{is_dir}
use Rattle.dt_tree.specs.Table.{vino_of, shape_of}
use Rattle.dt_tree.proofs.tree.Tree.count_dirs.Goals as goal
use Rattle.dt_tree.proofs.tree.Tree.count_dirs.Goals.{then-is_dir, else-is_dir}

pub loop-entry-preserved : goal.loop-entry-preserved
loop-entry-preserved c =
    elim c.if-is_dir.branch [
      | then-is_dir w ↦ record {
        few = omega (arith, c.loop-entry.invariant.few, w.count-is);
        counted = λ v s.
            let p = λ (e : HostEntry). is_dir (shape_of c.args.self.now v) (vino_of c.args.self.now e.ino) in
            let more = count_by_more_yes p c.args.entries.now c.loop-entry.entry-index c.entry-item.result (omega arith) (ap p (sym c.entry-item.is) ∙ ap (is_dir (shape_of c.args.self.now v)) (sym c.vino.ensures) ∙ sym (c.is_dir.ensures v s) ∙ w.if-is_dir.true) in
            omega (arith, more, c.loop-entry.invariant.counted v s, w.count-is);
      }
      | else-is_dir w ↦ record {
        few = omega (arith, c.loop-entry.invariant.few, w.count-is);
        counted = λ v s.
            let p = λ (e : HostEntry). is_dir (shape_of c.args.self.now v) (vino_of c.args.self.now e.ino) in
            w.count-is ∙ c.loop-entry.invariant.counted v s ∙ sym (count_by_more_no p c.args.entries.now c.loop-entry.entry-index c.entry-item.result (omega arith) (ap p (sym c.entry-item.is) ∙ ap (is_dir (shape_of c.args.self.now v)) (sym c.vino.ensures) ∙ sym (c.is_dir.ensures v s) ∙ w.if-is_dir.false));
      }
    ]
