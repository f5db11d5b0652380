use Rattle.std.proofs.Common.{arith, ◌≡◌, ap, sym, subst, ◌∙◌}
use Rattle.std.specs.Prelude.{is_some}
use Rattle.std.specs.FinMap.{get}
use Rattle.dt_fds.specs.declared.desc.TheConstants.{DESCRIPTOR_LIMIT}
use Rattle.dt_fds.specs.Descriptions.{table_at, slot_at}
use Rattle.dt_fds.specs.Backs.{KeepsNodes}
use Rattle.dt_fds.proofs.Sharing.{partial, others-apart, with-none, table-here, next-free, copied-next, copied-all}
use Rattle.dt_fds.proofs.Backing.{KeepsNodes-with_table}
use Rattle.dt_fds.proofs.descriptors.Descriptors.copy_table.Goals as goal

pub loop-fd-init : goal.loop-fd-init
loop-fd-init c = c.in_ok-begin.ensures.ok ∙ with-none c.args.self.now c.args.parent c.args.child c.sized.ensures

pub share_slot-requires-clause-table : goal.share_slot-requires-clause-table
share_slot-requires-clause-table c =
    ap (λ f. is_some (get f.tables c.args.child)) c.loop-fd.invariant
    ∙ ap is_some (table-here c.args.self.now c.args.child (partial (table_at c.args.self.now c.args.parent) c.loop-fd.fd))

pub share_slot-requires-clause-free : goal.share_slot-requires-clause-free
share_slot-requires-clause-free c =
    ap (λ f. slot_at f c.args.child c.loop-fd.fd) c.loop-fd.invariant
    ∙ next-free c.args.self.now c.args.child c.loop-fd.fd (table_at c.args.self.now c.args.parent)

pub returns-in_err-share_slot-clause-nodes : goal.returns-in_err-share_slot-clause-nodes
returns-in_err-share_slot-clause-nodes c =
    subst (KeepsNodes c.args.child c.args.self.now) (sym (c.in_err-share_slot.ensures.err ∙ c.loop-fd.invariant))
    (KeepsNodes-with_table c.args.self.now c.args.child (partial (table_at c.args.self.now c.args.parent) c.loop-fd.fd))

pub loop-fd-preserved : goal.loop-fd-preserved
loop-fd-preserved c =
    copied-next c.args.self.now c.loop-fd.self c.share_slot.new.self c.args.parent c.args.child c.loop-fd.fd
    (others-apart c.args.self.now c.args.parent c.args.child c.requires.parent c.requires.child) c.loop-fd.invariant c.in_ok-share_slot.ensures.ok

pub returns-clause-files : goal.returns-clause-files
returns-clause-files c =
    let all : c.loop-fd.fd ≡ DESCRIPTOR_LIMIT = omega (arith, c.loop-fd.auto.fd-end, c.loop-fd-test.false) in
    c.loop-fd.invariant ∙ copied-all c.args.self.now c.args.parent c.args.child c.loop-fd.fd (c.sized.ensures ∙ sym all)

pub returns-clause-nodes : goal.returns-clause-nodes
returns-clause-nodes c =
    subst (KeepsNodes c.args.child c.args.self.now) (sym c.loop-fd.invariant)
    (KeepsNodes-with_table c.args.self.now c.args.child (partial (table_at c.args.self.now c.args.parent) c.loop-fd.fd))
