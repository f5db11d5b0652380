use Rattle.std.proofs.Common.{length, arith}
use Rattle.dt_base.specs.declared.answer.Answer.TheVariants.{Value}
use Rattle.dt_tree.specs.Calls.{write_at_of}
use Rattle.dt_tree.specs.Table.{tree_of}
use Rattle.dt_callbase.specs.Sound.{stage, scene}
use Rattle.dt_callbase.proofs.Kept.{reaches_kept}
use Rattle.dt_iocalls.specs.Writing.{file_write_reply}
use Rattle.dt_iocalls.proofs.Written.{written_so}
use Rattle.dt_iocalls.proofs.writing.write_at.Goals as goal

pub returns-in-Ok-clause-row : goal.returns-in-Ok-clause-row
returns-in-Ok-clause-row g c =
    let w = g.H.Host.view c.args.host.now in
    let v = g.H.Host.view c.write_at.new.host in
    let s = scene (stage c.args.fs.now w c.args.caller.now c.args.space.now) in
    reaches_kept (file_write_reply c.args.n c.args.offset c.args.bytes.now (λ next. next) s) c.args.fs.now c.write_at.new.self c.stamp.new.self w v c.args.caller.now c.args.space.now (Value (length c.args.bytes.now)) (g.H.Host.count c.args.host.now) (g.H.Host.count c.write_at.new.host)
    c.requires.sound c.in-Ok.ensures.stands c.in-Ok.ensures.held c.write_at.ensures.rest (omega (arith, c.write_at.ensures.cause.later))
    (written_so s (tree_of c.write_at.new.self v.forest) c.stamp.new.self c.next_stamp-stamp.result (length c.args.bytes.now) c.in-Ok.field-0 (write_at_of (tree_of c.args.fs.now.tree w.forest) c.args.n c.args.offset c.args.bytes.now) c.next_stamp-stamp.ensures c.stamp.ensures.rest c.in-Ok.ensures.done)
