use Rattle.std.proofs.Common.{◌≡◌, ℕ, List, length, take, drop, Ok, min, sym, ap, subst, ◌∙◌, arith}
use Rattle.std.specs.Prelude.{IfOk}
use Rattle.std.proofs.lemmas.List.{length-drop, length-take-le}
use Rattle.dt_fds.specs.Backs.{at, holding_at}
use Rattle.dt_fds.specs.Holding.{pipe_write_call}
use Rattle.dt_fds.proofs.Moving.{has_ends}
use Rattle.dt_callbase.specs.Sound.{stage, scene}
use Rattle.dt_callbase.proofs.Kept.{backed_sound, reaches_same}
use Rattle.dt_iocalls.specs.Piping.{flow_reply}
use Rattle.dt_iocalls.specs.Ranges.{gathered_bytes}
use Rattle.dt_iocalls.specs.Writing.{pipe_write_reply}
use Rattle.dt_iocalls.proofs.Flows.{reaches_flow, reaches_gathered}
use Rattle.dt_iocalls.proofs.Pieces.{gathered-length, piece-length}
use Rattle.dt_iocalls.proofs.writing.write_pipe_piece.Goals as goal

pub pipe_transfer_count-moved-requires-clause-ends : goal.pipe_transfer_count-moved-requires-clause-ends
pipe_transfer_count-moved-requires-clause-ends g c = has_ends c.args.fs.now.files (g.H.Host.view c.args.host.now).pipes c.requires.sound.piped

pub pipe_write_part-requires-clause-moves : goal.pipe_write_part-requires-clause-moves
pipe_write_part-requires-clause-moves g c =
    let whole = c.requires.whole in
    let left = c.pipe_transfer_count-moved.ensures.left in
    ap length c.deref.ensures.value
    ∙ piece-length c.args.space.now c.args.ranges.now c.min-done.result c.pipe_transfer_count-moved.result c.in_ok-piece.piece.items c.requires.readable (omega arith) c.in_ok-piece.ensures
    ∙ c.pipe_transfer_count-moved.ensures.value (g.H.Host.view c.args.host.now).pipes c.requires.sound.piped

pub returns : goal.returns
returns g c =
    let w = g.H.Host.view c.args.host.now in
    let v = g.H.Host.view c.pipe_write_part.new.host in
    let fs = c.args.fs.now in
    let caller = c.args.caller.now in
    let p = caller.vpid in
    let fd = c.args.fd in
    let pages = c.args.space.now in
    let s = scene (stage fs w caller pages) in
    let h = holding_at (at fs.files fs.tree w) in
    let done = c.min-done.result in
    let moved = c.pipe_transfer_count-moved.result in
    let left = c.pipe_transfer_count-moved.ensures.left in
    let new = stage (record fs { files = c.pipe_write_part.new.self }) v caller pages in
    let before = g.H.Host.count c.args.host.now in
    let now = g.H.Host.count c.pipe_write_part.new.host in
    reaches_gathered (λ bytes. pipe_write_reply fd bytes s) s c.args.ranges.now (stage fs w caller pages) new c.pipe_answer.result before now c.requires.readable
    (λ (bytes : List ℕ) (is : gathered_bytes pages c.args.ranges.now ≡ Ok bytes).
    let size : length bytes ≡ c.args.whole = gathered-length pages c.args.ranges.now bytes is ∙ c.requires.whole in
    let piece = c.deref.ensures.value ∙ subst (λ found. IfOk found (λ bytes. c.in_ok-piece.piece.items ≡ take moved (drop done bytes))) is c.in_ok-piece.ensures in
    let made = c.pipe_write_part.ensures.makes fs.tree bytes (backed_sound fs w caller pages c.requires.sound) size
    (ap (λ n. take n (drop done bytes)) (ap length piece ∙ length-take-le moved (drop done bytes) (omega (arith, length-drop done bytes))) ∙ sym piece) in
    reaches_same (pipe_write_reply fd bytes s) (flow_reply s (pipe_write_call p fd bytes done h)) (stage fs w caller pages) new c.pipe_answer.result before now
    (ap (λ n. flow_reply s (pipe_write_call p fd bytes n h)) (ap (min caller.done) size ∙ sym c.min-done.ensures))
    (reaches_flow fs c.pipe_write_part.new.self w v caller pages (pipe_write_call p fd bytes done) before now c.requires.sound c.pipe_write_part.result c.pipe_answer.result made c.pipe_answer.ensures))
