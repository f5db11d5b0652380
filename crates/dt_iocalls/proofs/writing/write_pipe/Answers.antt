use Rattle.std.proofs.Common.{◌≡◌, ◌≢◌, arith}
use Rattle.dt_base.specs.declared.answer.Answer.TheVariants.{Value}
use Rattle.dt_callbase.specs.Sound.{stage, scene}
use Rattle.dt_callbase.proofs.Kept.{reaches_same}
use Rattle.dt_iocalls.specs.Ranges.{gathered_bytes, total_len}
use Rattle.dt_iocalls.specs.Writing.{on_bytes, pipe_write_reply}
use Rattle.dt_iocalls.specs.inner.Written.{ranges_write_reply}
use Rattle.dt_iocalls.proofs.Flows.{reaches_still}
use Rattle.dt_iocalls.proofs.Written.{none-written, some-written}
use Rattle.dt_iocalls.proofs.writing.write_pipe.Goals as goal

pub returns-then-whole-eq0 : goal.returns-then-whole-eq0
returns-then-whole-eq0 g c =
    let gone = stage c.args.fs.now (g.H.Host.view c.args.host.now) c.args.caller.now c.args.space.now in
    let none : total_len c.args.ranges.now ≡ 0 = omega (arith, c.total_len-whole.ensures, c.if-whole-eq0.true, c.requires.few) in
    reaches_still (ranges_write_reply (pipe_write_reply c.args.fd) c.args.ranges.now (scene gone)) gone (Value 0) (g.H.Host.count c.args.host.now) (g.H.Host.count c.args.host.now) c.requires.sound (omega arith)
    (none-written (pipe_write_reply c.args.fd) c.args.ranges.now (scene gone) c.in-Ok.ensures none)

pub returns : goal.returns
returns g c =
    let gone = stage c.args.fs.now (g.H.Host.view c.args.host.now) c.args.caller.now c.args.space.now in
    let s = scene gone in
    let some : total_len c.args.ranges.now ≢ 0 = λ none. omega (arith, c.total_len-whole.ensures, c.if-whole-eq0.false, none) in
    reaches_same (ranges_write_reply (pipe_write_reply c.args.fd) c.args.ranges.now s) (on_bytes s (gathered_bytes c.args.space.now c.args.ranges.now) (λ bytes. pipe_write_reply c.args.fd bytes s))
    gone (stage c.write_pipe_piece.new.fs (g.H.Host.view c.write_pipe_piece.new.host) c.args.caller.now c.args.space.now) c.write_pipe_piece.result (g.H.Host.count c.args.host.now) (g.H.Host.count c.write_pipe_piece.new.host)
    (some-written (pipe_write_reply c.args.fd) c.args.ranges.now s c.in-Ok.ensures some) c.write_pipe_piece.ensures
