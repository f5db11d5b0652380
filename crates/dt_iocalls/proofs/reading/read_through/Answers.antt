use Rattle.std.proofs.Common.{◌≡◌, length, refl, sym, ap, ◌∙◌, arith}
use Rattle.dt_base.specs.declared.answer.Answer.TheVariants.{Refused}
use Rattle.dt_base.specs.declared.errno.Errno.TheVariants.{Fault as BadAddress}
use Rattle.dt_fds.proofs.Piped.{no_zero}
use Rattle.dt_fds.specs.Backs.{at, holding_at}
use Rattle.dt_fds.specs.Descriptions.{description_at}
use Rattle.dt_fds.specs.Holding.{bytes_read, pipe_read_call}
use Rattle.dt_fds.specs.OpenFiles.{pipes_at}
use Rattle.dt_fds.specs.Pipes.{pipe_content_at}
use Rattle.dt_callbase.specs.Sound.{stage, scene}
use Rattle.dt_callbase.proofs.Kept.{backed_sound, reaches_same}
use Rattle.dt_iocalls.specs.Piping.{flow_reply}
use Rattle.dt_iocalls.specs.Ranges.{total_len}
use Rattle.dt_iocalls.specs.Reading.{pipe_read_reply}
use Rattle.dt_iocalls.proofs.Flows.{reaches_still, reaches_made, read-missed, read-done, call-fewer, length-fewer, came-whole}
use Rattle.dt_iocalls.proofs.Scattering.{may-alike, missed-alike}
use Rattle.dt_iocalls.proofs.reading.read_through.Goals as goal

pub returns-in-Err : goal.returns-in-Err
returns-in-Err g c =
    let w = g.H.Host.view c.args.host.now in
    let fs = c.args.fs.now in
    let p = c.args.caller.now.vpid in
    let h = holding_at (at fs.files fs.tree w) in
    let held = length (pipe_content_at (pipes_at fs.files w.pipes) (description_at fs.files.descriptors p c.args.fd)) in
    let most = total_len c.args.ranges.now in
    let gone = stage fs w c.args.caller.now c.args.space.now in
    let same = c.requires.size ∙ sym (length-fewer h p c.args.fd most held c.requires.of_pipe refl) in
    reaches_still (pipe_read_reply c.args.fd c.args.ranges.now (scene gone)) gone (Refused BadAddress) (g.H.Host.count c.args.host.now) (g.H.Host.count c.args.host.now) c.requires.sound (omega arith)
    (read-missed c.args.fd c.args.ranges.now (scene gone) c.in-Err.field-0 (no_zero most c.requires.some)
    (missed-alike c.args.space.now c.args.ranges.now c.args.buf.now (bytes_read p c.args.fd most h) c.in-Err.field-0 same (c.in-Err.ensures)))

pub put-requires : goal.put-requires
put-requires g c =
    let w = g.H.Host.view c.args.host.now in
    let fs = c.args.fs.now in
    let p = c.args.caller.now.vpid in
    let h = holding_at (at fs.files fs.tree w) in
    let held = length (pipe_content_at (pipes_at fs.files w.pipes) (description_at fs.files.descriptors p c.args.fd)) in
    let most = total_len c.args.ranges.now in
    let made = c.pipe_read.ensures.makes fs.tree (backed_sound fs w c.args.caller.now c.args.space.now c.requires.sound) in
    let came = came-whole p c.args.fd most held h _ c.args.buf.now c.pipe_read.new.buf c.pipe_read.result c.in_ok-answer.answer c.requires.of_pipe refl c.requires.size (sym c.pipe_answer.ensures ∙ c.in_ok-answer.was) made.made (c.pipe_read.ensures.bytes fs.tree) c.pipe_read.ensures.kept in
    may-alike c.args.space.now c.args.ranges.now c.args.buf.now c.pipe_read.new.buf
    (c.requires.size ∙ sym (length-fewer h p c.args.fd most held c.requires.of_pipe refl) ∙ ap length (sym came)) (c.in-Ok.ensures)

pub returns : goal.returns
returns g c =
    let w = g.H.Host.view c.args.host.now in
    let v = g.H.Host.view c.pipe_read.new.host in
    let fs = c.args.fs.now in
    let p = c.args.caller.now.vpid in
    let h = holding_at (at fs.files fs.tree w) in
    let s = scene (stage fs w c.args.caller.now c.args.space.now) in
    let held = length (pipe_content_at (pipes_at fs.files w.pipes) (description_at fs.files.descriptors p c.args.fd)) in
    let most = total_len c.args.ranges.now in
    let pages = c.put.new.space in
    let new = stage (record fs { files = c.pipe_read.new.self }) v c.args.caller.now pages in
    let made = c.pipe_read.ensures.makes fs.tree (backed_sound fs w c.args.caller.now c.args.space.now c.requires.sound) in
    let is = sym c.pipe_answer.ensures ∙ c.in_ok-answer.was in
    let came = came-whole p c.args.fd most held h _ c.args.buf.now c.pipe_read.new.buf c.pipe_read.result c.in_ok-answer.answer c.requires.of_pipe refl c.requires.size is made.made (c.pipe_read.ensures.bytes fs.tree) c.pipe_read.ensures.kept in
    let call = pipe_read_call p c.args.fd (length c.args.buf.now) in
    let fewer : pipe_read_call p c.args.fd most h ≡ call h = sym (call-fewer h p c.args.fd most held c.requires.of_pipe refl) ∙ ap (λ n. pipe_read_call p c.args.fd n h) (sym c.requires.size) in
    reaches_same (pipe_read_reply c.args.fd c.args.ranges.now s) (flow_reply (record s { space = pages }) (call h)) (stage fs w c.args.caller.now c.args.space.now) new _ (g.H.Host.count c.args.host.now) (g.H.Host.count c.pipe_read.new.host)
    (read-done c.args.fd c.args.ranges.now s (call h) c.pipe_read.new.buf pages (no_zero most c.requires.some) fewer (sym came) c.in_ok-put.ensures)
    (reaches_made fs c.pipe_read.new.self w v c.args.caller.now c.args.space.now pages call c.pipe_read.result c.in_ok-answer.answer (g.H.Host.count c.args.host.now) (g.H.Host.count c.pipe_read.new.host) c.requires.sound made is)
