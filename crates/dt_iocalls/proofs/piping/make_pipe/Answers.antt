use Rattle.std.proofs.Common.{◌≡◌, refl, sym, ap, ◌∙◌, Ok, Err}
use Rattle.dt_base.specs.declared.answer.Answer.TheVariants.{Value}
use Rattle.dt_fds.specs.Backs.{at, holding_at}
use Rattle.dt_space.specs.Write.{pages_after_store}
use Rattle.dt_callbase.specs.Scene.{value_reply, with_holding}
use Rattle.dt_callbase.specs.Sound.{stage, scene}
use Rattle.dt_callbase.proofs.Kept.{backed_sound}
use Rattle.dt_iocalls.specs.Piping.{pair_bytes, new_pipe_reply}
use Rattle.dt_iocalls.proofs.Flows.{reaches_backed, no-refusal, made-pipe}
use Rattle.dt_iocalls.proofs.piping.make_pipe.Goals as goal

pub unreachable-requires : goal.unreachable-requires
unreachable-requires g c =
    let w = g.H.Host.view c.args.host.now in
    let fs = c.args.fs.now in
    let made = c.pipe.ensures.makes fs.tree (backed_sound fs w c.args.caller.now c.args.space.now c.requires.sound) in
    no-refusal c.args.caller.now.vpid c.args.flags (holding_at (at fs.files fs.tree w)) c.args.ends _ c.pipe.result c.in-Err-Errno.field-0-0 c.requires.free made.made
    (c.in-Err-Errno.is ∙ ap Err c.in-Err-Errno.field-0-is)

pub returns-in-Ok-write_bytes : goal.returns-in-Ok-write_bytes
returns-in-Ok-write_bytes g c =
    let w = g.H.Host.view c.args.host.now in
    let v = g.H.Host.view c.pipe.new.host in
    let fs = c.args.fs.now in
    let s = scene (stage fs w c.args.caller.now c.args.space.now) in
    let pages = c.write_bytes.new.self in
    let made = c.in-Ok.ensures.makes fs.tree (backed_sound fs w c.args.caller.now c.args.space.now c.requires.sound) in
    let piped_is = made-pipe c.args.caller.now.vpid c.args.flags (holding_at (at fs.files fs.tree w)) c.args.ends (holding_at (at c.pipe.new.self fs.tree v)) (Ok c.in-Ok.field-0) c.in-Ok.field-0 c.requires.free made.made refl in
    let stored_is : pages_after_store c.args.space.now c.args.buffer (pair_bytes c.args.ends) ≡ Ok pages = ap (pages_after_store c.args.space.now c.args.buffer) (sym c.requires.bytes) ∙ c.in-Ok-write_bytes.ensures.stored in
    reaches_backed (new_pipe_reply s c.args.flags c.args.ends (pages_after_store c.args.space.now c.args.buffer (pair_bytes c.args.ends))) fs fs.tree c.pipe.new.self w v c.args.caller.now c.args.space.now pages (Value 0) (g.H.Host.count c.args.host.now) (g.H.Host.count c.pipe.new.host)
    c.requires.sound made.backed made.others made.rest made.cause.later
    (ap (new_pipe_reply s c.args.flags c.args.ends) stored_is ∙ ap (λ h. value_reply (record (with_holding h s) { space = pages }) 0) piped_is)
