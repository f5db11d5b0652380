use Rattle.std.proofs.Common.{◌≡◌, Some, length, ap, sym, ◌∙◌}
use Rattle.dt_space.specs.Write.{pages_after_store}
use Rattle.dt_callbase.specs.Sound.{stage, scene}
use Rattle.dt_callbase.proofs.Kept.{reaches_same}
use Rattle.dt_iocalls.specs.Entries.{dirents, entries_fill_reply, fitting_entries_reply}
use Rattle.dt_iocalls.proofs.Left.{tells_last}
use Rattle.dt_iocalls.proofs.entries.tell.Goals as goal

pub returns-in-Some : goal.returns-in-Some
returns-in-Some g c =
    let here = stage c.args.fs.now (g.H.Host.view c.args.host.now) c.args.caller.now c.args.space.now in
    let all = c.args.entries.items in
    let told : c.deref-in-Some.result.now ≡ dirents all = c.deref-in-Some.ensures.value ∙ c.in_ok-bytes.ensures ∙ ap dirents c.deref.ensures.value in
    reaches_same (fitting_entries_reply c.args.fd c.args.buffer (scene here) all)
    (entries_fill_reply (scene here) c.args.fd (Some c.in-Some.last.name) (length c.deref-in-Some.result.now) (pages_after_store c.args.space.now c.args.buffer c.deref-in-Some.result.now))
    here (stage c.fill_records.new.fs (g.H.Host.view c.args.host.now) c.args.caller.now c.fill_records.new.space) c.fill_records.result (g.H.Host.count c.args.host.now) (g.H.Host.count c.args.host.now)
    (tells_last c.args.fd c.args.buffer (scene here) all _ c.in-Some.last c.in-Some.ensures.items
    ∙ ap (λ bytes. entries_fill_reply (scene here) c.args.fd (Some c.in-Some.last.name) (length bytes) (pages_after_store c.args.space.now c.args.buffer bytes)) (sym told))
    c.fill_records.ensures
