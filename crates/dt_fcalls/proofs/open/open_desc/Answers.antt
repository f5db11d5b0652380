use Rattle.std.proofs.Common.{ℕ, Ok, Err, refl, sym, subst, arith}
use Rattle.dt_base.specs.declared.answer.Answer.TheVariants.{Value}
use Rattle.dt_fds.specs.Backs.{IsBacked, KeepsOthers as KeepsHolds, IsFilesAnswer, at, holding_at as held_at}
use Rattle.dt_fds.specs.Holding.{add_call}
use Rattle.dt_host.specs.declared.error.CallErr.{CallErr}
use Rattle.dt_callbase.specs.Scene.{holding, files_call_reply}
use Rattle.dt_callbase.specs.Sound.{HasReply, stage, scene}
use Rattle.dt_callbase.proofs.Kept.{reaches_held, reaches_same}
use Rattle.dt_tree.specs.Calls.{UnlessFailed}
use Rattle.dt_fcalls.specs.Open.{open_reply}
use Rattle.dt_fcalls.proofs.open.open_desc.Goals as goal

pub returns-in-Ok : goal.returns-in-Ok
returns-in-Ok g c =
    let w = g.H.Host.view c.args.host.now in
    let old = stage c.args.fs.now w c.args.caller.now c.args.space.now in
    let new = stage (record c.args.fs.now { tree = c.add.new.tree; files = c.add.new.self }) w c.args.caller.now c.args.space.now in
    let s = scene old in
    let count = g.H.Host.count c.args.host.now in
    subst (λ fd. HasReply (open_reply c.args.flags c.args.desc s) old new (Ok (Value fd)) count count) (sym c.from.ensures)
    (reaches_same _ _ _ _ _ _ _ (λ i. files_call_reply (λ fd. fd) s (add_call c.args.caller.now.vpid c.args.desc (sym c.has_flag.ensures i) (holding s)))
    (reaches_held (λ fd. fd) _ c.args.fs.now c.add.new.tree c.add.new.self w w c.args.caller.now c.args.space.now (Ok c.in-Ok.fd) _ _
    c.requires.sound c.in-Ok.ensures.backed c.in-Ok.ensures.others refl (omega arith) c.in-Ok.ensures.made))

pub returns-in-Err-Errno : goal.returns-in-Err-Errno
returns-in-Err-Errno g c =
    let w = g.H.Host.view c.args.host.now in
    let old = stage c.args.fs.now w c.args.caller.now c.args.space.now in
    let s = scene old in
    let new = at c.add.new.self c.add.new.tree w in
    let same = c.in-Err-Errno.field-0-is in
    reaches_same _ _ _ _ _ _ _ (λ i. files_call_reply (λ fd. fd) s (add_call c.args.caller.now.vpid c.args.desc (sym c.has_flag.ensures i) (holding s)))
    (reaches_held (λ fd. fd) _ c.args.fs.now c.add.new.tree c.add.new.self w w c.args.caller.now c.args.space.now (Err c.in-Err-Errno.errno) _ _
    c.requires.sound
    (subst (λ (e : CallErr). UnlessFailed {A = ℕ} (Err e) (IsBacked new)) same c.in-Err-Errno.ensures.backed)
    (subst (λ (e : CallErr). UnlessFailed {A = ℕ} (Err e) (KeepsHolds c.args.caller.now.vpid (holding s) (held_at new))) same c.in-Err-Errno.ensures.others)
    refl (omega arith)
    (subst (λ (e : CallErr). IsFilesAnswer {A = ℕ} (Err e) (held_at new) (add_call c.args.caller.now.vpid c.args.desc c.has_flag.result (holding s))) same c.in-Err-Errno.ensures.made))
