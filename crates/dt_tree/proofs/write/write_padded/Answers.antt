use Rattle.std.proofs.Common.{◌≤◌, length, sym, subst}
use Rattle.dt_base.specs.Bytes.{with_trailing_zeros}
use Rattle.dt_host.specs.World.{World, IsFile, content}
use Rattle.dt_host.proofs.Worlds.{IsFile-with_bytes, content-with_bytes}
use Rattle.dt_tree.proofs.Contents.{reaches, writes-padded}
use Rattle.dt_tree.proofs.write.write_padded.Goals as goal

pub write_whole-requires-clause-file : goal.write_whole-requires-clause-file
write_whole-requires-clause-file g c =
    let w = g.H.Host.view c.args.host.now in
    subst (λ (w : World). IsFile w.forest c.args.real) (sym c.in_ok-pad.ensures.padded) (IsFile-with_bytes w.forest c.args.real (with_trailing_zeros (content w.forest c.args.real) c.args.off))

pub write_whole-requires-clause-joined : goal.write_whole-requires-clause-joined
write_whole-requires-clause-joined g c =
    let w = g.H.Host.view c.args.host.now in
    let bytes = content w.forest c.args.real in
    subst (λ (w : World). c.args.off ≤ length (content w.forest c.args.real)) (sym c.in_ok-pad.ensures.padded)
    (subst (λ xs. c.args.off ≤ length xs) (sym (content-with_bytes w.forest c.args.real (with_trailing_zeros bytes c.args.off))) (reaches bytes c.args.off))

pub returns-clause-padded : goal.returns-clause-padded
returns-clause-padded g c =
    writes-padded (g.H.Host.view c.args.host.now) (g.H.Host.view c.pad.new.host) (g.H.Host.view c.write_whole.new.host) c.args.real c.args.off c.args.bytes.now c.write_whole.result c.in_ok-pad.ensures.padded c.write_whole.ensures.legal
