use Rattle.std.proofs.Common.{arith, ◌≤◌, length, ◌∙◌}
use Rattle.dt_host.specs.World.{content}
use Rattle.dt_tree.proofs.Contents.{size-content, padding-none, cut-pads}
use Rattle.dt_tree.proofs.write.pad.Goals as goal

pub returns-then-size-off-clause-padded : goal.returns-then-size-off-clause-padded
returns-then-size-off-clause-padded g c =
    let w = g.H.Host.view c.args.host.now in
    let size = size-content w.forest c.args.real c.in_ok-size.field-0.size c.requires.file c.in_ok-size.ensures.ok in
    let long : c.args.off ≤ length (content w.forest c.args.real) = omega arith in
    c.raw.ensures.stays ∙ padding-none w c.args.real c.args.off c.requires.file long

pub returns-clause-padded : goal.returns-clause-padded
returns-clause-padded g c =
    let w = g.H.Host.view c.args.host.now in
    let size = size-content w.forest c.args.real c.in_ok-size.field-0.size c.requires.file c.in_ok-size.ensures.ok in
    let short : length (content w.forest c.args.real) ≤ c.args.off = omega arith in
    cut-pads w (g.H.Host.view c.raw.new.self) (g.H.Host.view c.cut.new.self) c.args.real c.args.off c.cut.result c.raw.ensures.stays short c.cut.ensures.legal
