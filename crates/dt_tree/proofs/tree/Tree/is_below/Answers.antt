use Rattle.std.proofs.Common.{arith, ◌≡◌, ◌≢◌, ◌-◌, ◌+◌, sym, ◌∙◌}
use Rattle.dt_tree.specs.Table.{shape_of}
use Rattle.dt_host.proofs.Spots.{IsDir-entry}
use Rattle.dt_tree.proofs.Below.{climbs-here, climbs-none, climbs-up, climbs-end}
use Rattle.dt_tree.proofs.Aboves.{parent-entry}
use Rattle.dt_tree.proofs.tree.Tree.is_below.Goals as goal

pub returns-then-current-above : goal.returns-then-current-above
returns-then-current-above g c =
    let v = (g.H.Host.view c.args.host.now).forest in
    let same : c.loop-i.current ≡ c.args.above = omega arith in
    sym (climbs-here (4096 - c.loop-i._i) (shape_of c.args.self.now v) c.loop-i.current c.args.above (omega arith) same) ∙ c.loop-i.invariant.same

pub returns-in-None : goal.returns-in-None
returns-in-None g c =
    let v = (g.H.Host.view c.args.host.now).forest in
    let apart : c.loop-i.current ≢ c.args.above = omega arith in
    let none = sym (c.parent.ensures v c.requires.stands c.loop-i.invariant.is) ∙ c.in-None.is in
    sym (climbs-none (4096 - c.loop-i._i) (shape_of c.args.self.now v) c.loop-i.current c.args.above apart none) ∙ c.loop-i.invariant.same

pub loop-i-preserved : goal.loop-i-preserved
loop-i-preserved g c =
    let v = (g.H.Host.view c.args.host.now).forest in
    let apart : c.loop-i.current ≢ c.args.above = omega arith in
    let some = sym (c.parent.ensures v c.requires.stands c.loop-i.invariant.is) ∙ c.in-Some.is in
    let spot = parent-entry (shape_of c.args.self.now v) c.loop-i.current c.in-Some.up some in
    record {
      is = IsDir-entry (shape_of c.args.self.now v) c.in-Some.up spot.0 c.loop-i.current spot.2;
      same = sym (climbs-up (4096 - c.loop-i._i) (4096 - (c.loop-i._i + 1)) (shape_of c.args.self.now v) c.loop-i.current c.args.above c.in-Some.up (omega arith) apart some) ∙ c.loop-i.invariant.same;
    }

pub returns : goal.returns
returns g c =
    let v = (g.H.Host.view c.args.host.now).forest in
    sym (climbs-end (4096 - c.loop-i._i) (shape_of c.args.self.now v) c.loop-i.current c.args.above (omega arith)) ∙ c.loop-i.invariant.same
