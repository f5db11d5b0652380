use Rattle.dt_fcalls.proofs.Moved.{reaches_moved}
use Rattle.dt_fcalls.proofs.nodes.set_cwd.Goals as goal

pub returns : goal.returns
returns g c =
    reaches_moved c.args.fs.now c.swap_hold.new.tree (g.H.Host.view c.args.host.now) (g.H.Host.view c.swap_hold.new.host)
    c.args.caller.now c.args.space.now c.args.n (g.H.Host.count c.args.host.now) (g.H.Host.count c.swap_hold.new.host)
    c.requires.sound c.requires.directory c.in_ok-swap_hold.ensures.stands c.in_ok-swap_hold.ensures.tree
    c.swap_hold.ensures.rest c.swap_hold.ensures.cause.later
