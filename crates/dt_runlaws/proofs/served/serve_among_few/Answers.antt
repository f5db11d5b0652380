use Rattle.dt_runlaws.proofs.Serving.{shows, leaves}
use Rattle.dt_runlaws.proofs.served.serve_among_few.Goals as goal

pub returns-clause-shown : goal.returns-clause-shown
returns-clause-shown g c =
    shows c.args.container.now c.serve.new.self (g.H.Host.view c.args.host.now) (g.H.Host.view c.serve.new.host) c.args.vpid c.args.stop
    c.requires.sound c.requires.home c.requires.few c.serve.result c.serve.ensures.ok

pub returns-clause-few : goal.returns-clause-few
returns-clause-few g c =
    leaves c.args.container.now c.serve.new.self (g.H.Host.view c.args.host.now) (g.H.Host.view c.serve.new.host) c.args.vpid c.args.stop
    c.requires.sound c.requires.home c.requires.few c.serve.result c.serve.ensures.ok
