use Rattle.std.proofs.Common.{sym, ◌∙◌}
use Rattle.dt_calls.specs.InCode.{ContainerView}
use Rattle.dt_calls.proofs.Fired.{jumps, sound-jumped, lives-jumped}
use Rattle.dt_calls.proofs.container.Container.jump.Goals as goal

pub returns-clause-jumped : goal.returns-clause-jumped
returns-clause-jumped c = λ w.
    let s : ContainerView = record { shared = c.self.inside.shared; places = c.self.inside.places; events = c.self.inside.events.items } in
    jumps c.args.self.now s c.jump.new.self w c.self.view_is c.jump.ensures.kept c.in-Some.due (sym c.earliest.ensures ∙ c.in-Some.is)
    (c.jump.ensures.jumped w) c.jump.ensures.pids

pub returns-clause-sound : goal.returns-clause-sound
returns-clause-sound c = λ w sound.
    let s : ContainerView = record { shared = c.self.inside.shared; places = c.self.inside.places; events = c.self.inside.events.items } in
    sound-jumped c.args.self.now s c.jump.new.self w c.self.view_is c.jump.ensures.kept sound

pub returns-clause-lives : goal.returns-clause-lives
returns-clause-lives c = λ w sound p lives.
    let s : ContainerView = record { shared = c.self.inside.shared; places = c.self.inside.places; events = c.self.inside.events.items } in
    lives-jumped c.args.self.now s c.jump.new.self w c.self.view_is c.jump.ensures.kept sound p lives
