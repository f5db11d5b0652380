use Rattle.std.proofs.Common.{refl, ap}
use Rattle.dt_calls.specs.InCode.{ContainerView}
use Rattle.dt_calls.proofs.Serving.{sound-served, task-served, home-served, places-kept, settles, serve-done}
use Rattle.dt_calls.proofs.container.Container.serve.Goals as goal

pub serve_at-requires-clause-sound : goal.serve_at-requires-clause-sound
serve_at-requires-clause-sound g c =
    let s : ContainerView = record { shared = c.self.inside.shared; places = c.self.inside.places; events = c.self.inside.events.items } in
    sound-served c.args.self.now s (g.H.Host.view c.args.host.now) c.args.vpid c.requires.sound c.self.view_is c.requires.home

pub serve_at-requires-clause-lives : goal.serve_at-requires-clause-lives
serve_at-requires-clause-lives g c =
    let s : ContainerView = record { shared = c.self.inside.shared; places = c.self.inside.places; events = c.self.inside.events.items } in
    task-served c.args.self.now s (g.H.Host.view c.args.host.now) c.args.vpid c.requires.sound c.self.view_is c.requires.home

pub serve_at-requires-clause-home : goal.serve_at-requires-clause-home
serve_at-requires-clause-home g c =
    let s : ContainerView = record { shared = c.self.inside.shared; places = c.self.inside.places; events = c.self.inside.events.items } in
    home-served c.args.self.now s (g.H.Host.view c.args.host.now) c.args.vpid c.requires.sound c.self.view_is c.requires.home

pub counted-requires-clause-paired : goal.counted-requires-clause-paired
counted-requires-clause-paired g c =
    let s : ContainerView = record { shared = c.self.inside.shared; places = c.self.inside.places; events = c.self.inside.events.items } in
    let did = c.in_ok-effect.ensures in
    let new = settles c.args.self.now s (g.H.Host.view c.args.host.now) c.args.vpid c.requires.sound c.self.view_is c.requires.home c.serve_at.new.places did.was did.now did.becomes
    c.next-next.result (g.H.Host.view c.serve_at.new.host) c.in_ok-effect.effect c.serve_at.new.shared _ c.next-next.ensures.value did.serves.kept c.in_ok-settle.ensures in
    new.paired

pub counted-requires-clause-live : goal.counted-requires-clause-live
counted-requires-clause-live g c =
    let s : ContainerView = record { shared = c.self.inside.shared; places = c.self.inside.places; events = c.self.inside.events.items } in
    let did = c.in_ok-effect.ensures in
    let new = settles c.args.self.now s (g.H.Host.view c.args.host.now) c.args.vpid c.requires.sound c.self.view_is c.requires.home c.serve_at.new.places did.was did.now did.becomes
    c.next-next.result (g.H.Host.view c.serve_at.new.host) c.in_ok-effect.effect c.serve_at.new.shared _ c.next-next.ensures.value did.serves.kept c.in_ok-settle.ensures in
    new.shared.lives

pub returns-clause-sound : goal.returns-clause-sound
returns-clause-sound g c =
    let s : ContainerView = record { shared = c.self.inside.shared; places = c.self.inside.places; events = c.self.inside.events.items } in
    let did = c.in_ok-effect.ensures in
    let new = settles c.args.self.now s (g.H.Host.view c.args.host.now) c.args.vpid c.requires.sound c.self.view_is c.requires.home c.serve_at.new.places did.was did.now did.becomes
    c.next-next.result (g.H.Host.view c.serve_at.new.host) c.in_ok-effect.effect c.serve_at.new.shared _ c.next-next.ensures.value did.serves.kept c.in_ok-settle.ensures in
    record { shared = new.shared; paired = new.paired; few = c.counted.ensures }

pub returns-clause-ok : goal.returns-clause-ok
returns-clause-ok g c =
    let s : ContainerView = record { shared = c.self.inside.shared; places = c.self.inside.places; events = c.self.inside.events.items } in
    let did = c.in_ok-effect.ensures in
    serve-done c.args.self.now s (g.H.Host.view c.args.host.now) c.args.vpid c.requires.sound c.self.view_is c.requires.home c.serve_at.new.places did.was did.now did.becomes
    c.args.stop c.next-next.result (g.H.Host.view c.serve_at.new.host) c.in_ok-effect.effect c.serve_at.new.shared _ c.next-next.ensures.value did.serves.served did.serves.kept.next c.in_ok-settle.ensures

pub returns-clause-places : goal.returns-clause-places
returns-clause-places g c =
    let s : ContainerView = record { shared = c.self.inside.shared; places = c.self.inside.places; events = c.self.inside.events.items } in
    let did = c.in_ok-effect.ensures in
    places-kept c.args.self.now s (g.H.Host.view c.args.host.now) c.args.vpid c.requires.sound c.self.view_is c.requires.home c.serve_at.new.places did.was did.now did.becomes
    c.next-next.result c.in_ok-effect.effect c.settle.new.self c.serve_at.new.places refl (ap (λ (x : ContainerView). x.places) c.in_ok-settle.ensures)
