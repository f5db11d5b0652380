use Rattle.std.proofs.Common.{◌≡◌, [], ◌∷◌, length, refl, sym, subst, arith}
use Rattle.std.proofs.lemmas.Bool.Decides.{nat_tests}
use Rattle.dt_engine.specs.InPlay.{playing_of}
use Rattle.dt_runlaws.specs.Shown.{AreLent}
use Rattle.dt_runlaws.proofs.Carries.{nothing-lent}
use Rattle.dt_runlaws.specs.Driver.{Point, point_of, IsAt, HasReported}
use Rattle.dt_runlaws.proofs.Points.{happening-not, happening-at}
use Rattle.dt_runlaws.proofs.Steps.{no-items, driving-played, reported-played, part-played, part-still}
use Rattle.dt_runlaws.proofs.driver.Driver.play.Goals as goal

pub play-requires-clause-full : goal.play-requires-clause-full
play-requires-clause-full g c =
    let f = c.args.self.now in
    let w = g.H.Host.view c.args.host.now in
    let empty : length f.lent.items ≡ 0 = grind (arith, nat_tests) in
    nothing-lent (playing_of f.engine w) (subst (AreLent (playing_of f.engine w)) (no-items f.lent.items empty) (c.requires.driving.machines w))

pub returns-then-not-is_empty-clause-at : goal.returns-then-not-is_empty-clause-at
returns-then-not-is_empty-clause-at g c = λ shown.
    let f = c.args.self.now in
    let d = point_of f (g.H.Host.view c.args.host.now) shown in
    let some : length f.lent.items ≡ 0 → ⊥ = λ empty. grind (arith, nat_tests) in
    subst (λ d. IsAt d f (g.H.Host.view c.args.host.now)) (sym (happening-not c.args.happening f.lent.items d some)) refl

pub returns-then-not-is_empty-clause-reported : goal.returns-then-not-is_empty-clause-reported
returns-then-not-is_empty-clause-reported g c = λ version all shown start h.
    let f = c.args.self.now in
    let d = point_of f (g.H.Host.view c.args.host.now) shown in
    let some : length f.lent.items ≡ 0 → ⊥ = λ empty. grind (arith, nat_tests) in
    subst (λ (d : Point). HasReported version all d.shown start f (g.H.Host.view c.args.host.now) (g.O.Sink.told c.args.out.now))
    (sym (happening-not c.args.happening f.lent.items d some)) h

pub returns-then-not-is_empty-clause-part : goal.returns-then-not-is_empty-clause-part
returns-then-not-is_empty-clause-part g c = λ version all shown start h. part-still version all shown start _ _ _ h

pub returns-in_err-play-clause-part : goal.returns-in_err-play-clause-part
returns-in_err-play-clause-part g c = λ version all shown start h.
    let f = c.args.self.now in
    let empty : length f.lent.items ≡ 0 = grind (arith, nat_tests) in
    part-played version all shown start f (g.H.Host.view c.args.host.now) (c.args.happening ∷ []) (g.O.Sink.told c.args.out.now)
    (g.O.Sink.told c.play.new.out) h empty c.play.ensures.part

pub returns-clause-part : goal.returns-clause-part
returns-clause-part g c = λ version all shown start h.
    let f = c.args.self.now in
    let empty : length f.lent.items ≡ 0 = grind (arith, nat_tests) in
    part-played version all shown start f (g.H.Host.view c.args.host.now) (c.args.happening ∷ []) (g.O.Sink.told c.args.out.now)
    (g.O.Sink.told c.play.new.out) h empty c.play.ensures.part

pub returns-clause-driving : goal.returns-clause-driving
returns-clause-driving g c =
    let f = c.args.self.now in
    let empty : length f.lent.items ≡ 0 = grind (arith, nat_tests) in
    let done = c.in_ok-play.ensures in
    driving-played f _ (g.H.Host.view c.args.host.now) (g.H.Host.view c.play.new.host) (c.args.happening ∷ []) c.requires empty refl
    c.play.ensures.open done.whole done.sound done.run

pub returns-clause-reported : goal.returns-clause-reported
returns-clause-reported g c = λ version all shown start h.
    let f = c.args.self.now in
    let empty : length f.lent.items ≡ 0 = grind (arith, nat_tests) in
    let done = c.in_ok-play.ensures in
    reported-played version all shown start f _ (g.H.Host.view c.args.host.now) (g.H.Host.view c.play.new.host) c.args.happening
    (g.O.Sink.told c.args.out.now) (g.O.Sink.told c.play.new.out) h empty refl done.run done.wrote

pub returns-clause-at : goal.returns-clause-at
returns-clause-at g c = λ shown.
    let f = c.args.self.now in
    let empty : length f.lent.items ≡ 0 = grind (arith, nat_tests) in
    happening-at f c.play.new.self f.lent.items (g.H.Host.view c.args.host.now) (g.H.Host.view c.play.new.host) shown c.args.happening (no-items f.lent.items empty) refl
    c.in_ok-play.ensures.run
