use Rattle.std.proofs.Common.{◌≡◌, [], sym, ◌∙◌, arith, ⊎_elim}
use Rattle.dt_engine.specs.declared.happening.Admitted.TheVariants as admitted
use Rattle.dt_engine.specs.InPlay.{playing_of}
use Rattle.dt_engine.proofs.Going.{none-away, goes-first, goes-part, goes-admitted, part-admitted, goes-alike, owes-late, over-stands}
use Rattle.dt_rounds.proofs.live.Live.step.Goals as goal

pub returns-in_err-admit-clause-part : goal.returns-in_err-admit-clause-part
returns-in_err-admit-clause-part g c =
    let e = playing_of c.args.self.now.engine (g.H.Host.view c.args.host.now) in
    part-admitted _ _ _ e [] (goes-first e _) _ (none-away e.state) c.admit.ensures.part

pub let_arrive-requires-clause-some : goal.let_arrive-requires-clause-some
let_arrive-requires-clause-some g c =
    let e = playing_of c.args.self.now.engine (g.H.Host.view c.args.host.now) in
    owes-late e c.admit.new.self (g.H.Host.view c.admit.new.host) _ c.in_ok-admit.ensures.whole
    (c.in_ok-admit.ensures.answer ∙ c.in-NotArrived.is) c.in_ok-admit.ensures.run

pub let_arrive-requires-clause-full : goal.let_arrive-requires-clause-full
let_arrive-requires-clause-full g c = c.in_ok-admit.ensures.full (c.requires.rest.full c.requires.running)

pub returns-in_err-let_arrive-in-NotArrived-clause-part : goal.returns-in_err-let_arrive-in-NotArrived-clause-part
returns-in_err-let_arrive-in-NotArrived-clause-part g c =
    let e = playing_of c.args.self.now.engine (g.H.Host.view c.args.host.now) in
    goes-part _ _ _ _ []
    (goes-admitted _ _ _ e [] (goes-first e _) _ _ (none-away e.state) c.in_ok-admit.ensures.run c.in_ok-admit.ensures.wrote)

pub returns-in_ok-let_arrive-in-NotArrived-clause-part : goal.returns-in_ok-let_arrive-in-NotArrived-clause-part
returns-in_ok-let_arrive-in-NotArrived-clause-part g c =
    let e = playing_of c.args.self.now.engine (g.H.Host.view c.args.host.now) in
    goes-part _ _ _ _ []
    (goes-admitted _ _ _ e [] (goes-first e _) _ _ (none-away e.state) c.in_ok-admit.ensures.run c.in_ok-admit.ensures.wrote)

pub returns-in_ok-let_arrive-in-NotArrived-clause-on : goal.returns-in_ok-let_arrive-in-NotArrived-clause-on
returns-in_ok-let_arrive-in-NotArrived-clause-on g c =
    let e = playing_of c.args.self.now.engine (g.H.Host.view c.args.host.now) in
    let arrived = c.in_ok-let_arrive-in-NotArrived.ensures in
    record {
      goes = goes-alike _ _ _ _ _ arrived.alike
          (goes-admitted _ _ _ e [] (goes-first e _) _ _ (none-away e.state) c.in_ok-admit.ensures.run c.in_ok-admit.ensures.wrote);
      rest = record {
        whole = arrived.whole;
        sound = arrived.sound c.in_ok-admit.ensures.sound;
        full = λ _. arrived.full;
      };
      nearer = λ _. let less = arrived.smaller in let before = c.in_ok-admit.ensures.no_farther in omega arith;
    }

pub returns-in-Turn-clause-part : goal.returns-in-Turn-clause-part
returns-in-Turn-clause-part g c =
    let e = playing_of c.args.self.now.engine (g.H.Host.view c.args.host.now) in
    goes-part _ _ _ _ []
    (goes-admitted _ _ _ e [] (goes-first e _) _ _ (none-away e.state) c.in_ok-admit.ensures.run c.in_ok-admit.ensures.wrote)

pub returns-in-Turn-clause-on : goal.returns-in-Turn-clause-on
returns-in-Turn-clause-on g c =
    let e = playing_of c.args.self.now.engine (g.H.Host.view c.args.host.now) in
    let next = playing_of c.admit.new.self (g.H.Host.view c.admit.new.host) in
    record {
      goes = goes-admitted _ _ _ e [] (goes-first e _) _ _ (none-away e.state) c.in_ok-admit.ensures.run c.in_ok-admit.ensures.wrote;
      rest = record {
        whole = c.in_ok-admit.ensures.whole;
        sound = c.in_ok-admit.ensures.sound;
        full = λ _. c.in_ok-admit.ensures.full (c.requires.rest.full c.requires.running);
      };
      nearer = λ none. ⊎_elim
          (λ (is : c.in_ok-admit.field-0 ≡ admitted.Turn). c.in_ok-admit.ensures.nearer is)
          (λ over. absurd (let bad = sym none ∙ over-stands e next over.0 (c.in_ok-admit.ensures.answer ∙ over.1) c.in_ok-admit.ensures.run in cc))
          c.in-Turn.is;
    }
