use Rattle.std.proofs.Common.{◌≡◌, true, false, [], sym, ◌∙◌}
use Rattle.dt_engine.specs.InPlay.{playing_of}
use Rattle.dt_runlaws.specs.declared.driver.LentMachine.{LentMachine}
use Rattle.dt_runlaws.specs.Driver.{lent_of, may_lend}
use Rattle.dt_runlaws.proofs.Carries.{owes-at-home}
use Rattle.dt_runlaws.proofs.Points.{lend-not, lend-at}
use Rattle.dt_runlaws.proofs.Steps.{nowhere, none-shown, may-owe, lend-shown}
use Rattle.dt_runlaws.proofs.driver.Driver.lend.Goals as goal

pub lend-machine-requires-clause-owing : goal.lend-machine-requires-clause-owing
lend-machine-requires-clause-owing c =
    let f = c.args.self.now in
    let may : may_lend (playing_of f.engine nowhere) (lent_of f.lent.items) c.args.vpid ≡ true = sym (c.may_lend.ensures nowhere) ∙ c.if-not-may_lend.false in
    let owes = may-owe (playing_of f.engine nowhere) (lent_of f.lent.items) c.args.vpid may in
    owes-at-home (playing_of f.engine nowhere) (lent_of f.lent.items) c.args.vpid (c.requires.machines nowhere) owes.0 owes.1

pub returns-clause-driving : goal.returns-clause-driving
returns-clause-driving c =
    let f = c.args.self.now in
    let l : LentMachine = record { vpid = c.args.vpid; machine = c.lend-machine.result } in
    record {
      whole = c.lend-machine.ensures.whole;
      machines = λ w.
          let may : may_lend (playing_of f.engine w) (lent_of f.lent.items) c.args.vpid ≡ true = sym (c.may_lend.ensures w) ∙ c.if-not-may_lend.false in
          let owes = may-owe (playing_of f.engine w) (lent_of f.lent.items) c.args.vpid may in
          let shows = lend-shown _ [] f.engine c.lend-machine.new.self w f.lent.items _ l
          (none-shown (playing_of f.engine w) (lent_of f.lent.items) (c.requires.machines w)) owes.0
          c.lend-machine.ensures.work (c.lend-machine.ensures.run w) c.in_ok-push.ensures.items in
          shows.machines;
      unfinished = c.lend-machine.ensures.open ∙ c.requires.unfinished;
    }

pub returns-clause-shows : goal.returns-clause-shows
returns-clause-shows c = λ w all shown h.
    let f = c.args.self.now in
    let l : LentMachine = record { vpid = c.args.vpid; machine = c.lend-machine.result } in
    let may : may_lend (playing_of f.engine w) (lent_of f.lent.items) c.args.vpid ≡ true = sym (c.may_lend.ensures w) ∙ c.if-not-may_lend.false in
    let owes = may-owe (playing_of f.engine w) (lent_of f.lent.items) c.args.vpid may in
    lend-shown all shown f.engine c.lend-machine.new.self w f.lent.items _ l h owes.0
    c.lend-machine.ensures.work (c.lend-machine.ensures.run w) c.in_ok-push.ensures.items

pub returns-then-not-may_lend-clause-at : goal.returns-then-not-may_lend-clause-at
returns-then-not-may_lend-clause-at c = λ w shown.
    let f = c.args.self.now in
    let not : may_lend (playing_of f.engine w) (lent_of f.lent.items) c.args.vpid ≡ false =
    sym (c.may_lend.ensures w) ∙ c.if-not-may_lend.true in
    lend-not f w shown c.args.vpid _ not

pub returns-clause-at : goal.returns-clause-at
returns-clause-at c = λ w shown.
    let f = c.args.self.now in
    let l : LentMachine = record { vpid = c.args.vpid; machine = c.lend-machine.result } in
    let may : may_lend (playing_of f.engine w) (lent_of f.lent.items) c.args.vpid ≡ true =
    sym (c.may_lend.ensures w) ∙ c.if-not-may_lend.false in
    lend-at f c.lend-machine.new.self _ w shown l _ may c.lend-machine.ensures.work (c.lend-machine.ensures.run w) c.in_ok-push.ensures.items
