use Rattle.std.proofs.Common.{[], sym, subst}
use Rattle.dt_engine.specs.Run.{run_of}
use Rattle.dt_engine.specs.InPlay.{playing_of}
use Rattle.dt_runlaws.specs.Shown.{AreLent, Shows}
use Rattle.dt_runlaws.specs.Driver.{lent_of}
use Rattle.dt_runlaws.proofs.Writes.{begin-writes}
use Rattle.dt_runlaws.proofs.Points.{first-at}
use Rattle.dt_runlaws.proofs.Steps.{lent-anywhere, first-shown, first-written}
use Rattle.dt_runlaws.proofs.driver.Driver.begin.Goals as goal

pub returns-in_err-engine-clause-part : goal.returns-in_err-engine-clause-part
returns-in_err-engine-clause-part g c =
    begin-writes c.args.image.now.version (run_of c.args.image.now c.args.command.now c.args.seed c.args.budget) _ _ c.begin.ensures.part

pub returns-clause-driving : goal.returns-clause-driving
returns-clause-driving g c =
    let e = c.in_ok-engine.engine in
    let w = g.H.Host.view c.begin.new.host in
    let h = first-shown _ _ _ _ (playing_of e w) c.in_ok-engine.ensures.run in
    record {
      driving = record {
        whole = c.in_ok-engine.ensures.whole;
        machines = λ v. lent-anywhere e w v _
            (subst (λ items. AreLent (playing_of e w) (lent_of items)) (sym c.new.ensures.items) h.machines);
        unfinished = c.in_ok-engine.ensures.open;
      };
      sound = c.in_ok-engine.ensures.sound;
    }

pub returns-clause-reported : goal.returns-clause-reported
returns-clause-reported g c =
    let e = c.in_ok-engine.engine in
    let w = g.H.Host.view c.begin.new.host in
    record {
      shows = subst (λ items. Shows (run_of c.args.image.now c.args.command.now c.args.seed c.args.budget) [] (playing_of e w) (lent_of items))
          (sym c.new.ensures.items) (first-shown _ _ _ _ (playing_of e w) c.in_ok-engine.ensures.run);
      wrote = first-written c.args.image.now.version _ _ c.in_ok-engine.ensures.wrote;
    }

pub returns-clause-part : goal.returns-clause-part
returns-clause-part g c =
    begin-writes c.args.image.now.version (run_of c.args.image.now c.args.command.now c.args.seed c.args.budget) _ _ c.begin.ensures.part

pub returns-clause-at : goal.returns-clause-at
returns-clause-at g c =
    first-at c.args.image.now c.args.command.now c.args.seed c.args.budget c.in_ok-engine.engine _ (g.H.Host.view c.begin.new.host)
    c.in_ok-engine.ensures.run c.new.ensures.items
