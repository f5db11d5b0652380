use Rattle.std.proofs.Common.{◌≡◌, Some, sym, ap, ◌∙◌}
use Rattle.std.specs.Option.{option_copied_mut}
use Rattle.std.specs.FinMap.{get, insert}
use Rattle.dt_calls.proofs.AtHome.{some-there, not-missing, all-runs}
use Rattle.dt_calls.proofs.at_home.run_at.Goals as goal

pub run_in-requires : goal.run_in-requires
run_in-requires c =
    let there : get c.args.places.now c.args.vpid ≡ Some c.in-Some.place.now = ap (get c.args.places.now) (sym c.from.ensures) ∙ sym c.get_mut.ensures.value ∙ ap option_copied_mut c.in-Some.is in
    some-there c.args.places.now c.args.vpid c.in-Some.place.now there c.requires

pub unreachable-requires : goal.unreachable-requires
unreachable-requires c =
    not-missing c.args.places.now c.args.vpid (ap (get c.args.places.now) (sym c.from.ensures) ∙ sym c.get_mut.ensures.value ∙ ap option_copied_mut c.in-None.is) c.requires

pub returns : goal.returns
returns c =
    let there : get c.args.places.now c.args.vpid ≡ Some c.in-Some.place.now = ap (get c.args.places.now) (sym c.from.ensures) ∙ sym c.get_mut.ensures.value ∙ ap option_copied_mut c.in-Some.is in
    all-runs c.args.places.now _ c.args.vpid c.in-Some.place.now c.run_in.new.place c.run_in.result there
    (ap (λ n. insert c.args.places.now n c.run_in.new.place) c.from.ensures)
    (some-there c.args.places.now c.args.vpid c.in-Some.place.now there c.requires) c.run_in.ensures.stays c.run_in.ensures.run
