use Rattle.std.proofs.Common.{◌≡◌, Some, sym, ap, ◌∙◌}
use Rattle.std.specs.Option.{option_copied_mut}
use Rattle.std.specs.FinMap.{get, insert}
use Rattle.dt_calls.proofs.AtHome.{some-there, not-missing, serves-at}
use Rattle.dt_calls.proofs.at_home.serve_at.Goals as goal

pub serve_in-requires-clause-some : goal.serve_in-requires-clause-some
serve_in-requires-clause-some g c =
    let there : get c.args.places.now c.args.vpid ≡ Some c.in-Some.place.now = ap (get c.args.places.now) (sym c.from.ensures) ∙ sym c.get_mut.ensures.value ∙ ap option_copied_mut c.in-Some.is in
    some-there c.args.places.now c.args.vpid c.in-Some.place.now there c.requires.home

pub unreachable-requires : goal.unreachable-requires
unreachable-requires g c =
    not-missing c.args.places.now c.args.vpid (ap (get c.args.places.now) (sym c.from.ensures) ∙ sym c.get_mut.ensures.value ∙ ap option_copied_mut c.in-None.is) c.requires.home

pub returns : goal.returns
returns g c =
    let there : get c.args.places.now c.args.vpid ≡ Some c.in-Some.place.now = ap (get c.args.places.now) (sym c.from.ensures) ∙ sym c.get_mut.ensures.value ∙ ap option_copied_mut c.in-Some.is in
    serves-at _ _ _ _ c.args.places.now _ c.args.vpid c.in-Some.place.now c.serve_in.new.place c.serve_in.result _ _ there
    (ap (λ n. insert c.args.places.now n c.serve_in.new.place) c.from.ensures)
    (some-there c.args.places.now c.args.vpid c.in-Some.place.now there c.requires.home) c.serve_in.ensures.stays c.serve_in.ensures.served
