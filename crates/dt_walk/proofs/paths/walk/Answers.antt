use Rattle.std.proofs.Common.{arith, ◌≡◌, ◌-◌, ◌+◌, Ok, Err, rules, refl, sym, ap, subst, ◌∙◌}
use Rattle.std.specs.Prelude.{reverse}
use Rattle.dt_host.specs.World.{World}
use Rattle.dt_tree.specs.Table.{shape_of, tree_of}
use Rattle.dt_walk.specs.declared.paths.Stretch.{Stretch}
use Rattle.dt_walk.specs.Walk.{is_keep, start_of, path_names, ends_in_slash}
use Rattle.dt_walk.specs.inner.Stretch.{stretch_end_of, stretch_of, walk_by_stretches}
use Rattle.dt_walk.proofs.Stretches.{in_stretches, walk_done, walk_goes, walk_end}
use Rattle.dt_walk.specs.Placed.{IsPlaceIn, IsNamedWell, IsFollowed}
use Rattle.dt_walk.proofs.Fit.{HasByte, IsClean, byte_names, clean_names}
use Rattle.dt_walk.proofs.Ends.{by_end}
use Rattle.dt_walk.proofs.Lived.{place_steps}
use Rattle.dt_walk.proofs.Clean.{name_steps, follow_steps}
use Rattle.dt_walk.proofs.paths.walk.Goals as goal

pub loop-i-init : goal.loop-i-init
loop-i-init g c =
    let v = shape_of c.args.tree.now (g.H.Host.view c.args.host.now).forest in
    let keep : c.eq-keep.result ≡ is_keep c.args.last = search rules in
    record {
      stays = refl;
      later = omega arith;
      same = (λ i. walk_by_stretches 41 v (keep i) (c.start_of-at.ensures i) ((c.in_ok-names.ensures).names i) (c.ends_in_slash-slash.ensures i))
          ∙ sym (in_stretches 40 v (is_keep c.args.last) (start_of c.args.start c.args.path.now) (path_names c.args.path.now) (ends_in_slash c.args.path.now));
    }

pub returns-in-Done : goal.returns-in-Done
returns-in-Done g c =
    let v = shape_of c.args.tree.now (g.H.Host.view c.args.host.now).forest in
    let t = tree_of c.args.tree.now (g.H.Host.view c.args.host.now).forest in
    let tree = c.requires.stands.tree in
    let keep = is_keep c.args.last in
    let start = start_of c.args.start c.args.path.now in
    let path = path_names c.args.path.now in
    let slash = ends_in_slash c.args.path.now in
    let names = reverse c.loop-i.names.items in
    let here = subst (λ (w : World). stretch_end_of c.in_ok-place.field-0 c.walk_on.new.names.items ≡ stretch_of (shape_of c.args.tree.now w.forest) c.eq-keep.result c.loop-i.at names c.loop-i.slash) c.loop-i.invariant.stays c.in_ok-place.ensures.ok in
    let stretch = sym here ∙ ap (λ (s : Stretch). stretch_end_of s c.walk_on.new.names.items) c.in-Done.is in
    let ends = sym c.loop-i.invariant.same ∙ walk_done (41 - c.loop-i._i) v c.eq-keep.result c.loop-i.at names c.loop-i.slash (Ok c.in-Done.place) (omega arith) stretch in
    let some = byte_names c.args.path.now in
    record {
      exact = ends;
      place = by_end v keep (IsPlaceIn v) HasByte (place_steps v tree.shaped tree.root keep) 40 start path slash c.in-Done.place some ends;
      named = λ clean. by_end v keep IsNamedWell IsClean (name_steps t tree keep) 40 start path slash c.in-Done.place (clean_names c.args.path.now clean) ends;
      followed = by_end v keep (IsFollowed v c.args.last) HasByte (follow_steps v tree.shaped tree.root c.args.last) 40 start path slash c.in-Done.place some ends;
      asks = record { stays = c.walk_on.ensures.asks.stays ∙ c.loop-i.invariant.stays; cause = search rules };
    }

pub returns-in-Refused-clause-exact : goal.returns-in-Refused-clause-exact
returns-in-Refused-clause-exact g c =
    let v = shape_of c.args.tree.now (g.H.Host.view c.args.host.now).forest in
    let names = reverse c.loop-i.names.items in
    let here = subst (λ (w : World). stretch_end_of c.in_ok-place.field-0 c.walk_on.new.names.items ≡ stretch_of (shape_of c.args.tree.now w.forest) c.eq-keep.result c.loop-i.at names c.loop-i.slash) c.loop-i.invariant.stays c.in_ok-place.ensures.ok in
    let stretch = sym here ∙ ap (λ (s : Stretch). stretch_end_of s c.walk_on.new.names.items) c.in-Refused.is in
    sym c.loop-i.invariant.same ∙ walk_done (41 - c.loop-i._i) v c.eq-keep.result c.loop-i.at names c.loop-i.slash (Err c.in-Refused.e) (omega arith) stretch

pub loop-i-preserved : goal.loop-i-preserved
loop-i-preserved g c =
    let v = shape_of c.args.tree.now (g.H.Host.view c.args.host.now).forest in
    let names = reverse c.loop-i.names.items in
    let here = subst (λ (w : World). stretch_end_of c.in_ok-place.field-0 c.walk_on.new.names.items ≡ stretch_of (shape_of c.args.tree.now w.forest) c.eq-keep.result c.loop-i.at names c.loop-i.slash) c.loop-i.invariant.stays c.in_ok-place.ensures.ok in
    let stretch = sym here ∙ ap (λ (s : Stretch). stretch_end_of s c.walk_on.new.names.items) c.in-Follow.is in
    record {
      stays = c.walk_on.ensures.asks.stays ∙ c.loop-i.invariant.stays;
      later = omega (arith, c.walk_on.ensures.asks.cause.later, c.loop-i.invariant.later);
      same = sym (walk_goes (41 - c.loop-i._i) (41 - (c.loop-i._i + 1)) v c.eq-keep.result c.loop-i.at names c.loop-i.slash c.in-Follow.next (reverse c.walk_on.new.names.items) c.in-Follow.ends (omega arith) stretch) ∙ c.loop-i.invariant.same;
    }

pub returns-clause-exact : goal.returns-clause-exact
returns-clause-exact g c =
    let v = shape_of c.args.tree.now (g.H.Host.view c.args.host.now).forest in
    sym c.loop-i.invariant.same ∙ walk_end (41 - c.loop-i._i) v c.eq-keep.result c.loop-i.at (reverse c.loop-i.names.items) c.loop-i.slash (omega arith)
