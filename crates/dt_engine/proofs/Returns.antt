-- Machines that come back, and what is left of a run before its first turn.
use Rattle.std.proofs.Common.{◌≡◌, ℕ, None, refl, sym, ap, ◌∙◌}
use Rattle.std.specs.Ordering.{nat_cmp}
use Rattle.std.specs.Cmp.{nat_cmp_total}
use Rattle.std.specs.FinMap.{find, get, insert, same_map, nat_cmp-IsAntisymmetric}
use Rattle.dt_tables.proofs.Maps.{get-insert_same, insert_same}
use Rattle.dt_rv64.specs.declared.machine.Machine.{Machine}
use Rattle.dt_rv64.specs.Segment.{segment_of}
use Rattle.dt_calls.specs.declared.container.Launch.{Launch}
use Rattle.dt_calls.specs.declared.container.Launch.TheVariants.{Started, NoStart}
use Rattle.dt_calls.specs.Container.{Container, first_container}
use Rattle.dt_calls.specs.Launch.{launch}
use Rattle.dt_tree.specs.ImageTree.{image_tree}
use Rattle.dt_engine.specs.Work.{Work, Works, owing_work, work_after_segment, prepared_of, with_segment}
use Rattle.dt_engine.specs.Run.{run_from, run_of}
use Rattle.dt_engine.specs.Ahead.{Away, with_works, works_with_segment, with_segment_of, state_with_works}
use Rattle.dt_engine.specs.Playing.{rest_of, playing_from, first_playing, RestAtFirst}
use Rattle.dt_engine.specs.Lent.{ReturnRuns}
use Rattle.dt_engine.proofs.Aways.{get-put_all, over-insert}

-- works that are away go beside another one
with_works-insert : (ws : Away) (works : Works) (p : ℕ) (w : Work) → find nat_cmp p ws ≡ None
    → with_works ws (insert works p w) ≡ insert (with_works ws works) p w
with_works-insert ws works p w apart = same_map nat_cmp_total nat_cmp-IsAntisymmetric _ _ (λ q.
    get-put_all ws (insert works p w) q
    ∙ sym (over-insert ws (with_works ws works) works p w q apart (get-put_all ws works q)))

pub ran-owing : (m : Machine) → with_segment (owing_work m) ≡ work_after_segment (segment_of m)
unfolding with_segment prepared_of
ran-owing m = refl

ran-back : (works : Works) (p : ℕ) (m : Machine)
    → works_with_segment (insert works p (owing_work m)) p (get (insert works p (owing_work m)) p)
    ≡ insert works p (work_after_segment (segment_of m))
ran-back works p m =
    ap (works_with_segment (insert works p (owing_work m)) p) (get-insert_same nat_cmp_total nat_cmp-IsAntisymmetric works p (owing_work m))
    ∙ insert_same nat_cmp_total nat_cmp-IsAntisymmetric works p (owing_work m) (with_segment (owing_work m))
    ∙ ap (insert works p) (ran-owing m)

pub return-runs : ReturnRuns
unfolding state_with_works with_segment_of
return-runs p m ws s apart = ap (λ works. record s { works = works })
    (with_works-insert ws s.works p (work_after_segment (segment_of m)) apart ∙ sym (ran-back (with_works ws s.works) p m))

left-from : (budget : ℕ) (c : Container) (l : Launch)
    → (let e = playing_from budget c l in rest_of e.state e.verdict) ≡ run_from budget c l
left-from budget c Started = refl
left-from budget c (NoStart errno) = refl

pub rest-at-first : RestAtFirst
unfolding first_playing run_of
rest-at-first entries words seed budget =
    let l = launch (first_container (image_tree entries) seed) words in left-from budget l.container l.launch
