-- A read of an empty input answers 0 and leaves what there is.
use Rattle.std.proofs.Common.{◌≡◌, ℕ, zero, suc, ◌+◌, List, [], ◌∷◌, take, drop, length, Result, Ok, Err, refl, ap, ◌∙◌, arith}
use lib.Seq.{take-nil, drop-nil}
use Rattle.dt_fds.specs.declared.desc.Spot.TheVariants.{At}
use Rattle.dt_space.specs.declared.access.Miss.{Miss}
use Rattle.dt_space.specs.Space.{PageView, load}
use Rattle.dt_space.specs.Write.{pages_after_write}
use Rattle.dt_callbase.specs.Scene.{Scene, value_reply}
use Rattle.dt_iocalls.specs.declared.ranges.Range.{Range}
use Rattle.dt_iocalls.specs.Ranges.{total_len, scattered_pages}
use Rattle.dt_iocalls.specs.Offsets.{with_spot}
use Rattle.dt_iocalls.specs.Reading.{input_read_reply, received_reply}
use Rattle.dt_runlaws.specs.Version.{EmptyInputIsAtItsEnd}

nothing-scattered : (pages : List PageView) (ranges : List Range) → scattered_pages pages ranges [] ≡ Ok pages
unfolding scattered_pages load pages_after_write
nothing-scattered pages [] = refl
nothing-scattered pages (range ∷ ranges) = rw (take-nil range.len, drop-nil range.len, nothing-scattered pages ranges) refl

received : (s : Scene) (fd offset : ℕ) (ranges : List Range) (bytes : List ℕ) → bytes ≡ []
    → received_reply s fd offset (length bytes) (scattered_pages s.space ranges bytes) ≡ value_reply (with_spot s fd (At offset)) 0
received s fd offset ranges bytes none =
    let same : offset + 0 ≡ offset = omega arith in
    rw (none, nothing-scattered s.space ranges, same) refl

pub empty-input : EmptyInputIsAtItsEnd
empty-input fd offset ranges s none =
    received s fd offset ranges _ (ap (λ l. take (total_len ranges) (drop offset l)) none ∙ ap (take (total_len ranges)) (drop-nil offset) ∙ take-nil (total_len ranges))
