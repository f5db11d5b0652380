-- The size of a file, and the part of it that came, put into ranges.
use Rattle.std.proofs.Common.{◌≡◌, ℕ, ◌≤◌, List, length, take, drop, subst}
use Rattle.std.specs.Prelude.{Result}
use Rattle.dt_base.specs.declared.answer.Answer.{Answer}
use Rattle.dt_base.specs.declared.caller.Caller.{Caller}
use Rattle.dt_host.specs.World.{World, content}
use Rattle.dt_host.specs.declared.error.HostErr.{HostErr}
use Rattle.dt_space.specs.Space.{PageView}
use Rattle.dt_tree.specs.Table.{shape_of}
use Rattle.dt_tree.proofs.Parts.{sized}
use Rattle.dt_iocalls.specs.declared.ranges.Range.{Range}
use Rattle.dt_iocalls.specs.Ranges.{total_len, scattered_pages}
use Rattle.dt_iocalls.specs.Reading.{received_reply, file_read_at_reply, file_read_reply}
use Rattle.dt_callbase.specs.declared.fs.Fs.{Fs}
use Rattle.dt_callbase.specs.Filling.{filled_reply}
use Rattle.dt_callbase.specs.Sound.{Stage, HasReplyOf, stage}
use Rattle.dt_callbase.proofs.Kept.{ends_after}

-- the size of a file, as it is told
pub ruleset told = (sized)

-- what came is taken to the ranges, after the host was only asked
pub came_at : (n offset : ℕ) (ranges : List Range) (bytes : List ℕ) (fs : Fs) (w v : World) (caller : Caller) (space : List PageView) (new : Stage) (result : Result Answer HostErr) (before mid now : ℕ) → v ≡ w → before ≤ mid → bytes ≡ take (total_len ranges) (drop offset (content (shape_of fs.tree w.forest) n)) → HasReplyOf (λ s. filled_reply s (length bytes) (scattered_pages s.space ranges bytes)) (stage fs v caller space) new result mid now → HasReplyOf (file_read_at_reply n offset ranges) (stage fs w caller space) new result before now
came_at n offset ranges bytes fs w v caller space new result before mid now stays later is ends =
    subst (λ b. HasReplyOf (λ s. filled_reply s (length b) (scattered_pages s.space ranges b)) (stage fs w caller space) new result before now) is
    (ends_after (λ s. filled_reply s (length bytes) (scattered_pages s.space ranges bytes)) fs w v caller space new result before mid now stays later ends)

pub came_on : (fd n offset : ℕ) (ranges : List Range) (bytes : List ℕ) (fs : Fs) (w v : World) (caller : Caller) (space : List PageView) (new : Stage) (result : Result Answer HostErr) (before mid now : ℕ) → v ≡ w → before ≤ mid → bytes ≡ take (total_len ranges) (drop offset (content (shape_of fs.tree w.forest) n)) → HasReplyOf (λ s. received_reply s fd offset (length bytes) (scattered_pages s.space ranges bytes)) (stage fs v caller space) new result mid now → HasReplyOf (file_read_reply fd n offset ranges) (stage fs w caller space) new result before now
came_on fd n offset ranges bytes fs w v caller space new result before mid now stays later is ends =
    subst (λ b. HasReplyOf (λ s. received_reply s fd offset (length b) (scattered_pages s.space ranges b)) (stage fs w caller space) new result before now) is
    (ends_after (λ s. received_reply s fd offset (length bytes) (scattered_pages s.space ranges bytes)) fs w v caller space new result before mid now stays later ends)

pub ruleset came = (came_at, came_on)
