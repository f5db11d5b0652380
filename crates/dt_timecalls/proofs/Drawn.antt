-- As many bytes are drawn as are asked for, and they go where so many may be written.
use Rattle.std.proofs.Common.{◌≡◌, ℕ, List, Ok, Err, sym, subst}
use Rattle.std.specs.Prelude.{IsOk}
use Rattle.dt_space.specs.declared.access.Miss.{Miss}
use Rattle.dt_space.specs.declared.access.TheConstants.{WRITE}
use Rattle.dt_space.specs.Space.{PageView, load}
use Rattle.dt_space.specs.Write.{pages_after_store, pages_after_write}
use Rattle.dt_space.proofs.Kept.{stored-allowed, stored-missed}
use Rattle.dt_virt.specs.Words.{SeededWords, next_bytes}
use Rattle.dt_virt.proofs.Drawing.{length-drawn}

pub drawn-stored : (pages : List PageView) (words : SeededWords) (address count : ℕ) → IsOk (load pages WRITE address count) → pages_after_store pages address (next_bytes words count) ≡ Ok (pages_after_write pages address (next_bytes words count))
drawn-stored pages words address count may =
    stored-allowed pages address (next_bytes words count)
    (subst (λ n. IsOk (load pages WRITE address n)) (sym (length-drawn words count)) may)

pub drawn-missed : (pages : List PageView) (words : SeededWords) (address count : ℕ) (miss : Miss) → load pages WRITE address count ≡ Err miss → pages_after_store pages address (next_bytes words count) ≡ Err miss
drawn-missed pages words address count miss is =
    stored-missed pages address (next_bytes words count) miss
    (subst (λ n. load pages WRITE address n ≡ Err miss) (sym (length-drawn words count)) is)

pub ruleset draws_bytes = (length-drawn, drawn-stored, drawn-missed)
