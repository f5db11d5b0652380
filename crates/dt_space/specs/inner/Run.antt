-- Inner words: no public clause cites these. Bytes written through pages that follow one another.
use Rattle.std.specs.Prelude.{ℕ, ◌-◌, List, [], ◌∷◌, take, drop}
use Rattle.dt_base.specs.declared.limits.TheConstants.{PAGE_SIZE}
use Rattle.dt_base.specs.Bytes.{with_bytes_at}
use Rattle.dt_space.specs.Space.{PageView}

-- a page with as many of the bytes as it takes written from an offset on
abbrev pub page_after_put : PageView → ℕ → List ℕ → PageView
page_after_put page offset bytes =
    record page { bytes = with_bytes_at page.bytes offset (take (PAGE_SIZE - offset) bytes) }

-- the pages with the bytes written from an offset of the first on
abbrev pub run_after_put : List PageView → ℕ → List ℕ → List PageView
run_after_put pages offset [] = pages
run_after_put [] offset (byte ∷ bytes) = []
run_after_put (page ∷ pages) offset (byte ∷ bytes) =
    page_after_put page offset (byte ∷ bytes) ∷ run_after_put pages 0 (drop (PAGE_SIZE - offset) (byte ∷ bytes))
