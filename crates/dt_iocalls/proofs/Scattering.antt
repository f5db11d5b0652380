-- Bytes that are put into ranges: whether they may be does not change while they are.
use Rattle.std.proofs.Common.{arith, ◌≡◌, ℕ, zero, suc, ◌+◌, ◌%◌, ◌^◌, ◌<◌, ◌≤◌, get_or, add-one, List, [], ◌∷◌, length, take, drop, Option, None, Some, is_some, Result, Ok, Err, IsOk, refl, sym, ap, ◌∙◌, subst}
use Rattle.std.proofs.Math.Seq.{drop-cons}
use Rattle.std.proofs.lemmas.List.{drop_all, length-take, length-drop}
use Rattle.std.proofs.lemmas.List.Sums.{sum_by-cons}
use Rattle.std.specs.Prelude.{min, ◌-◌}
use Rattle.dt_space.specs.declared.access.Miss.{Miss}
use Rattle.dt_space.specs.declared.access.TheConstants.{WRITE}
use Rattle.dt_space.specs.Space.{PageView, byte_at, byte_before, load}
use Rattle.dt_space.specs.Write.{pages_after_write, pages_after_store, pages_if_allowed}
use Rattle.dt_space.proofs.Kept.{write-some}
use Rattle.dt_iocalls.specs.declared.ranges.Range.{Range}
use Rattle.dt_iocalls.specs.Ranges.{on_pages, scattered_pages, total_len}

-- the same bytes may be written
abbrev pub SameRights : List PageView → List PageView → Type 0
SameRights old new = (a : ℕ) → is_some (byte_at new WRITE a) ≡ is_some (byte_at old WRITE a)

-- an access that missed misses
abbrev LikeLoad : Result (List ℕ) Miss → Result (List ℕ) Miss → Type 0
LikeLoad (Ok old) new = IsOk new
LikeLoad (Err miss) new = new ≡ Err miss

like-byte : (address : ℕ) (old new : Option ℕ) (rest more : Result (List ℕ) Miss) → is_some new ≡ is_some old → LikeLoad rest more → LikeLoad (byte_before address old rest) (byte_before address new more)
like-byte address None None rest more same like = refl
like-byte address None (Some y) rest more same like = absurd cc
like-byte address (Some x) None rest more same like = absurd cc
like-byte address (Some x) (Some y) (Ok bytes) (Ok others) same like = refl
like-byte address (Some x) (Some y) (Ok bytes) (Err miss) same like = absurd cc
like-byte address (Some x) (Some y) (Err miss) more same like = ap (byte_before address (Some y)) like

like-load : (old new : List PageView) → SameRights old new → (count address : ℕ) → LikeLoad (load old WRITE address count) (load new WRITE address count)
unfolding load
like-load old new same zero address = refl
like-load old new same (suc count) address =
    like-byte address (byte_at old WRITE address) (byte_at new WRITE address) (load old WRITE ((address + 1) % 2 ^ 64) count) (load new WRITE ((address + 1) % 2 ^ 64) count) (same address) (like-load old new same count ((address + 1) % 2 ^ 64))

-- whether bytes may be put into ranges, or the first miss
abbrev then_look : Result (List ℕ) Miss → Result (List ℕ) Miss → Result (List ℕ) Miss
then_look (Ok bytes) rest = rest
then_look (Err miss) rest = Err miss

unfoldable pub looked : List PageView → List Range → List ℕ → Result (List ℕ) Miss
looked pages [] bytes = Ok []
looked pages (range ∷ ranges) bytes =
    then_look (load pages WRITE range.address (length (take range.len bytes))) (looked pages ranges (drop range.len bytes))

like-then : (old new rest more : Result (List ℕ) Miss) → LikeLoad old new → LikeLoad rest more → LikeLoad (then_look old rest) (then_look new more)
like-then (Ok old) (Ok new) rest more like next = next
like-then (Ok old) (Err miss) rest more like next = absurd cc
like-then (Err miss) new rest more like next = rw like refl

like-looked : (old new : List PageView) → SameRights old new → (ranges : List Range) (bytes : List ℕ) → LikeLoad (looked old ranges bytes) (looked new ranges bytes)
unfolding looked
like-looked old new same [] bytes = refl
like-looked old new same (range ∷ ranges) bytes =
    like-then (load old WRITE range.address (length (take range.len bytes))) (load new WRITE range.address (length (take range.len bytes)))
    (looked old ranges (drop range.len bytes)) (looked new ranges (drop range.len bytes))
    (like-load old new same (length (take range.len bytes)) range.address) (like-looked old new same ranges (drop range.len bytes))

-- what is scattered is as it was looked at
abbrev LikePages : Result (List ℕ) Miss → Result (List PageView) Miss → Type 0
LikePages (Ok bytes) pages = IsOk pages
LikePages (Err miss) pages = pages ≡ Err miss

like-same : (a b : Result (List ℕ) Miss) (r : Result (List PageView) Miss) → LikeLoad a b → LikePages b r → LikePages a r
like-same (Ok x) (Ok y) r like pages = pages
like-same (Ok x) (Err miss) r like pages = absurd cc
like-same (Err miss) b r like pages = subst (λ found. LikePages found r) like pages

like-store : (load_is rest : Result (List ℕ) Miss) (pages : List PageView) (next : List PageView → Result (List PageView) Miss) → LikePages rest (next pages) → LikePages (then_look load_is rest) (on_pages (pages_if_allowed load_is pages) next)
like-store (Ok bytes) rest pages next like = like
like-store (Err miss) rest pages next like = refl

scattered-looked : (pages : List PageView) (ranges : List Range) (bytes : List ℕ) → LikePages (looked pages ranges bytes) (scattered_pages pages ranges bytes)
unfolding looked scattered_pages
scattered-looked pages [] bytes = refl
scattered-looked pages (range ∷ ranges) bytes =
    let part = take range.len bytes in
    let new = pages_after_write pages range.address part in
    like-store (load pages WRITE range.address (length part)) (looked pages ranges (drop range.len bytes)) new (λ next. scattered_pages next ranges (drop range.len bytes))
    (like-same (looked pages ranges (drop range.len bytes)) (looked new ranges (drop range.len bytes)) (scattered_pages new ranges (drop range.len bytes))
    (like-looked pages new (write-some part pages WRITE range.address) ranges (drop range.len bytes))
    (scattered-looked new ranges (drop range.len bytes)))

-- the ranges from an index on
pub from-index : (ranges : List Range) (i : ℕ) (d : Range) → i < length ranges → drop i ranges ≡ get_or ranges i d ∷ drop (i + 1) ranges
from-index ranges i d within = rw (add-one, drop-cons ranges i d within) refl

-- a look at one range more
looked-step : (pages : List PageView) (range : Range) (rest : List Range) (bytes : List ℕ) (found : Result (List ℕ) Miss) → load pages WRITE range.address (length (take range.len bytes)) ≡ found → looked pages (range ∷ rest) bytes ≡ then_look found (looked pages rest (drop range.len bytes))
unfolding looked
looked-step pages range rest bytes found is = ap (λ r. then_look r (looked pages rest (drop range.len bytes))) is

looked-past : (pages : List PageView) (range : Range) (rest : List Range) (bytes : List ℕ) (found : Result (List ℕ) Miss) → load pages WRITE range.address (length (take range.len bytes)) ≡ found → IsOk found → looked pages (range ∷ rest) bytes ≡ looked pages rest (drop range.len bytes)
looked-past pages range rest bytes (Ok x) is may = looked-step pages range rest bytes (Ok x) is
looked-past pages range rest bytes (Err miss) is may = absurd cc

pub looked-more : (pages : List PageView) (all : Result (List ℕ) Miss) (ranges : List Range) (i : ℕ) (d : Range) (bytes part rest : List ℕ) → i < length ranges → part ≡ take (get_or ranges i d).len bytes → rest ≡ drop (get_or ranges i d).len bytes → IsOk (load pages WRITE (get_or ranges i d).address (length part)) → all ≡ looked pages (drop i ranges) bytes → all ≡ looked pages (drop (i + 1) ranges) rest
looked-more pages all ranges i d bytes part rest within part_is rest_is may so_far =
    let range = get_or ranges i d in
    so_far ∙ ap (λ r. looked pages r bytes) (from-index ranges i d within)
    ∙ looked-past pages range (drop (i + 1) ranges) bytes (load pages WRITE range.address (length (take range.len bytes))) refl (subst (λ p. IsOk (load pages WRITE range.address (length p))) part_is may)
    ∙ ap (looked pages (drop (i + 1) ranges)) (sym rest_is)

pub looked-missed : (pages : List PageView) (ranges : List Range) (i : ℕ) (d : Range) (start bytes part : List ℕ) (miss : Miss) → i < length ranges → part ≡ take (get_or ranges i d).len bytes → load pages WRITE (get_or ranges i d).address (length part) ≡ Err miss → looked pages ranges start ≡ looked pages (drop i ranges) bytes → scattered_pages pages ranges start ≡ Err miss
looked-missed pages ranges i d start bytes part miss within part_is found so_far =
    let range = get_or ranges i d in
    let missed : looked pages ranges start ≡ Err miss =
    so_far ∙ ap (λ r. looked pages r bytes) (from-index ranges i d within)
    ∙ looked-step pages range (drop (i + 1) ranges) bytes (Err miss) (subst (λ p. load pages WRITE range.address (length p) ≡ Err miss) part_is found) in
    subst (λ r. LikePages r (scattered_pages pages ranges start)) missed (scattered-looked pages ranges start)

looked-none : (pages : List PageView) (bytes : List ℕ) → looked pages [] bytes ≡ Ok []
unfolding looked
looked-none pages bytes = refl

pub looked-end : (pages : List PageView) (ranges : List Range) (i : ℕ) (start bytes : List ℕ) → length ranges ≤ i → looked pages ranges start ≡ looked pages (drop i ranges) bytes → IsOk (scattered_pages pages ranges start)
looked-end pages ranges i start bytes end so_far =
    let may : looked pages ranges start ≡ Ok [] = so_far ∙ ap (λ r. looked pages r bytes) (drop_all i ranges end) ∙ looked-none pages bytes in
    subst (λ r. LikePages r (scattered_pages pages ranges start)) may (scattered-looked pages ranges start)

-- one range more is filled
scattered-step : (pages : List PageView) (range : Range) (rest : List Range) (bytes : List ℕ) (found : Result (List PageView) Miss) → pages_after_store pages range.address (take range.len bytes) ≡ found → scattered_pages pages (range ∷ rest) bytes ≡ on_pages found (λ next. scattered_pages next rest (drop range.len bytes))
unfolding scattered_pages
scattered-step pages range rest bytes found is = ap (λ r. on_pages r (λ next. scattered_pages next rest (drop range.len bytes))) is

pub scattered-more : (pages new : List PageView) (all : Result (List PageView) Miss) (ranges : List Range) (i : ℕ) (d : Range) (bytes part rest : List ℕ) → i < length ranges → part ≡ take (get_or ranges i d).len bytes → rest ≡ drop (get_or ranges i d).len bytes → pages_after_store pages (get_or ranges i d).address part ≡ Ok new → all ≡ scattered_pages pages (drop i ranges) bytes → all ≡ scattered_pages new (drop (i + 1) ranges) rest
scattered-more pages new all ranges i d bytes part rest within part_is rest_is found so_far =
    let range = get_or ranges i d in
    so_far ∙ ap (λ r. scattered_pages pages r bytes) (from-index ranges i d within)
    ∙ scattered-step pages range (drop (i + 1) ranges) bytes (Ok new) (subst (λ p. pages_after_store pages range.address p ≡ Ok new) part_is found)
    ∙ ap (scattered_pages new (drop (i + 1) ranges)) (sym rest_is)

pub scattered-missed : (pages : List PageView) (all : Result (List PageView) Miss) (ranges : List Range) (i : ℕ) (d : Range) (bytes part : List ℕ) (miss : Miss) → i < length ranges → part ≡ take (get_or ranges i d).len bytes → pages_after_store pages (get_or ranges i d).address part ≡ Err miss → all ≡ scattered_pages pages (drop i ranges) bytes → IsOk all → ⊥
scattered-missed pages all ranges i d bytes part miss within part_is found so_far may =
    let range = get_or ranges i d in
    let missed : all ≡ Err miss =
    so_far ∙ ap (λ r. scattered_pages pages r bytes) (from-index ranges i d within)
    ∙ scattered-step pages range (drop (i + 1) ranges) bytes (Err miss) (subst (λ p. pages_after_store pages range.address p ≡ Err miss) part_is found) in
    let clash : IsOk {T = List PageView} {E = Miss} (Err miss) = rw missed at may in absurd cc

scattered-none : (pages : List PageView) (bytes : List ℕ) → scattered_pages pages [] bytes ≡ Ok pages
unfolding scattered_pages
scattered-none pages bytes = refl

pub scattered-end : (pages : List PageView) (all : Result (List PageView) Miss) (ranges : List Range) (i : ℕ) (bytes : List ℕ) → length ranges ≤ i → all ≡ scattered_pages pages (drop i ranges) bytes → all ≡ Ok pages
scattered-end pages all ranges i bytes end so_far = so_far ∙ ap (λ r. scattered_pages pages r bytes) (drop_all i ranges end) ∙ scattered-none pages bytes

-- whether bytes may be put into ranges is a matter of how many they are
looked-alike : (pages : List PageView) (ranges : List Range) (a b : List ℕ) → length a ≡ length b → looked pages ranges a ≡ looked pages ranges b
unfolding looked
looked-alike pages [] a b same = refl
looked-alike pages (range ∷ ranges) a b same =
    let part : length (take range.len a) ≡ length (take range.len b) = length-take range.len a ∙ ap (min range.len) same ∙ sym (length-take range.len b) in
    let rest : length (drop range.len a) ≡ length (drop range.len b) = length-drop range.len a ∙ ap (λ n. n - range.len) same ∙ sym (length-drop range.len b) in
    (λ i. then_look (load pages WRITE range.address (part i)) (looked-alike pages ranges (drop range.len a) (drop range.len b) rest i))

by-looks : (found : Result (List ℕ) Miss) (a b : Result (List PageView) Miss) → LikePages found a → LikePages found b → IsOk a → IsOk b
by-looks (Ok x) a b like_a like_b may = like_b
by-looks (Err miss) (Ok pages) b like_a like_b may = absurd cc
by-looks (Err miss) (Err other) b like_a like_b may = absurd cc

pub may-alike : (pages : List PageView) (ranges : List Range) (a b : List ℕ) → length a ≡ length b → IsOk (scattered_pages pages ranges a) → IsOk (scattered_pages pages ranges b)
may-alike pages ranges a b same may =
    by-looks (looked pages ranges a) (scattered_pages pages ranges a) (scattered_pages pages ranges b) (scattered-looked pages ranges a)
    (subst (λ found. LikePages found (scattered_pages pages ranges b)) (sym (looked-alike pages ranges a b same)) (scattered-looked pages ranges b)) may

missed-looks : (found : Result (List ℕ) Miss) (a b : Result (List PageView) Miss) (miss : Miss) → LikePages found a → LikePages found b → a ≡ Err miss → b ≡ Err miss
missed-looks (Ok x) (Ok pages) b miss like_a like_b is = absurd cc
missed-looks (Ok x) (Err other) b miss like_a like_b is = absurd cc
missed-looks (Err other) a b miss like_a like_b is = like_b ∙ sym like_a ∙ is

pub missed-alike : (pages : List PageView) (ranges : List Range) (a b : List ℕ) (miss : Miss) → length a ≡ length b → scattered_pages pages ranges a ≡ Err miss → scattered_pages pages ranges b ≡ Err miss
missed-alike pages ranges a b miss same is =
    missed-looks (looked pages ranges a) (scattered_pages pages ranges a) (scattered_pages pages ranges b) miss (scattered-looked pages ranges a)
    (subst (λ found. LikePages found (scattered_pages pages ranges b)) (sym (looked-alike pages ranges a b same)) (scattered-looked pages ranges b)) is

-- whether all bytes of ranges may be written, or the first miss
unfoldable pub filled : List PageView → List Range → Result (List ℕ) Miss
filled pages [] = Ok []
filled pages (range ∷ ranges) = then_look (load pages WRITE range.address range.len) (filled pages ranges)

-- that is the same for as many bytes as ranges have
filled-looked : (pages : List PageView) (ranges : List Range) (bytes : List ℕ) → length bytes ≡ total_len ranges → looked pages ranges bytes ≡ filled pages ranges
unfolding looked filled
filled-looked pages [] bytes same = refl
filled-looked pages (range ∷ ranges) bytes same =
    let all = same ∙ sum_by-cons (λ range. range.len) range ranges in
    let part : length (take range.len bytes) ≡ range.len = length-take range.len bytes ∙ omega (arith, all) in
    let rest : length (drop range.len bytes) ≡ total_len ranges = length-drop range.len bytes ∙ omega (arith, all) in
    (λ i. then_look (load pages WRITE range.address (part i)) (filled-looked pages ranges (drop range.len bytes) rest i))

filled-past : (pages : List PageView) (range : Range) (rest : List Range) (found : Result (List ℕ) Miss) → load pages WRITE range.address range.len ≡ found → IsOk found → filled pages (range ∷ rest) ≡ filled pages rest
unfolding filled
filled-past pages range rest (Ok x) is may = ap (λ r. then_look r (filled pages rest)) is
filled-past pages range rest (Err miss) is may = absurd cc

filled-step : (pages : List PageView) (range : Range) (rest : List Range) (miss : Miss) → load pages WRITE range.address range.len ≡ Err miss → filled pages (range ∷ rest) ≡ Err miss
unfolding filled
filled-step pages range rest miss is = ap (λ r. then_look r (filled pages rest)) is

filled-none : (pages : List PageView) → filled pages [] ≡ Ok []
unfolding filled
filled-none pages = refl

pub filled-more : (pages : List PageView) (all : Result (List ℕ) Miss) (ranges : List Range) (i : ℕ) (d : Range) → i < length ranges → IsOk (load pages WRITE (get_or ranges i d).address (get_or ranges i d).len) → all ≡ filled pages (drop i ranges) → all ≡ filled pages (drop (i + 1) ranges)
filled-more pages all ranges i d within may so_far =
    let range = get_or ranges i d in
    so_far ∙ ap (filled pages) (from-index ranges i d within)
    ∙ filled-past pages range (drop (i + 1) ranges) (load pages WRITE range.address range.len) refl may

pub filled-missed : (pages : List PageView) (ranges : List Range) (i : ℕ) (d : Range) (miss : Miss) → i < length ranges → load pages WRITE (get_or ranges i d).address (get_or ranges i d).len ≡ Err miss → filled pages ranges ≡ filled pages (drop i ranges)
    → (bytes : List ℕ) → length bytes ≡ total_len ranges → scattered_pages pages ranges bytes ≡ Err miss
filled-missed pages ranges i d miss within found so_far bytes same =
    let missed : looked pages ranges bytes ≡ Err miss =
    filled-looked pages ranges bytes same ∙ so_far ∙ ap (filled pages) (from-index ranges i d within)
    ∙ filled-step pages (get_or ranges i d) (drop (i + 1) ranges) miss found in
    subst (λ r. LikePages r (scattered_pages pages ranges bytes)) missed (scattered-looked pages ranges bytes)

pub filled-end : (pages : List PageView) (ranges : List Range) (i : ℕ) → length ranges ≤ i → filled pages ranges ≡ filled pages (drop i ranges)
    → (bytes : List ℕ) → length bytes ≡ total_len ranges → IsOk (scattered_pages pages ranges bytes)
filled-end pages ranges i end so_far bytes same =
    let may : looked pages ranges bytes ≡ Ok [] =
    filled-looked pages ranges bytes same ∙ so_far ∙ ap (filled pages) (drop_all i ranges end) ∙ filled-none pages in
    subst (λ r. LikePages r (scattered_pages pages ranges bytes)) may (scattered-looked pages ranges bytes)
