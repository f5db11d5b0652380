-- Pages of zeros above all others, and contents that begin with them.
use Rattle.std.proofs.Common.{◌≡◌, ℕ, zero, suc, ◌+◌, ◌-◌, ◌*◌, ◌<◌, ◌≤◌, ◌^◌, List, [], ◌∷◌, ◌++◌, length, take, drop, replicate, true, false, eqb, ltb, leb, ◌||◌, None, refl, sym, ap, ◌∙◌, append-nil, append_assoc, arith}
use Rattle.std.specs.List.{filter, list_any}
use Rattle.std.proofs.lemmas.Bool.Decides.{nat_tests}
use Rattle.std.proofs.lemmas.List.{take_all, drop_all, take_at, drop_at, length-replicate, replicate-append-replicate}
use Rattle.std.proofs.lemmas.List.Elements.{All-tail}
use Rattle.std.proofs.lemmas.List.Folds.{list_any_none}
use Rattle.dt_base.specs.declared.limits.TheConstants.{PAGE_SIZE, PAGE_LIMIT}
use Rattle.dt_space.specs.Space.{PageView, granted_rights}
use Rattle.dt_space.specs.Pages.{zero_padded, pages_from, EndsBelow}
use Rattle.dt_space.specs.Ranges.{is_in_range, map_refusal, pages_after_map}

filter-below : (pages : List PageView) (first : ℕ) → EndsBelow pages first → filter (λ (page : PageView). ltb page.number first) pages ≡ pages
filter-below [] first below = refl
filter-below (page ∷ pages) first below =
    let low : page.number < first = below 0 page (omega arith) in
    let test : ltb page.number first ≡ true = grind (arith, nat_tests) in
    rw test (ap (λ (rest : List PageView). page ∷ rest) (filter-below pages first (All-tail (λ (page : PageView). page.number < first) page pages below)))

filter-above : (pages : List PageView) (first next : ℕ) → EndsBelow pages first → first ≤ next → filter (λ (page : PageView). leb next page.number) pages ≡ []
filter-above [] first next below le = refl
filter-above (page ∷ pages) first next below le =
    let low : page.number < first = below 0 page (omega arith) in
    let test : leb next page.number ≡ false = grind (arith, nat_tests) in
    rw test (filter-above pages first next (All-tail (λ (page : PageView). page.number < first) page pages below) le)

-- mapped above all others, pages of zeros follow them
pub mapped-above : (pages : List PageView) (first count rights : ℕ) → EndsBelow pages first → pages_after_map pages first count rights ≡ pages ++ pages_from first (granted_rights rights) [] count
mapped-above pages first count rights below =
    rw (filter-below pages first below, filter-above pages first (first + count) below (omega arith)) (append-nil (pages ++ pages_from first (granted_rights rights) [] count))

-- nothing refuses them but want of memory
pub allowed_above : (pages : List PageView) (first count : ℕ) → EndsBelow pages first → 0 < count → first + count ≤ 2 ^ 26 → length pages + count ≤ PAGE_LIMIT → map_refusal pages first count ≡ None
allowed_above pages first count below some low few =
    let range : (eqb count 0 || ltb (2 ^ 26) (first + count)) ≡ false = grind (arith, nat_tests) in
    let free : list_any (λ (page : PageView). is_in_range first count page.number) pages ≡ false = list_any_none (λ (page : PageView). is_in_range first count page.number) pages (λ i d lt. let under = below i d lt in grind (arith, nat_tests)) in
    let room : ltb PAGE_LIMIT (length pages + count) ≡ false = grind (arith, nat_tests) in
    rw (range, free, room) refl

zeros-more : (size k : ℕ) (rest : List ℕ) → replicate (size * suc k) 0 ++ rest ≡ replicate size 0 ++ (replicate (size * k) 0 ++ rest)
zeros-more size k rest =
    let parts : size * suc k ≡ size + size * k = omega arith in
    rw (parts, ← replicate-append-replicate {A = ℕ} size (size * k) 0) (append_assoc (replicate size 0) (replicate (size * k) 0) rest)

-- a page of zeros is one without contents
zero-page : (zeros : List ℕ) → zeros ≡ replicate PAGE_SIZE 0 → zero_padded zeros ≡ zero_padded []
unfolding zero_padded
zero-page zeros is =
    let none : PAGE_SIZE - length zeros ≡ 0 = omega (arith, ap length is, length-replicate {A = ℕ} PAGE_SIZE 0) in
    rw (none, is) (append-nil (replicate PAGE_SIZE 0))

pages-cons : (number rights : ℕ) (contents : List ℕ) (count : ℕ) → pages_from number rights contents (suc count) ≡ record { number = number; rights = rights; bytes = zero_padded (take PAGE_SIZE contents) } ∷ pages_from (number + 1) rights (drop PAGE_SIZE contents) count
unfolding pages_from
pages-cons number rights contents count = refl

pages-none : (number rights : ℕ) (contents : List ℕ) → pages_from number rights contents 0 ≡ []
unfolding pages_from
pages-none number rights contents = refl

-- pages whose contents begin with whole pages of zeros are pages without contents, and those of the rest
pub zeros-apart : (number rights : ℕ) (contents : List ℕ) (k left : ℕ) → pages_from number rights (replicate (PAGE_SIZE * k) 0 ++ contents) (k + left) ≡ pages_from number rights [] k ++ pages_from (number + k) rights contents left
zeros-apart number rights contents zero left =
    let none : PAGE_SIZE * 0 ≡ 0 = omega arith in
    let here : number + 0 ≡ number = omega arith in
    let count : 0 + left ≡ left = omega arith in
    rw (none, here, count, pages-none number rights []) refl
zeros-apart number rights contents (suc k) left =
    let page : List ℕ = replicate PAGE_SIZE 0 in
    let rest : List ℕ = replicate (PAGE_SIZE * k) 0 ++ contents in
    let long : length page ≡ PAGE_SIZE = length-replicate {A = ℕ} PAGE_SIZE 0 in
    let count : suc k + left ≡ suc (k + left) = omega arith in
    let next : number + suc k ≡ number + 1 + k = omega arith in
    let empty : List ℕ = [] in
    let none : drop PAGE_SIZE empty ≡ empty = drop_all {X = ℕ} PAGE_SIZE empty (omega arith) in
    let whole : zero_padded (take PAGE_SIZE (page ++ rest)) ≡ zero_padded (take PAGE_SIZE empty) = ap zero_padded (take_at page rest PAGE_SIZE long) ∙ zero-page page refl ∙ ap zero_padded (sym (take_all PAGE_SIZE empty (omega arith))) in
    let after : pages_from (number + 1) rights (drop PAGE_SIZE (page ++ rest)) (k + left) ≡ pages_from (number + 1) rights (drop PAGE_SIZE empty) k ++ pages_from (number + 1 + k) rights contents left = rw (drop_at page rest PAGE_SIZE long, none) (zeros-apart (number + 1) rights contents k left) in
    rw (count, next, zeros-more PAGE_SIZE k contents, pages-cons number rights (page ++ rest) (k + left), pages-cons number rights [] k, whole, after) refl

-- and so pages that follow others
pub zeros-joined : (pages zeros whole : List PageView) (first rights k count : ℕ) (contents piece : List ℕ) → k ≤ count → zeros ≡ pages ++ pages_from first rights [] k → piece ≡ contents → whole ≡ zeros ++ pages_from (first + k) rights piece (count - k) → whole ≡ pages ++ pages_from first rights (replicate (PAGE_SIZE * k) 0 ++ contents) count
zeros-joined pages zeros whole first rights k count contents piece within zeros_are same is =
    let sum : count ≡ k + (count - k) = omega (arith, within) in
    let parts : pages_from first rights (replicate (PAGE_SIZE * k) 0 ++ contents) count ≡ pages_from first rights [] k ++ pages_from (first + k) rights contents (count - k) = ap (pages_from first rights (replicate (PAGE_SIZE * k) 0 ++ contents)) sum ∙ zeros-apart first rights contents k (count - k) in
    is ∙ rw (zeros_are, same, parts) (append_assoc pages (pages_from first rights [] k) (pages_from (first + k) rights contents (count - k)))
