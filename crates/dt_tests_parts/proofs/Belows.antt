-- What arrivals and turns make of virtual pids that were given.
use Rattle.std.proofs.Common.{ℕ, ◌≡◌, ◌+◌, ◌<◌, ◌≤◌, ◌&&◌, false, List, [], ◌∷◌, ◌++◌, map, length, length-append, IsTrue, refl, arith}
use Rattle.std.proofs.lemmas.Bool.Decides.{nat_tests}
use Rattle.std.proofs.lemmas.List.{length-map}
use Rattle.dt_sched.specs.declared.process.Process.{Process}
use Rattle.dt_sched.specs.declared.settled.Settled.{Settled}
use Rattle.dt_sched.specs.declared.settled.Settled.TheVariants.{Again, Child, LastChild, Waits, Moved, Gone, Stopped}
use Rattle.dt_sched.specs.Core.{is_queued, process_after_arrival, has_room, processes_after_turn, CoreView, core_after_turn, core_after_turn_of, core_after_arrival}
use Rattle.dt_tests_parts.specs.Below.{Below, all_below, gives, next_after}

pub holds-below : (next : ℕ) (xs : List Process) → IsTrue (all_below next xs) → is_queued next xs ≡ false
holds-below next [] below = refl
holds-below next (x ∷ xs) below = grind (arith, nat_tests, holds-below next xs)

pub below-arrived : (next vpid cost : ℕ) (xs : List Process)
    → all_below next (map (process_after_arrival vpid cost) xs) ≡ all_below next xs
below-arrived next vpid cost [] = refl
below-arrived next vpid cost (x ∷ xs) = grind (arith, nat_tests, below-arrived next vpid cost xs)

pub below-append : (next : ℕ) (xs ys : List Process)
    → all_below next (xs ++ ys) ≡ (all_below next xs && all_below next ys)
below-append next [] ys = refl
below-append next (x ∷ xs) ys = grind (arith, below-append next xs ys)

pub below-next : (next : ℕ) (xs : List Process) → IsTrue (all_below next xs) → IsTrue (all_below (next + 1) xs)
below-next next [] below = below
below-next next (x ∷ xs) below = grind (arith, nat_tests, below-next next xs)

-- a next virtual pid is new, and there is room
pub room-below : (next : ℕ) (xs : List Process) (turn : Settled) → Below next xs → IsTrue (gives next turn)
    → IsTrue (has_room xs turn)
room-below next xs Again below given = grind (arith, nat_tests, holds-below next xs below.all, below.fewer)
room-below next xs (Child child) below given = grind (arith, nat_tests, holds-below next xs below.all, below.fewer)
room-below next xs (LastChild child) below given = grind (arith, nat_tests, holds-below next xs below.all, below.fewer)
room-below next xs Waits below given = grind (arith, nat_tests, holds-below next xs below.all, below.fewer)
room-below next xs Moved below given = grind (arith, nat_tests, holds-below next xs below.all, below.fewer)
room-below next xs Gone below given = grind (arith, nat_tests, holds-below next xs below.all, below.fewer)
room-below next xs (Stopped number) below given = grind (arith, nat_tests, holds-below next xs below.all, below.fewer)

pub all-after : (next : ℕ) (p : Process) (rest : List Process) (turn : Settled)
    → IsTrue (all_below next (p ∷ rest)) → IsTrue (gives next turn)
    → IsTrue (all_below (next_after next turn) (processes_after_turn p rest turn))
all-after next p rest Again below given = grind (arith, nat_tests, below-append, below-next)
all-after next p rest (Child child) below given = grind (arith, nat_tests, below-append, below-next)
all-after next p rest (LastChild child) below given = grind (arith, nat_tests, below-append, below-next)
all-after next p rest Waits below given = grind (arith, nat_tests, below-append, below-next)
all-after next p rest Moved below given = grind (arith, nat_tests, below-append, below-next)
all-after next p rest Gone below given = grind (arith, nat_tests, below-append, below-next)
all-after next p rest (Stopped number) below given = grind (arith, nat_tests, below-append, below-next)

pub fewer-after : (next : ℕ) (p : Process) (rest : List Process) (turn : Settled) → length (p ∷ rest) < next
    → length (processes_after_turn p rest turn) < next_after next turn
fewer-after next p rest Again few = grind (arith, nat_tests, length-append {A = Process})
fewer-after next p rest (Child child) few = grind (arith, nat_tests, length-append {A = Process})
fewer-after next p rest (LastChild child) few = grind (arith, nat_tests, length-append {A = Process})
fewer-after next p rest Waits few = grind (arith, nat_tests, length-append {A = Process})
fewer-after next p rest Moved few = grind (arith, nat_tests, length-append {A = Process})
fewer-after next p rest Gone few = grind (arith, nat_tests, length-append {A = Process})
fewer-after next p rest (Stopped number) few = grind (arith, nat_tests, length-append {A = Process})

pub low-after : (next : ℕ) (turn : Settled) → next ≤ 1000 → IsTrue (gives next turn) → next_after next turn ≤ 1000
low-after next Again low given = grind (arith, nat_tests)
low-after next (Child child) low given = grind (arith, nat_tests)
low-after next (LastChild child) low given = grind (arith, nat_tests)
low-after next Waits low given = grind (arith, nat_tests)
low-after next Moved low given = grind (arith, nat_tests)
low-after next Gone low given = grind (arith, nat_tests)
low-after next (Stopped number) low given = grind (arith, nat_tests)

pub next-more : (next : ℕ) (turn : Settled) → next ≤ next_after next turn
next-more next Again = omega arith
next-more next (Child child) = omega arith
next-more next (LastChild child) = omega arith
next-more next Waits = omega arith
next-more next Moved = omega arith
next-more next Gone = omega arith
next-more next (Stopped number) = omega arith

pub below-at : (next : ℕ) (xs : List Process) (core : CoreView) (turn : Settled) → core.queue ≡ xs
    → Below next xs → IsTrue (gives next turn)
    → Below (next_after next turn) (core_after_turn_of core xs turn).queue
below-at next [] core turn same below given = rw same (record {
  all = below.all;
  fewer = omega (arith, next-more next turn, below.fewer);
  low = low-after next turn below.low given;
})
below-at next (x ∷ rest) core turn same below given = record {
  all = all-after next x rest turn below.all given;
  fewer = fewer-after next x rest turn below.fewer;
  low = low-after next turn below.low given;
}

pub below-settled : (next : ℕ) (core : CoreView) (turn : Settled) (new : CoreView) (then : ℕ)
    → Below next core.queue → IsTrue (gives next turn)
    → new ≡ core_after_turn core turn → then ≡ next_after next turn → Below then new.queue
below-settled next core turn new then below given same after =
    rw (same, after) (below-at next core.queue core turn refl below given)

pub below-came : (next vpid cost : ℕ) (core new : CoreView) → Below next core.queue
    → new ≡ core_after_arrival vpid cost core → Below next new.queue
below-came next vpid cost core new below same = rw same (record {
  all = rw (below-arrived next vpid cost core.queue) below.all;
  fewer = rw length-map below.fewer;
  low = below.low;
})
