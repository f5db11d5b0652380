-- What the first machine keeps.
use Rattle.std.proofs.Common.{◌≡◌, ℕ, zero, suc, ◌+◌, ◌<◌, ◌≤◌, ◌^◌, Bool, None, List, ◌++◌, length, get_or, replicate, sym, subst, ap, set, refl, ◌∙◌, length-append, arith, lit<}
use Rattle.dt_base.specs.declared.abi.TheConstants.{SP}
use Rattle.dt_rv64.specs.Valid.{IsMachine}
use Rattle.dt_rv64.proofs.Kept.{words-set}
use Rattle.dt_space.specs.Space.{PageView, IsSpace}
use Rattle.dt_space.specs.Pages.{pages_from, EndsBelow}
use Rattle.dt_space.proofs.Following.{length-pages_from, EndsBelow-more}

-- pages with others that follow end below a number, where they do and the others do
pub ends-more : (pages new : List PageView) (first rights count next : ℕ) (contents : List ℕ) → EndsBelow pages first → first + count ≤ next → new ≡ pages ++ pages_from first rights contents count → EndsBelow new next
ends-more pages new first rights count next contents below fits is =
    subst (λ (all : List PageView). EndsBelow all next) (sym is) (EndsBelow-more pages first rights contents count next below fits)

pub length-more : (pages new : List PageView) (first rights count : ℕ) (contents : List ℕ) → new ≡ pages ++ pages_from first rights contents count → length new ≡ length pages + count
length-more pages new first rights count contents is =
    let long = length-append pages (pages_from first rights contents count) in
    let more = length-pages_from first rights contents count in
    ap length is ∙ omega (arith, long, more)

zeros : (n i : ℕ) → get_or (replicate n 0) i 0 < 2 ^ 64
zeros zero i = lit< tt
zeros (suc n) zero = lit< tt
zeros (suc n) (suc i) = zeros n i

-- a machine that starts with a stack pointer is one
pub is_machine : (pointer entry : ℕ) (space : List PageView) (atomics : Bool) → pointer < 2 ^ 64 → entry < 2 ^ 64 → IsSpace space → IsMachine (record { regs = set (replicate 32 0) SP pointer; pc = entry; space = space; reserved = None; atomics = atomics })
is_machine pointer entry space atomics low fits sound = record {
  registers = refl;
  words = λ i. words-set (replicate 32 0) SP pointer i (zeros 32) low;
  zero = refl;
  counter = fits;
  space = sound;
  pair = tt;
}
