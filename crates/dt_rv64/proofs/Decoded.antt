-- A memo of nothing yet has the instruction of each of its words.
use Rattle.std.proofs.Common.{◌≡◌, ℕ, zero, suc, get_or, replicate, refl, subst, sym}
use Rattle.dt_rv64.specs.declared.instruction.Instr.TheVariants.{Unknown}
use Rattle.dt_rv64.specs.declared.memo.Entry.{Entry}
use Rattle.dt_rv64.specs.Instruction.{instr}
use Rattle.dt_rv64.specs.inner.Memo.{AreDecoded}

replicate-same : {A : Type 0} → (n i : ℕ) (a : A) → get_or (replicate n a) i a ≡ a
replicate-same zero i a = refl
replicate-same (suc n) zero a = refl
replicate-same (suc n) (suc i) a = replicate-same n i a

zero-unknown : instr 0 ≡ Unknown
unfolding instr
zero-unknown = refl

pub new-decoded : (n : ℕ) → AreDecoded (replicate n (record { word = 0; instruction = Unknown }))
new-decoded n i = subst (λ (e : Entry). instr e.word ≡ e.instruction) (sym (replicate-same n i (record { word = 0; instruction = Unknown }))) zero-unknown
