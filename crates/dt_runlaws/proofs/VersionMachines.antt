-- A machine keeps whether it has atomics, and one without them keeps what it has reserved; an atomic is to it as a word
-- that is unknown.
use Rattle.std.proofs.Common.{◌≡◌, ℕ, zero, suc, ◌+◌, ◌%◌, Bool, true, false, cond, eqb, not, List, Option, None, Some, Result, Ok, Err, refl, sym, ap, ◌∙◌}
use Rattle.std.specs.Prelude.{◌==◌, int_lt, nat_lt, bit_and, bit_or, bit_xor}
use Rattle.dt_base.specs.Fields.{low_bytes}
use Rattle.dt_base.specs.declared.abi.TheConstants.{SIGBUS, SIGILL}
use Rattle.dt_base.specs.declared.limits.TheConstants.{SEGMENT_LIMIT}
use Rattle.dt_space.specs.declared.access.Miss.{Miss}
use Rattle.dt_space.specs.declared.access.TheConstants.{EXECUTE}
use Rattle.dt_space.specs.Space.{PageView, load, loaded_number}
use Rattle.dt_space.specs.Write.{pages_after_store}
use Rattle.dt_rv64.specs.declared.machine.Machine.{Machine}
use Rattle.dt_rv64.specs.declared.machine.Step.{Step}
use Rattle.dt_rv64.specs.declared.machine.Step.TheVariants.{Ran, Call, Counter, Fault}
use Rattle.dt_rv64.specs.declared.instruction.Instr.{Instr}
use Rattle.dt_rv64.specs.declared.instruction.Instr.TheVariants.{Lui, Auipc, Jal, Jalr, Beq, Bne, Blt, Bge, Bltu, Bgeu, Lb, Lh, Lw, Ld, Lbu, Lhu, Lwu, Sb, Sh, Sw, Sd, Addi, Slti, Sltiu, Xori, Ori, Andi, Slli, Srli, Srai, Add, Sub, Sll, Slt, Sltu, Xor, Srl, Sra, Or, And, Mul, Mulh, Mulhsu, Mulhu, Div, Divu, Rem, Remu, Addiw, Slliw, Srliw, Sraiw, Addw, Subw, Sllw, Srlw, Sraw, Mulw, Divw, Divuw, Remw, Remuw, LrW, ScW, AmoswapW, AmoaddW, AmoxorW, AmoandW, AmoorW, AmominW, AmomaxW, AmominuW, AmomaxuW, LrD, ScD, AmoswapD, AmoaddD, AmoxorD, AmoandD, AmoorD, AmominD, AmomaxD, AmominuD, AmomaxuD, Fence, Ecall, Ebreak, ReadCounter, Unknown}
use Rattle.dt_rv64.specs.Atomics.{with_reserved, is_reserved, atomic_fault, unless_fault, lr_by_read, sc_by_store, amo_by_store, amo_by_read, lr_result, sc_result, amo_result, swap, min_signed, max_signed, min_unsigned, max_unsigned}
use Rattle.dt_rv64.specs.AtomicWords.{lr_32_of, atomic_32_of, lr_64_of, atomic_64_of, atomic_of}
use Rattle.dt_rv64.specs.Effects.{StepResult, register, with_register, next_pc, pc_relative, read_at, register_result, jump_result, branch_result, load_result, store_result}
use Rattle.dt_rv64.specs.Formats.{opcode, funct3, funct5, rd, rs1, rs2}
use Rattle.dt_rv64.specs.Instruction.{instr}
use Rattle.dt_rv64.specs.Machine.{instr_result, fetch_result, exec}
use Rattle.dt_rv64.specs.Segment.{SegmentRun, segment_after_step, bounded_segment, segment_of}
use Rattle.dt_rv64.specs.Words.{signed_of, add}
use Rattle.dt_runlaws.specs.Version.{AMO, AtomicsAreUnknown, StepKeeps, StepsKeepAtomics}

same : (m : Machine) → StepKeeps m m
same m = record { atomics = refl; reserved = λ none. refl }

keeps-then : (a b c : Machine) → StepKeeps a b → StepKeeps b c → StepKeeps a c
keeps-then a b c first second = record {
  atomics = second.atomics ∙ first.atomics;
  reserved = λ none. second.reserved (first.atomics ∙ none) ∙ first.reserved none;
}

pub registered : (m : Machine) (rd value : ℕ) → StepKeeps m (with_register m rd value)
registered m rd value = by_zero (eqb rd 0) _ (record { atomics = refl; reserved = λ none. refl })
  where
    by_zero : (b : Bool) (n : Machine) → StepKeeps m n → StepKeeps m (cond b m n)
    by_zero true n keeps = same m
    by_zero false n keeps = keeps

wrote : (m : Machine) (rd value : ℕ) → (let next = register_result m rd value in StepKeeps m next.machine)
wrote m rd value = let keeps = registered m rd value in record { atomics = keeps.atomics; reserved = keeps.reserved }

jumped : (m : Machine) (rd target : ℕ) → (let next = jump_result m rd target in StepKeeps m next.machine)
jumped m rd target = by_even (eqb (target % 4) 0)
  where
    by_even : (b : Bool) → (let next : StepResult = cond b (record { step = Ran; machine = record (with_register m rd (next_pc m)) { pc = target } }) (record { step = Fault SIGBUS; machine = m }) in StepKeeps m next.machine)
    by_even true = let keeps = registered m rd (next_pc m) in record { atomics = keeps.atomics; reserved = keeps.reserved }
    by_even false = same m

branched : (m : Machine) (taken : Bool) (target : ℕ) → (let next = branch_result m taken target in StepKeeps m next.machine)
branched m true target = jumped m 0 target
branched m false target = record { atomics = refl; reserved = λ none. refl }

loaded : (m : Machine) (rd : ℕ) (read : Result ℕ Miss) → (let next = load_result m rd read in StepKeeps m next.machine)
loaded m rd (Ok value) = wrote m rd value
loaded m rd (Err miss) = same m

stored : (m : Machine) (pages : Result (List PageView) Miss) → (let next = store_result m pages in StepKeeps m next.machine)
stored m (Ok space) = record { atomics = refl; reserved = λ none. refl }
stored m (Err miss) = same m

-- atomics, which without them all are faults
unless-keeps : (m : Machine) (size at : ℕ) (next : StepResult) → next.machine.atomics ≡ m.atomics → (let after = unless_fault m (atomic_fault m size at) next in StepKeeps m after.machine)
unless-keeps m size at next has = by_atomics m.atomics (cond (eqb (at % size) 0) None (Some SIGBUS)) refl
  where
    by_atomics : (b : Bool) (fault : Option ℕ) → m.atomics ≡ b → (let after = unless_fault m (cond (not b) (Some SIGILL) fault) next in StepKeeps m after.machine)
    by_atomics false fault is = same m
    by_atomics true (Some signal) is = same m
    by_atomics true None is = record { atomics = has; reserved = λ none. absurd (let no = sym is ∙ none in cc) }

linked : (m : Machine) (size rd rs1 : ℕ) → (let next = lr_result m size rd rs1 in StepKeeps m next.machine)
unfolding lr_result
linked m size rd rs1 = unless-keeps m size at _ (by_read (read_at m at size))
  where
    at : ℕ
    at = register m rs1

    by_read : (read : Result ℕ Miss) → (let next = lr_by_read m size rd at read in next.machine.atomics) ≡ m.atomics
    by_read (Ok value) = let keeps = wrote (with_reserved (Some (at, size)) m) rd _ in keeps.atomics
    by_read (Err miss) = refl

conditional : (m : Machine) (size rd rs1 rs2 : ℕ) → (let next = sc_result m size rd rs1 rs2 in StepKeeps m next.machine)
unfolding sc_result
conditional m size rd rs1 rs2 = unless-keeps m size at _ (by_store (pages_after_store m.space at (low_bytes size (register m rs2))))
  where
    at : ℕ
    at = register m rs1

    by_pair : (b : Bool) (space : List PageView) → (let next = cond b (register_result (with_reserved None (record m { space = space })) rd 0) (register_result (with_reserved None m) rd 1) in next.machine.atomics) ≡ m.atomics
    by_pair true space = let keeps = wrote (with_reserved None (record m { space = space })) rd 0 in keeps.atomics
    by_pair false space = let keeps = wrote (with_reserved None m) rd 1 in keeps.atomics

    by_store : (pages : Result (List PageView) Miss) → (let next = sc_by_store m size rd at pages in next.machine.atomics) ≡ m.atomics
    by_store (Ok space) = by_pair (is_reserved m.reserved at size) space
    by_store (Err miss) = refl

updated : (m : Machine) (size rd rs1 rs2 : ℕ) (operation : ℕ → ℕ → ℕ) → (let next = amo_result m size rd rs1 rs2 operation in StepKeeps m next.machine)
unfolding amo_result
updated m size rd rs1 rs2 operation = unless-keeps m size at _ (by_read (read_at m at size))
  where
    at : ℕ
    at = register m rs1

    by_store : (old : ℕ) (pages : Result (List PageView) Miss) → (let next = amo_by_store m size rd old pages in next.machine.atomics) ≡ m.atomics
    by_store old (Ok space) = let keeps = wrote (record m { space = space }) rd _ in keeps.atomics
    by_store old (Err miss) = refl

    by_read : (read : Result ℕ Miss) → (let next = amo_by_read m size rd at (λ old. operation old (register m rs2)) read in next.machine.atomics) ≡ m.atomics
    by_read (Ok old) = by_store old (pages_after_store m.space at (low_bytes size (operation old (register m rs2))))
    by_read (Err miss) = refl

executed : (m : Machine) (i : Instr) → (let next = instr_result m i in StepKeeps m next.machine)
unfolding instr_result
executed m (Lui rd immediate) = wrote m rd _
executed m (Auipc rd immediate) = wrote m rd _
executed m (Jal rd immediate) = jumped m rd _
executed m (Jalr rd rs1 immediate) = jumped m rd _
executed m (Beq rs1 rs2 immediate) = branched m (eqb (register m rs1) (register m rs2)) (pc_relative m immediate)
executed m (Bne rs1 rs2 immediate) = branched m (not (eqb (register m rs1) (register m rs2))) (pc_relative m immediate)
executed m (Blt rs1 rs2 immediate) = branched m (int_lt (signed_of (register m rs1)) (signed_of (register m rs2))) (pc_relative m immediate)
executed m (Bge rs1 rs2 immediate) = branched m (not (int_lt (signed_of (register m rs1)) (signed_of (register m rs2)))) (pc_relative m immediate)
executed m (Bltu rs1 rs2 immediate) = branched m (nat_lt (register m rs1) (register m rs2)) (pc_relative m immediate)
executed m (Bgeu rs1 rs2 immediate) = branched m (not (nat_lt (register m rs1) (register m rs2))) (pc_relative m immediate)
executed m (Lb rd rs1 immediate) = loaded m rd _
executed m (Lh rd rs1 immediate) = loaded m rd _
executed m (Lw rd rs1 immediate) = loaded m rd _
executed m (Ld rd rs1 immediate) = loaded m rd _
executed m (Lbu rd rs1 immediate) = loaded m rd _
executed m (Lhu rd rs1 immediate) = loaded m rd _
executed m (Lwu rd rs1 immediate) = loaded m rd _
executed m (Sb rs1 rs2 immediate) = stored m _
executed m (Sh rs1 rs2 immediate) = stored m _
executed m (Sw rs1 rs2 immediate) = stored m _
executed m (Sd rs1 rs2 immediate) = stored m _
executed m (Addi rd rs1 immediate) = wrote m rd _
executed m (Slti rd rs1 immediate) = wrote m rd _
executed m (Sltiu rd rs1 immediate) = wrote m rd _
executed m (Xori rd rs1 immediate) = wrote m rd _
executed m (Ori rd rs1 immediate) = wrote m rd _
executed m (Andi rd rs1 immediate) = wrote m rd _
executed m (Slli rd rs1 shift) = wrote m rd _
executed m (Srli rd rs1 shift) = wrote m rd _
executed m (Srai rd rs1 shift) = wrote m rd _
executed m (Add rd rs1 rs2) = wrote m rd _
executed m (Sub rd rs1 rs2) = wrote m rd _
executed m (Sll rd rs1 rs2) = wrote m rd _
executed m (Slt rd rs1 rs2) = wrote m rd _
executed m (Sltu rd rs1 rs2) = wrote m rd _
executed m (Xor rd rs1 rs2) = wrote m rd _
executed m (Srl rd rs1 rs2) = wrote m rd _
executed m (Sra rd rs1 rs2) = wrote m rd _
executed m (Or rd rs1 rs2) = wrote m rd _
executed m (And rd rs1 rs2) = wrote m rd _
executed m (Mul rd rs1 rs2) = wrote m rd _
executed m (Mulh rd rs1 rs2) = wrote m rd _
executed m (Mulhsu rd rs1 rs2) = wrote m rd _
executed m (Mulhu rd rs1 rs2) = wrote m rd _
executed m (Div rd rs1 rs2) = wrote m rd _
executed m (Divu rd rs1 rs2) = wrote m rd _
executed m (Rem rd rs1 rs2) = wrote m rd _
executed m (Remu rd rs1 rs2) = wrote m rd _
executed m (Addiw rd rs1 immediate) = wrote m rd _
executed m (Slliw rd rs1 shift) = wrote m rd _
executed m (Srliw rd rs1 shift) = wrote m rd _
executed m (Sraiw rd rs1 shift) = wrote m rd _
executed m (Addw rd rs1 rs2) = wrote m rd _
executed m (Subw rd rs1 rs2) = wrote m rd _
executed m (Sllw rd rs1 rs2) = wrote m rd _
executed m (Srlw rd rs1 rs2) = wrote m rd _
executed m (Sraw rd rs1 rs2) = wrote m rd _
executed m (Mulw rd rs1 rs2) = wrote m rd _
executed m (Divw rd rs1 rs2) = wrote m rd _
executed m (Divuw rd rs1 rs2) = wrote m rd _
executed m (Remw rd rs1 rs2) = wrote m rd _
executed m (Remuw rd rs1 rs2) = wrote m rd _
executed m (LrW rd rs1) = linked m 4 rd rs1
executed m (ScW rd rs1 rs2) = conditional m 4 rd rs1 rs2
executed m (AmoswapW rd rs1 rs2) = updated m 4 rd rs1 rs2 _
executed m (AmoaddW rd rs1 rs2) = updated m 4 rd rs1 rs2 _
executed m (AmoxorW rd rs1 rs2) = updated m 4 rd rs1 rs2 _
executed m (AmoandW rd rs1 rs2) = updated m 4 rd rs1 rs2 _
executed m (AmoorW rd rs1 rs2) = updated m 4 rd rs1 rs2 _
executed m (AmominW rd rs1 rs2) = updated m 4 rd rs1 rs2 _
executed m (AmomaxW rd rs1 rs2) = updated m 4 rd rs1 rs2 _
executed m (AmominuW rd rs1 rs2) = updated m 4 rd rs1 rs2 _
executed m (AmomaxuW rd rs1 rs2) = updated m 4 rd rs1 rs2 _
executed m (LrD rd rs1) = linked m 8 rd rs1
executed m (ScD rd rs1 rs2) = conditional m 8 rd rs1 rs2
executed m (AmoswapD rd rs1 rs2) = updated m 8 rd rs1 rs2 _
executed m (AmoaddD rd rs1 rs2) = updated m 8 rd rs1 rs2 _
executed m (AmoxorD rd rs1 rs2) = updated m 8 rd rs1 rs2 _
executed m (AmoandD rd rs1 rs2) = updated m 8 rd rs1 rs2 _
executed m (AmoorD rd rs1 rs2) = updated m 8 rd rs1 rs2 _
executed m (AmominD rd rs1 rs2) = updated m 8 rd rs1 rs2 _
executed m (AmomaxD rd rs1 rs2) = updated m 8 rd rs1 rs2 _
executed m (AmominuD rd rs1 rs2) = updated m 8 rd rs1 rs2 _
executed m (AmomaxuD rd rs1 rs2) = updated m 8 rd rs1 rs2 _
executed m Fence = record { atomics = refl; reserved = λ none. refl }
executed m Ecall = same m
executed m Ebreak = same m
executed m (ReadCounter rd counter) = same m
executed m Unknown = same m

fetched : (m : Machine) (found : Result ℕ Miss) → (let next = fetch_result m found in StepKeeps m next.machine)
fetched m (Ok word) = executed m (instr word)
fetched m (Err miss) = same m

-- a step
pub stepped : (m : Machine) → (let next = exec m in StepKeeps m next.machine)
unfolding exec
stepped m = by_even (eqb (m.pc % 4) 0)
  where
    by_even : (b : Bool) → (let next = cond b (fetch_result m (loaded_number (load m.space EXECUTE m.pc 4))) (record { step = Fault SIGBUS; machine = m }) in StepKeeps m next.machine)
    by_even true = fetched m (loaded_number (load m.space EXECUTE m.pc 4))
    by_even false = same m

-- a segment
goes_on : (step : Step) (m : Machine) (made : ℕ) (rest : Machine → SegmentRun) → ((n : Machine) → (let run = rest n in StepKeeps n run.machine)) → (let run = segment_after_step step m made rest in StepKeeps m run.machine)
goes_on Ran m made rest keeps = keeps m
goes_on Call m made rest keeps = same m
goes_on (Counter rd) m made rest keeps = same m
goes_on (Fault signal) m made rest keeps = same m

bounded : (left made : ℕ) (m : Machine) → (let run = bounded_segment left made m in StepKeeps m run.machine)
unfolding bounded_segment
bounded zero made m = same m
bounded (suc left) made m =
    let next = exec m in
    keeps-then m next.machine _ (stepped m)
    (goes_on next.step next.machine (made + 1) (bounded_segment left (made + 1)) (λ n. bounded left (made + 1) n))

pub segment-keeps : (m : Machine) → (let run = segment_of m in StepKeeps m run.machine)
unfolding segment_of
segment-keeps m = bounded SEGMENT_LIMIT 0 m

pub steps-keep-atomics : StepsKeepAtomics
steps-keep-atomics m = stepped m

-- an instruction of which a machine knows nothing
module _ (m : Machine) (none : m.atomics ≡ false) where
  Faults : StepResult → Type 0
  Faults next = next ≡ record { step = Fault SIGILL; machine = m }

  record IsUnknown (i : Instr) : Type 0 where
    faults : Faults (instr_result m i)

  either : (b : Bool) (x y : Instr) → IsUnknown x → IsUnknown y → IsUnknown (cond b x y)
  either true x y first second = first
  either false x y first second = second

  fault-first : (size at : ℕ) (next : StepResult) → Faults (unless_fault m (atomic_fault m size at) next)
  unfolding Faults
  fault-first size at next = by_atomics m.atomics (cond (eqb (at % size) 0) None (Some SIGBUS)) none
    where
      by_atomics : (b : Bool) (fault : Option ℕ) → b ≡ false → Faults (unless_fault m (cond (not b) (Some SIGILL) fault) next)
      by_atomics false fault is = refl
      by_atomics true fault is = absurd (cc)

  lr-faults : (size rd rs1 : ℕ) → Faults (lr_result m size rd rs1)
  unfolding lr_result
  lr-faults size rd rs1 = fault-first size (register m rs1) _

  sc-faults : (size rd rs1 rs2 : ℕ) → Faults (sc_result m size rd rs1 rs2)
  unfolding sc_result
  sc-faults size rd rs1 rs2 = fault-first size (register m rs1) _

  amo-faults : (size rd rs1 rs2 : ℕ) (operation : ℕ → ℕ → ℕ) → Faults (amo_result m size rd rs1 rs2 operation)
  unfolding amo_result
  amo-faults size rd rs1 rs2 operation = fault-first size (register m rs1) _

  unknown : IsUnknown Unknown
  unfolding instr_result Faults
  unknown = record { faults = refl }

  lr-word : (word : ℕ) → IsUnknown (lr_32_of word)
  unfolding instr_result
  lr-word word = either (rs2 word == 0) _ _ (record { faults = lr-faults 4 (rd word) (rs1 word) }) unknown

  lr-double : (word : ℕ) → IsUnknown (lr_64_of word)
  unfolding instr_result
  lr-double word = either (rs2 word == 0) _ _ (record { faults = lr-faults 8 (rd word) (rs1 word) }) unknown

  words-unknown : (word : ℕ) → IsUnknown (atomic_32_of word)
  unfolding instr_result
  words-unknown word =
      either (funct5 word == 0x02) _ _ (lr-word word)
      (either (funct5 word == 0x03) _ _ (record { faults = sc-faults 4 (rd word) (rs1 word) (rs2 word) })
      (either (funct5 word == 0x01) _ _ (record { faults = amo-faults 4 (rd word) (rs1 word) (rs2 word) swap })
      (either (funct5 word == 0x00) _ _ (record { faults = amo-faults 4 (rd word) (rs1 word) (rs2 word) add })
      (either (funct5 word == 0x04) _ _ (record { faults = amo-faults 4 (rd word) (rs1 word) (rs2 word) bit_xor })
      (either (funct5 word == 0x0C) _ _ (record { faults = amo-faults 4 (rd word) (rs1 word) (rs2 word) bit_and })
      (either (funct5 word == 0x08) _ _ (record { faults = amo-faults 4 (rd word) (rs1 word) (rs2 word) bit_or })
      (either (funct5 word == 0x10) _ _ (record { faults = amo-faults 4 (rd word) (rs1 word) (rs2 word) (min_signed 32) })
      (either (funct5 word == 0x14) _ _ (record { faults = amo-faults 4 (rd word) (rs1 word) (rs2 word) (max_signed 32) })
      (either (funct5 word == 0x18) _ _ (record { faults = amo-faults 4 (rd word) (rs1 word) (rs2 word) (min_unsigned 32) })
      (either (funct5 word == 0x1C) _ _ (record { faults = amo-faults 4 (rd word) (rs1 word) (rs2 word) (max_unsigned 32) }) unknown))))))))))

  doubles-unknown : (word : ℕ) → IsUnknown (atomic_64_of word)
  unfolding instr_result
  doubles-unknown word =
      either (funct5 word == 0x02) _ _ (lr-double word)
      (either (funct5 word == 0x03) _ _ (record { faults = sc-faults 8 (rd word) (rs1 word) (rs2 word) })
      (either (funct5 word == 0x01) _ _ (record { faults = amo-faults 8 (rd word) (rs1 word) (rs2 word) swap })
      (either (funct5 word == 0x00) _ _ (record { faults = amo-faults 8 (rd word) (rs1 word) (rs2 word) add })
      (either (funct5 word == 0x04) _ _ (record { faults = amo-faults 8 (rd word) (rs1 word) (rs2 word) bit_xor })
      (either (funct5 word == 0x0C) _ _ (record { faults = amo-faults 8 (rd word) (rs1 word) (rs2 word) bit_and })
      (either (funct5 word == 0x08) _ _ (record { faults = amo-faults 8 (rd word) (rs1 word) (rs2 word) bit_or })
      (either (funct5 word == 0x10) _ _ (record { faults = amo-faults 8 (rd word) (rs1 word) (rs2 word) (min_signed 64) })
      (either (funct5 word == 0x14) _ _ (record { faults = amo-faults 8 (rd word) (rs1 word) (rs2 word) (max_signed 64) })
      (either (funct5 word == 0x18) _ _ (record { faults = amo-faults 8 (rd word) (rs1 word) (rs2 word) (min_unsigned 64) })
      (either (funct5 word == 0x1C) _ _ (record { faults = amo-faults 8 (rd word) (rs1 word) (rs2 word) (max_unsigned 64) }) unknown))))))))))

  atomics-unknown : (word : ℕ) → IsUnknown (atomic_of word)
  atomics-unknown word = either (funct3 word == 2) _ _ (words-unknown word) (either (funct3 word == 3) _ _ (doubles-unknown word) unknown)

-- the word of an atomic is decoded as one
atomic-decoded : (word : ℕ) → opcode word ≡ AMO → instr word ≡ atomic_of word
unfolding instr
atomic-decoded word is = rw is refl

pub atomics-are-unknown : AtomicsAreUnknown
unfolding Faults
atomics-are-unknown m word none is =
    let unknown = atomics-unknown m none word in ap (instr_result m) (atomic-decoded word is) ∙ unknown.faults
