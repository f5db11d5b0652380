-- The number kept for register 0 changes nothing but itself: the register reads as 0, and no instruction writes it.
use Rattle.std.proofs.Common.{◌≡◌, ℕ, zero, suc, ◌+◌, ◌%◌, ◌^◌, ◌<◌, inl, inr, Bool, List, true, false, cond, eqb, [], ◌∷◌, get_or, set, Option, None, Some, Result, Ok, Err, refl, sym, ◌∙◌, ap, arith}
use Rattle.std.specs.Prelude.{not, ◌==◌, nat_lt, int_lt, OnErr}
use Rattle.std.proofs.lemmas.List.{set-set, set_comm, set-get_or, get_or-set_other}
use Rattle.std.proofs.lemmas.Bool.{cases_eq}
use Rattle.std.proofs.lemmas.Bool.Decides.{nat_tests}
use Rattle.dt_base.specs.declared.limits.TheConstants.{SEGMENT_LIMIT}
use Rattle.dt_base.specs.declared.abi.TheConstants.{SIGBUS}
use Rattle.dt_base.specs.declared.memory.NoMemory.{NoMemory}
use Rattle.dt_space.specs.declared.access.TheConstants.{EXECUTE}
use Rattle.dt_space.specs.declared.access.Miss.{Miss}
use Rattle.dt_space.specs.Space.{PageView, load, loaded_number}
use Rattle.dt_rv64.specs.declared.machine.Machine.{Machine}
use Rattle.dt_rv64.specs.declared.machine.Step.{Step}
use Rattle.dt_rv64.specs.declared.machine.Step.TheVariants.{Ran, Call, Counter, Fault}
use Rattle.dt_rv64.specs.declared.segments.Seg.{Seg}
use Rattle.dt_rv64.specs.declared.segments.Stop.{Stop}
use Rattle.dt_rv64.specs.declared.instruction.Instr.{Instr}
use Rattle.dt_rv64.specs.declared.instruction.Instr.TheVariants.{Lui, Auipc, Jal, Jalr, Beq, Bne, Blt, Bge, Bltu, Bgeu, Lb, Lh, Lw, Ld, Lbu, Lhu, Lwu, Sb, Sh, Sw, Sd, Addi, Slti, Sltiu, Xori, Ori, Andi, Slli, Srli, Srai, Add, Sub, Sll, Slt, Sltu, Xor, Srl, Sra, Or, And, Mul, Mulh, Mulhsu, Mulhu, Div, Divu, Rem, Remu, Addiw, Slliw, Srliw, Sraiw, Addw, Subw, Sllw, Srlw, Sraw, Mulw, Divw, Divuw, Remw, Remuw, LrW, ScW, AmoswapW, AmoaddW, AmoxorW, AmoandW, AmoorW, AmominW, AmomaxW, AmominuW, AmomaxuW, LrD, ScD, AmoswapD, AmoaddD, AmoxorD, AmoandD, AmoorD, AmominD, AmomaxD, AmominuD, AmomaxuD, Fence, Ecall, Ebreak, ReadCounter, Unknown}
use Rattle.dt_rv64.specs.Instruction.{instr}
use Rattle.dt_rv64.specs.Words.{signed_of}
use Rattle.dt_rv64.specs.Effects.{StepResult, pc_relative, register, with_register, next_pc, with_next_pc, register_result, jump_result, branch_result, load_result, store_result}
use Rattle.dt_rv64.specs.Atomics.{with_reserved, is_reserved, unless_fault, lr_by_read, sc_by_store, amo_by_store, amo_by_read, lr_result, sc_result, amo_result}
use Rattle.dt_rv64.specs.Machine.{instr_result, fetch_result, exec}
use Rattle.dt_rv64.specs.Segment.{SegmentRun, segment_after_step, bounded_segment, segment_of, after_steps, step_after, IsCutShort}
use Rattle.dt_rv64.specs.inner.Registers.{HasZero, with_register_zero}

register-first : (v : ℕ) (m : Machine) (index : ℕ) → register (with_register_zero v m) index ≡ register m index
register-first v m index = elim (cases_eq index 0) [
  | inl none ↦ rw none refl
  | inr other ↦ ap (cond (eqb index 0) 0) (get_or-set_other m.regs 0 index v 0 other)
]

with_register-at : (m : Machine) (index value : ℕ) → (index ≡ 0 → ⊥) → with_register m index value ≡ record m { regs = set m.regs index (value % 2 ^ 64) }
with_register-at m index value other = let test : eqb index 0 ≡ false = grind (arith, nat_tests) in rw test refl

with_register-first : (v : ℕ) (m : Machine) (index value : ℕ) → with_register (with_register_zero v m) index value ≡ with_register_zero v (with_register m index value)
with_register-first v m index value = elim (cases_eq index 0) [
  | inl none ↦ rw none refl
  | inr other ↦
      with_register-at (with_register_zero v m) index value other
      ∙ ap (λ regs. record m { regs = regs }) (set_comm m.regs 0 index v (value % 2 ^ 64) (λ same. other (sym same)))
      ∙ ap (with_register_zero v) (sym (with_register-at m index value other))
]

-- a step of the machine that has it
result_first : ℕ → StepResult → StepResult
result_first v next = record { step = next.step; machine = with_register_zero v next.machine }

wrote-first : (v : ℕ) (m : Machine) (rd value : ℕ) → register_result (with_register_zero v m) rd value ≡ result_first v (register_result m rd value)
unfolding result_first
wrote-first v m rd value = ap (λ (n : Machine). record { step = Ran; machine = with_next_pc n }) (with_register-first v m rd value)

jumped-first : (v : ℕ) (m : Machine) (rd target : ℕ) → jump_result (with_register_zero v m) rd target ≡ result_first v (jump_result m rd target)
unfolding result_first
jumped-first v m rd target = by-test (eqb (target % 4) 0)
  where
    by-test : (b : Bool) → cond b (record { step = Ran; machine = record (with_register (with_register_zero v m) rd (next_pc m)) { pc = target } }) (record { step = Fault SIGBUS; machine = with_register_zero v m }) ≡ result_first v (cond b (record { step = Ran; machine = record (with_register m rd (next_pc m)) { pc = target } }) (record { step = Fault SIGBUS; machine = m }))
    by-test true = ap (λ (n : Machine). record { step = Ran; machine = record n { pc = target } }) (with_register-first v m rd (next_pc m))
    by-test false = refl

branched-first : (v : ℕ) (m : Machine) (taken : Bool) (target : ℕ) → branch_result (with_register_zero v m) taken target ≡ result_first v (branch_result m taken target)
unfolding result_first
branched-first v m true target = jumped-first v m 0 target
branched-first v m false target = refl

loaded-first : (v : ℕ) (m : Machine) (rd : ℕ) (read : Result ℕ Miss) → load_result (with_register_zero v m) rd read ≡ result_first v (load_result m rd read)
unfolding result_first
loaded-first v m rd (Ok value) = wrote-first v m rd value
loaded-first v m rd (Err miss) = refl

stored-first : (v : ℕ) (m : Machine) (pages : Result (List PageView) Miss) → store_result (with_register_zero v m) pages ≡ result_first v (store_result m pages)
unfolding result_first
stored-first v m (Ok pages) = refl
stored-first v m (Err miss) = refl

unless-first : (v : ℕ) (m : Machine) (fault : Option ℕ) (next next' : StepResult) → next' ≡ result_first v next → unless_fault (with_register_zero v m) fault next' ≡ result_first v (unless_fault m fault next)
unfolding result_first
unless-first v m None next next' is = is
unless-first v m (Some signal) next next' is = refl

lr_by_read-first : (v : ℕ) (m : Machine) (size rd at : ℕ) (read : Result ℕ Miss) → lr_by_read (with_register_zero v m) size rd at read ≡ result_first v (lr_by_read m size rd at read)
unfolding result_first
lr_by_read-first v m size rd at (Ok value) = wrote-first v (with_reserved (Some (at, size)) m) rd _
lr_by_read-first v m size rd at (Err miss) = refl

sc_by_store-first : (v : ℕ) (m : Machine) (size rd at : ℕ) (pages : Result (List PageView) Miss) → sc_by_store (with_register_zero v m) size rd at pages ≡ result_first v (sc_by_store m size rd at pages)
unfolding result_first
sc_by_store-first v m size rd at (Ok space) = by-test (is_reserved m.reserved at size)
  where
    by-test : (b : Bool) → cond b (register_result (with_reserved None (record (with_register_zero v m) { space = space })) rd 0) (register_result (with_reserved None (with_register_zero v m)) rd 1) ≡ result_first v (cond b (register_result (with_reserved None (record m { space = space })) rd 0) (register_result (with_reserved None m) rd 1))
    by-test true = wrote-first v (with_reserved None (record m { space = space })) rd 0
    by-test false = wrote-first v (with_reserved None m) rd 1
sc_by_store-first v m size rd at (Err miss) = refl

amo_by_store-first : (v : ℕ) (m : Machine) (size rd old : ℕ) (pages : Result (List PageView) Miss) → amo_by_store (with_register_zero v m) size rd old pages ≡ result_first v (amo_by_store m size rd old pages)
unfolding result_first
amo_by_store-first v m size rd old (Ok space) = wrote-first v (record m { space = space }) rd _
amo_by_store-first v m size rd old (Err miss) = refl

amo_by_read-first : (v : ℕ) (m : Machine) (size rd at : ℕ) (operation : ℕ → ℕ) (read : Result ℕ Miss) → amo_by_read (with_register_zero v m) size rd at operation read ≡ result_first v (amo_by_read m size rd at operation read)
unfolding result_first
amo_by_read-first v m size rd at operation (Ok old) = amo_by_store-first v m size rd old _
amo_by_read-first v m size rd at operation (Err miss) = refl

lr-first : (v : ℕ) (m : Machine) (size rd rs1 : ℕ) → lr_result (with_register_zero v m) size rd rs1 ≡ result_first v (lr_result m size rd rs1)
unfolding lr_result result_first
lr-first v m size rd rs1 = rw (register-first v m rs1) (unless-first v m _ _ _ (lr_by_read-first v m size rd (register m rs1) _))

sc-first : (v : ℕ) (m : Machine) (size rd rs1 rs2 : ℕ) → sc_result (with_register_zero v m) size rd rs1 rs2 ≡ result_first v (sc_result m size rd rs1 rs2)
unfolding sc_result result_first
sc-first v m size rd rs1 rs2 = rw (register-first v m rs1, register-first v m rs2) (unless-first v m _ _ _ (sc_by_store-first v m size rd (register m rs1) _))

amo-first : (v : ℕ) (m : Machine) (size rd rs1 rs2 : ℕ) (operation : ℕ → ℕ → ℕ) → amo_result (with_register_zero v m) size rd rs1 rs2 operation ≡ result_first v (amo_result m size rd rs1 rs2 operation)
unfolding amo_result result_first
amo-first v m size rd rs1 rs2 operation = rw (register-first v m rs1, register-first v m rs2) (unless-first v m _ _ _ (amo_by_read-first v m size rd (register m rs1) _ _))

instr-first : (v : ℕ) (m : Machine) (i : Instr) → instr_result (with_register_zero v m) i ≡ result_first v (instr_result m i)
unfolding instr_result result_first
instr-first v m (Lui rd immediate) = wrote-first v m rd _
instr-first v m (Auipc rd immediate) = wrote-first v m rd _
instr-first v m (Jal rd immediate) = jumped-first v m rd _
instr-first v m (Jalr rd rs1 immediate) = rw (register-first v m rs1) (jumped-first v m rd _)
instr-first v m (Beq rs1 rs2 immediate) = rw (register-first v m rs1, register-first v m rs2) (branched-first v m (register m rs1 == register m rs2) (pc_relative m immediate))
instr-first v m (Bne rs1 rs2 immediate) = rw (register-first v m rs1, register-first v m rs2) (branched-first v m (not (register m rs1 == register m rs2)) (pc_relative m immediate))
instr-first v m (Blt rs1 rs2 immediate) = rw (register-first v m rs1, register-first v m rs2) (branched-first v m (int_lt (signed_of (register m rs1)) (signed_of (register m rs2))) (pc_relative m immediate))
instr-first v m (Bge rs1 rs2 immediate) = rw (register-first v m rs1, register-first v m rs2) (branched-first v m (not (int_lt (signed_of (register m rs1)) (signed_of (register m rs2)))) (pc_relative m immediate))
instr-first v m (Bltu rs1 rs2 immediate) = rw (register-first v m rs1, register-first v m rs2) (branched-first v m (nat_lt (register m rs1) (register m rs2)) (pc_relative m immediate))
instr-first v m (Bgeu rs1 rs2 immediate) = rw (register-first v m rs1, register-first v m rs2) (branched-first v m (not (nat_lt (register m rs1) (register m rs2))) (pc_relative m immediate))
instr-first v m (Lb rd rs1 immediate) = rw (register-first v m rs1) (loaded-first v m rd _)
instr-first v m (Lh rd rs1 immediate) = rw (register-first v m rs1) (loaded-first v m rd _)
instr-first v m (Lw rd rs1 immediate) = rw (register-first v m rs1) (loaded-first v m rd _)
instr-first v m (Ld rd rs1 immediate) = rw (register-first v m rs1) (loaded-first v m rd _)
instr-first v m (Lbu rd rs1 immediate) = rw (register-first v m rs1) (loaded-first v m rd _)
instr-first v m (Lhu rd rs1 immediate) = rw (register-first v m rs1) (loaded-first v m rd _)
instr-first v m (Lwu rd rs1 immediate) = rw (register-first v m rs1) (loaded-first v m rd _)
instr-first v m (Sb rs1 rs2 immediate) = rw (register-first v m rs1, register-first v m rs2) (stored-first v m _)
instr-first v m (Sh rs1 rs2 immediate) = rw (register-first v m rs1, register-first v m rs2) (stored-first v m _)
instr-first v m (Sw rs1 rs2 immediate) = rw (register-first v m rs1, register-first v m rs2) (stored-first v m _)
instr-first v m (Sd rs1 rs2 immediate) = rw (register-first v m rs1, register-first v m rs2) (stored-first v m _)
instr-first v m (Addi rd rs1 immediate) = rw (register-first v m rs1) (wrote-first v m rd _)
instr-first v m (Slti rd rs1 immediate) = rw (register-first v m rs1) (wrote-first v m rd _)
instr-first v m (Sltiu rd rs1 immediate) = rw (register-first v m rs1) (wrote-first v m rd _)
instr-first v m (Xori rd rs1 immediate) = rw (register-first v m rs1) (wrote-first v m rd _)
instr-first v m (Ori rd rs1 immediate) = rw (register-first v m rs1) (wrote-first v m rd _)
instr-first v m (Andi rd rs1 immediate) = rw (register-first v m rs1) (wrote-first v m rd _)
instr-first v m (Slli rd rs1 shift) = rw (register-first v m rs1) (wrote-first v m rd _)
instr-first v m (Srli rd rs1 shift) = rw (register-first v m rs1) (wrote-first v m rd _)
instr-first v m (Srai rd rs1 shift) = rw (register-first v m rs1) (wrote-first v m rd _)
instr-first v m (Add rd rs1 rs2) = rw (register-first v m rs1, register-first v m rs2) (wrote-first v m rd _)
instr-first v m (Sub rd rs1 rs2) = rw (register-first v m rs1, register-first v m rs2) (wrote-first v m rd _)
instr-first v m (Sll rd rs1 rs2) = rw (register-first v m rs1, register-first v m rs2) (wrote-first v m rd _)
instr-first v m (Slt rd rs1 rs2) = rw (register-first v m rs1, register-first v m rs2) (wrote-first v m rd _)
instr-first v m (Sltu rd rs1 rs2) = rw (register-first v m rs1, register-first v m rs2) (wrote-first v m rd _)
instr-first v m (Xor rd rs1 rs2) = rw (register-first v m rs1, register-first v m rs2) (wrote-first v m rd _)
instr-first v m (Srl rd rs1 rs2) = rw (register-first v m rs1, register-first v m rs2) (wrote-first v m rd _)
instr-first v m (Sra rd rs1 rs2) = rw (register-first v m rs1, register-first v m rs2) (wrote-first v m rd _)
instr-first v m (Or rd rs1 rs2) = rw (register-first v m rs1, register-first v m rs2) (wrote-first v m rd _)
instr-first v m (And rd rs1 rs2) = rw (register-first v m rs1, register-first v m rs2) (wrote-first v m rd _)
instr-first v m (Mul rd rs1 rs2) = rw (register-first v m rs1, register-first v m rs2) (wrote-first v m rd _)
instr-first v m (Mulh rd rs1 rs2) = rw (register-first v m rs1, register-first v m rs2) (wrote-first v m rd _)
instr-first v m (Mulhsu rd rs1 rs2) = rw (register-first v m rs1, register-first v m rs2) (wrote-first v m rd _)
instr-first v m (Mulhu rd rs1 rs2) = rw (register-first v m rs1, register-first v m rs2) (wrote-first v m rd _)
instr-first v m (Div rd rs1 rs2) = rw (register-first v m rs1, register-first v m rs2) (wrote-first v m rd _)
instr-first v m (Divu rd rs1 rs2) = rw (register-first v m rs1, register-first v m rs2) (wrote-first v m rd _)
instr-first v m (Rem rd rs1 rs2) = rw (register-first v m rs1, register-first v m rs2) (wrote-first v m rd _)
instr-first v m (Remu rd rs1 rs2) = rw (register-first v m rs1, register-first v m rs2) (wrote-first v m rd _)
instr-first v m (Addiw rd rs1 immediate) = rw (register-first v m rs1) (wrote-first v m rd _)
instr-first v m (Slliw rd rs1 shift) = rw (register-first v m rs1) (wrote-first v m rd _)
instr-first v m (Srliw rd rs1 shift) = rw (register-first v m rs1) (wrote-first v m rd _)
instr-first v m (Sraiw rd rs1 shift) = rw (register-first v m rs1) (wrote-first v m rd _)
instr-first v m (Addw rd rs1 rs2) = rw (register-first v m rs1, register-first v m rs2) (wrote-first v m rd _)
instr-first v m (Subw rd rs1 rs2) = rw (register-first v m rs1, register-first v m rs2) (wrote-first v m rd _)
instr-first v m (Sllw rd rs1 rs2) = rw (register-first v m rs1, register-first v m rs2) (wrote-first v m rd _)
instr-first v m (Srlw rd rs1 rs2) = rw (register-first v m rs1, register-first v m rs2) (wrote-first v m rd _)
instr-first v m (Sraw rd rs1 rs2) = rw (register-first v m rs1, register-first v m rs2) (wrote-first v m rd _)
instr-first v m (Mulw rd rs1 rs2) = rw (register-first v m rs1, register-first v m rs2) (wrote-first v m rd _)
instr-first v m (Divw rd rs1 rs2) = rw (register-first v m rs1, register-first v m rs2) (wrote-first v m rd _)
instr-first v m (Divuw rd rs1 rs2) = rw (register-first v m rs1, register-first v m rs2) (wrote-first v m rd _)
instr-first v m (Remw rd rs1 rs2) = rw (register-first v m rs1, register-first v m rs2) (wrote-first v m rd _)
instr-first v m (Remuw rd rs1 rs2) = rw (register-first v m rs1, register-first v m rs2) (wrote-first v m rd _)
instr-first v m (LrW rd rs1) = lr-first v m 4 rd rs1
instr-first v m (ScW rd rs1 rs2) = sc-first v m 4 rd rs1 rs2
instr-first v m (AmoswapW rd rs1 rs2) = amo-first v m 4 rd rs1 rs2 _
instr-first v m (AmoaddW rd rs1 rs2) = amo-first v m 4 rd rs1 rs2 _
instr-first v m (AmoxorW rd rs1 rs2) = amo-first v m 4 rd rs1 rs2 _
instr-first v m (AmoandW rd rs1 rs2) = amo-first v m 4 rd rs1 rs2 _
instr-first v m (AmoorW rd rs1 rs2) = amo-first v m 4 rd rs1 rs2 _
instr-first v m (AmominW rd rs1 rs2) = amo-first v m 4 rd rs1 rs2 _
instr-first v m (AmomaxW rd rs1 rs2) = amo-first v m 4 rd rs1 rs2 _
instr-first v m (AmominuW rd rs1 rs2) = amo-first v m 4 rd rs1 rs2 _
instr-first v m (AmomaxuW rd rs1 rs2) = amo-first v m 4 rd rs1 rs2 _
instr-first v m (LrD rd rs1) = lr-first v m 8 rd rs1
instr-first v m (ScD rd rs1 rs2) = sc-first v m 8 rd rs1 rs2
instr-first v m (AmoswapD rd rs1 rs2) = amo-first v m 8 rd rs1 rs2 _
instr-first v m (AmoaddD rd rs1 rs2) = amo-first v m 8 rd rs1 rs2 _
instr-first v m (AmoxorD rd rs1 rs2) = amo-first v m 8 rd rs1 rs2 _
instr-first v m (AmoandD rd rs1 rs2) = amo-first v m 8 rd rs1 rs2 _
instr-first v m (AmoorD rd rs1 rs2) = amo-first v m 8 rd rs1 rs2 _
instr-first v m (AmominD rd rs1 rs2) = amo-first v m 8 rd rs1 rs2 _
instr-first v m (AmomaxD rd rs1 rs2) = amo-first v m 8 rd rs1 rs2 _
instr-first v m (AmominuD rd rs1 rs2) = amo-first v m 8 rd rs1 rs2 _
instr-first v m (AmomaxuD rd rs1 rs2) = amo-first v m 8 rd rs1 rs2 _
instr-first v m Fence = refl
instr-first v m Ecall = refl
instr-first v m Ebreak = refl
instr-first v m (ReadCounter rd counter) = refl
instr-first v m Unknown = refl

fetched-first : (v : ℕ) (m : Machine) (word : Result ℕ Miss) → fetch_result (with_register_zero v m) word ≡ result_first v (fetch_result m word)
unfolding result_first
fetched-first v m (Ok word) = instr-first v m (instr word)
fetched-first v m (Err miss) = refl

exec-first : (v : ℕ) (m : Machine) → exec (with_register_zero v m) ≡ result_first v (exec m)
unfolding exec result_first
exec-first v m = by-test (eqb (m.pc % 4) 0)
  where
    by-test : (b : Bool) → cond b (fetch_result (with_register_zero v m) (loaded_number (load m.space EXECUTE m.pc 4))) (record { step = Fault SIGBUS; machine = with_register_zero v m }) ≡ result_first v (cond b (fetch_result m (loaded_number (load m.space EXECUTE m.pc 4))) (record { step = Fault SIGBUS; machine = m }))
    by-test true = fetched-first v m (loaded_number (load m.space EXECUTE m.pc 4))
    by-test false = refl

-- a segment of the machine that has it
run_first : ℕ → SegmentRun → SegmentRun
run_first v run = record { count = run.count; stop = run.stop; machine = with_register_zero v run.machine }

step-first : (v : ℕ) (step : Step) (m : Machine) (made : ℕ) (rest : Machine → SegmentRun) → rest (with_register_zero v m) ≡ run_first v (rest m) → segment_after_step step (with_register_zero v m) made rest ≡ run_first v (segment_after_step step m made rest)
unfolding run_first
step-first v Ran m made rest is = is
step-first v Call m made rest is = refl
step-first v (Counter rd) m made rest is = refl
step-first v (Fault signal) m made rest is = refl

bounded-first : (left made v : ℕ) (m : Machine) → bounded_segment left made (with_register_zero v m) ≡ run_first v (bounded_segment left made m)
unfolding bounded_segment run_first result_first
bounded-first zero made v m = refl
bounded-first (suc left) made v m =
    let next = exec m in
    ap (λ (s : StepResult). segment_after_step s.step s.machine (made + 1) (bounded_segment left (made + 1))) (exec-first v m)
    ∙ step-first v next.step next.machine (made + 1) (bounded_segment left (made + 1)) (bounded-first left (made + 1) v next.machine)

segment-first : (v : ℕ) (m : Machine) → segment_of (with_register_zero v m) ≡ run_first v (segment_of m)
unfolding segment_of
segment-first v m = bounded-first SEGMENT_LIMIT 0 v m

after-first : (n v : ℕ) (m : Machine) → after_steps n (with_register_zero v m) ≡ with_register_zero v (after_steps n m)
unfolding after_steps result_first
after-first zero v m = refl
after-first (suc n) v m = let next = exec m in ap (λ (s : StepResult). after_steps n s.machine) (exec-first v m) ∙ after-first n v next.machine

step_after-first : (n v : ℕ) (m : Machine) → step_after n (with_register_zero v m) ≡ step_after n m
unfolding result_first
step_after-first n v m = ap (λ (k : Machine). (exec k).step) (after-first n v m) ∙ ap (λ (s : StepResult). s.step) (exec-first v (after_steps n m))

-- the number that was kept, put back
put-back : (m : Machine) → with_register_zero (get_or m.regs 0 0) (with_register_zero 0 m) ≡ m
put-back m = ap (λ regs. record m { regs = regs }) (set-set m.regs 0 0 (get_or m.regs 0 0) ∙ set-get_or m.regs 0 0)

pub exec-back : (m m' : Machine) (step : Step) → exec (with_register_zero 0 m) ≡ record { step = step; machine = m' } → exec m ≡ record { step = step; machine = with_register_zero (get_or m.regs 0 0) m' }
unfolding result_first
exec-back m m' step is =
    ap exec (sym (put-back m)) ∙ exec-first (get_or m.regs 0 0) (with_register_zero 0 m) ∙ ap (result_first (get_or m.regs 0 0)) is

pub kept-back : (m m' : Machine) (r : Result Step NoMemory) → OnErr r (m' ≡ with_register_zero 0 m) → OnErr r (with_register_zero (get_or m.regs 0 0) m' ≡ m)
kept-back m m' (Ok step) kept = tt
kept-back m m' (Err wanting) kept = ap (with_register_zero (get_or m.regs 0 0)) kept ∙ put-back m

pub segment-back : (m m' : Machine) (count : ℕ) (stop : Stop) → segment_of (with_register_zero 0 m) ≡ record { count = count; stop = stop; machine = m' } → segment_of m ≡ record { count = count; stop = stop; machine = with_register_zero (get_or m.regs 0 0) m' }
unfolding run_first
segment-back m m' count stop is =
    ap segment_of (sym (put-back m)) ∙ segment-first (get_or m.regs 0 0) (with_register_zero 0 m) ∙ ap (run_first (get_or m.regs 0 0)) is

pub cut-back : (m m' : Machine) (r : Result Seg NoMemory) → OnErr r (IsCutShort (with_register_zero 0 m) m') → OnErr r (IsCutShort m (with_register_zero (get_or m.regs 0 0) m'))
cut-back m m' (Ok seg) cut = tt
cut-back m m' (Err wanting) cut =
    let first = get_or m.regs 0 0 in
    record {
      count = cut.count;
      few = cut.few;
      ran = λ k lt. ap (step_after k) (sym (put-back m)) ∙ step_after-first k first (with_register_zero 0 m) ∙ cut.ran k lt;
      machine = ap (with_register_zero first) cut.machine ∙ sym (after-first cut.count first (with_register_zero 0 m)) ∙ ap (after_steps cut.count) (put-back m);
    }

-- a register is written, and register 0 is made 0 again
write-within : (regs : List ℕ) (index value : ℕ) → get_or regs 0 0 ≡ 0 → (index ≡ 0 → ⊥) → set (set regs index value) 0 0 ≡ set regs index value
write-within regs index value none other =
    set_comm regs index 0 value 0 other ∙ ap (λ xs. set xs index value) (ap (set regs 0) (sym none) ∙ set-get_or regs 0 0)

pub written : (m : Machine) (index value : ℕ) → HasZero m → value < 2 ^ 64 → record m { regs = set (set m.regs index value) 0 0 } ≡ with_register m index value
written m index value none fits = elim (cases_eq index 0) [
  | inl first ↦ rw first (ap (λ regs. record m { regs = regs }) (set-set m.regs 0 value 0 ∙ ap (set m.regs 0) (sym none) ∙ set-get_or m.regs 0 0))
  | inr other ↦
      let same : value % 2 ^ 64 ≡ value = omega (arith, fits) in
      ap (λ regs. record m { regs = regs }) (write-within m.regs index value none other ∙ ap (set m.regs index) (sym same))
      ∙ sym (with_register-at m index value other)
]

pub zero-written : (regs : List ℕ) → get_or (set regs 0 0) 0 0 ≡ 0
zero-written [] = refl
zero-written (x ∷ xs) = refl

pub read-first : (m : Machine) (index : ℕ) → HasZero m → get_or m.regs index 0 ≡ register m index
read-first m index none = elim (cases_eq index 0) [
  | inl first ↦ rw first none
  | inr other ↦ let test : eqb index 0 ≡ false = grind (arith, nat_tests) in rw test refl
]

-- for the code
pub ruleset reads_and_writes = (written, zero-written, read-first)
