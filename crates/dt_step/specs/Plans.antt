-- What each instruction asks for before it can be finished.
use Rattle.std.specs.Prelude.{ℕ, ◌≡◌, ◌*◌, ◌/◌, ◌%◌, ◌<◌, ◌==◌, Bool, true, false, not, ◌&&◌, IsTrue, IsFalse, if◌then◌else◌, Some, None}
use Rattle.std.specs.Option.{option_map_or}
use Rattle.std.specs.Int.{bit_at}
use Rattle.dt_alu.specs.Alu.{alu_value}
use Rattle.dt_alu.specs.Compare.{compare_value}
use Rattle.dt_alu.specs.Extend.{low_bytes_of}
use Rattle.dt_alu.specs.Words.{sum_of}
use Rattle.dt_decode.specs.declared.instructions.Instr.{Instr}
use Rattle.dt_decode.specs.declared.instructions.Instr.TheVariants.{Lui, Auipc, Jal, Jalr, Branch, Load, Store, AluImm, Alu, Fence, FenceI, Lr, Sc, Amo, Csr, Sret, Mret, SfenceVma}
use Rattle.dt_step.specs.declared.plans.Answer.{Answer}
use Rattle.dt_step.specs.declared.plans.Answer.TheVariants.{Nothing, Value}
use Rattle.dt_step.specs.declared.plans.AtomicOp.TheVariants.{Lr as LoadReserved, Sc as StoreConditional, Amo as ReadModifyWrite}
use Rattle.dt_step.specs.declared.plans.Planned.{Planned}
use Rattle.dt_step.specs.declared.plans.Planned.TheVariants.{Done, NeedsLoad, NeedsStore, NeedsAtomic, Csr as Access, Returns, Fences, FenceI as InstructionFence, FencesPages, Raises}
use Rattle.dt_step.specs.declared.state.Arch.{Arch}
use Rattle.dt_step.specs.State.{register}
use Rattle.dt_step.specs.Causes.{offset_address, reads_csr, writes_csr, due_cause, due_tval}

-- the length in bytes of the instruction with these bits (Volume I, section 1.5)
abbrev pub length_of : ℕ → ℕ
length_of bits = if bits % 4 == 3 then 4 else 2

-- the pc of the instruction after the present one, which has these bits
abbrev pub next_of : Arch → ℕ → ℕ
next_of a bits = sum_of 64 a.pc (length_of bits)

-- the target of JALR, whose lowest bit is cleared (Volume I, section 2.5)
abbrev pub register_target : Arch → ℕ → ℕ → ℕ
register_target a rs1 imm = sum_of 64 (register a rs1) imm / 2 * 2

-- the R and the W bit of a set of accesses of a FENCE, which is I, O, R, W from the highest (Volume I, section 2.7)
abbrev pub has_reads : ℕ → Bool
has_reads accesses = bit_at accesses 1 == 1

abbrev pub has_writes : ℕ → Bool
has_writes accesses = bit_at accesses 0 == 1

-- FENCE.TSO: fm 1000 with RW before and after; every other FENCE is read as with fm 0000 (Volume I, section 2.7)
abbrev pub is_tso : ℕ → ℕ → ℕ → Bool
is_tso fm pred succ = (fm == 0b1000) && ((pred == 0b0011) && (succ == 0b0011))

-- what a FENCE orders: writes before writes, writes before reads, and reads before reads
abbrev pub fence_of : ℕ → ℕ → ℕ → Planned
fence_of fm pred succ = Fences
    (has_writes pred && has_writes succ)
    ((has_writes pred && has_reads succ) && not (is_tso fm pred succ))
    (has_reads pred && has_reads succ)

-- the pages of SFENCE.VMA: all where both operands are x0, the page of the value of rs1 where rs2 alone is x0, and none
-- that are known where it names an address space (Volume II, section 4.2.1)
abbrev pub pages_of : Arch → ℕ → ℕ → Planned
pages_of a rs1 rs2 =
    if rs2 == 0
    then (if rs1 == 0 then FencesPages None true else FencesPages (Some (register a rs1)) false)
    else FencesPages None false

-- the operand of a CSR instruction: the immediate, or the value of the source register (Volume I, section 9.1)
abbrev pub csr_operand : Arch → ℕ → Bool → ℕ
csr_operand a source immediate = if immediate then source else register a source

-- What each instruction asks for where it raises nothing by itself, a row for each (Volume I, the chapters of the base and of its
-- extensions; Volume II, of the privileged instructions). The last row is WFI, which does nothing; ECALL and EBREAK always raise,
-- so that nobody asks for theirs.
abbrev pub legal_plan : Arch → Instr → ℕ → Planned
legal_plan a (Lui rd imm) bits = Done rd imm (next_of a bits)
legal_plan a (Auipc rd imm) bits = Done rd (sum_of 64 a.pc imm) (next_of a bits)
legal_plan a (Jal rd imm) bits = Done rd (next_of a bits) (sum_of 64 a.pc imm)
legal_plan a (Jalr rd rs1 imm) bits = Done rd (next_of a bits) (register_target a rs1 imm)
legal_plan a (Branch cond rs1 rs2 imm) bits =
    Done 0 0 (if compare_value cond (register a rs1) (register a rs2) then sum_of 64 a.pc imm else next_of a bits)
legal_plan a (AluImm op word rd rs1 imm) bits = Done rd (alu_value op word (register a rs1) imm) (next_of a bits)
legal_plan a (Alu op word rd rs1 rs2) bits = Done rd (alu_value op word (register a rs1) (register a rs2)) (next_of a bits)
legal_plan a (Load width signed rd rs1 imm) bits = NeedsLoad (offset_address a rs1 imm) width signed rd
legal_plan a (Store width rs1 rs2 imm) bits =
    NeedsStore (offset_address a rs1 imm) width (low_bytes_of width (register a rs2))
legal_plan a (Lr width aq rl rd rs1) bits = NeedsAtomic (register a rs1) width LoadReserved aq rl rd 0
legal_plan a (Sc width aq rl rd rs1 rs2) bits =
    NeedsAtomic (register a rs1) width StoreConditional aq rl rd (low_bytes_of width (register a rs2))
legal_plan a (Amo op width aq rl rd rs1 rs2) bits =
    NeedsAtomic (register a rs1) width (ReadModifyWrite op) aq rl rd (low_bytes_of width (register a rs2))
legal_plan a (Fence fm pred succ) bits = fence_of fm pred succ
legal_plan a FenceI bits = InstructionFence
legal_plan a (Csr op number rd source immediate) bits =
    Access number op (csr_operand a source immediate) (reads_csr op rd) (writes_csr op source) rd
legal_plan a Sret bits = Returns false
legal_plan a Mret bits = Returns true
legal_plan a (SfenceVma rs1 rs2) bits = pages_of a rs1 rs2
legal_plan a i bits = Done 0 0 (next_of a bits)

-- the plan of an instruction with these bits
abbrev pub plan_of : Arch → Instr → ℕ → Planned
plan_of a i bits =
    option_map_or (λ cause. Raises cause (due_tval a i bits cause)) (due_cause a i) (legal_plan a i bits)

-- the register that a plan writes is one of x0 to x31
abbrev pub NamesRegister : Planned → Type 0
NamesRegister (Done rd value next) = rd < 32
NamesRegister (NeedsLoad va width signed rd) = rd < 32
NamesRegister (NeedsAtomic va width op aq rl rd operand) = rd < 32
NamesRegister (Access number op operand reads writes rd) = rd < 32
NamesRegister plan = Unit {0}

-- a plan that can be finished: it raises nothing, and the register that it writes is one of x0 to x31
abbrev pub IsFinishable : Planned → Type 0
IsFinishable (Raises cause tval) = ⊥
IsFinishable plan = NamesRegister plan

-- does a plan ask for a value
abbrev pub asks : Planned → Bool
asks (NeedsLoad va width signed rd) = true
asks (NeedsAtomic va width op aq rl rd operand) = true
asks (Access number op operand reads writes rd) = reads
asks plan = false

-- the answer that a plan asks for
abbrev pub IsAnswerTo : Planned → Answer → Type 0
IsAnswerTo plan Nothing = IsFalse (asks plan)
IsAnswerTo plan (Value value) = IsTrue (asks plan)

-- the value of an answer, and 0 where it has none
abbrev pub value_in : Answer → ℕ
value_in Nothing = 0
value_in (Value value) = value

-- a jump or branch that goes an even number of bytes, or any other instruction (Volume I, section 2.5)
abbrev pub HasEvenTarget : Instr → Type 0
HasEvenTarget (Jal rd imm) = imm % 2 ≡ 0
HasEvenTarget (Branch cond rs1 rs2 imm) = imm % 2 ≡ 0
HasEvenTarget i = Unit {0}

-- a plan that does not lead to an odd pc
abbrev pub HasEvenNext : Planned → Type 0
HasEvenNext (Done rd value next) = next % 2 ≡ 0
HasEvenNext plan = Unit {0}
