-- What each instruction does to the state of its hart.
use Rattle.std.specs.Prelude.{ℕ, ◌==◌, max, Bool, true, false, if◌then◌else◌, bit_and, bit_or}
use Rattle.std.specs.Int.{w64, bit_not}
use Rattle.dt_alu.specs.Alu.{alu_value}
use Rattle.dt_alu.specs.Compare.{compare_value}
use Rattle.dt_alu.specs.Words.{sum_of}
use Rattle.dt_csr.specs.declared.access.CsrRead.{CsrRead}
use Rattle.dt_csr.specs.declared.access.CsrRead.TheVariants.{Counter, Pending, Illegal, Value as Known}
use Rattle.dt_csr.specs.declared.state.Csrs.{Csrs}
use Rattle.dt_csr.specs.Access.{read_of, write_of, floor_of, with_floor}
use Rattle.dt_csr.specs.Traps.{mret_mode, mret_pc, after_mret, sret_mode, sret_pc, after_sret}
use Rattle.dt_decode.specs.declared.instructions.CsrOp.{CsrOp}
use Rattle.dt_decode.specs.declared.instructions.CsrOp.TheVariants.{Write, Set, Clear}
use Rattle.dt_decode.specs.declared.instructions.Instr.{Instr}
use Rattle.dt_decode.specs.declared.instructions.Instr.TheVariants.{Lui, Auipc, Jal, Jalr, Branch, Load, Store, AluImm, Alu, Fence, FenceI, Lr, Sc, Amo, Csr, Ecall, Ebreak, Sret, Mret, Wfi, SfenceVma}
use Rattle.dt_step.specs.declared.plans.Answer.{Answer}
use Rattle.dt_step.specs.declared.plans.Planned.{Planned}
use Rattle.dt_step.specs.declared.plans.Planned.TheVariants.{Done, NeedsLoad, NeedsStore, NeedsAtomic, Csr as Access, Returns, Fences, FenceI as InstructionFence, FencesPages, Raises}
use Rattle.dt_step.specs.declared.state.Arch.{Arch}
use Rattle.dt_step.specs.State.{register, with_register, further}
use Rattle.dt_step.specs.Causes.{writes_csr}
use Rattle.dt_step.specs.Plans.{length_of, next_of, register_target, csr_operand, value_in}

-- ---- registers of control and status

-- the value that a CSR instruction writes, where it read the old one (Volume I, section 9.1)
abbrev pub csr_value : CsrOp → ℕ → ℕ → ℕ
csr_value Write old operand = operand
csr_value Set old operand = bit_or old operand
csr_value Clear old operand = bit_and old (bit_not w64 operand)

-- a floor under the value that it writes, where it did not see the old value, of which only a floor is known (this
-- project's own)
abbrev pub floor_after : CsrOp → ℕ → ℕ → ℕ
floor_after Write floor operand = operand
floor_after Set floor operand = max floor operand
floor_after Clear floor operand = 0

-- the registers after a value was read into one of x1 to x31: a counter is at least what it showed
abbrev pub noted : Csrs → CsrRead → ℕ → Csrs
noted c (Counter counter) value = with_floor c counter value
noted c (Known known) value = c
noted c (Pending mask) value = c
noted c Illegal value = c

abbrev pub after_read : Csrs → CsrRead → ℕ → ℕ → Csrs
after_read c shown rd value = if rd == 0 then c else noted c shown value

-- the value that is written: a counter that is read into x0 is not seen
abbrev pub value_to_write : Csrs → CsrRead → CsrOp → ℕ → ℕ → ℕ → ℕ
value_to_write c (Counter counter) op rd value operand =
    if rd == 0 then floor_after op (floor_of c counter) operand else csr_value op value operand
value_to_write c (Known known) op rd value operand = csr_value op value operand
value_to_write c (Pending mask) op rd value operand = csr_value op value operand
value_to_write c Illegal op rd value operand = csr_value op value operand

-- the registers after a CSR instruction in this state, which read this value
abbrev pub csrs_after : Arch → ℕ → CsrOp → ℕ → Bool → ℕ → ℕ → Csrs
csrs_after a number op operand writes rd value =
    let shown = read_of a.csrs a.mode a.hart number in
    let seen = after_read a.csrs shown rd value in
    if writes then write_of seen a.mode number (value_to_write a.csrs shown op rd value operand) else seen

-- ---- the state after an instruction

-- the state after MRET and after SRET (Volume II, section 3.3.2)
abbrev pub returned_by_mret : Arch → Arch
returned_by_mret a = record a { pc = mret_pc a.csrs; csrs = after_mret a.csrs; mode = mret_mode a.csrs }

abbrev pub returned_by_sret : Arch → Arch
returned_by_sret a = record a { pc = sret_pc a.csrs; csrs = after_sret a.csrs; mode = sret_mode a.csrs }

-- the state at another pc
abbrev pub at_pc : Arch → ℕ → Arch
at_pc a pc = record a { pc = pc }

-- the state with a value in rd, at the next instruction
abbrev pub gives : Arch → ℕ → ℕ → ℕ → Arch
gives a bits rd value = further (with_register a rd value) (length_of bits)

-- the state after an instruction with these bits that raises nothing, which read this value: what its load, atomic
-- access, SC or CSR gave (Volume I, chapters 2, 3, 5, 7, 8 and 9, and Volume II, sections 3.3 and 4.2)
abbrev pub step_of : Arch → Instr → ℕ → ℕ → Arch
step_of a (Lui rd imm) bits read = gives a bits rd imm
step_of a (Auipc rd imm) bits read = gives a bits rd (sum_of 64 a.pc imm)
step_of a (Jal rd imm) bits read = at_pc (with_register a rd (next_of a bits)) (sum_of 64 a.pc imm)
step_of a (Jalr rd rs1 imm) bits read = at_pc (with_register a rd (next_of a bits)) (register_target a rs1 imm)
step_of a (Branch cond rs1 rs2 imm) bits read =
    at_pc a (if compare_value cond (register a rs1) (register a rs2) then sum_of 64 a.pc imm else next_of a bits)
step_of a (Load width signed rd rs1 imm) bits read = gives a bits rd read
step_of a (Store width rs1 rs2 imm) bits read = further a (length_of bits)
step_of a (AluImm op word rd rs1 imm) bits read = gives a bits rd (alu_value op word (register a rs1) imm)
step_of a (Alu op word rd rs1 rs2) bits read = gives a bits rd (alu_value op word (register a rs1) (register a rs2))
step_of a (Fence fm pred succ) bits read = further a (length_of bits)
step_of a FenceI bits read = further a (length_of bits)
step_of a (Lr width aq rl rd rs1) bits read = gives a bits rd read
step_of a (Sc width aq rl rd rs1 rs2) bits read = gives a bits rd read
step_of a (Amo op width aq rl rd rs1 rs2) bits read = gives a bits rd read
step_of a (Csr op number rd source immediate) bits read =
    record (gives a bits rd read) {
      csrs = csrs_after a number op (csr_operand a source immediate) (writes_csr op source) rd read;
    }
step_of a Mret bits read = returned_by_mret a
step_of a Sret bits read = returned_by_sret a
step_of a (SfenceVma rs1 rs2) bits read = further a (length_of bits)
step_of a Wfi bits read = further a (length_of bits)
-- these two always raise
step_of a Ecall bits read = further a (length_of bits)
step_of a Ebreak bits read = further a (length_of bits)

-- the state after a plan is finished: an instruction of this length was planned, and its plan was given this answer
abbrev pub finish_of : Arch → ℕ → Planned → Answer → Arch
finish_of a len (Done rd value next) answer = at_pc (with_register a rd value) next
finish_of a len (NeedsLoad va width signed rd) answer = further (with_register a rd (value_in answer)) len
finish_of a len (NeedsStore va width value) answer = further a len
finish_of a len (NeedsAtomic va width op aq rl rd operand) answer = further (with_register a rd (value_in answer)) len
finish_of a len (Access number op operand reads writes rd) answer =
    record (further (with_register a rd (value_in answer)) len) {
      csrs = csrs_after a number op operand writes rd (value_in answer);
    }
finish_of a len (Returns true) answer = returned_by_mret a
finish_of a len (Returns false) answer = returned_by_sret a
finish_of a len (Fences ww wr rr) answer = further a len
finish_of a len InstructionFence answer = further a len
finish_of a len (FencesPages va all) answer = further a len
finish_of a len (Raises cause tval) answer = a
