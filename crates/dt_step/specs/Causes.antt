-- Which instructions raise a cause by themselves, before any memory is asked.
use Rattle.std.specs.Prelude.{ℕ, ◌+◌, ◌%◌, ◌==◌, nat_lt, Bool, true, false, not, ◌&&◌, ◌||◌, if◌then◌else◌, Option, Some, None}
use Rattle.dt_alu.specs.Words.{sum_of}
use Rattle.dt_csr.specs.declared.access.CsrRead.{CsrRead}
use Rattle.dt_csr.specs.declared.access.CsrRead.TheVariants.{Value, Counter, Pending, Illegal}
use Rattle.dt_csr.specs.declared.cause.TheConstants.{BREAKPOINT, CALL_FROM_USER, ILLEGAL_INSTRUCTION, LOAD_MISALIGNED, STORE_MISALIGNED}
use Rattle.dt_csr.specs.declared.modes.TheConstants.{USER, SUPERVISOR, MACHINE}
use Rattle.dt_csr.specs.declared.mstatus.TheConstants.{TVM, TW, TSR}
use Rattle.dt_csr.specs.Access.{read_of, may_write_of}
use Rattle.dt_csr.specs.Fields.{field_of}
use Rattle.dt_csr.specs.Traps.{expected_tval}
use Rattle.dt_decode.specs.declared.instructions.CsrOp.{CsrOp}
use Rattle.dt_decode.specs.declared.instructions.CsrOp.TheVariants.{Write, Set, Clear}
use Rattle.dt_decode.specs.declared.instructions.Instr.{Instr}
use Rattle.dt_decode.specs.declared.instructions.Instr.TheVariants.{Load, Store, Lr, Sc, Amo, Csr, Ecall, Ebreak, Sret, Mret, Wfi, SfenceVma}
use Rattle.dt_step.specs.declared.state.Arch.{Arch}
use Rattle.dt_step.specs.State.{register}

-- the address of a load or a store (Volume I, section 2.6)
abbrev pub offset_address : Arch → ℕ → ℕ → ℕ
offset_address a rs1 imm = sum_of 64 (register a rs1) imm

-- the virtual address that an instruction accesses, and 0 where it accesses no memory
abbrev pub address_of : Arch → Instr → ℕ
address_of a (Load width signed rd rs1 imm) = offset_address a rs1 imm
address_of a (Store width rs1 rs2 imm) = offset_address a rs1 imm
address_of a (Lr width aq rl rd rs1) = register a rs1
address_of a (Sc width aq rl rd rs1 rs2) = register a rs1
address_of a (Amo op width aq rl rd rs1 rs2) = register a rs1
address_of a i = 0

-- does a CSR instruction read its register: CSRRW with rd = x0 does not (Volume I, section 9.1)
abbrev pub reads_csr : CsrOp → ℕ → Bool
reads_csr Write rd = not (rd == 0)
reads_csr Set rd = true
reads_csr Clear rd = true

-- does it write its register: CSRRS and CSRRC from x0 or with a zero immediate do not (Volume I, section 9.1)
abbrev pub writes_csr : CsrOp → ℕ → Bool
writes_csr Write source = true
writes_csr Set source = not (source == 0)
writes_csr Clear source = not (source == 0)

-- a read that is illegal
abbrev pub is_illegal : CsrRead → Bool
is_illegal (Value value) = false
is_illegal (Counter counter) = false
is_illegal (Pending mask) = false
is_illegal Illegal = true

-- are the accesses of a CSR instruction legal
abbrev pub csr_is_legal : Arch → CsrOp → ℕ → ℕ → ℕ → Bool
csr_is_legal a op number rd source =
    not (reads_csr op rd && is_illegal (read_of a.csrs a.mode a.hart number))
    && (not (writes_csr op source) || may_write_of a.csrs a.mode number)

-- is a privileged instruction legal below M: never in U, and in S where the field of mstatus that traps it is 0
-- (Volume II, section 3.1.6.5)
abbrev pub is_open_to_s : ℕ → ℕ → Bool
is_open_to_s mode traps = nat_lt USER mode && not ((mode == SUPERVISOR) && (traps == 1))

-- a cause, where a test fails
abbrev pub unless : Bool → ℕ → Option ℕ
unless ok cause = if ok then None else Some cause

-- the cause that an instruction raises by itself, if any: an access that is not aligned to its width, an instruction
-- that is illegal in this state, or one that always traps
abbrev pub due_cause : Arch → Instr → Option ℕ
due_cause a (Load width signed rd rs1 imm) = unless (offset_address a rs1 imm % width == 0) LOAD_MISALIGNED
due_cause a (Store width rs1 rs2 imm) = unless (offset_address a rs1 imm % width == 0) STORE_MISALIGNED
due_cause a (Lr width aq rl rd rs1) = unless (register a rs1 % width == 0) LOAD_MISALIGNED
due_cause a (Sc width aq rl rd rs1 rs2) = unless (register a rs1 % width == 0) STORE_MISALIGNED
due_cause a (Amo op width aq rl rd rs1 rs2) = unless (register a rs1 % width == 0) STORE_MISALIGNED
due_cause a (Csr op number rd source immediate) = unless (csr_is_legal a op number rd source) ILLEGAL_INSTRUCTION
due_cause a Ecall = Some (CALL_FROM_USER + a.mode)
due_cause a Ebreak = Some BREAKPOINT
due_cause a Mret = unless (a.mode == MACHINE) ILLEGAL_INSTRUCTION
due_cause a Sret = unless (is_open_to_s a.mode (field_of a.csrs.mstatus TSR)) ILLEGAL_INSTRUCTION
due_cause a Wfi = unless (is_open_to_s a.mode (field_of a.csrs.mstatus TW)) ILLEGAL_INSTRUCTION
due_cause a (SfenceVma rs1 rs2) = unless (is_open_to_s a.mode (field_of a.csrs.mstatus TVM)) ILLEGAL_INSTRUCTION
due_cause a i = None

-- the tval of that cause
abbrev pub due_tval : Arch → Instr → ℕ → ℕ → ℕ
due_tval a i bits cause = expected_tval cause (address_of a i) bits a.pc
