-- The table of plans as the code reads it, in three parts: each part leaves to the next what is not its own. For the instructions
-- that it is asked of, each gives what the whole table gives.
use Rattle.std.specs.Prelude.{ℕ, true, false}
use Rattle.dt_alu.specs.Extend.{low_bytes_of}
use Rattle.dt_decode.specs.declared.instructions.Instr.{Instr}
use Rattle.dt_decode.specs.declared.instructions.Instr.TheVariants.{Load, Store, Fence, FenceI, Lr, Sc, Amo, Csr, Sret, Mret, SfenceVma}
use Rattle.dt_step.specs.declared.plans.AtomicOp.TheVariants.{Lr as LoadReserved, Sc as StoreConditional, Amo as ReadModifyWrite}
use Rattle.dt_step.specs.declared.plans.Planned.{Planned}
use Rattle.dt_step.specs.declared.plans.Planned.TheVariants.{Done, NeedsLoad, NeedsStore, NeedsAtomic, Csr as Access, Returns, FenceI as InstructionFence}
use Rattle.dt_step.specs.declared.state.Arch.{Arch}
use Rattle.dt_step.specs.State.{register}
use Rattle.dt_step.specs.Causes.{offset_address, reads_csr, writes_csr}
use Rattle.dt_step.specs.Plans.{next_of, fence_of, pages_of, csr_operand}

-- of the system's instructions; WFI does nothing
abbrev pub system_plan : Arch → Instr → ℕ → Planned
system_plan a (Fence fm pred succ) bits = fence_of fm pred succ
system_plan a FenceI bits = InstructionFence
system_plan a (Csr op number rd source immediate) bits =
    Access number op (csr_operand a source immediate) (reads_csr op rd) (writes_csr op source) rd
system_plan a Sret bits = Returns false
system_plan a Mret bits = Returns true
system_plan a (SfenceVma rs1 rs2) bits = pages_of a rs1 rs2
system_plan a i bits = Done 0 0 (next_of a bits)

-- of atomics, and of the system's
abbrev pub atomic_plan : Arch → Instr → ℕ → Planned
atomic_plan a (Lr width aq rl rd rs1) bits = NeedsAtomic (register a rs1) width LoadReserved aq rl rd 0
atomic_plan a (Sc width aq rl rd rs1 rs2) bits =
    NeedsAtomic (register a rs1) width StoreConditional aq rl rd (low_bytes_of width (register a rs2))
atomic_plan a (Amo op width aq rl rd rs1 rs2) bits =
    NeedsAtomic (register a rs1) width (ReadModifyWrite op) aq rl rd (low_bytes_of width (register a rs2))
atomic_plan a i bits = system_plan a i bits

-- of those that access memory, and of the system's
abbrev pub access_plan : Arch → Instr → ℕ → Planned
access_plan a (Load width signed rd rs1 imm) bits = NeedsLoad (offset_address a rs1 imm) width signed rd
access_plan a (Store width rs1 rs2 imm) bits =
    NeedsStore (offset_address a rs1 imm) width (low_bytes_of width (register a rs2))
access_plan a i bits = atomic_plan a i bits
