use Rattle.std.proofs.Common.{ℕ, ◌≡◌, Option, Some, None, refl}
use Rattle.dt_decode.specs.declared.instructions.Instr.{Instr}
use Rattle.dt_record.specs.declared.records.Body.{Body}
use Rattle.dt_record.specs.declared.records.Body.TheVariants.{Commit, Trap, Regs, Csrs, Load, Store, Atomic, Drain, Refill, Beat}
use Rattle.std.specs.Option.{option_map_or}
use Rattle.dt_step.specs.declared.state.Arch.{Arch}
use Rattle.dt_step.specs.Steps.{step_of}
use Rattle.dt_decode.specs.declared.instructions.Instr.TheVariants.{Lui, Auipc, Jal, Jalr, Branch, Load as LoadOf, Store as StoreOf, AluImm, Alu, Fence, FenceI, Lr, Sc, Amo, Csr, Ecall, Ebreak, Sret, Mret, Wfi, SfenceVma}
use Rattle.dt_step.specs.Plans.{plan_of, value_in}
use Rattle.dt_reference.specs.Meaning.{meaning_of}
use Rattle.dt_reference.specs.Run.{after_body, after_instruction, answer_to}

-- No record changes the number of a hart.

step_stays : (a : Arch) (i : Instr) (bits read : ℕ) → (step_of a i bits read).hart ≡ a.hart
step_stays a (Lui rd imm) bits read = refl
step_stays a (Auipc rd imm) bits read = refl
step_stays a (Jal rd imm) bits read = refl
step_stays a (Jalr rd rs1 imm) bits read = refl
step_stays a (Branch cond rs1 rs2 imm) bits read = refl
step_stays a (LoadOf width signed rd rs1 imm) bits read = refl
step_stays a (StoreOf width rs1 rs2 imm) bits read = refl
step_stays a (AluImm op word rd rs1 imm) bits read = refl
step_stays a (Alu op word rd rs1 rs2) bits read = refl
step_stays a (Fence fm pred succ) bits read = refl
step_stays a FenceI bits read = refl
step_stays a (Lr width aq rl rd rs1) bits read = refl
step_stays a (Sc width aq rl rd rs1 rs2) bits read = refl
step_stays a (Amo op width aq rl rd rs1 rs2) bits read = refl
step_stays a (Csr op number rd source immediate) bits read = refl
step_stays a Ecall bits read = refl
step_stays a Ebreak bits read = refl
step_stays a Sret bits read = refl
step_stays a Mret bits read = refl
step_stays a Wfi bits read = refl
step_stays a (SfenceVma rs1 rs2) bits read = refl

instruction_stays : (a : Arch) (bits found : ℕ) → (after_instruction a bits found).hart ≡ a.hart
instruction_stays a bits found = by_meaning (meaning_of bits)
  where
    by_meaning : (o : Option Instr) → (option_map_or (λ i. step_of a i bits (value_in (answer_to a (plan_of a i bits) found))) o a).hart ≡ a.hart
    by_meaning None = refl
    by_meaning (Some i) = step_stays a i bits (value_in (answer_to a (plan_of a i bits) found))

pub hart_stays : (a : Arch) (body : Body) → (after_body a body).hart ≡ a.hart
hart_stays a (Commit retire) = instruction_stays a retire.bits retire.value
hart_stays a (Trap pc bits cause tval) = refl
hart_stays a (Regs pc x) = refl
hart_stays a (Csrs mode v) = refl
hart_stays a (Load retire at paddr) = instruction_stays a retire.bits retire.value
hart_stays a (Store pc bits paddr value) = instruction_stays a bits value
hart_stays a (Atomic retire paddr width wrote new) = instruction_stays a retire.bits retire.value
hart_stays a (Drain line mask count bytes) = refl
hart_stays a (Refill line bytes) = refl
hart_stays a Beat = refl
