use Rattle.std.proofs.Common.{ℕ, ◌≡◌, ◌==◌, Bool, true, false, Option, Some, None, List, [], ◌∷◌, refl, sym, ap, ◌∙◌}
use Rattle.std.specs.Prelude.{if◌then◌else◌}
use Rattle.std.specs.Option.{option_map_or}
use Rattle.dt_csr.specs.declared.access.CsrRead.{CsrRead}
use Rattle.dt_csr.specs.declared.access.CsrRead.TheVariants.{Counter, Pending, Illegal, Value as Known}
use Rattle.dt_csr.specs.declared.registers.Register.{Register}
use Rattle.dt_csr.specs.declared.registers.Register.TheVariants.{Mstatus, Misa, Medeleg, Mideleg, Mie, Mtvec, Mcounteren, Mscratch, Mepc, Mcause, Mtval, Mip, Mcycle, Minstret, Mvendorid, Marchid, Mimpid, Mhartid, Mconfigptr, Sstatus, Sie, Stvec, Scounteren, Sscratch, Sepc, Scause, Stval, Sip, Satp, Cycle, Time, Instret}
use Rattle.dt_csr.specs.declared.state.Csrs.{Csrs}
use Rattle.dt_csr.specs.declared.modes.TheConstants.{SUPERVISOR}
use Rattle.dt_csr.specs.Access.{read_of, with_floor, with_kept, write_of, reached_by_write, written}
use Rattle.dt_csr.specs.Traps.{trap_mode}
use Rattle.dt_decode.specs.declared.instructions.Instr.{Instr}
use Rattle.dt_decode.specs.declared.instructions.Instr.TheVariants.{Lui, Auipc, Jal, Jalr, Branch, Load as LoadOf, Store as StoreOf, AluImm, Alu, Fence, FenceI, Lr, Sc, Amo, Csr, Ecall, Ebreak, Sret, Mret, Wfi, SfenceVma}
use Rattle.dt_decode.specs.declared.instructions.CsrOp.{CsrOp}
use Rattle.dt_record.specs.declared.records.Body.{Body}
use Rattle.dt_record.specs.declared.records.Body.TheVariants.{Commit, Trap, Regs, Csrs as CsrsOf, Load, Store, Atomic, Drain, Refill, Beat}
use Rattle.dt_record.specs.declared.records.Record.{Record}
use Rattle.dt_reference.specs.Meaning.{meaning_of}
use Rattle.dt_reference.specs.Run.{after_body, after_instruction, after_record, answer_to, start_of, state_from}
use Rattle.dt_step.specs.declared.state.Arch.{Arch}
use Rattle.dt_step.specs.Causes.{writes_csr}
use Rattle.dt_step.specs.Plans.{csr_operand, plan_of, value_in}
use Rattle.dt_step.specs.Steps.{after_read, csrs_after, noted, step_of, value_to_write}
use Rattle.dt_hart.specs.HartView.{HartView}
use Rattle.dt_hart.specs.Settings.{Setting}
use Rattle.dt_hart.specs.Standing.{HartStands, IsOfSetting}
use Rattle.dt_hart.proofs.SameHart.{hart_stays}

-- No record changes whether a hart may use Sv48.

if_same : (b : Bool) (c d e : Csrs) → c.wide ≡ e.wide → d.wide ≡ e.wide → (if b then c else d).wide ≡ e.wide
if_same true c d e first second = first
if_same false c d e first second = second

floor_same : (c : Csrs) (counter value : ℕ) → (with_floor c counter value).wide ≡ c.wide
floor_same c counter value =
    if_same (counter == 0) _ _ c refl (if_same (counter == 1) _ _ c refl refl)

kept_same : (c : Csrs) (register : Register) (value : ℕ) → (with_kept c register value).wide ≡ c.wide
kept_same c Mstatus value = refl
kept_same c Misa value = refl
kept_same c Medeleg value = refl
kept_same c Mideleg value = refl
kept_same c Mie value = refl
kept_same c Mtvec value = refl
kept_same c Mcounteren value = refl
kept_same c Mscratch value = refl
kept_same c Mepc value = refl
kept_same c Mcause value = refl
kept_same c Mtval value = refl
kept_same c Mip value = refl
kept_same c Mcycle value = refl
kept_same c Minstret value = refl
kept_same c Mvendorid value = refl
kept_same c Marchid value = refl
kept_same c Mimpid value = refl
kept_same c Mhartid value = refl
kept_same c Mconfigptr value = refl
kept_same c Sstatus value = refl
kept_same c Sie value = refl
kept_same c Stvec value = refl
kept_same c Scounteren value = refl
kept_same c Sscratch value = refl
kept_same c Sepc value = refl
kept_same c Scause value = refl
kept_same c Stval value = refl
kept_same c Sip value = refl
kept_same c Satp value = refl
kept_same c Cycle value = refl
kept_same c Time value = refl
kept_same c Instret value = refl

noted_same : (c : Csrs) (shown : CsrRead) (value : ℕ) → (noted c shown value).wide ≡ c.wide
noted_same c (Counter counter) value = floor_same c counter value
noted_same c (Known known) value = refl
noted_same c (Pending mask) value = refl
noted_same c Illegal value = refl

write_same : (c : Csrs) (mode number value : ℕ) → (write_of c mode number value).wide ≡ c.wide
write_same c mode number value = by_register (reached_by_write c mode number)
  where
    by_register : (o : Option Register) → (option_map_or (λ register. written c register value) o c).wide ≡ c.wide
    by_register None = refl
    by_register (Some register) = kept_same c register _

csrs_same : (a : Arch) (number : ℕ) (op : CsrOp) (operand : ℕ) (writes : Bool) (rd value : ℕ) → (csrs_after a number op operand writes rd value).wide ≡ a.csrs.wide
csrs_same a number op operand writes rd value =
    let shown = read_of a.csrs a.mode a.hart number in
    let seen : (after_read a.csrs shown rd value).wide ≡ a.csrs.wide = if_same (rd == 0) _ _ a.csrs refl (noted_same a.csrs shown value) in
    if_same writes _ _ a.csrs (write_same (after_read a.csrs shown rd value) a.mode number (value_to_write a.csrs shown op rd value operand) ∙ seen) seen

step_same : (a : Arch) (i : Instr) (bits read : ℕ) → (step_of a i bits read).csrs.wide ≡ a.csrs.wide
step_same a (Lui rd imm) bits read = refl
step_same a (Auipc rd imm) bits read = refl
step_same a (Jal rd imm) bits read = refl
step_same a (Jalr rd rs1 imm) bits read = refl
step_same a (Branch cond rs1 rs2 imm) bits read = refl
step_same a (LoadOf width signed rd rs1 imm) bits read = refl
step_same a (StoreOf width rs1 rs2 imm) bits read = refl
step_same a (AluImm op word rd rs1 imm) bits read = refl
step_same a (Alu op word rd rs1 rs2) bits read = refl
step_same a (Fence fm pred succ) bits read = refl
step_same a FenceI bits read = refl
step_same a (Lr width aq rl rd rs1) bits read = refl
step_same a (Sc width aq rl rd rs1 rs2) bits read = refl
step_same a (Amo op width aq rl rd rs1 rs2) bits read = refl
step_same a (Csr op number rd source immediate) bits read = csrs_same a number op (csr_operand a source immediate) (writes_csr op source) rd read
step_same a Ecall bits read = refl
step_same a Ebreak bits read = refl
step_same a Sret bits read = refl
step_same a Mret bits read = refl
step_same a Wfi bits read = refl
step_same a (SfenceVma rs1 rs2) bits read = refl

instruction_same : (a : Arch) (bits found : ℕ) → (after_instruction a bits found).csrs.wide ≡ a.csrs.wide
instruction_same a bits found = by_meaning (meaning_of bits)
  where
    by_meaning : (o : Option Instr) → (option_map_or (λ i. step_of a i bits (value_in (answer_to a (plan_of a i bits) found))) o a).csrs.wide ≡ a.csrs.wide
    by_meaning None = refl
    by_meaning (Some i) = step_same a i bits (value_in (answer_to a (plan_of a i bits) found))

body_same : (a : Arch) (body : Body) → (after_body a body).csrs.wide ≡ a.csrs.wide
body_same a (Commit retire) = instruction_same a retire.bits retire.value
body_same a (Trap pc bits cause tval) = if_same (trap_mode a.csrs a.mode cause == SUPERVISOR) _ _ a.csrs refl refl
body_same a (Regs pc x) = refl
body_same a (CsrsOf mode v) = refl
body_same a (Load retire at paddr) = instruction_same a retire.bits retire.value
body_same a (Store pc bits paddr value) = instruction_same a bits value
body_same a (Atomic retire paddr width wrote new) = instruction_same a retire.bits retire.value
body_same a (Drain line mask count bytes) = refl
body_same a (Refill line bytes) = refl
body_same a Beat = refl

-- ---- after all records

pub wide_after : (a : Arch) (rs : List Record) → (state_from a rs).csrs.wide ≡ a.csrs.wide
wide_after a [] = refl
wide_after a (r ∷ rs) = wide_after (after_record a r) rs ∙ body_same a r.body

pub hart_after : (a : Arch) (rs : List Record) → (state_from a rs).hart ≡ a.hart
hart_after a [] = refl
hart_after a (r ∷ rs) = hart_after (after_record a r) rs ∙ hart_stays a r.body

-- ---- of what stands for a setting

pub of_its_setting : (h : HartView) (s : Setting) → HartStands h s → IsOfSetting h s
of_its_setting h s stands = record {
  number = ap (λ (a : Arch). a.hart) stands.arch ∙ hart_after (start_of s.hart s.wide) s.before;
  wide = ap (λ (a : Arch). a.csrs.wide) stands.arch ∙ wide_after (start_of s.hart s.wide) s.before;
}
