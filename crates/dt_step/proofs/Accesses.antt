-- Where an instruction raises nothing by itself, the access that it plans is aligned.
use Rattle.std.proofs.Common.{◌≡◌, ℕ, ◌==◌, Bool, true, false, if◌then◌else◌, Some, None, refl, eqb-true}
use Rattle.dt_decode.specs.declared.instructions.Instr.{Instr}
use Rattle.dt_decode.specs.declared.instructions.Instr.TheVariants.{Lui, Auipc, Jal, Jalr, Branch, Load, Store, AluImm, Alu, Fence, FenceI, Lr, Sc, Amo, Csr, Ecall, Ebreak, Sret, Mret, Wfi, SfenceVma}
use Rattle.dt_decode.specs.Decoded.{IsDecoded}
use Rattle.dt_step.specs.declared.plans.Planned.TheVariants.{FencesPages}
use Rattle.dt_step.specs.declared.state.Arch.{Arch}
use Rattle.dt_step.specs.Causes.{due_cause, unless}
use Rattle.dt_step.specs.Plans.{legal_plan}
use Rattle.dt_step.specs.State.{register}
use Rattle.dt_step.specs.Alignment.{AccessesAligned}

unless-none : (ok : Bool) (cause : ℕ) → unless ok cause ≡ None → ok ≡ true
unless-none true cause none = refl
unless-none false cause none = absurd (let no : Some cause ≡ None = none in cc)

pages : (a : Arch) (rs1 : ℕ) (every one : Bool)
    → AccessesAligned (if every then (if one then FencesPages None true else FencesPages (Some (register a rs1)) false) else FencesPages None false)
pages a rs1 true true = tt
pages a rs1 true false = tt
pages a rs1 false one = tt

pub legal_plan-aligned : (a : Arch) (i : Instr) (bits : ℕ) → IsDecoded i → due_cause a i ≡ None → AccessesAligned (legal_plan a i bits)
legal_plan-aligned a (Load width signed rd rs1 imm) bits decoded none =
    record { bytes = decoded.0; multiple = eqb-true _ _ (unless-none _ _ none) }
legal_plan-aligned a (Store width rs1 rs2 imm) bits decoded none =
    record { bytes = decoded.0; multiple = eqb-true _ _ (unless-none _ _ none) }
legal_plan-aligned a (Lr width aq rl rd rs1) bits decoded none =
    record { bytes = decoded.0; multiple = eqb-true _ _ (unless-none _ _ none) }
legal_plan-aligned a (Sc width aq rl rd rs1 rs2) bits decoded none =
    record { bytes = decoded.0; multiple = eqb-true _ _ (unless-none _ _ none) }
legal_plan-aligned a (Amo op width aq rl rd rs1 rs2) bits decoded none =
    record { bytes = decoded.0; multiple = eqb-true _ _ (unless-none _ _ none) }
legal_plan-aligned a (SfenceVma rs1 rs2) bits decoded none = pages a rs1 (rs2 == 0) (rs1 == 0)
legal_plan-aligned a (Lui rd imm) bits decoded none = tt
legal_plan-aligned a (Auipc rd imm) bits decoded none = tt
legal_plan-aligned a (Jal rd imm) bits decoded none = tt
legal_plan-aligned a (Jalr rd rs1 imm) bits decoded none = tt
legal_plan-aligned a (Branch cond rs1 rs2 imm) bits decoded none = tt
legal_plan-aligned a (AluImm op word rd rs1 imm) bits decoded none = tt
legal_plan-aligned a (Alu op word rd rs1 rs2) bits decoded none = tt
legal_plan-aligned a (Fence fm pred succ) bits decoded none = tt
legal_plan-aligned a FenceI bits decoded none = tt
legal_plan-aligned a (Csr op number rd source immediate) bits decoded none = tt
legal_plan-aligned a Ecall bits decoded none = tt
legal_plan-aligned a Ebreak bits decoded none = tt
legal_plan-aligned a Sret bits decoded none = tt
legal_plan-aligned a Mret bits decoded none = tt
legal_plan-aligned a Wfi bits decoded none = tt
