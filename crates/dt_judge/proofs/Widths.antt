use Rattle.std.proofs.Common.{ℕ, ◌≡◌, ◌%◌, ◌==◌, ◌&&◌, ◌||◌, Bool, true, false, not, Option, Some, None, IsTrue, IsSomeAnd, refl, ap, subst, ◌∙◌, inl, inr}
use Rattle.std.specs.Option.{option_map_or}
use Rattle.std.proofs.lemmas.Bool.{cases_Bool}
use Rattle.dt_alu.specs.Extend.{IsAccessWidth}
use Rattle.dt_checks.specs.Retiring.{IsRetired, due_tag}
use Rattle.dt_decode.specs.declared.instructions.Instr.{Instr}
use Rattle.dt_decode.specs.declared.instructions.Instr.TheVariants.{Lui, Auipc, Jal, Jalr, Branch, Load, Store, AluImm, Alu, Fence, FenceI, Lr, Sc, Amo, Csr, Ecall, Ebreak, Sret, Mret, Wfi, SfenceVma}
use Rattle.dt_hart.specs.Taking.{is_placed_at}
use Rattle.dt_record.specs.Lawful.{is_in_ram}
use Rattle.dt_reference.specs.HartActions.{width_of}
use Rattle.dt_reference.specs.Meaning.{meaning_of}
use Rattle.dt_step.specs.declared.plans.Planned.{Planned}
use Rattle.dt_step.specs.declared.plans.Planned.TheVariants.{NeedsLoad, NeedsStore, Raises}
use Rattle.dt_step.specs.declared.state.Arch.{Arch}
use Rattle.dt_step.specs.Alignment.{IsAligned}
use Rattle.dt_step.specs.Causes.{due_cause, due_tval}
use Rattle.dt_step.specs.Plans.{legal_plan, pages_of, plan_of}
use Rattle.dt_stores.specs.Places.{is_store_width}

-- The width of a load or a store is that of its plan.

abbrev pub width_in : Planned → ℕ
width_in (NeedsLoad va width signed rd) = width
width_in (NeedsStore va width value) = width
width_in plan = 0

pages_width : (a : Arch) (rs1 rs2 : ℕ) → width_in (pages_of a rs1 rs2) ≡ 0
pages_width a rs1 rs2 = elim (cases_Bool (rs2 == 0)) [
  | inl all ↦ elim (cases_Bool (rs1 == 0)) [ inl every ↦ rw (all, every) refl | inr one ↦ rw (all, one) refl ]
  | inr space ↦ rw space refl
]

legal_width : (a : Arch) (i : Instr) (bits : ℕ) → width_in (legal_plan a i bits) ≡ width_of (Some i)
legal_width a (SfenceVma rs1 rs2) bits = pages_width a rs1 rs2
legal_width a (Lui rd imm) bits = refl
legal_width a (Auipc rd imm) bits = refl
legal_width a (Jal rd imm) bits = refl
legal_width a (Jalr rd rs1 imm) bits = refl
legal_width a (Branch cond rs1 rs2 imm) bits = refl
legal_width a (Load width signed rd rs1 imm) bits = refl
legal_width a (Store width rs1 rs2 imm) bits = refl
legal_width a (AluImm op word rd rs1 imm) bits = refl
legal_width a (Alu op word rd rs1 rs2) bits = refl
legal_width a (Fence fm pred succ) bits = refl
legal_width a FenceI bits = refl
legal_width a (Lr width aq rl rd rs1) bits = refl
legal_width a (Sc width aq rl rd rs1 rs2) bits = refl
legal_width a (Amo op width aq rl rd rs1 rs2) bits = refl
legal_width a (Csr op number rd source immediate) bits = refl
legal_width a Ecall bits = refl
legal_width a Ebreak bits = refl
legal_width a Sret bits = refl
legal_width a Mret bits = refl
legal_width a Wfi bits = refl

-- the plan of an instruction that raises a cause, or none
abbrev by_cause : Arch → Instr → ℕ → Option ℕ → Planned
by_cause a i bits due = option_map_or (λ cause. Raises cause (due_tval a i bits cause)) due (legal_plan a i bits)

by_cause_width : (a : Arch) (i : Instr) (bits : ℕ) (due : Option ℕ) → (due_tag (by_cause a i bits due) ≡ 1 → ⊥) → width_in (by_cause a i bits due) ≡ width_of (Some i)
by_cause_width a i bits None access = legal_width a i bits
by_cause_width a i bits (Some cause) access = absurd (access refl)

pub means_width : (a : Arch) (bits : ℕ) (plan : Planned) (o : Option Instr) → IsSomeAnd o (λ i. plan ≡ plan_of a i bits) → (due_tag plan ≡ 1 → ⊥) → width_in plan ≡ width_of o
means_width a bits plan None means access = absurd means
means_width a bits plan (Some i) means access =
    ap width_in means ∙ by_cause_width a i bits (due_cause a i) (λ one. access (ap due_tag means ∙ one))

-- of an instruction that retires as an access
pub retired_width : (a : Arch) (bits tag : ℕ) (plan : Planned) → IsRetired a bits tag plan → (due_tag plan ≡ 1 → ⊥) → width_in plan ≡ width_of (meaning_of bits)
retired_width a bits tag plan retired access = means_width a bits plan (meaning_of bits) retired.is_planned access

is_width : (width : ℕ) → IsAccessWidth width → is_store_width width ≡ true
is_width width (inl one) = rw one refl
is_width width (inr (inl two)) = rw two refl
is_width width (inr (inr (inl four))) = rw four refl
is_width width (inr (inr (inr eight))) = rw eight refl

is_zero : (n : ℕ) → n ≡ 0 → (n == 0) ≡ true
is_zero n zero = rw zero refl

or_true : (b : Bool) → IsTrue (b || true)
or_true true = refl
or_true false = refl

-- an aligned access is placed
pub aligned_is_placed : (bits paddr width : ℕ) → width ≡ width_of (meaning_of bits) → IsAligned paddr width → IsTrue (is_placed_at bits paddr)
aligned_is_placed bits paddr width is aligned =
    subst (λ w. IsTrue (not (is_in_ram paddr) || (is_store_width w && (paddr % w == 0)))) is
    (rw (is_width width aligned.bytes, is_zero (paddr % width) aligned.multiple) (or_true (not (is_in_ram paddr))))
