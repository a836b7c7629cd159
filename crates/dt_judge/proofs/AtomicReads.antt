use Rattle.std.proofs.Common.{ℕ, ◌≡◌, ◌==◌, ◌||◌, Bool, true, false, Option, Some, None, List, Result, Ok, Err, IsTrue, IsSomeAnd, refl, sym, ap, subst, ◌∙◌, inl, inr, arith}
use Rattle.std.specs.Prelude.{IfOk}
use Rattle.std.specs.Option.{option_map_or}
use Rattle.std.proofs.lemmas.Bool.{cases_Bool}
use Rattle.dt_access.specs.Translating.{atomic_access}
use Rattle.dt_atomics.specs.declared.accesses.AtomicAccess.{AtomicAccess}
use Rattle.dt_atomics.specs.Answers.{IsAtomicAnswer}
use Rattle.dt_atomics.specs.Asking.{reads}
use Rattle.dt_atomics.specs.Grounds.{AtomicGrounds}
use Rattle.dt_atomics.specs.Laws.{AllowedAtomicsAreExact}
use Rattle.dt_checks.specs.Retiring.{IsRetired, due_tag}
use Rattle.dt_decode.specs.declared.instructions.Instr.{Instr}
use Rattle.dt_decode.specs.declared.instructions.Instr.TheVariants.{Lui, Auipc, Jal, Jalr, Branch, Load, Store, AluImm, Alu, Fence, FenceI, Lr, Sc, Amo, Csr, Ecall, Ebreak, Sret, Mret, Wfi, SfenceVma}
use Rattle.dt_hart.specs.Taking.{ReadsAtKey}
use Rattle.dt_rules.specs.declared.misfits.Passed.{Passed}
use Rattle.dt_record.specs.declared.keys.Key.{Key}
use Rattle.dt_record.specs.declared.origins.Sources.{Sources}
use Rattle.dt_record.specs.declared.records.Body.TheVariants as body
use Rattle.dt_record.specs.declared.records.Retire.{Retire}
use Rattle.dt_record.specs.declared.writes.Write.{Write}
use Rattle.dt_record.specs.Actions.{Action}
use Rattle.dt_reference.specs.HartActions.{body_action, reads_memory}
use Rattle.dt_reference.specs.Meaning.{meaning_of}
use Rattle.dt_rules.specs.declared.misfits.Misfit.{Misfit}
use Rattle.dt_step.specs.declared.plans.AtomicOp.{AtomicOp}
use Rattle.dt_step.specs.declared.plans.Planned.{Planned}
use Rattle.dt_step.specs.declared.plans.Planned.TheVariants.{NeedsAtomic, Raises}
use Rattle.dt_step.specs.declared.state.Arch.{Arch}
use Rattle.dt_step.specs.Causes.{due_cause, due_tval}
use Rattle.dt_step.specs.Plans.{legal_plan, pages_of, plan_of}
use Rattle.dt_judge.specs.declared.atomics.Said.{Said}
use Rattle.dt_judge.specs.Grounds.{Grounds}
use Rattle.dt_judge.specs.Keeping.{IsAccessedBy, IsReadIn}
use Rattle.dt_judge.specs.Kinds.{Accesses, AtomicBy, access_in, accessed, with_p}
use Rattle.dt_judge.proofs.Leading.{leads_ok}
use Rattle.dt_judge.proofs.Placing.{differs, only_atomic}

-- How an atomic is found, and where it reads.

-- an atomic whose address is allowed, by its plan
pub atomic_by : (g : Grounds) (key : Key) (stale : Bool) (plan : Planned) (va width : ℕ) (op : AtomicOp) (aq rl : Bool) (rd operand : ℕ) (said : Said) (older p : Bool) (f : Result Passed Misfit)
    → plan ≡ NeedsAtomic va width op aq rl rd operand → Ok older ≡ accessed g (atomic_access op) true va said.paddr → (stale || older) ≡ p
    → Accesses g key p (access_in op width rl operand said) f → AtomicBy g key stale plan said f
atomic_by g key stale plan va width op aq rl rd operand said older p f planned allowed is accesses =
    subst (λ q. AtomicBy g key stale q said f) (sym planned)
    (leads_ok (accessed g (atomic_access op) true va said.paddr) older
    (λ o found. Accesses g key (stale || o) (access_in op width rl operand said) found) f (sym allowed)
    (subst (λ q. Accesses g key q (access_in op width rl operand said) f) (sym is) accesses))

-- an LR or AMO that is allowed has its bytes from the writes with smaller keys
pub reads_at_key : AllowedAtomicsAreExact → (g : AtomicGrounds) (key : Key) (x : AtomicAccess) (passed : Passed) → IsAtomicAnswer g key x (Ok passed) → IsTrue (reads x.op)
    → ReadsAtKey g.writes key x.paddr x.said_width passed.sources
reads_at_key law g key x passed answer reading = λ i within.
    let exact = law g key x passed answer in
    let width : x.said_width ≡ x.width = exact.width in
    exact.origins reading i (omega arith)

-- the letter P leaves the sources
pub sources_stay : (Q : Sources → Type 0) (p : Bool) (found r : Result Passed Misfit) → r ≡ with_p p found → IfOk found (λ x. Q x.sources) → IfOk r (λ x. Q x.sources)
sources_stay Q p (Ok x) r is holds = subst (λ q. IfOk q (λ y. Q y.sources)) (sym is) holds
sources_stay Q p (Err refused) r is holds = subst (λ q. IfOk q (λ y. Q y.sources)) (sym is) tt

-- ---- by the bits

abbrev pub reads_in : Planned → Bool
reads_in (NeedsAtomic va width op aq rl rd operand) = reads op
reads_in plan = false

pages_read : (a : Arch) (rs1 rs2 : ℕ) → reads_in (pages_of a rs1 rs2) ≡ false
pages_read a rs1 rs2 = elim (cases_Bool (rs2 == 0)) [
  | inl all ↦ elim (cases_Bool (rs1 == 0)) [ inl every ↦ rw (all, every) refl | inr one ↦ rw (all, one) refl ]
  | inr space ↦ rw space refl
]

legal_reads : (a : Arch) (i : Instr) (bits : ℕ) → reads_in (legal_plan a i bits) ≡ reads_memory (Some i)
legal_reads a (SfenceVma rs1 rs2) bits = pages_read a rs1 rs2
legal_reads a (Lui rd imm) bits = refl
legal_reads a (Auipc rd imm) bits = refl
legal_reads a (Jal rd imm) bits = refl
legal_reads a (Jalr rd rs1 imm) bits = refl
legal_reads a (Branch cond rs1 rs2 imm) bits = refl
legal_reads a (Load width signed rd rs1 imm) bits = refl
legal_reads a (Store width rs1 rs2 imm) bits = refl
legal_reads a (AluImm op word rd rs1 imm) bits = refl
legal_reads a (Alu op word rd rs1 rs2) bits = refl
legal_reads a (Fence fm pred succ) bits = refl
legal_reads a FenceI bits = refl
legal_reads a (Lr width aq rl rd rs1) bits = refl
legal_reads a (Sc width aq rl rd rs1 rs2) bits = refl
legal_reads a (Amo op width aq rl rd rs1 rs2) bits = refl
legal_reads a (Csr op number rd source immediate) bits = refl
legal_reads a Ecall bits = refl
legal_reads a Ebreak bits = refl
legal_reads a Sret bits = refl
legal_reads a Mret bits = refl
legal_reads a Wfi bits = refl

abbrev by_cause : Arch → Instr → ℕ → Option ℕ → Planned
by_cause a i bits due = option_map_or (λ cause. Raises cause (due_tval a i bits cause)) due (legal_plan a i bits)

by_cause_reads : (a : Arch) (i : Instr) (bits : ℕ) (due : Option ℕ) → (due_tag (by_cause a i bits due) ≡ 1 → ⊥) → reads_in (by_cause a i bits due) ≡ reads_memory (Some i)
by_cause_reads a i bits None access = legal_reads a i bits
by_cause_reads a i bits (Some cause) access = absurd (access refl)

means_reads : (a : Arch) (bits : ℕ) (plan : Planned) (o : Option Instr) → IsSomeAnd o (λ i. plan ≡ plan_of a i bits) → (due_tag plan ≡ 1 → ⊥) → reads_in plan ≡ reads_memory o
means_reads a bits plan None means access = absurd means
means_reads a bits plan (Some i) means access = ap reads_in means ∙ by_cause_reads a i bits (due_cause a i) (λ one. access (ap due_tag means ∙ one))

-- an atomic that had its bytes by its plan had them by its record
pub accessed_is_read : (image : List ℕ) (writes : List Write) (actions : List Action) (moments : ℕ → ℕ) (key : Key) (a : Arch) (retire : Retire) (paddr width : ℕ) (wrote : Bool) (new : ℕ) (plan : Planned) (sources : Sources)
    → IsRetired a retire.bits 7 plan → IsAccessedBy writes plan key paddr width sources → IsReadIn image writes actions moments (body_action key (body.Atomic retire paddr width wrote new)) sources
accessed_is_read image writes actions moments key a retire paddr width wrote new (NeedsAtomic va planned op aq rl rd operand) sources retired read = λ reading.
    read (means_reads a retire.bits (NeedsAtomic va planned op aq rl rd operand) (meaning_of retire.bits) retired.is_planned (differs 7 1 refl) ∙ reading)
accessed_is_read image writes actions moments key a retire paddr width wrote new plan sources retired read = absurd (only_atomic plan retired.is_due (λ va w op aq rl rd operand is. cc))
