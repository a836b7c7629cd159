use Rattle.std.proofs.Common.{ℕ, ◌≡◌, ◌≤◌, ◌%◌, ◌==◌, Bool, true, false, Option, Some, None, Result, Ok, Err, IsSomeAnd, if◌then◌else◌, refl, sym, ap, subst, ◌∙◌, arith}
use Rattle.std.specs.Prelude.{IfSome, option_and_then}
use Rattle.dt_checks.proofs.Retired.{passed_plan}
use Rattle.dt_loads.proofs.Lines.{narrow}
use Rattle.dt_checks.specs.declared.starting.Started.{Started}
use Rattle.dt_checks.specs.Fetching.{fetch_check}
use Rattle.dt_checks.specs.Retiring.{due_tag, meaning_check, retire_check}
use Rattle.dt_checks.specs.Starting.{fetched_check, started_check}
use Rattle.dt_decode.specs.declared.instructions.Instr.{Instr}
use Rattle.dt_decode.specs.declared.instructions.Instr.TheVariants.{Load, Store}
use Rattle.dt_decode.specs.Decoded.{IsDecoded}
use Rattle.dt_decode.specs.Table.{instr_of}
use Rattle.dt_record.specs.declared.reasons.Reason.TheVariants.{Pc}
use Rattle.dt_reference.specs.HartActions.{width_of}
use Rattle.dt_reference.specs.Meaning.{meaning_of}
use Rattle.dt_rules.specs.declared.misfits.Misfit.{Misfit}
use Rattle.dt_rules.specs.Checks.{and_then, check, misfit}
use Rattle.dt_step.specs.declared.plans.Planned.{Planned}
use Rattle.dt_step.specs.declared.state.Arch.{Arch}
use Rattle.dt_step.specs.Plans.{plan_of}
use Rattle.dt_judge.specs.Grounds.{Grounds}
use Rattle.dt_judge.specs.Kinds.{started}
use Rattle.dt_judge.proofs.Widths.{means_width, width_in}

-- What is known of an instruction that retires, from the checks alone.

check_ok : {A : Type 0} (holds : Bool) (refused : Misfit) (later : Result A Misfit) (x : A) → check holds refused later ≡ Ok x → later ≡ Ok x
check_ok true refused later x is = is
check_ok false refused later x is = absurd (let no : Err refused ≡ Ok x = is in cc)

and_then_ok : {A B : Type 0} (r : Result A Misfit) (later : A → Result B Misfit) (y : B) → and_then r later ≡ Ok y → (x : A) × (r ≡ Ok x) × (later x ≡ Ok y)
and_then_ok (Ok x) later y is = (x, refl, is)
and_then_ok (Err refused) later y is = absurd (let no : Err refused ≡ Ok y = is in cc)

-- an instruction that retires in a record with this tag, by this plan
pub record IsPlannedBy (a : Arch) (bits tag : ℕ) (plan : Planned) : Type 0 where
  pub means : IsSomeAnd (meaning_of bits) (λ i. plan ≡ plan_of a i bits)
  pub due : due_tag plan ≡ tag

meant : (a : Arch) (bits tag : ℕ) (o : Option Instr) (p : Planned) → meaning_check a bits tag o ≡ Ok p → IsSomeAnd o (λ i. p ≡ plan_of a i bits) × (due_tag p ≡ tag)
meant a bits tag None p is = absurd (cc is)
meant a bits tag (Some i) p is = let held = passed_plan (plan_of a i bits) tag p is in (sym held.0, ap due_tag (sym held.0) ∙ held.1)

pub started_is_planned : (g : Grounds) (pc bits tag : ℕ) (st : Started) → started g pc bits tag ≡ Ok st → IsPlannedBy g.arch bits tag st.plan
started_is_planned g pc bits tag st is =
    let fetched = check_ok (pc == g.arch.pc) (misfit Pc g.arch.pc pc) (fetched_check g.image g.writes g.fetch g.arch bits tag) st is in
    let stale = and_then_ok (fetch_check g.image g.writes g.fetch g.arch bits) (started_check g.arch bits tag) st fetched in
    let plan = and_then_ok (retire_check g.arch bits tag) (λ plan. Ok (record { plan = plan; stale = stale.0 })) st stale.2 in
    let its : plan.0 ≡ st.plan = same plan.0 stale.0 st plan.2 in
    let held = meant g.arch bits tag (meaning_of bits) plan.0 plan.1 in
    subst (λ p. IsPlannedBy g.arch bits tag p) its (record { means = held.0; due = held.1 })
  where
    same : (plan : Planned) (stale : Bool) (st : Started) → ◌≡◌ {A = Result Started Misfit} (Ok (record { plan = plan; stale = stale })) (Ok st) → plan ≡ st.plan
    same plan stale st is = ap (λ (s : Started). s.plan) (let both : record { plan = plan; stale = stale } ≡ st = cc in both)

-- ---- widths

-- what bits mean is well formed
decoded : ((bits : ℕ) → IfSome (instr_of bits) IsDecoded) → (bits : ℕ) → IfSome (meaning_of bits) IsDecoded
decoded law bits = by_length (bits % 4 == 3) _
  where
    by_length : (long : Bool) (o : Option ℕ) → IfSome (if long then instr_of bits else option_and_then instr_of o) IsDecoded
    by_length true o = law bits
    by_length false None = tt
    by_length false (Some word) = law word

narrow_instr : (i : Instr) → IsDecoded i → width_of (Some i) ≤ 8
narrow_instr (Load width signed rd rs1 imm) fine = narrow width fine.0
narrow_instr (Store width rs1 rs2 imm) fine = narrow width fine.0
narrow_instr i fine = omega arith

narrow_meaning : (o : Option Instr) → IfSome o IsDecoded → width_of o ≤ 8
narrow_meaning None fine = omega arith
narrow_meaning (Some i) fine = narrow_instr i fine

pub planned_width : (a : Arch) (bits tag : ℕ) (plan : Planned) → IsPlannedBy a bits tag plan → (due_tag plan ≡ 1 → ⊥) → width_in plan ≡ width_of (meaning_of bits)
planned_width a bits tag plan planned access = means_width a bits plan (meaning_of bits) planned.means access

pub few_planned : ((bits : ℕ) → IfSome (instr_of bits) IsDecoded) → (a : Arch) (bits tag : ℕ) (plan : Planned) → IsPlannedBy a bits tag plan → (due_tag plan ≡ 1 → ⊥) → width_in plan ≤ 8
few_planned law a bits tag plan planned access =
    let few = narrow_meaning (meaning_of bits) (decoded law bits) in
    let same = planned_width a bits tag plan planned access in
    omega arith
