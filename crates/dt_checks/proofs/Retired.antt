-- What holds of a plan that the check of its kind lets through.
use Rattle.std.proofs.Common.{◌≡◌, ℕ, Bool, true, false, Option, Some, None, Ok, Err, Result, IfOk, IsTrue, refl, sym, ap, subst, eqb-true}
use Rattle.std.specs.Option.{option_map_or}
use Rattle.dt_reference.proofs.Retiring.{some_and}
use Rattle.dt_decode.specs.declared.instructions.Instr.{Instr}
use Rattle.dt_record.specs.Lawful.{is_instruction}
use Rattle.dt_reference.specs.Meaning.{meaning_of}
use Rattle.dt_rules.specs.declared.misfits.Misfit.{Misfit}
use Rattle.dt_rules.specs.Checks.{check}
use Rattle.dt_step.specs.declared.plans.Planned.{Planned}
use Rattle.dt_step.specs.declared.plans.Planned.TheVariants.{Done, NeedsLoad, NeedsStore, NeedsAtomic, Csr, Returns, Fences, FenceI, FencesPages, Raises}
use Rattle.dt_step.specs.declared.state.Arch.{Arch}
use Rattle.dt_step.specs.Alignment.{AccessesAligned}
use Rattle.dt_step.specs.Causes.{due_cause, due_tval}
use Rattle.dt_step.specs.Plans.{legal_plan, plan_of}
use Rattle.dt_checks.specs.Retiring.{IsRetired, due_tag, plan_check, raised}

pub checked : (holds : Bool) (refused : Misfit) (plan p : Planned) → check holds refused (Ok plan) ≡ Ok p → (holds ≡ true) × (plan ≡ p)
checked true refused plan p passed = (refl, let same : plan ≡ p = cc in same)
checked false refused plan p passed = absurd (let no : Err refused ≡ Ok p = passed in cc)

pub passed_plan : (plan : Planned) (tag : ℕ) (p : Planned) → plan_check plan tag ≡ Ok p → (plan ≡ p) × (due_tag plan ≡ tag)
passed_plan (Raises cause tval) tag p passed = absurd (let no : Err (raised cause) ≡ Ok p = passed in cc)
passed_plan (Done rd value next) tag p passed = let held = checked _ _ _ p passed in (held.1, eqb-true _ _ held.0)
passed_plan (NeedsLoad va width signed rd) tag p passed = let held = checked _ _ _ p passed in (held.1, eqb-true _ _ held.0)
passed_plan (NeedsStore va width value) tag p passed = let held = checked _ _ _ p passed in (held.1, eqb-true _ _ held.0)
passed_plan (NeedsAtomic va width op aq rl rd operand) tag p passed = let held = checked _ _ _ p passed in (held.1, eqb-true _ _ held.0)
passed_plan (Csr number op operand reads writes rd) tag p passed = let held = checked _ _ _ p passed in (held.1, eqb-true _ _ held.0)
passed_plan (Returns from_m) tag p passed = let held = checked _ _ _ p passed in (held.1, eqb-true _ _ held.0)
passed_plan (Fences ww wr rr) tag p passed = let held = checked _ _ _ p passed in (held.1, eqb-true _ _ held.0)
passed_plan FenceI tag p passed = let held = checked _ _ _ p passed in (held.1, eqb-true _ _ held.0)
passed_plan (FencesPages va all) tag p passed = let held = checked _ _ _ p passed in (held.1, eqb-true _ _ held.0)

module _ (a : Arch) (bits tag : ℕ) (i : Instr) (well_spelled : IsTrue (is_instruction bits)) (means : meaning_of bits ≡ Some i)
    (aligned : AccessesAligned (plan_of a i bits)) where
  -- the plan of an instruction that raises a cause, or none
  abbrev by_cause : Option ℕ → Planned
  by_cause due = option_map_or (λ cause. Raises cause (due_tval a i bits cause)) due (legal_plan a i bits)

  legal_passed : (p : Planned) → due_cause a i ≡ None → legal_plan a i bits ≡ p → due_tag (legal_plan a i bits) ≡ tag → IsRetired a bits tag p
  legal_passed p none same due =
      let P : Planned → Type 0 = λ q. IsRetired a bits tag q in
      let planned : legal_plan a i bits ≡ plan_of a i bits = ap by_cause (sym none) in
      subst P same (record {
        can_retire = record { instruction = well_spelled; legal = some_and (meaning_of bits) i (λ j. due_cause a j ≡ None) means none };
        is_planned = some_and (meaning_of bits) i (λ j. legal_plan a i bits ≡ plan_of a j bits) means planned;
        is_aligned = subst (λ (q : Planned). AccessesAligned q) (sym planned) aligned;
        is_due = due;
      })

  passed : (p : Planned) (due : Option ℕ) → due_cause a i ≡ due → plan_check (by_cause due) tag ≡ Ok p → IsRetired a bits tag p
  passed p None none is =
      let held = passed_plan (legal_plan a i bits) tag p is in
      legal_passed p none held.0 held.1
  passed p (Some cause) some is = absurd (let no : Err (raised cause) ≡ Ok p = is in cc)

  pub IsRetired-passed : (r : Result Planned Misfit) → r ≡ plan_check (plan_of a i bits) tag → IfOk r (IsRetired a bits tag)
  IsRetired-passed (Ok p) is = passed p (due_cause a i) refl (sym is)
  IsRetired-passed (Err refused) is = tt
