-- a plan that is finished is the step of its instruction
use Rattle.std.proofs.Common.{◌≡◌, ℕ, refl, ◌∙◌, ap, subst, true, false, Option, Some, None, nat_eq, if◌then◌else◌}
use Rattle.std.specs.Option.{option_map_or}
use Rattle.std.proofs.lemmas.Bool.{cond_both}
use Rattle.dt_decode.specs.declared.instructions.Instr.{Instr}
use Rattle.dt_decode.specs.declared.instructions.Instr.TheVariants.{SfenceVma}
use Rattle.dt_step.specs.declared.plans.Answer.{Answer}
use Rattle.dt_step.specs.declared.plans.Planned.{Planned}
use Rattle.dt_step.specs.declared.plans.Planned.TheVariants.{Raises, FencesPages}
use Rattle.dt_step.specs.declared.state.Arch.{Arch}
use Rattle.dt_step.specs.State.{register, further}
use Rattle.dt_step.specs.Causes.{due_cause, due_tval}
use Rattle.dt_step.specs.Plans.{legal_plan, plan_of, pages_of, length_of, IsFinishable, value_in}
use Rattle.dt_step.specs.Steps.{finish_of, step_of}

-- a fence of pages is finished by going on, whatever its pages are
pages_step : (a : Arch) (rs1 rs2 len : ℕ) (answer : Answer) → finish_of a len (pages_of a rs1 rs2) answer ≡ further a len
pages_step a rs1 rs2 len answer =
    cond_both (nat_eq rs2 0) (if nat_eq rs1 0 then FencesPages None true else FencesPages (Some (register a rs1)) false) (FencesPages None false)
    (λ p. finish_of a len p answer ≡ further a len)
    (λ _. cond_both (nat_eq rs1 0) (FencesPages None true) (FencesPages (Some (register a rs1)) false) (λ p. finish_of a len p answer ≡ further a len) (λ _. refl) (λ _. refl))
    (λ _. refl)

-- the plan of an instruction that raises nothing, finished
legal_step : (a : Arch) (i : Instr) (bits : ℕ) (answer : Answer) → finish_of a (length_of bits) (legal_plan a i bits) answer ≡ step_of a i bits (value_in answer)
legal_step a (SfenceVma rs1 rs2) bits answer = pages_step a rs1 rs2 (length_of bits) answer
legal_step a i bits answer = refl

-- a plan that can be finished is that of an instruction that raises nothing
finishable_step : (a : Arch) (i : Instr) (bits : ℕ) (answer : Answer) (due : Option ℕ) → IsFinishable (option_map_or (λ cause. Raises cause (due_tval a i bits cause)) due (legal_plan a i bits)) → finish_of a (length_of bits) (option_map_or (λ cause. Raises cause (due_tval a i bits cause)) due (legal_plan a i bits)) answer ≡ step_of a i bits (value_in answer)
finishable_step a i bits answer None h = legal_step a i bits answer
finishable_step a i bits answer (Some cause) h = absurd h

pub plan_step : (a : Arch) (i : Instr) (bits len : ℕ) (p : Planned) (answer : Answer) → IsFinishable p → p ≡ plan_of a i bits → len ≡ length_of bits → finish_of a len p answer ≡ step_of a i bits (value_in answer)
plan_step a i bits len p answer h e l =
    let P : Planned → Type 0 = λ q. IsFinishable q in
    ap (λ n. finish_of a n p answer) l ∙ ap (λ q. finish_of a (length_of bits) q answer) e ∙ finishable_step a i bits answer (due_cause a i) (subst P e h)
