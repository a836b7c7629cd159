-- Lists of writes that begin alike give the same checks of a trap.
use Rattle.std.proofs.Common.{◌≡◌, ℕ, ◌==◌, Bool, true, false, if◌then◌else◌, List, take, Option, Some, None, option_and_then, Result, Ok, Err, refl, ◌∙◌, ap, arith}
use Rattle.dt_access.specs.Translating.{atomic_access, walk_args}
use Rattle.dt_alu.specs.Words.{sum_of}
use Rattle.dt_record.specs.declared.reasons.Reason.TheVariants.{Pc}
use Rattle.dt_record.specs.declared.writes.Write.{Write}
use Rattle.dt_record.specs.Lawful.{is_fetch_fault}
use Rattle.dt_versions.specs.declared.moments.Span.{Span}
use Rattle.dt_walk.specs.declared.arguments.Access.TheVariants.{Fetch, Load, Store}
use Rattle.dt_walk.specs.declared.arguments.WalkAnswer.{WalkAnswer}
use Rattle.dt_walk.specs.declared.arguments.WalkArgs.{WalkArgs}
use Rattle.dt_translate.specs.Laws.{SameFirstWrites, SameWindows}
use Rattle.dt_translate.specs.Outcomes.{allowed_moment, outcome_at}
use Rattle.dt_step.specs.declared.plans.Planned.{Planned}
use Rattle.dt_step.specs.declared.plans.Planned.TheVariants.{NeedsLoad, NeedsStore, NeedsAtomic}
use Rattle.dt_step.specs.declared.state.Arch.{Arch}
use Rattle.dt_rules.specs.declared.misfits.Misfit.{Misfit}
use Rattle.dt_rules.specs.Checks.{misfit, check, and_then}
use Rattle.dt_checks.specs.declared.fetching.FetchSpans.{FetchSpans}
use Rattle.dt_checks.specs.Fetching.{fetch_check, first_half}
use Rattle.dt_checks.specs.Laws.{BeginAlike as FetchesBeginAlike, SameFetches, SameHalves}
use Rattle.dt_traps.specs.declared.traps.TrapSpans.{TrapSpans}
use Rattle.dt_traps.specs.Faults.{fault_answer, fault_check, fault_moment, fault_of}
use Rattle.dt_traps.specs.Instructions.{plan_check, planned}
use Rattle.dt_traps.specs.Laws.{BeginAlike, SameTraps}
use Rattle.dt_traps.specs.Traps.{cause_check, entry_check, execution_check, fetch_fault_check, first_half_check, instruction_check, is_first_half, is_interrupt, raised_after, second_fault_check}

-- the laws of the crates below
pub record Below : Type 0 where
  pub moments : SameFirstWrites
  pub windows : SameWindows
  pub halves : SameHalves
  pub fetches : SameFetches

-- equal checks, with what follows the same
and_then-same : {A B : Type 0} (r : Result A Misfit) (f g : A → Result B Misfit) → ((x : A) → f x ≡ g x) → and_then r f ≡ and_then r g
and_then-same (Ok x) f g same = same x
and_then-same (Err refused) f g same = refl

and_then-both : {A B : Type 0} (r s : Result A Misfit) (f g : A → Result B Misfit) → r ≡ s → ((x : A) → f x ≡ g x) → and_then r f ≡ and_then s g
and_then-both r s f g e same = and_then-same r f g same ∙ ap (λ q. and_then q g) e

-- equal branches
if-both : {A : Type 0} (b : Bool) (x y v w : A) → x ≡ v → y ≡ w → (if b then x else y) ≡ (if b then v else w)
if-both true x y v w e f = e
if-both false x y v w e f = f

moment-same : Below → (image : List ℕ) (ws vs : List Write) (window : Span) (args : WalkArgs) (ram_only : Bool) (fault : Option WalkAnswer)
    → take window.last ws ≡ take window.last vs
    → option_and_then (allowed_moment image ws window args ram_only) fault ≡ option_and_then (allowed_moment image vs window args ram_only) fault
moment-same below image ws vs window args ram_only None alike = refl
moment-same below image ws vs window args ram_only (Some wanted) alike =
    (below.windows image ws vs window window args alike alike).allowed ram_only wanted

outcome-same : Below → (image : List ℕ) (ws vs : List Write) (k : ℕ) (args : WalkArgs) (ram_only : Bool)
    → take k ws ≡ take k vs → outcome_at image ws k args ram_only ≡ outcome_at image vs k args ram_only
outcome-same below image ws vs k args ram_only alike = (below.moments image ws vs k k alike (omega arith)).outcomes args ram_only

fault-same : Below → (image : List ℕ) (ws vs : List Write) (window : Span) (args : WalkArgs) (ram_only : Bool) (cause : ℕ)
    → take window.last ws ≡ take window.last vs
    → fault_check image ws window args ram_only cause ≡ fault_check image vs window args ram_only cause
fault-same below image ws vs window args ram_only cause alike =
    ap (λ last. fault_answer window args last cause (fault_moment image ws window args ram_only cause)) (outcome-same below image ws vs window.last args ram_only alike)
    ∙ ap (fault_answer window args (outcome_at image vs window.last args ram_only) cause) (moment-same below image ws vs window args ram_only (fault_of args.access cause) alike)

plan-same : Below → (image : List ℕ) (ws vs : List Write) (window : Span) (a : Arch) (plan : Planned) (cause : ℕ)
    → take window.last ws ≡ take window.last vs
    → plan_check image ws window a plan cause ≡ plan_check image vs window a plan cause
plan-same below image ws vs window a (NeedsLoad va width signed rd) cause alike =
    fault-same below image ws vs window (walk_args a Load va) false cause alike
plan-same below image ws vs window a (NeedsStore va width value) cause alike =
    fault-same below image ws vs window (walk_args a Store va) false cause alike
plan-same below image ws vs window a (NeedsAtomic va width op aq rl rd operand) cause alike =
    fault-same below image ws vs window (walk_args a (atomic_access op) va) true cause alike
plan-same below image ws vs window a plan cause alike = refl

-- the fetch of the first halfword, and a fault of the second one
first_half-same : Below → (image : List ℕ) (ws vs : List Write) (spans : FetchSpans) (a : Arch) (bits : ℕ) → FetchesBeginAlike spans ws vs
    → first_half_check image ws spans a bits ≡ first_half_check image vs spans a bits
first_half-same below image ws vs spans a bits alike =
    ap (check (is_first_half bits) _) (below.halves image ws vs spans.first spans.since a a.pc (first_half bits) alike.first alike.since)

second_fault-same : Below → (image : List ℕ) (ws vs : List Write) (spans : FetchSpans) (a : Arch) (cause : ℕ) (stale : Bool) → FetchesBeginAlike spans ws vs
    → second_fault_check image ws spans a cause stale ≡ second_fault_check image vs spans a cause stale
second_fault-same below image ws vs spans a cause stale alike =
    ap (λ r. and_then r (raised_after stale)) (fault-same below image ws vs spans.second (walk_args a Fetch (sum_of 64 a.pc 2)) true cause alike.second)

fetch_fault-same : Below → (image : List ℕ) (ws vs : List Write) (spans : FetchSpans) (a : Arch) (bits cause : ℕ) → FetchesBeginAlike spans ws vs
    → fetch_fault_check image ws spans a bits cause ≡ fetch_fault_check image vs spans a bits cause
fetch_fault-same below image ws vs spans a bits cause alike = if-both (bits == 0) _ _ _ _
    (fault-same below image ws vs spans.first (walk_args a Fetch a.pc) true cause alike.first)
    (and_then-both (first_half_check image ws spans a bits) (first_half_check image vs spans a bits) (second_fault_check image ws spans a cause) (second_fault_check image vs spans a cause)
    (first_half-same below image ws vs spans a bits alike)
    (λ stale. second_fault-same below image ws vs spans a cause stale alike))

execution-same : Below → (image : List ℕ) (ws vs : List Write) (window : Span) (a : Arch) (bits cause : ℕ) (stale : Bool)
    → take window.last ws ≡ take window.last vs
    → execution_check image ws window a bits cause stale ≡ execution_check image vs window a bits cause stale
execution-same below image ws vs window a bits cause stale alike =
    ap (λ r. and_then r (raised_after stale)) (plan-same below image ws vs window a (planned a bits) cause alike)

instruction-same : Below → (image : List ℕ) (ws vs : List Write) (spans : TrapSpans) (a : Arch) (bits cause : ℕ) → BeginAlike spans ws vs
    → instruction_check image ws spans a bits cause ≡ instruction_check image vs spans a bits cause
instruction-same below image ws vs spans a bits cause alike =
    and_then-both (fetch_check image ws spans.fetch a bits) (fetch_check image vs spans.fetch a bits) (execution_check image ws spans.access a bits cause) (execution_check image vs spans.access a bits cause)
    (below.fetches image ws vs spans.fetch a bits alike.fetch)
    (λ stale. execution-same below image ws vs spans.access a bits cause stale alike.access)

cause-same : Below → (image : List ℕ) (ws vs : List Write) (spans : TrapSpans) (a : Arch) (bits cause : ℕ) → BeginAlike spans ws vs
    → cause_check image ws spans a bits cause ≡ cause_check image vs spans a bits cause
cause-same below image ws vs spans a bits cause alike = if-both (is_interrupt cause) _ _ _ _ refl
    (if-both (is_fetch_fault cause) _ _ _ _
    (fetch_fault-same below image ws vs spans.fetch a bits cause alike.fetch)
    (instruction-same below image ws vs spans a bits cause alike))

pub trap-same : Below → SameTraps
trap-same below image ws vs spans a pc bits cause tval alike =
    ap (λ r. check (pc == a.pc) (misfit Pc a.pc pc) (and_then r (entry_check cause tval))) (cause-same below image ws vs spans a bits cause alike)
