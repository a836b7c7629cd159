use Rattle.std.specs.Prelude.{ℕ, ◌==◌, Bool, if◌then◌else◌, List, Option, Some, None, option_and_then, Result, Ok, Err}
use Rattle.std.specs.Option.{unwrap_or}
use Rattle.dt_access.specs.Faults.{access_cause, fault_cause, page_cause}
use Rattle.dt_record.specs.declared.reasons.Reason.TheVariants.{Cause}
use Rattle.dt_record.specs.declared.writes.Write.{Write}
use Rattle.dt_versions.specs.declared.moments.Span.{Span}
use Rattle.dt_walk.specs.declared.arguments.Access.{Access}
use Rattle.dt_walk.specs.declared.arguments.WalkAnswer.{WalkAnswer}
use Rattle.dt_walk.specs.declared.arguments.WalkAnswer.TheVariants.{PageFault, AccessFault}
use Rattle.dt_walk.specs.declared.arguments.WalkArgs.{WalkArgs}
use Rattle.dt_translate.specs.Outcomes.{allowed_moment, outcome_at}
use Rattle.dt_rules.specs.declared.misfits.Misfit.{Misfit}
use Rattle.dt_rules.specs.declared.misfits.TheConstants.{NO_NUMBER}
use Rattle.dt_rules.specs.Checks.{misfit}
use Rattle.dt_checks.specs.Fetching.{is_older}
use Rattle.dt_traps.specs.declared.faults.Raised.{Raised}

-- Traps that an access of memory raises: a fetch, a load or a store (this project's own).

-- the cause that the outcome of a translation raises, and no number where it is a page
abbrev pub cause_or_none : Access → WalkAnswer → ℕ
cause_or_none access outcome = unwrap_or (fault_cause access outcome) NO_NUMBER

-- the outcome that raises a cause, if any
abbrev pub fault_of : Access → ℕ → Option WalkAnswer
fault_of access cause =
    if cause == page_cause access
    then Some PageFault
    else (if cause == access_cause access then Some AccessFault else None)

-- the newest moment of a window at which the access raises the cause, if any
abbrev pub fault_moment : List ℕ → List Write → (window : Span) → WalkArgs → (ram_only : Bool) → (cause : ℕ) → Option ℕ
fault_moment image writes window args ram_only cause =
    option_and_then (allowed_moment image writes window args ram_only) (fault_of args.access cause)

abbrev pub raised : (stale : Bool) → (tval : ℕ) → Raised
raised stale tval = record { stale = stale; tval = tval }

-- what the chosen moment, if any, says of a cause, where the last moment of the window has this outcome
abbrev pub fault_answer : (window : Span) → WalkArgs → (last : WalkAnswer) → (cause : ℕ) → Option ℕ → Result Raised Misfit
fault_answer window args last cause (Some k) = Ok (raised (is_older window k) args.va)
fault_answer window args last cause None = Err (misfit Cause (cause_or_none args.access last) cause)

-- a cause of an access, which it raises at some moment of the window; its tval is the virtual address
abbrev pub fault_check : List ℕ → List Write → (window : Span) → WalkArgs → (ram_only : Bool) → (cause : ℕ) → Result Raised Misfit
fault_check image writes window args ram_only cause =
    fault_answer window args (outcome_at image writes window.last args ram_only) cause
    (fault_moment image writes window args ram_only cause)
