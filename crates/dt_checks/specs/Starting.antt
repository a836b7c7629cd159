use Rattle.std.specs.Prelude.{ℕ, ◌==◌, Bool, List, Result, Ok}
use Rattle.dt_record.specs.declared.reasons.Reason.TheVariants.{Pc}
use Rattle.dt_record.specs.declared.writes.Write.{Write}
use Rattle.dt_rules.specs.declared.misfits.Misfit.{Misfit}
use Rattle.dt_rules.specs.Checks.{and_then, check, misfit}
use Rattle.dt_step.specs.declared.state.Arch.{Arch}
use Rattle.dt_checks.specs.declared.fetching.FetchSpans.{FetchSpans}
use Rattle.dt_checks.specs.declared.starting.Started.{Started}
use Rattle.dt_checks.specs.Fetching.{fetch_check}
use Rattle.dt_checks.specs.Retiring.{retire_check}

-- The checks that each record of a retired instruction begins with (this project's own).

-- the instruction, once it is known whether its fetch is of older moments
abbrev pub started_check : Arch → (bits tag : ℕ) → (stale : Bool) → Result Started Misfit
started_check a bits tag stale =
    and_then (retire_check a bits tag) (λ plan. Ok (record { plan = plan; stale = stale }))

-- the fetch, and then the instruction
abbrev pub fetched_check : List ℕ → List Write → FetchSpans → Arch → (bits tag : ℕ) → Result Started Misfit
fetched_check image writes spans a bits tag =
    and_then (fetch_check image writes spans a bits) (started_check a bits tag)

-- the pc, then the fetch, and then that the instruction retires in a record with this tag
abbrev pub start_check : List ℕ → List Write → FetchSpans → Arch → (pc bits tag : ℕ) → Result Started Misfit
start_check image writes spans a pc bits tag =
    check (pc == a.pc) (misfit Pc a.pc pc) (fetched_check image writes spans a bits tag)
