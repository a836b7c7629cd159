use Rattle.std.specs.Prelude.{ℕ, ◌-◌, ◌%◌, ◌^◌, ◌≤◌, ◌==◌, nat_le, nat_lt, Bool, true, false, ◌&&◌, ◌||◌, if◌then◌else◌, List, Result, Ok}
use Rattle.dt_access.specs.Translating.{walk_args}
use Rattle.dt_alu.specs.Words.{sum_of}
use Rattle.dt_csr.specs.Traps.{enabled_codes, is_enabled}
use Rattle.dt_record.specs.declared.origins.Letters.{Letters}
use Rattle.dt_record.specs.declared.reasons.Reason.TheVariants.{Fetch as NotFetched, Interrupt, Pc, Tval}
use Rattle.dt_record.specs.declared.writes.Write.{Write}
use Rattle.dt_record.specs.Lawful.{is_fetch_fault}
use Rattle.dt_versions.specs.declared.moments.Span.{Span}
use Rattle.dt_walk.specs.declared.arguments.Access.TheVariants.{Fetch}
use Rattle.dt_step.specs.declared.state.Arch.{Arch}
use Rattle.dt_rules.specs.declared.misfits.Misfit.{Misfit}
use Rattle.dt_rules.specs.Checks.{misfit, check, and_then}
use Rattle.dt_checks.specs.declared.fetching.FetchSpans.{FetchSpans}
use Rattle.dt_checks.specs.Fetching.{SpansEndWithin as FetchSpansEndWithin, fetch_check, first_half, half_check}
use Rattle.dt_traps.specs.declared.faults.Raised.{Raised}
use Rattle.dt_traps.specs.declared.traps.TrapSpans.{TrapSpans}
use Rattle.dt_traps.specs.Faults.{raised, fault_check}
use Rattle.dt_traps.specs.Instructions.{plan_check, planned}

-- The checks of a trap (this project's own, where no source is named).

-- the cause of an interrupt has bit 63 (Volume II, section 3.1.15)
abbrev pub is_interrupt : ℕ → Bool
is_interrupt cause = nat_le (2 ^ 63) cause

-- an interrupt that is enabled; its tval is 0
abbrev pub interrupt_check : Arch → (cause : ℕ) → Result Raised Misfit
interrupt_check a cause =
    check (is_enabled a.csrs a.mode (cause - 2 ^ 63)) (misfit Interrupt (enabled_codes a.csrs a.mode) cause)
    (Ok (raised false 0))

-- a cause that follows an earlier check, which may have chosen an older moment
abbrev pub raised_after : (stale : Bool) → Raised → Result Raised Misfit
raised_after stale found = Ok (raised (stale || found.stale) found.tval)

-- the first halfword of a 32-bit instruction (Volume I, section 1.5)
abbrev pub is_first_half : ℕ → Bool
is_first_half bits = (bits % 4 == 3) && nat_lt bits 65536

-- the fetch of the first halfword, where that of the second one fails
abbrev pub first_half_check : List ℕ → List Write → FetchSpans → Arch → (bits : ℕ) → Result Bool Misfit
first_half_check image writes spans a bits =
    check (is_first_half bits) (misfit NotFetched a.pc (first_half bits))
    (half_check image writes spans.first spans.since a a.pc (first_half bits))

-- the fetch of the second halfword fails, where it is known of the first whether it is older
abbrev pub second_fault_check : List ℕ → List Write → FetchSpans → Arch → (cause : ℕ) → (stale : Bool) → Result Raised Misfit
second_fault_check image writes spans a cause stale =
    and_then (fault_check image writes spans.second (walk_args a Fetch (sum_of 64 a.pc 2)) true cause) (raised_after stale)

-- a fetch fails: that of the first halfword where the trap has no bits, and else that of the second one
abbrev pub fetch_fault_check : List ℕ → List Write → FetchSpans → Arch → (bits cause : ℕ) → Result Raised Misfit
fetch_fault_check image writes spans a bits cause =
    if bits == 0
    then fault_check image writes spans.first (walk_args a Fetch a.pc) true cause
    else and_then (first_half_check image writes spans a bits) (second_fault_check image writes spans a cause)

-- what an instruction raises, where it is known whether its fetch is of older moments
abbrev pub execution_check : List ℕ → List Write → (window : Span) → Arch → (bits cause : ℕ) → (stale : Bool) → Result Raised Misfit
execution_check image writes window a bits cause stale =
    and_then (plan_check image writes window a (planned a bits) cause) (raised_after stale)

-- an instruction that is fetched and raises the cause
abbrev pub instruction_check : List ℕ → List Write → TrapSpans → Arch → (bits cause : ℕ) → Result Raised Misfit
instruction_check image writes spans a bits cause =
    and_then (fetch_check image writes spans.fetch a bits) (execution_check image writes spans.access a bits cause)

-- the cause of a trap, after the fetch that it follows
abbrev pub cause_check : List ℕ → List Write → TrapSpans → Arch → (bits cause : ℕ) → Result Raised Misfit
cause_check image writes spans a bits cause =
    if is_interrupt cause
    then interrupt_check a cause
    else (if is_fetch_fault cause
    then fetch_fault_check image writes spans.fetch a bits cause
    else instruction_check image writes spans a bits cause)

-- the tval of a trap, which is the expected value, or 0 in its place: whether 0 stands in the place of another value
abbrev pub tval_check : (expected found : ℕ) → Result Bool Misfit
tval_check expected found =
    if found == expected then Ok false else check (found == 0) (misfit Tval expected found) (Ok true)

-- the letters of a trap: P, I and Z alone can be used
abbrev pub letters_of : (stale interrupt zeroed : Bool) → Letters
letters_of stale interrupt zeroed = record {
  l = false;
  s = false;
  p = stale;
  i = interrupt;
  d = false;
  c = false;
  z = zeroed;
}

-- the tval of a trap with an allowed cause, and then its letters
abbrev pub entry_check : (cause tval : ℕ) → Raised → Result Letters Misfit
entry_check cause tval found =
    and_then (tval_check found.tval tval) (λ zeroed. Ok (letters_of found.stale (is_interrupt cause) zeroed))

-- the checks of a trap: its pc, the fetch that it follows, its cause and its tval. The window `access` of the spans is
-- that of the page of `access_address`.
abbrev pub trap_check : List ℕ → List Write → TrapSpans → Arch → (pc bits cause tval : ℕ) → Result Letters Misfit
trap_check image writes spans a pc bits cause tval =
    check (pc == a.pc) (misfit Pc a.pc pc) (and_then (cause_check image writes spans a bits cause) (entry_check cause tval))

-- the spans end within so many writes
pub record SpansEndWithin (spans : TrapSpans) (count : ℕ) : Type 0 where
  pub fetch : FetchSpansEndWithin spans.fetch count
  pub access : spans.access.last ≤ count
