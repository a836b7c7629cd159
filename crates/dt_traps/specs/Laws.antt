use Rattle.std.specs.Prelude.{ℕ, ◌≡◌, List, take}
use Rattle.dt_record.specs.declared.writes.Write.{Write}
use Rattle.dt_step.specs.declared.state.Arch.{Arch}
use Rattle.dt_checks.specs.Laws.{BeginAlike as FetchesBeginAlike}
use Rattle.dt_traps.specs.declared.traps.TrapSpans.{TrapSpans}
use Rattle.dt_traps.specs.Traps.{trap_check}

-- Lists of writes that begin alike up to the ends of the spans give the same checks (this project's own).

-- two lists begin alike up to the ends of the spans of a trap
pub record BeginAlike (spans : TrapSpans) (ws vs : List Write) : Type 0 where
  pub fetch : FetchesBeginAlike spans.fetch ws vs
  pub access : take spans.access.last ws ≡ take spans.access.last vs

abbrev pub SameTraps : Type 0
SameTraps = (image : List ℕ) (ws vs : List Write) (spans : TrapSpans) (a : Arch) (pc bits cause tval : ℕ) → BeginAlike spans ws vs
    → trap_check image ws spans a pc bits cause tval ≡ trap_check image vs spans a pc bits cause tval
