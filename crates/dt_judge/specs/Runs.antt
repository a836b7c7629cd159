use Rattle.std.specs.Prelude.{ℕ, ◌≡◌, Bool, Option, None, Some, List, length, take, slice_get, Ok, Err}
use Rattle.dt_record.specs.declared.records.Record.{Record}
use Rattle.dt_record.specs.declared.writes.Write.{Write}
use Rattle.dt_record.specs.LoadSources.{AreLeastSources}
use Rattle.dt_reference.specs.HartActions.{actions_of}
use Rattle.dt_rules.specs.declared.misfits.Misfit.{Misfit}
use Rattle.dt_rules.specs.declared.misfits.Passed.{Passed}
use Rattle.dt_hart.specs.Settings.{Setting}
use Rattle.dt_judge.specs.Judgement.{Finds}

-- How far the records of a hart are allowed (this project's own).

-- what the record with this number among a hart's records is judged against
abbrev pub setting_at : (image : List ℕ) (writes : List Write) (wide : Bool) (hart : ℕ) (records : List Record) (moments : ℕ → ℕ)
    (number : ℕ) → Setting
setting_at image writes wide hart records moments number = record {
  image = image;
  writes = writes;
  wide = wide;
  hart = hart;
  before = take number records;
  moments = moments;
}

-- The first records of a hart are allowed, each with its letters and sources; their loads read at the moments of the
-- least fitting assignment.
pub record AreAllowed (image : List ℕ) (writes : List Write) (wide : Bool) (hart : ℕ) (records : List Record) (moments : ℕ → ℕ)
    (allowed : List Passed) : Type 0 where
  pub chosen : AreLeastSources image writes (actions_of (take (length allowed) records)) moments
  pub each : (n : ℕ) (p : Passed) → slice_get allowed n ≡ Some p
      → (r : Record) × (slice_get records n ≡ Some r) × Finds (setting_at image writes wide hart records moments n) r (Ok p)

-- where the allowed records end: all are allowed, or the next one has a reason
abbrev pub EndsAllowed : (image : List ℕ) (writes : List Write) (wide : Bool) (hart : ℕ) (records : List Record) (moments : ℕ → ℕ)
    (count : ℕ) → Option Misfit → Type 0
EndsAllowed image writes wide hart records moments count None = count ≡ length records
EndsAllowed image writes wide hart records moments count (Some refused) =
    (r : Record) × (slice_get records count ≡ Some r) × Finds (setting_at image writes wide hart records moments count) r (Err refused)

-- A hart's records are allowed so far, each with its letters and sources, and the next one, if any, has this reason.
pub record RunsTo (image : List ℕ) (writes : List Write) (wide : Bool) (hart : ℕ) (records : List Record) (allowed : List Passed)
    (refused : Option Misfit) : Type 0 where
  pub moments : ℕ → ℕ
  pub are_allowed : AreAllowed image writes wide hart records moments allowed
  pub ends : EndsAllowed image writes wide hart records moments (length allowed) refused
