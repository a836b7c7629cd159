-- What one step of a run does. No public clause cites these words.
use Rattle.std.specs.Prelude.{ℕ, ◌≡◌, ◌+◌, Option, None, Some, List, ◌++◌, Ok, Err}
use Rattle.dt_record.specs.declared.records.Record.{Record}
use Rattle.dt_record.specs.Keys.{key_of}
use Rattle.dt_versions.specs.History.{History}
use Rattle.dt_rules.specs.declared.misfits.Misfit.{Misfit}
use Rattle.dt_rules.specs.declared.misfits.Passed.{Passed}
use Rattle.dt_hart.specs.HartView.{HartView}
use Rattle.dt_hart.specs.Settings.{Setting, after}
use Rattle.dt_hart.specs.Standing.{HartStands}
use Rattle.dt_judge.specs.Judgement.{Finds}
use Rattle.dt_judge.specs.Judging.{Meets}
use Rattle.dt_verdict.specs.declared.tallies.Noted.{Noted}
use Rattle.dt_verdict.specs.declared.verdicts.Failure.{Failure}
use Rattle.dt_runs.specs.Noting.{failure_at, note_of}

-- the record is allowed, and the hart goes on
pub record Allows (old new : HartView) (held : History) (r : Record) (p : Passed) : Type 0 where
  pub finds : (s : Setting) → Meets old held s r → Finds s r (Ok p)
  pub goes_on : (s : Setting) → Meets old held s r → (moment : ℕ) × HartStands new (after s r moment)
  pub hart : new.arch.hart ≡ old.arch.hart
  pub counted : new.seq ≡ old.seq + 1
  pub stamp : new.stamp ≡ r.stamp

-- the record is not, and the hart stays
pub record Refuses (old new : HartView) (held : History) (r : Record) (m : Misfit) : Type 0 where
  pub finds : (s : Setting) → Meets old held s r → Finds s r (Err m)
  pub stays : new ≡ old

-- what came of a hart's next record: it is allowed and noted, or it fails
abbrev pub IsStep : (old new : HartView) → History → Record → (before after : List Noted) → Option Failure → Type 0
IsStep old new held r before after None =
    (p : Passed) × Allows old new held r p × (after ≡ before ++ note_of (key_of old.seq r) p)
IsStep old new held r before after (Some f) =
    (m : Misfit) × Refuses old new held r m × (f ≡ failure_at (key_of old.seq r) m) × (after ≡ before)
