use Rattle.std.specs.Prelude.{ℕ, ◌≡◌, ◌<◌, ◌⊎◌, Bool, false, None, Some, List, length, slice_get}
use Rattle.dt_record.specs.declared.records.Record.{Record}
use Rattle.dt_record.specs.Keys.{key_of, key_below, records_of}
use Rattle.dt_record.specs.Writes.{writes_of}
use Rattle.dt_rules.specs.declared.misfits.Misfit.{Misfit}
use Rattle.dt_rules.specs.declared.misfits.Passed.{Passed}
use Rattle.dt_judge.specs.Runs.{RunsTo}
use Rattle.dt_verdict.specs.declared.answers.Checked.{Checked}
use Rattle.dt_verdict.specs.declared.verdicts.Failure.{Failure}
use Rattle.dt_verdict.specs.declared.verdicts.Verdict.TheVariants.{Pass, Fail}
use Rattle.dt_runs.specs.Noting.{failure_at}
use Rattle.dt_pass.specs.Checked.{IsChecked}

-- What a verdict says of the harts of a file (this project's own).

-- all records of a hart are allowed, each with its letters and sources
abbrev pub AllAllowed : (image : List ℕ) (wide : Bool) → List Record → ℕ → Type 0
AllAllowed image wide records hart =
    (allowed : List Passed) × RunsTo image (writes_of records) wide hart (records_of hart records) allowed None

-- a hart's first record that is not allowed fails so
pub record FailsAt (image : List ℕ) (wide : Bool) (records : List Record) (hart : ℕ) (f : Failure) : Type 0 where
  pub allowed : List Passed
  pub misfit : Misfit
  pub own : Record
  pub runs : RunsTo image (writes_of records) wide hart (records_of hart records) allowed (Some misfit)
  pub there : slice_get (records_of hart records) (length allowed) ≡ Some own
  pub failure : f ≡ failure_at (key_of (length allowed) own) misfit

-- where the verdict is Pass, all records of every hart are allowed
abbrev pub PassIsAllAllowed : Type 0
PassIsAllAllowed = (image : List ℕ) (wide : Bool) (harts : ℕ) (records : List Record) (checked : Checked)
    → IsChecked image wide harts records checked
    → checked.verdict ≡ Pass → (hart : ℕ) → hart < harts → AllAllowed image wide records hart

-- a hart with all records allowed, or a failure with no key below this one's
abbrev pub IsNotSooner : (image : List ℕ) (wide : Bool) → List Record → Failure → ℕ → Type 0
IsNotSooner image wide records f hart =
    AllAllowed image wide records hart ⊎ ((g : Failure) × FailsAt image wide records hart g × (key_below g.key f.key ≡ false))

-- a failure of one of the harts, and no hart fails at a key below its own
pub record IsFirstFailure (image : List ℕ) (wide : Bool) (harts : ℕ) (records : List Record) (f : Failure) : Type 0 where
  pub hart : ℕ
  pub within : hart < harts
  pub fails : FailsAt image wide records hart f
  pub others : (other : ℕ) → other < harts → IsNotSooner image wide records f other

-- where the verdict is Fail, it names the first failure
abbrev pub FailIsFirst : Type 0
FailIsFirst = (image : List ℕ) (wide : Bool) (harts : ℕ) (records : List Record) (checked : Checked) (f : Failure)
    → IsChecked image wide harts records checked
    → checked.verdict ≡ Fail f → IsFirstFailure image wide harts records f

-- the records of a file have one check over an image
abbrev pub AFileHasOneCheck : Type 0
AFileHasOneCheck = (image : List ℕ) (wide : Bool) (harts : ℕ) (records : List Record) (one other : Checked)
    → IsChecked image wide harts records one → IsChecked image wide harts records other → one ≡ other

-- whatever the image and the records are, the records have a check over the image
abbrev pub AFileHasACheck : Type 0
AFileHasACheck = (image : List ℕ) (wide : Bool) (harts : ℕ) (records : List Record)
    → (checked : Checked) × IsChecked image wide harts records checked
