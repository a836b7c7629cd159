use Rattle.std.specs.Prelude.{ℕ, ◌≡◌, Bool, List, ◌++◌, Ok, Err, IsTrue, nat_lt}
use Rattle.std.specs.List.{list_all}
use Rattle.dt_record.specs.declared.origins.Letters.{Letters}
use Rattle.dt_record.specs.declared.origins.Sources.{Sources}
use Rattle.dt_record.specs.declared.records.Record.{Record}
use Rattle.dt_record.specs.declared.writes.Write.{Write}
use Rattle.dt_record.specs.Lawful.{is_lawful}
use Rattle.dt_hart.specs.HartView.{HartView}
use Rattle.dt_hart.specs.OwnWrites.{GoesOn}
use Rattle.dt_hart.specs.Settings.{Setting, after, does}
use Rattle.dt_hart.specs.Standing.{HartStands}
use Rattle.dt_hart.specs.Taking.{WasRead}
use Rattle.dt_rules.specs.Checks.{misfit}
use Rattle.dt_versions.specs.History.{History}
use Rattle.dt_judge.specs.declared.judging.Judged.{Judged}
use Rattle.dt_judge.specs.declared.judging.Judged.TheVariants.{Fine, Fail, OutOfMemory}
use Rattle.dt_judge.specs.Judgement.{Finds}

-- What `judge` answers (this project's own).

-- writes of later cycles than this one
abbrev pub are_later : ℕ → List Write → Bool
are_later stamp writes = list_all (λ w. nat_lt stamp w.key.stamp) writes

-- A hart and the memory that it is judged over are those of a setting, with which this record goes on. The memory holds
-- the first of all writes, and no write that it lacks is of the record's cycle or an earlier one. The records before are
-- lawful.
pub record Meets (h : HartView) (m : History) (s : Setting) (r : Record) : Type 0 where
  pub stands : HartStands h s
  pub goes_on : GoesOn s r
  pub lawful : IsTrue (list_all is_lawful s.before)
  pub image : s.image ≡ m.image
  pub later : List Write
  pub writes : s.writes ≡ m.writes ++ later
  pub after : IsTrue (are_later r.stamp later)

-- the answer is what the judgement finds
abbrev pub IsJudged : Setting → Record → Judged → Type 0
IsJudged s r (Fine letters sources) = Finds s r (Ok (record { letters = letters; sources = sources }))
IsJudged s r (Fail reason expected found) = Finds s r (Err (misfit reason expected found))
IsJudged s r OutOfMemory = Unit {0}

-- The hart stands for its records with one more. Where that is a load from RAM, it read at its moment in the least fitting
-- assignment, and the bytes of a load, an LR or an AMO come from these sources.
pub record GoesOnBy (h : HartView) (s : Setting) (r : Record) (sources : Sources) : Type 0 where
  pub moment : ℕ
  pub is_read : WasRead s (does s r) moment sources
  pub stands : HartStands h (after s r moment)

abbrev pub OnFine : Judged → (Letters → Sources → Type 0) → Type 0
OnFine (Fine letters sources) P = P letters sources
OnFine (Fail reason expected found) P = Unit {0}
OnFine OutOfMemory P = Unit {0}

abbrev pub UnlessFine : Judged → Type 0 → Type 0
UnlessFine (Fine letters sources) p = Unit {0}
UnlessFine (Fail reason expected found) p = p
UnlessFine OutOfMemory p = p
