-- How far a stream has come in the bytes of its source (this project's own).
use Rattle.std.specs.Prelude.{ℕ, ◌≡◌, Option, None, Some, List, [], ◌∷◌, ◌++◌}
use Rattle.dt_source.specs.Known.{TakesFrom}
use Rattle.dt_record.specs.declared.records.Record.{Record}
use Rattle.dt_record.specs.declared.streams.Next.{Next}
use Rattle.dt_record.specs.Versions.{version_of}
use Rattle.dt_record.specs.Answers.{Reading, opened, after_record}
use Rattle.dt_probe_file.specs.declared.reading.Opened.{Opened}
use Rattle.dt_probe_file.specs.Fronts.{reading_of}
use Rattle.dt_probe_file.specs.OpenFronts.{IsFileFront}

-- what was read of a file after further records
abbrev pub reading_after : Reading → List Record → Reading
reading_after s [] = s
reading_after s (r ∷ rs) = reading_after (after_record s r) rs

-- the answers so far came of these first bytes of a file
abbrev pub IsAnswered : Option Opened → List ℕ → Type 0
IsAnswered None front = front ≡ []
IsAnswered (Some o) front =
    (records : List Record) × IsFileFront front (version_of o.version) o.harts o.wide records []
    × (reading_of o ≡ reading_after (opened (version_of o.version) o.harts) records)

-- Of the bytes that a source had at first some were taken, and these are left. Unless the stream is over, they are those
-- that were answered, and then those that are held.
abbrev pub HasOrigin : Option (List ℕ) → Option Opened → Option Next → List ℕ → Option (List ℕ) → Type 0
HasOrigin bytes opened ended held left =
    (taken : List ℕ) × TakesFrom bytes taken left
    × (ended ≡ None → (front : List ℕ) × (taken ≡ front ++ held) × IsAnswered opened front)

-- whatever bytes a stream is one of, it is one of them after an answer
abbrev pub KeepsOrigin : Option Opened → List ℕ → Option (List ℕ) → Option Opened → Option Next → List ℕ → Option (List ℕ) → Type 0
KeepsOrigin opened held left after ended behind rest =
    (bytes : Option (List ℕ)) → HasOrigin bytes opened None held left → HasOrigin bytes after ended behind rest
