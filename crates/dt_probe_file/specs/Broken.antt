-- Files that are broken, and files past a limit, in terms of whole lists: a header, records, and how the bytes go on behind
-- these (this project's own).
use Rattle.std.specs.Prelude.{ℕ, ◌≡◌, ◌<◌, ◌≤◌, ◌+◌, ◌⊎◌, ◌↔◌, Bool, List, [], ◌∷◌, ◌++◌, length, map, filter}
use Rattle.dt_record.specs.declared.limits.TheConstants.{RECORD_LIMIT, WRITE_LIMIT}
use Rattle.dt_record.specs.declared.records.Record.{Record}
use Rattle.dt_record.specs.declared.streams.Next.{Next}
use Rattle.dt_record.specs.declared.streams.Next.TheVariants.{Header, Event, Malformed, Limit}
use Rattle.dt_record.specs.declared.writes.What.{What}
use Rattle.dt_record.specs.declared.writes.What.TheVariants.{Records, Writes}
use Rattle.dt_record.specs.Spelling.{Version, record_bytes, end_bytes}
use Rattle.dt_record.specs.ProbeFile.{IsNext, no_stamps, stamps_after}
use Rattle.dt_record.specs.Writes.{writes_memory}
use Rattle.dt_record.specs.Answers.{AreAnswers}
use Rattle.dt_probe_file.specs.OpenFronts.{IsFileFront}

-- the bytes begin with a record that may come next behind these, and go on with these bytes
abbrev pub BeginWithNext : Version → ℕ → List Record → List ℕ → Record → List ℕ → Type 0
BeginWithNext version harts records bytes r more =
    IsNext harts (stamps_after no_stamps records) r × (bytes ≡ record_bytes version (stamps_after no_stamps records r.hart) r ++ more)

-- behind these records the bytes begin neither with a record that may come next nor with the end of so many records
pub record AreBroken (version : Version) (harts : ℕ) (records : List Record) (bytes : List ℕ) : Type 0 where
  pub no_record : (r : Record) (more : List ℕ) → BeginWithNext version harts records bytes r more → ⊥
  pub no_end : (more : List ℕ) → bytes ≡ end_bytes (length records) ++ more → ⊥

-- A file is broken at this offset, behind these records: what comes behind them is wrong, or more bytes come behind the
-- right end. The offset is where that begins.
abbrev pub IsBrokenFile : List ℕ → ℕ → Bool → List Record → ℕ → Type 0
IsBrokenFile bytes harts wide records offset =
    ((version : Version) × (rest : List ℕ) × IsFileFront bytes version harts wide records rest
    × AreBroken version harts records rest × (offset + length rest ≡ length bytes))
    ⊎ ((version : Version) × (b : ℕ) × (rest : List ℕ)
    × IsFileFront bytes version harts wide records (end_bytes (length records) ++ b ∷ rest)
    × (offset + length (b ∷ rest) ≡ length bytes))

-- one record more is one too many: of records, or else of records that write memory
abbrev pub IsPastLimit : List Record → Record → What → ℕ → Type 0
IsPastLimit records r Records number = (RECORD_LIMIT < length (records ++ r ∷ [])) × (number ≡ RECORD_LIMIT + 1)
IsPastLimit records r Writes number =
    (length (records ++ r ∷ []) ≤ RECORD_LIMIT) × (WRITE_LIMIT < length (filter writes_memory (records ++ r ∷ [])))
    × (number ≡ WRITE_LIMIT + 1)

-- a file is past a limit behind these records, with the next one
abbrev pub IsFilePastLimit : List ℕ → ℕ → Bool → List Record → What → ℕ → Type 0
IsFilePastLimit bytes harts wide records what number =
    (version : Version) × (rest : List ℕ) × (r : Record) × (more : List ℕ) × IsFileFront bytes version harts wide records rest
    × BeginWithNext version harts records rest r more × IsPastLimit records r what number

-- bytes give a header, records and a place that is wrong exactly where they are a file that is broken there
abbrev pub BrokenFilesAreMalformed : Type 0
BrokenFilesAreMalformed =
    (bytes : List ℕ) (harts : ℕ) (wide : Bool) (records : List Record) (offset : ℕ)
    → AreAnswers bytes (Header harts wide ∷ map (λ r. Event r) records ++ Malformed offset ∷ [])
    ↔ IsBrokenFile bytes harts wide records offset

-- and they give a header, records and a limit exactly where they are past it
abbrev pub LongFilesAreLimited : Type 0
LongFilesAreLimited =
    (bytes : List ℕ) (harts : ℕ) (wide : Bool) (records : List Record) (what : What) (number : ℕ)
    → AreAnswers bytes (Header harts wide ∷ map (λ r. Event r) records ++ Limit what number ∷ [])
    ↔ IsFilePastLimit bytes harts wide records what number

-- the header and the records at a file's front are answered, whatever follows them
abbrev pub FrontsAreAnswered : Type 0
FrontsAreAnswered =
    (bytes more : List ℕ) (version : Version) (harts : ℕ) (wide : Bool) (records : List Record) (rest : List ℕ) (answers : List Next)
    → IsFileFront bytes version harts wide records rest → AreAnswers (bytes ++ more) answers
    → (later : List Next) × (answers ≡ Header harts wide ∷ map (λ r. Event r) records ++ later)
