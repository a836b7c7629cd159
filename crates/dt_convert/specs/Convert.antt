-- What `convert` writes of a stream of probe records: where the stream comes to its end, the file with
-- the same header and records in the version asked for; else the line of the answer that ended the
-- stream, and nothing more (this project's own).
use Rattle.std.specs.Prelude.{ℕ, ◌≡◌, ◌⊎◌, Bool, Option, IfSome, List, [], ◌∷◌, ◌++◌, length}
use Rattle.std.specs.Option.{option_map_or}
use Rattle.dt_record.specs.declared.records.Record.{Record}
use Rattle.dt_record.specs.declared.streams.Next.{Next}
use Rattle.dt_record.specs.declared.streams.Next.TheVariants.{Header, End}
use Rattle.dt_record.specs.Spelling.{Version, One, Two, end_bytes}
use Rattle.dt_record.specs.ProbeFile.{header_bytes, records_bytes, no_stamps}
use Rattle.dt_dump.specs.Dump.{records_in, end_of, last_line, memory_line, read_fault_line}
use Rattle.dt_convert.specs.declared.versions.FileVersion.{FileVersion}
use Rattle.dt_convert.specs.declared.versions.FileVersion.TheVariants as asked

-- the version that is asked for
abbrev pub version_of : FileVersion → Version
version_of asked.One = One
version_of asked.Two = Two

-- the one file of a version with this header and these records
abbrev pub file_bytes : Version → ℕ → Bool → List Record → List ℕ
file_bytes version harts wide records =
    header_bytes version harts wide ++ records_bytes version no_stamps records ++ end_bytes (length records)

-- the file with the header and the records of answers; without a header there is none
abbrev pub file_with : Version → List Next → List ℕ
file_with version (Header harts wide ∷ rest) = file_bytes version harts wide (records_in rest)
file_with version _ = []

-- what is written where the stream ends so: the file at its end, else the answer's line
abbrev pub ending_bytes : List ℕ → Next → List ℕ
ending_bytes file (End count) = file
ending_bytes file last = last_line last

-- what is written of all answers
abbrev pub converted : Version → List Next → List ℕ
converted version answers = option_map_or (ending_bytes (file_with version answers)) (end_of answers) []

-- bytes that may come: those of all answers, the line of a read that failed, or the line of want of memory
abbrev pub MayConvert : Version → Option (List Next) → Type 0 → List ℕ → Type 0
MayConvert version told read_failed text =
    IfSome told (λ answers. text ≡ converted version answers)
    ⊎ ((read_failed × (text ≡ read_fault_line)) ⊎ (text ≡ memory_line))
