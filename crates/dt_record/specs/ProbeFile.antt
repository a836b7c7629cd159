use Rattle.std.specs.Prelude.{ℕ, ◌≡◌, ◌≤◌, ◌<◌, ◌==◌, Bool, if◌then◌else◌, List, [], ◌∷◌, ◌++◌, length, filter, codes}
use Rattle.dt_record.specs.declared.limits.TheConstants.{HART_LIMIT, RECORD_LIMIT, WRITE_LIMIT}
use Rattle.dt_record.specs.declared.records.Record.{Record}
use Rattle.dt_record.specs.Lawful.{FitsRecord, IsLawful}
use Rattle.dt_record.specs.Spelling.{Version, One, Two, half, word, flag, record_bytes, end_bytes}
use Rattle.dt_record.specs.Writes.{writes_memory}

abbrev pub version_number : Version → ℕ
version_number One = 1
version_number Two = 2

-- the 16 bytes at a file's front: the magic, the version, the number of harts, whether harts may use Sv48, and zeros
unfoldable pub header_bytes : Version → ℕ → Bool → List ℕ
header_bytes version harts wide = codes "SMPDIFF" ++ 0 ∷ [] ++ half (version_number version) ++ harts ∷ flag wide ∷ [] ++ word 0

-- the stamp of each hart's last record: 0 before its first
abbrev pub no_stamps : ℕ → ℕ
no_stamps hart = 0

abbrev pub stamped : (ℕ → ℕ) → Record → ℕ → ℕ
stamped last r hart = if hart == r.hart then r.stamp else last hart

-- the stamp of each hart's last record after these records, which come after others that left these last stamps
abbrev pub stamps_after : (ℕ → ℕ) → List Record → ℕ → ℕ
stamps_after last [] = last
stamps_after last (r ∷ rs) = stamps_after (stamped last r) rs

-- the spellings of records in their order, after records that left these last stamps
abbrev pub records_bytes : Version → (ℕ → ℕ) → List Record → List ℕ
records_bytes version last [] = []
records_bytes version last (r ∷ rs) = record_bytes version (last r.hart) r ++ records_bytes version (stamped last r) rs

-- a record that may come next in a file with so many harts
pub record IsNext (harts : ℕ) (last : ℕ → ℕ) (r : Record) : Type 0 where
  pub fits : FitsRecord r
  pub lawful : IsLawful r
  pub hart : r.hart < harts
  pub stamp : last r.hart ≤ r.stamp

-- each record is lawful and of a hart of the file, and no hart's stamps fall
abbrev pub AreRecords : ℕ → (ℕ → ℕ) → List Record → Type 0
AreRecords harts last [] = Unit {0}
AreRecords harts last (r ∷ rs) = IsNext harts last r × AreRecords harts (stamped last r) rs

-- the bytes are a probe file with this header and these records, and nothing more
pub record IsProbeFile (bytes : List ℕ) (version : Version) (harts : ℕ) (wide : Bool) (records : List Record) : Type 0 where
  pub spelled : bytes ≡ header_bytes version harts wide ++ records_bytes version no_stamps records ++ end_bytes (length records)
  pub some_hart : 1 ≤ harts
  pub few_harts : harts ≤ HART_LIMIT
  pub each : AreRecords harts no_stamps records
  pub few_records : length records ≤ RECORD_LIMIT
  pub few_writes : length (filter writes_memory records) ≤ WRITE_LIMIT
