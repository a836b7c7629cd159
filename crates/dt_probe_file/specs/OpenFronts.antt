-- The front of a file, and where it leaves open which answer comes next (this project's own).
use Rattle.std.specs.Prelude.{ℕ, ◌≡◌, ◌≤◌, ◌⊎◌, Bool, Option, List, ◌++◌, length, filter}
use Rattle.dt_source.specs.Known.{TakesFrom}
use Rattle.dt_record.specs.declared.limits.TheConstants.{HART_LIMIT, RECORD_LIMIT, WRITE_LIMIT}
use Rattle.dt_record.specs.declared.records.Record.{Record}
use Rattle.dt_record.specs.Spelling.{Version, end_bytes}
use Rattle.dt_record.specs.ProbeFile.{header_bytes, no_stamps, records_bytes, AreRecords}
use Rattle.dt_record.specs.Writes.{writes_memory}
use Rattle.dt_probe_file.specs.Begun.{IsBegun, IsCutHeader}

-- the bytes are a header, records within the limits, and then the rest
pub record IsFileFront (bytes : List ℕ) (version : Version) (harts : ℕ) (wide : Bool) (records : List Record) (rest : List ℕ) : Type 0 where
  pub spelled : bytes ≡ header_bytes version harts wide ++ records_bytes version no_stamps records ++ rest
  pub some_hart : 1 ≤ harts
  pub few_harts : harts ≤ HART_LIMIT
  pub each : AreRecords harts no_stamps records
  pub few_records : length records ≤ RECORD_LIMIT
  pub few_writes : length (filter writes_memory records) ≤ WRITE_LIMIT

-- The first bytes of a file leave open which answer comes next. They are only the beginning of a header; or a header and
-- records, and behind these no byte, or only the beginning of an end or of what may be a record, or just the end.
abbrev pub IsOpenFront : List ℕ → Type 0
IsOpenFront bytes =
    IsCutHeader bytes
    ⊎ ((version : Version) × (harts : ℕ) × (wide : Bool) × (records : List Record) × (rest : List ℕ)
    × IsFileFront bytes version harts wide records rest × (IsBegun version rest ⊎ (rest ≡ end_bytes (length records))))

-- what was taken of these bytes, of which this is left, leaves the next answer open
abbrev pub HasOpenFront : (bytes left : Option (List ℕ)) → Type 0
HasOpenFront bytes left = (taken : List ℕ) × TakesFrom bytes taken left × IsOpenFront taken
