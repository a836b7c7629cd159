-- Where a reader has to read on (this project's own).
use Rattle.std.specs.Prelude.{ℕ, ◌≡◌, ◌⊎◌, Option, None, Some, List, ◌++◌}
use Rattle.dt_source.specs.Known.{TakesFrom}
use Rattle.dt_record.specs.Spelling.{end_bytes}
use Rattle.dt_probe_file.specs.declared.reading.Opened.{Opened}
use Rattle.dt_record.specs.Versions.{version_of}
use Rattle.dt_probe_file.specs.Begun.{IsBegun, IsCutHeader}

-- The bytes behind the last answer leave the next one open. Before the header they are the beginning of
-- one. Behind it there is none, or they are the beginning of an end or of a record, or just the end,
-- which nothing may follow.
abbrev pub LeaveOpen : Option Opened → List ℕ → Type 0
LeaveOpen None bytes = IsCutHeader bytes
LeaveOpen (Some o) bytes = IsBegun (version_of o.version) bytes ⊎ (bytes ≡ end_bytes o.events)

-- The bytes that were held before a call and those that the source gave in it leave the answer open, so
-- that one more read had to be made.
abbrev pub HadToRead : Option Opened → List ℕ → Option (List ℕ) → Option (List ℕ) → Type 0
HadToRead opened held before after = (more : List ℕ) × TakesFrom before more after × LeaveOpen opened (held ++ more)
