use Rattle.std.specs.Prelude.{ℕ, ◌+◌, if◌then◌else◌, Option, option_map, option_and_then, List, [], ◌∷◌, ◌++◌, slice_get}
use Rattle.dt_record.specs.declared.keys.Key.{Key}
use Rattle.dt_record.specs.declared.records.Record.{Record}
use Rattle.dt_record.specs.Keys.{key_of}
use Rattle.dt_rules.specs.declared.misfits.Misfit.{Misfit}
use Rattle.dt_rules.specs.declared.misfits.Passed.{Passed}
use Rattle.dt_tallies.specs.Naming.{is_named}
use Rattle.dt_verdict.specs.declared.tallies.Noted.{Noted}
use Rattle.dt_verdict.specs.declared.verdicts.Failure.{Failure}

-- What is told of a hart's records: the failure, and what a report says of the allowed ones (this project's own).

-- the failure of a record with this key
abbrev pub failure_at : Key → Misfit → Failure
failure_at key m = record { key = key; reason = m.reason; expected = m.expected; found = m.found }

-- the failure of a hart with these records, of which the first so many are allowed, and the next one, if any, is not
abbrev pub failure_after : List Record → (count : ℕ) → Option Misfit → Option Failure
failure_after own count refused = option_and_then (λ m. option_map (λ r. failure_at (key_of count r) m) (slice_get own count)) refused

-- what a report says of an allowed record, where it names it
abbrev pub note_of : Key → Passed → List Noted
note_of key p = if is_named p.letters p.sources then record { key = key; letters = p.letters; sources = p.sources } ∷ [] else []

-- what it says of the allowed ones among a hart's records, after so many of them
abbrev pub notes_from : ℕ → List Record → List Passed → List Noted
notes_from seq [] allowed = []
notes_from seq (r ∷ rs) [] = []
notes_from seq (r ∷ rs) (p ∷ ps) = note_of (key_of seq r) p ++ notes_from (seq + 1) rs ps
