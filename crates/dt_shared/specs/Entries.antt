-- Histories of notes. All of it is this project's own.
use Rattle.std.specs.Prelude.{ℕ, List, map, filter, ◌==◌}
use Rattle.dt_record.specs.declared.writes.Note.{Note}
use Rattle.dt_shared.specs.declared.entries.Entry.{Entry}

-- the notes of a history, whoever appended them
abbrev pub notes_in : List Entry → List Note
notes_in history = map (λ e. e.note) history

-- the notes that the pass with this number appended, in order
abbrev pub notes_of : ℕ → List Entry → List Note
notes_of number history = notes_in (filter (λ e. e.pass == number) history)

-- these notes as entries of the pass with this number
abbrev pub entries_of : ℕ → List Note → List Entry
entries_of number notes = map (λ note. record { pass = number; note = note }) notes
