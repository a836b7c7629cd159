-- What notes say of writes. All of it is this project's own.
use Rattle.std.specs.Prelude.{ℕ, ◌==◌, Option, Some, None, List, map, filter, nat_lt}
use Rattle.std.specs.List.{filter_map}
use Rattle.dt_record.specs.declared.writes.Note.{Note}
use Rattle.dt_record.specs.declared.writes.Note.TheVariants.{Wrote}
use Rattle.dt_record.specs.declared.writes.Write.{Write}
use Rattle.dt_core.specs.declared.entries.Entry.{Entry}

-- the write that a note announces
abbrev pub write_in : Note → Option Write
write_in (Wrote w) = Some w
write_in _ = None

-- the writes that notes announce, in the order of the notes
abbrev pub announced : List Note → List Write
announced notes = filter_map write_in notes

-- the writes of one hart, in their order
abbrev pub hart_writes : ℕ → List Write → List Write
hart_writes hart writes = filter (λ w. w.key.hart == hart) writes

-- the writes below a cycle
abbrev pub writes_below : ℕ → List Write → List Write
writes_below stamp writes = filter (λ w. nat_lt w.key.stamp stamp) writes

-- the notes of a history, whoever appended them
abbrev pub notes_appended : List Entry → List Note
notes_appended history = map (λ e. e.note) history

-- these notes as entries of the worker with this number
abbrev pub entries_by : ℕ → List Note → List Entry
entries_by worker notes = map (λ note. record { worker = worker; note = note }) notes
