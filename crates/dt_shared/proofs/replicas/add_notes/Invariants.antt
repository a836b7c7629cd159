use Rattle.std.proofs.Common.{◌≡◌, ◌+◌, ◌-◌, ◌≤◌, ◌++◌, length, take, vec_len, vec_capacity}
use Rattle.dt_shared.specs.Entries.{notes_in}
use Rattle.dt_shared.proofs.replicas.add_notes.Given as goal

-- the notes so far were added, and there is room for the others
abbrev pub invariant-loop-entry : goal.invariant-loop-entry
invariant-loop-entry l = record {
  added : l.notes.items ≡ l.initial.notes.items ++ notes_in (take l.entry-index l.entries);
  room : vec_len l.notes + (length l.entries - l.entry-index) ≤ vec_capacity l.notes;
}
