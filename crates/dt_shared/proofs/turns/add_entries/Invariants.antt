use Rattle.std.proofs.Common.{◌≡◌, ◌+◌, ◌-◌, ◌≤◌, ◌++◌, length, take, vec_len, vec_capacity}
use Rattle.dt_shared.specs.Entries.{entries_of}
use Rattle.dt_shared.proofs.turns.add_entries.Given as goal

-- the notes so far stand behind the list, and there is room for the others
abbrev pub invariant-loop-note : goal.invariant-loop-note
invariant-loop-note l = record {
  added : l.list.items ≡ l.initial.list.items ++ entries_of l.pass (take l.note-index l.notes);
  room : vec_len l.list + (length l.notes - l.note-index) ≤ vec_capacity l.list;
}
