use Rattle.std.proofs.Common.{◌≡◌, ◌+◌, ◌-◌, ◌<◌, ◌++◌, length, map, take, vec_len, vec_capacity}
use Rattle.dt_record.specs.declared.writes.Note.TheVariants.{Wrote}
use Rattle.dt_writes.specs.OwnWrites.{own_writes_from}
use Rattle.dt_intake.proofs.news.add_writes.Given as goal

-- the writes of the records so far were told, and there is room for the others
abbrev pub invariant-loop-event : goal.invariant-loop-event
invariant-loop-event l = record {
  number : l.seq ≡ l.first + l.event-index;
  added : l.notes.items ≡ l.initial.notes.items ++ map Wrote (own_writes_from l.first (take l.event-index l.records));
  room : vec_len l.notes + (length l.records - l.event-index) < vec_capacity l.notes;
}
