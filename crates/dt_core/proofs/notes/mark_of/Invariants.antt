use Rattle.std.proofs.Common.{◌≡◌, take}
use Rattle.dt_record.specs.Marks.{mark_of}
use Rattle.dt_core.proofs.notes.mark_of.Given as goal

-- the mark by the notes so far
abbrev pub invariant-loop-note : goal.invariant-loop-note
invariant-loop-note l = l.mark ≡ mark_of l.hart (take l.note-index l.notes)
