use Rattle.std.proofs.Common.{◌≡◌, drop}
use Rattle.std.specs.List.{list_all}
use Rattle.dt_core.specs.Machine.{is_true}
use Rattle.dt_core.proofs.cores.Core.are_true.Given as goal

-- the notes that are left decide
abbrev pub invariant-loop-note : goal.invariant-loop-note
invariant-loop-note g l = list_all (is_true l.self l.worker) (drop l.note-index l.notes) ≡ list_all (is_true l.self l.worker) l.notes
