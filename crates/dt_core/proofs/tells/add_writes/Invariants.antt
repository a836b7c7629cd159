use Rattle.std.proofs.Common.{◌≡◌, ◌++◌, drop, map}
use Rattle.dt_record.specs.declared.writes.Note.TheVariants.{Wrote}
use Rattle.dt_core.proofs.tells.add_writes.Given as goal

-- with the writes that are left, they are all
abbrev pub invariant-loop-w : goal.invariant-loop-w
invariant-loop-w l = l.notes.items ++ map Wrote (drop l.w-index l.writes) ≡ l.initial.notes.items ++ map Wrote l.writes
