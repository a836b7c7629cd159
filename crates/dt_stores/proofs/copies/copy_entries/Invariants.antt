use Rattle.std.proofs.Common.{◌≡◌, take}
use Rattle.dt_stores.proofs.copies.copy_entries.Given as goal

-- those so far
abbrev pub invariant-loop-e : goal.invariant-loop-e
invariant-loop-e l = l.copies.items ≡ take l.e-index l.entries
