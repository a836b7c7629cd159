use Rattle.std.proofs.Common.{◌≡◌, map, take}
use Rattle.dt_stores.proofs.RamLines.{parts}
use Rattle.dt_stores.proofs.copies.copy_lines.Given as goal

-- those so far
abbrev pub invariant-loop-l : goal.invariant-loop-l
invariant-loop-l l = map parts l.copies.items ≡ map parts (take l.l-index l.lines)
