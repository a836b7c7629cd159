use Rattle.std.proofs.Common.{◌≡◌, ℕ, ◌+◌, ◌<◌, length, get_or}
use Rattle.dt_record.specs.Memory.{memory_at}
use Rattle.dt_refills.proofs.refilling.line_at.Given as goal

abbrev pub invariant-loop-i : goal.invariant-loop-i
invariant-loop-i l = (length l.bytes ≡ 64) × ((j : ℕ) → j < l.i → get_or l.bytes j 0 ≡ memory_at l.m.image l.m.writes l.k (l.line + j))
