use Rattle.std.proofs.Common.{ℕ, ◌≡◌, ◌+◌, ◌<◌, false}
use Rattle.dt_local.specs.LocalMemory.{newest_of}
use Rattle.dt_loads.specs.Newer.{is_newer_than}
use Rattle.dt_atomics.specs.Reading.{source_of}
use Rattle.dt_atomics.proofs.reading.has_newer.Given as goal

-- no byte so far is newer
abbrev pub invariant-loop-i : goal.invariant-loop-i
invariant-loop-i l = (j : ℕ) → j < l.i → is_newer_than (newest_of l.l (l.x.paddr + j)) (source_of l.m.writes l.k (l.x.paddr + j)) ≡ false
