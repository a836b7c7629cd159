use Rattle.std.proofs.Common.{◌≡◌, take}
use Rattle.dt_core.specs.Sound.{writes_by}
use Rattle.dt_core.proofs.writes.writes_by.Given as goal

-- the writes of the records so far
abbrev pub invariant-loop-seq : goal.invariant-loop-seq
invariant-loop-seq l = l.writes.items ≡ writes_by (take l.seq l.records)
