use Rattle.std.proofs.Common.{◌≡◌, ◌-◌}
use Rattle.dt_record.specs.declared.origins.Origin.TheVariants as origin
use Rattle.dt_atomics.specs.Reading.{source_of}
use Rattle.dt_atomics.proofs.FilledSources.{filled}
use Rattle.dt_atomics.proofs.reading.sources.Given as goal

-- the first bytes so far
abbrev pub invariant-loop-i : goal.invariant-loop-i
invariant-loop-i l = l.from ≡ filled (source_of l.m.writes l.k) origin.Image l.x.paddr l.i (8 - l.i)
