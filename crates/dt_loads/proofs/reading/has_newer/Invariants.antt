use Rattle.std.proofs.Common.{ℕ, ◌≡◌, ◌+◌, ◌<◌, false, get_or}
use Rattle.dt_record.specs.declared.origins.Origin.TheVariants as origin
use Rattle.dt_local.specs.LocalMemory.{newest_of}
use Rattle.dt_loads.specs.Newer.{is_newer_than}
use Rattle.dt_loads.proofs.reading.has_newer.Given as goal

-- no byte so far is newer
abbrev pub invariant-loop-i : goal.invariant-loop-i
invariant-loop-i l = (j : ℕ) → j < l.i → is_newer_than (newest_of l.l (l.ask.addr + j)) (get_or l.sources.from j origin.Image) ≡ false
