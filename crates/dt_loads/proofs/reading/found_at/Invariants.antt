use Rattle.std.proofs.Common.{◌≡◌, ◌+◌, ◌-◌, ◌*◌, ◌^◌, ◌<◌, List}
use Rattle.dt_record.specs.Actions.{Action}
use Rattle.dt_record.specs.LoadSources.{found_value}
use Rattle.dt_stores.specs.Standing.{StoresStand}
use Rattle.dt_loads.proofs.reading.found_at.Given as goal

-- the last bytes so far
abbrev pub invariant-loop-i : goal.invariant-loop-i
invariant-loop-i l = record {
  value : (actions : List Action) → StoresStand l.s actions → l.found ≡ found_value l.m.image l.m.writes actions l.ask l.k l.i (l.ask.addr + (l.ask.width - l.i));
  fits : l.found < 2 ^ (8 * l.i);
}
