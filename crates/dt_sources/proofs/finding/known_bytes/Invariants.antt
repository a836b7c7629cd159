use Rattle.std.proofs.Common.{ℕ, ◌≡◌, ◌+◌, ◌<◌, List, length, get_or}
use Rattle.dt_record.specs.Actions.{Action}
use Rattle.dt_stores.specs.Standing.{StoresStand}
use Rattle.dt_stores.specs.Draining.{forward_after}
use Rattle.dt_local.specs.LocalMemory.{newest_of}
use Rattle.dt_sources.specs.declared.tries.LoadByte.{LoadByte}
use Rattle.dt_sources.proofs.finding.known_bytes.Given as goal

-- the bytes so far are known
abbrev pub invariant-loop-i : goal.invariant-loop-i
invariant-loop-i l = record {
  long : length l.bytes ≡ 8;
  own : (actions : List Action) → StoresStand l.s actions → (j : ℕ) (d : LoadByte) → j < l.i → (get_or l.bytes j d).own ≡ forward_after actions (l.ask.addr + j) l.ask.at;
  newest : (j : ℕ) (d : LoadByte) → j < l.i → (get_or l.bytes j d).newest ≡ newest_of l.l (l.ask.addr + j);
}
