use Rattle.std.proofs.Common.{◌-◌, length}
use Rattle.dt_permissions.proofs.Counting.{IsReadSoFar}
use Rattle.dt_permissions.proofs.files.read_events.Given as goal

abbrev pub invariant-loop-events : goal.invariant-loop-events
invariant-loop-events l = IsReadSoFar l.bytes l.harts l.least l.events.items

abbrev pub decreases-loop-events : goal.decreases-loop-events
decreases-loop-events l = 4194305 - length l.events.items
