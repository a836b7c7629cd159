use Rattle.std.proofs.Common.{take}
use Rattle.dt_hart.specs.Replaying.{IsReplayed}
use Rattle.dt_hart.proofs.replays.replay.Given as goal

abbrev pub invariant-loop-event : goal.invariant-loop-event
invariant-loop-event l = IsReplayed l.a.hart l.replayed (take l.event-index l.before)
