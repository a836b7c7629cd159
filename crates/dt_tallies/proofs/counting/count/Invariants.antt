use Rattle.std.proofs.Common.{take}
use Rattle.dt_tallies.proofs.CountLaws.{Counted}
use Rattle.dt_tallies.proofs.counting.count.Given as goal

-- the first records are counted
abbrev pub invariant-loop-event : goal.invariant-loop-event
invariant-loop-event l = Counted l.limit l.hart (take l.event-index l.records) l.counts l.seq
