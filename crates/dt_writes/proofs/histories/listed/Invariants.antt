use Rattle.dt_writes.proofs.Listing.{Lists}
use Rattle.dt_writes.proofs.histories.listed.Given as goal

-- the writes of the first records are listed
abbrev pub invariant-loop-event : goal.invariant-loop-event
invariant-loop-event l = Lists l.records l.event-index l.writes.items l.seqs
