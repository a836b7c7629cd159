use Rattle.std.proofs.Common.{arith}
use Rattle.dt_record.specs.ProbeFile.{no_stamps}
use Rattle.dt_writes.proofs.Listing.{any_record, Lists-next}
use Rattle.dt_writes.proofs.WritesOfRecords.{lawful-place, hart-place}
use Rattle.dt_writes.proofs.histories.listed.Goals as goal

pub bounds-seqs-hart : goal.bounds-seqs-hart
bounds-seqs-hart c =
    omega (arith, hart-place c.requires.harts no_stamps c.args.records.now c.loop-event.event-index any_record c.requires.each c.loop-event-test.true)

pub list-requires : goal.list-requires
list-requires c = lawful-place c.requires.harts no_stamps c.args.records.now c.loop-event.event-index any_record c.requires.each c.loop-event-test.true

pub bounds-seqs-hart-in-loop-event : goal.bounds-seqs-hart-in-loop-event
bounds-seqs-hart-in-loop-event c =
    omega (arith, hart-place c.requires.harts no_stamps c.args.records.now c.loop-event.event-index any_record c.requires.each c.loop-event-test.true)

pub bounds-seqs-hart-in-loop-event-2 : goal.bounds-seqs-hart-in-loop-event-2
bounds-seqs-hart-in-loop-event-2 c =
    omega (arith, hart-place c.requires.harts no_stamps c.args.records.now c.loop-event.event-index any_record c.requires.each c.loop-event-test.true)

pub loop-event-preserved : goal.loop-event-preserved
loop-event-preserved c =
    Lists-next c.args.records.now c.loop-event.event-index any_record c.loop-event.writes.items c.list.new.writes.items c.loop-event.seqs c.from-hart.result
    c.loop-event-test.true c.from-hart.ensures
    (hart-place c.requires.harts no_stamps c.args.records.now c.loop-event.event-index any_record c.requires.each c.loop-event-test.true)
    c.in_ok-list.ensures c.loop-event.invariant
