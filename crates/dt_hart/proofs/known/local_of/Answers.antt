use Rattle.dt_record.specs.declared.states.KnownByte.{KnownByte}
use Rattle.dt_hart.proofs.KnownBytes.{known_in_ram, known_next}
use Rattle.dt_hart.proofs.known.local_of.Goals as goal

abbrev none : KnownByte
none = record { addr = 0; key = record { stamp = 0; hart = 0; seq = 0 } }

pub note_read-requires-clause-in_ram : goal.note_read-requires-clause-in_ram
note_read-requires-clause-in_ram c = known_in_ram c.args.known.now c.loop-entry.entry-index none c.requires c.loop-entry-test.true

pub loop-entry-preserved : goal.loop-entry-preserved
loop-entry-preserved c =
    known_next c.args.known.now c.loop-entry.entry-index none c.requires c.loop-entry-test.true c.loop-entry.local c.note_read.new.local
    c.loop-entry.invariant c.in_ok-note_read.ensures.noted
