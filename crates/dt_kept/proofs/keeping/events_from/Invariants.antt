use Rattle.std.proofs.Common.{take}
use Rattle.dt_record.specs.Keys.{records_of}
use Rattle.dt_kept.specs.States.{AreEventsFrom}
use Rattle.dt_kept.proofs.keeping.events_from.Given as goal

-- the hart's records among the first ones are counted or kept
abbrev pub invariant-loop-event : goal.invariant-loop-event
invariant-loop-event l = AreEventsFrom l.cut (records_of l.hart (take l.event-index l.records)) l.kept
