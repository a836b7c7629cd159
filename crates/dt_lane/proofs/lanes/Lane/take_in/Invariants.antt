use Rattle.std.proofs.Common.{◌≡◌, List}
use Rattle.dt_record.specs.declared.writes.Note.{Note}
use Rattle.dt_intake.specs.Told.{IsTold}
use Rattle.dt_lane.specs.Lanes.{judged_of}
use Rattle.dt_lane.proofs.lanes.Lane.take_in.Given as goal

abbrev pub invariant-loop : goal.invariant-loop
invariant-loop g l =
    (l.self.queue ≡ l.initial.self.queue) × (l.self.intake.hart ≡ l.initial.self.intake.hart) × (l.self.run ≡ l.initial.self.run)
    × (judged_of l.self ≡ judged_of l.initial.self)
    × ((notes : List Note) → IsTold l.initial.self.intake notes → IsTold l.self.intake notes)
