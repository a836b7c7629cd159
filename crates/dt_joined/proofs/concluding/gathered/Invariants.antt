use Rattle.std.specs.Prelude.{ℕ, Bool, List}
use Rattle.dt_record.specs.declared.records.Record.{Record}
use Rattle.dt_record.specs.Writes.{writes_of}
use Rattle.dt_versions.specs.History.{history}
use Rattle.dt_writes.specs.FileRecords.{AreFileRecords}
use Rattle.dt_pass.specs.Running.{AreRunsOf}
use Rattle.dt_joined.specs.Ends.{AreEndsOf}
use Rattle.dt_joined.proofs.concluding.gathered.Given as goal

-- the first harts have run
abbrev pub invariant-loop-hart : goal.invariant-loop-hart
invariant-loop-hart l = (image : List ℕ) (wide : Bool) (file : List Record) → AreFileRecords file → AreEndsOf image wide file l.ends
    → AreRunsOf (history image (writes_of file)) wide l.hart file l.outcomes.items l.notes.items
