-- Laws of what a worker gives back. All of it is this project's own.
use Rattle.std.specs.Prelude.{◌≡◌, ◌<◌, ℕ, Bool, List, length, slice_index_or}
use Rattle.dt_record.specs.declared.writes.Write.{Write}
use Rattle.dt_record.specs.Writes.{by_key}
use Rattle.dt_core.specs.Notes.{announced}
use Rattle.dt_runs.specs.RunView.{outcome_in}
use Rattle.dt_settled.specs.AllWrites.{AreOrderly}
use Rattle.dt_shared.specs.Entries.{notes_in}
use Rattle.dt_lane.specs.declared.ends.HartEnd.{HartEnd}
use Rattle.dt_lane.specs.Lanes.{LaneView, IsJudgedBy}
use Rattle.dt_worker.specs.declared.ends.WorkerEnd.{WorkerEnd}
use Rattle.dt_worker.specs.Ends.{IsWorkerEnd}
use Rattle.dt_worker.specs.Workers.{WorkerView}

-- what came of a hart is the judgement of the records that were taken of it, over this image and these writes
pub record IsOutcomeOver (image : List ℕ) (wide : Bool) (all : List Write) (e : HartEnd) : Type 0 where
  pub lane : LaneView
  pub hart : lane.intake.hart ≡ e.hart
  pub taken_are : lane.intake.taken ≡ e.taken.items
  pub judged : IsJudgedBy lane image wide all
  pub count : e.judged ≡ lane.run.hart.seq
  pub outcome_is : e.outcome ≡ outcome_in lane.run
  pub notes_are : e.notes.items ≡ lane.run.notes

-- where the history that a worker's pass has seen is orderly, each outcome is the judgement over the writes which it announces
abbrev pub OutcomesOverItsOwnHistory : Type 0
OutcomesOverItsOwnHistory = (w : WorkerView) (e : WorkerEnd) (k : ℕ) (h : HartEnd) → IsWorkerEnd w e
    → AreOrderly w.harts (notes_in e.pass.seen)
    → k < length w.lanes → IsOutcomeOver w.image w.wide (by_key (announced (notes_in e.pass.seen))) (slice_index_or e.harts.items k h)
