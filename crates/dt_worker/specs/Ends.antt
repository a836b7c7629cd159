-- What a worker gives back, and what it promises of it. All of it is this project's own.
use Rattle.std.specs.Prelude.{◌≡◌, ◌≢◌, ◌<◌, ◌||◌, not, ℕ, Bool, true, List, [], length, slice_index_or, All, IsTrue}
use mathlib.Core.List.{IsPrefix}
use Rattle.dt_queue.specs.declared.ends.Take.{Take}
use Rattle.dt_queue.specs.Queue.{take_queue, taken}
use Rattle.dt_record.specs.declared.writes.Write.{Write}
use Rattle.dt_record.specs.Marks.{HasPassed}
use Rattle.dt_intake.specs.Told.{own_notes, IsTold}
use Rattle.dt_runs.specs.RunView.{outcome_in}
use Rattle.dt_lane.specs.declared.ends.HartEnd.{HartEnd}
use Rattle.dt_lane.specs.Lanes.{LaneView, IsLane, IsJudgedBy, is_done, judged_of}
use Rattle.dt_settled.specs.AllWrites.{AreAllWrites}
use Rattle.dt_shared.specs.Entries.{notes_in}
use Rattle.dt_shared.specs.Passes.{PassState}
use Rattle.dt_worker.specs.declared.ends.WorkerEnd.{WorkerEnd}
use Rattle.dt_worker.specs.Workers.{WorkerView}

-- the same right, after more of the history was seen
pub record IsLaterPass (old new : PassState) : Type 0 where
  pub of : new.of ≡ old.of
  pub number : new.number ≡ old.number
  pub seen : IsPrefix old.seen new.seen

-- What came of one hart, by the lane that it had at the end: nothing of the queue is lost, the worker told what was taken, each judged
-- record was passed by all harts, and the run is the judgement over whatever list may be all writes, by the history that was seen.
pub record IsHartEnd (w : WorkerView) (pass : PassState) (finished : Bool) (first : LaneView) (take : ℕ × Take)
    (e : HartEnd) : Type 0 where
  pub lane : LaneView
  pub is_lane : IsLane lane
  pub same_queue : lane.queue ≡ first.queue
  pub same_hart : lane.intake.hart ≡ first.intake.hart
  pub take_hart : take.0 ≡ first.intake.hart
  pub queue : take_queue take.1 ≡ first.queue
  pub popped : taken take.1 ≡ lane.popped
  pub hart : e.hart ≡ first.intake.hart
  pub taken_are : e.taken.items ≡ lane.intake.taken
  pub told : IsTold lane.intake pass.own
  pub passed : All (λ r. HasPassed w.harts (notes_in pass.seen) r.stamp) (judged_of lane)
  pub judged : (all : List Write) → AreAllWrites w.image w.harts (notes_in pass.seen) all → IsJudgedBy lane w.image w.wide all
  pub count : e.judged ≡ lane.run.hart.seq
  pub outcome_is : e.outcome ≡ outcome_in lane.run
  pub notes_are : e.notes.items ≡ lane.run.notes
  pub done : finished ≡ true → IsTrue (is_done lane)

-- neither was memory refused to the worker nor did it see a stop
abbrev pub has_finished : WorkerEnd → Bool
has_finished e = not (e.refused || e.stopped)

-- What a worker promises: its pass and each end of a queue come back, what it told is what it took, of its own harts alone, and what
-- came of each hart.
pub record IsWorkerEnd (w : WorkerView) (e : WorkerEnd) : Type 0 where
  pub pass : IsLaterPass w.pass e.pass
  pub takes : length e.takes.items ≡ length w.lanes
  pub harts : length e.harts.items ≡ length w.lanes
  pub each : (k : ℕ) (l : LaneView) (t : ℕ × Take) (h : HartEnd) → k < length w.lanes
      → IsHartEnd w e.pass (has_finished e) (slice_index_or w.lanes k l) (slice_index_or e.takes.items k t)
      (slice_index_or e.harts.items k h)
  pub no_other : (hart : ℕ) → All (λ l. l.intake.hart ≢ hart) w.lanes → own_notes hart e.pass.own ≡ []
  pub refused : e.refused ≡ e.pass.stopped
  pub stopped : e.stopped ≡ true → e.pass.saw_stop ≡ true
