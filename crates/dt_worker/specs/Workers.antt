-- What contracts see of a worker. All of it is this project's own.
use Rattle.std.specs.Prelude.{◌≡◌, ◌≢◌, ◌<◌, ℕ, Bool, List, [], length, slice_index_or}
use Rattle.dt_queue.specs.declared.ends.Take.{Take}
use Rattle.dt_queue.specs.Queue.{take_queue}
use Rattle.dt_intake.specs.Intakes.{new_intake}
use Rattle.dt_lane.specs.Lanes.{LaneView}
use Rattle.dt_record.specs.declared.writes.Note.{Note}
use Rattle.dt_settled.specs.Settling.{SettledView}
use Rattle.dt_shared.specs.Passes.{PassState}

-- the number of harts of the file, whether they may use Sv48, the image, the right to append and to look, the harts in its hands, the
-- notes that it has copied, and the writes that have settled
pub record WorkerView : Type 0 where
  pub harts : ℕ
  pub wide : Bool
  pub image : List ℕ
  pub pass : PassState
  pub lanes : List LaneView
  pub notes : List Note
  pub settled : SettledView

-- the ends of queues are of different harts
pub record AreOfDifferentHarts (takes : List (ℕ × Take)) : Type 0 where
  pub each : (j k : ℕ) (d : ℕ × Take) → j < length takes → k < length takes → j ≢ k
      → (slice_index_or takes j d).0 ≢ (slice_index_or takes k d).0

-- a lane of a hart of which nothing was taken
pub record IsNewLane (t : ℕ × Take) (l : LaneView) : Type 0 where
  pub intake : l.intake ≡ new_intake t.0
  pub queue : l.queue ≡ take_queue t.1
  pub popped : l.popped ≡ []

-- a lane for each end of a queue, in order
pub record AreNewLanes (takes : List (ℕ × Take)) (lanes : List LaneView) : Type 0 where
  pub size : length lanes ≡ length takes
  pub each : (k : ℕ) (t : ℕ × Take) (l : LaneView) → k < length takes
      → IsNewLane (slice_index_or takes k t) (slice_index_or lanes k l)

-- a worker with these ends of queues that has begun nothing
pub record IsNewWorker (harts : ℕ) (wide : Bool) (image : List ℕ) (pass : PassState) (takes : List (ℕ × Take))
    (w : WorkerView) : Type 0 where
  pub harts_are : w.harts ≡ harts
  pub wide_is : w.wide ≡ wide
  pub image_is : w.image ≡ image
  pub pass_is : w.pass ≡ pass
  pub lanes : AreNewLanes takes w.lanes
