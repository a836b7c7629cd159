-- How lanes begin, and what they give back. All of it is this project's own.
use Rattle.std.specs.Prelude.{◌≡◌, ℕ, Bool, List, [], ◌∷◌}
use Rattle.dt_record.specs.declared.writes.Write.{Write}
use Rattle.dt_queue.specs.declared.ends.Take.{Take}
use Rattle.dt_queue.specs.Queue.{taken, take_queue}
use Rattle.dt_runs.specs.RunView.{outcome_in}
use Rattle.dt_lane.specs.declared.ends.HartEnd.{HartEnd}
use Rattle.dt_lane.specs.Lanes.{LaneView, IsLane, IsJudgedBy, judged_of}
use Rattle.dt_worker.specs.Workers.{IsNewLane}

-- what one lane gives back: its end of the queue beside its hart, and what came of the hart
pub record IsLaneEnd (l : LaneView) (take : ℕ × Take) (e : HartEnd) : Type 0 where
  pub lane : IsLane l
  pub number : take.0 ≡ l.intake.hart
  pub queue : take_queue take.1 ≡ l.queue
  pub popped : taken take.1 ≡ l.popped
  pub hart : e.hart ≡ l.intake.hart
  pub taken_are : e.taken.items ≡ l.intake.taken
  pub count : e.judged ≡ l.run.hart.seq
  pub outcome_is : e.outcome ≡ outcome_in l.run
  pub notes_are : e.notes.items ≡ l.run.notes

-- what all lanes give back, in their order
abbrev pub AreLaneEnds : List LaneView → List (ℕ × Take) → List HartEnd → Type 0
AreLaneEnds [] [] [] = Unit {0}
AreLaneEnds (l ∷ ls) (t ∷ ts) (e ∷ es) = IsLaneEnd l t e × AreLaneEnds ls ts es
AreLaneEnds _ _ _ = ⊥

-- a lane is opened for an end of a queue: nothing is taken, told or judged yet
pub record IsOpened (wide : Bool) (take : ℕ × Take) (l : LaneView) : Type 0 where
  pub fresh : IsNewLane take l
  pub unjudged : judged_of l ≡ []
  pub judged : (image : List ℕ) (all : List Write) → IsJudgedBy l image wide all

-- a lane is opened for each end of a queue, in their order
abbrev pub AreOpened : Bool → List (ℕ × Take) → List LaneView → Type 0
AreOpened wide [] [] = Unit {0}
AreOpened wide (t ∷ ts) (l ∷ ls) = IsOpened wide t l × AreOpened wide ts ls
AreOpened wide _ _ = ⊥
