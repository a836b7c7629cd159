-- One hart in the hands of its worker. All of it is this project's own.
use Rattle.std.specs.Prelude.{◌≡◌, ◌≤◌, ◌+◌, ◌==◌, ◌&&◌, ◌||◌, not, ℕ, Bool, true, false, is_some, if◌then◌else◌, List, [], ◌∷◌, ◌++◌, length, take, All}
use mathlib.Core.List.{IsPrefix}
use Rattle.dt_record.specs.declared.records.Record.{Record}
use Rattle.dt_record.specs.declared.writes.Write.{Write}
use Rattle.dt_queue.specs.Queue.{QueueName}
use Rattle.dt_intake.specs.Fronts.{stamp_after}
use Rattle.dt_intake.specs.Intakes.{IntakeView, is_feed_end, usable_of, is_over, has_news}
use Rattle.dt_runs.specs.RunView.{RunView}
use Rattle.dt_runs.specs.Runs.{AreOwn, Runs}

-- the queue from which the hart's records come, all that was popped from it, what was taken and told of it, and how far the hart
-- was judged
pub record LaneView : Type 0 where
  pub queue : QueueName
  pub popped : List Record
  pub intake : IntakeView
  pub run : RunView

-- how many of a hart's records were judged: those that are allowed, and the one that is not
abbrev pub judged_len : RunView → ℕ
judged_len v = v.hart.seq + (if is_some v.failure then 1 else 0)

-- the judged records
abbrev pub judged_of : LaneView → List Record
judged_of l = take (judged_len l.run) (usable_of l.intake)

-- what was popped: the records that were taken, and behind them the end of the feed once it came
pub record IsPopped (ended : Bool) (taken popped : List Record) : Type 0 where
  pub plain : All (λ r. is_feed_end r ≡ false) taken
  pub open_still : ended ≡ false → popped ≡ taken
  pub over : ended ≡ true → (e : Record) × (is_feed_end e ≡ true) × (popped ≡ taken ++ e ∷ [])

-- The run is that of the judged records over this image and these writes, whatever longer list of all records of the hart they begin.
pub record IsJudgedBy (l : LaneView) (image : List ℕ) (wide : Bool) (all : List Write) : Type 0 where
  pub runs : (own : List Record) → AreOwn all l.intake.hart own → IsPrefix (judged_of l) own
      → Runs l.run image all wide (judged_of l)

-- what holds of a lane between its calls
pub record IsLane (l : LaneView) : Type 0 where
  pub number : l.run.hart.arch.hart ≡ l.intake.hart
  pub popped : IsPopped l.intake.ended l.intake.taken l.popped
  pub within : judged_len l.run ≤ length (usable_of l.intake)
  pub stamp : l.run.hart.stamp ≡ stamp_after 0 (take l.run.hart.seq (usable_of l.intake))

-- all usable records are judged, or one is not allowed
abbrev pub is_judged : LaneView → Bool
is_judged l = is_some l.run.failure || (judged_len l.run == length (usable_of l.intake))

-- the feed has ended, all that was taken is usable, it is told to its End, and it is judged
abbrev pub is_done : LaneView → Bool
is_done l = is_over l.intake && (not (has_news l.intake) && is_judged l)
