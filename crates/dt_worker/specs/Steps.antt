-- What holds of a worker between its steps, and what these do. All of it is this project's own.
use Rattle.std.specs.Prelude.{◌≡◌, ◌≢◌, ◌<◌, ◌≤◌, ℕ, Bool, Option, List, [], take, drop, length, All, IsTrue, slice_index_or}
use mathlib.Core.List.{IsPrefix}
use Rattle.dt_record.specs.declared.writes.Note.{Note}
use Rattle.dt_record.specs.declared.writes.Write.{Write}
use Rattle.dt_record.specs.Marks.{HasPassed, least_mark}
use Rattle.dt_core.specs.Marks.{is_below}
use Rattle.dt_intake.specs.Told.{IsTold, own_notes}
use Rattle.dt_settled.specs.AllWrites.{AreAllWrites}
use Rattle.dt_settled.specs.Settling.{SettledView, Stands, Continues}
use Rattle.dt_shared.specs.Entries.{notes_in}
use Rattle.dt_shared.specs.Passes.{PassState}
use Rattle.dt_shared.specs.Replicas.{ReplicaState}
use Rattle.dt_versions.specs.History.{History}
use Rattle.dt_lane.specs.Lanes.{LaneView, IsJudgedBy, judged_len, judged_of}
use Rattle.dt_worker.specs.Ends.{IsLaterPass}
use Rattle.dt_worker.specs.Workers.{WorkerView}

-- what becomes of each element of a list, by index
pub record EachGoes {X : Type 0} (R : X → X → Type 0) (old new : List X) : Type 0 where
  pub size : length new ≡ length old
  pub each : (k : ℕ) (d : X) → k < length old → R (slice_index_or old k d) (slice_index_or new k d)

-- the lanes are of different harts
pub record AreApart (lanes : List LaneView) : Type 0 where
  pub each : (j k : ℕ) (d : LaneView) → j < length lanes → k < length lanes → j ≢ k
      → (slice_index_or lanes j d).intake.hart ≢ (slice_index_or lanes k d).intake.hart

-- none of the lanes is of this hart
abbrev pub AreOthers : ℕ → List LaneView → Type 0
AreOthers hart lanes = All (λ l. l.intake.hart ≢ hart) lanes

-- what a worker appended tells its lanes, and nothing of other harts
pub record IsInStep (lanes : List LaneView) (own : List Note) : Type 0 where
  pub apart : AreApart lanes
  pub told : All (λ l. IsTold l.intake own) lanes
  pub no_other : (hart : ℕ) → AreOthers hart lanes → own_notes hart own ≡ []

-- each lane is judged over this image and these writes
abbrev pub AreJudgedBy : List LaneView → (image : List ℕ) → (wide : Bool) → (all : List Write) → Type 0
AreJudgedBy lanes image wide all = All (λ l. IsJudgedBy l image wide all) lanes

-- every hart has passed the cycle of each judged record in these notes
abbrev pub ArePassed : (harts : ℕ) → List Note → List LaneView → Type 0
ArePassed harts notes lanes = All (λ l. All (λ r. HasPassed harts notes r.stamp) (judged_of l)) lanes

-- What holds of a worker between its calls. Of all writes it says what is true of any list that may be all writes by the notes that
-- the worker has copied.
pub record IsSteady (w : WorkerView) : Type 0 where
  pub begins : IsPrefix w.notes (notes_in w.pass.seen)
  pub within : w.settled.seen ≤ length w.notes
  pub image : w.settled.image ≡ w.image
  pub in_step : IsInStep w.lanes w.pass.own
  pub passed : ArePassed w.harts w.notes w.lanes
  pub settled : (all : List Write) → AreAllWrites w.image w.harts w.notes all → Stands w.settled (take w.settled.seen w.notes) all
  pub judged : (all : List Write) → AreAllWrites w.image w.harts w.notes all → AreJudgedBy w.lanes w.image w.wide all

-- What a worker keeps beside: its replica is of all harts, it knows whether memory was refused to it, and there is room for the ends
-- of its lanes.
pub record IsWorkerState (w : WorkerView) (replica : ReplicaState) (knows : Bool) (takes_room ends_room : ℕ) : Type 0 where
  pub steady : IsSteady w
  pub harts : replica.harts ≡ w.harts
  pub refused : knows ≡ w.pass.stopped
  pub for_takes : length w.lanes ≤ takes_room
  pub for_ends : length w.lanes ≤ ends_room

-- a lane has taken more, or nothing, and what notes told of it they tell still
pub record TakesMore (u v : LaneView) : Type 0 where
  pub queue : v.queue ≡ u.queue
  pub hart : v.intake.hart ≡ u.intake.hart
  pub run : v.run ≡ u.run
  pub judged : judged_of v ≡ judged_of u
  pub told : (notes : List Note) → IsTold u.intake notes → IsTold v.intake notes

-- A lane has judged more over this memory, or nothing. Each record that it has is below the mark, and where no write below the mark is
-- wanting to the memory, it stays judged by all writes.
pub record JudgesMore (m : History) (least : Option ℕ) (u v : LaneView) : Type 0 where
  pub same : v ≡ record u { run = v.run }
  pub below : All (λ r. IsTrue (is_below least r.stamp)) (drop (judged_len u.run) (judged_of v))
  pub judged : (wide : Bool) (all : List Write) → Continues m.writes least all
      → IsJudgedBy u m.image wide all → IsJudgedBy v m.image wide all

-- What a look does, whatever comes of it: the pass has seen more, or no less, and so has the replica. Where a list may be that of all
-- writes, the settled memory stands for as many of the notes as it has seen.
pub record LooksFurther (harts : ℕ) (p q : PassState) (r s : ReplicaState) (u v : SettledView) : Type 0 where
  pub pass : q ≡ record p { seen = q.seen }
  pub seen : IsPrefix p.seen q.seen
  pub replica : s ≡ record r { notes = s.notes }
  pub notes : IsPrefix r.notes s.notes
  pub begins : IsPrefix s.notes (notes_in q.seen)
  pub image : v.image ≡ u.image
  pub within : v.seen ≤ length s.notes
  pub stands : (all : List Write) → AreAllWrites u.image harts s.notes all
      → Stands u (take u.seen r.notes) all → Stands v (take v.seen s.notes) all

-- below the least mark of the notes that the worker has copied, no write is wanting to what has settled
pub record HasSettled (w : WorkerView) : Type 0 where
  pub continues : (all : List Write) → AreAllWrites w.image w.harts w.notes all
      → Continues w.settled.writes (least_mark w.harts w.notes) all

-- the lane of the same hart and queue
pub record SameLane (u v : LaneView) : Type 0 where
  pub queue : v.queue ≡ u.queue
  pub hart : v.intake.hart ≡ u.intake.hart

-- a worker later in its run
pub record Goes (u v : WorkerView) : Type 0 where
  pub harts : v.harts ≡ u.harts
  pub wide : v.wide ≡ u.wide
  pub image : v.image ≡ u.image
  pub pass : IsLaterPass u.pass v.pass
  pub lanes : EachGoes SameLane u.lanes v.lanes
