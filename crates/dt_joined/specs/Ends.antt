-- The ends of the harts of a file, in whatever order. All of it is this project's own.
use Rattle.std.specs.Prelude.{◌≡◌, ◌≢◌, ◌<◌, ◌≤◌, ℕ, Bool, List, [], length, Contains, All, Any, IsTrue}
use Rattle.dt_record.specs.declared.limits.TheConstants.{RECORD_LIMIT}
use Rattle.dt_record.specs.declared.records.Record.{Record}
use Rattle.dt_record.specs.declared.writes.Write.{Write}
use Rattle.dt_record.specs.Keys.{records_of}
use Rattle.dt_intake.specs.Told.{own_notes, IsTold}
use Rattle.dt_runs.specs.RunView.{outcome_in}
use Rattle.dt_lane.specs.declared.ends.HartEnd.{HartEnd}
use Rattle.dt_lane.specs.Lanes.{LaneView, IsLane, IsJudgedBy, is_done}
use Rattle.dt_settled.specs.AllWrites.{AreAllWrites}
use Rattle.dt_shared.specs.Entries.{notes_in}
use Rattle.dt_shared.specs.Passes.{PassState}
use Rattle.dt_joined.specs.Joined.{IsJudgedHart}

-- each hart below `harts` has an end among these
abbrev pub HaveAllHarts : ℕ → List HartEnd → Type 0
HaveAllHarts harts ends = (hart : ℕ) → hart < harts → Any (λ e. e.hart ≡ hart) ends

-- no end has more records than a file may have
abbrev pub AreFew : List HartEnd → Type 0
AreFew ends = All (λ e. length e.taken.items ≤ RECORD_LIMIT) ends

-- Each end is what came of its hart in the file, and has all its records.
pub record AreEndsOf (image : List ℕ) (wide : Bool) (file : List Record) (ends : List HartEnd) : Type 0 where
  pub judged : All (λ e. IsJudgedHart image wide file e.hart e.outcome e.notes.items) ends
  pub taken : All (λ e. e.taken.items ≡ records_of e.hart file) ends

-- What came of one hart in the hands of the holder of a pass: all its records were taken, this pass alone told them, and the run is the
-- judgement over whatever list may be all writes, by the history that the pass saw.
pub record IsJoinedHart (image : List ℕ) (wide : Bool) (harts : ℕ) (file : List Record) (passes : List PassState)
    (e : HartEnd) : Type 0 where
  pub lane : LaneView
  pub pass : PassState
  pub its_pass : Contains passes pass
  pub is_lane : IsLane lane
  pub hart : e.hart ≡ lane.intake.hart
  pub all_taken : lane.intake.taken ≡ records_of lane.intake.hart file
  pub taken_are : e.taken.items ≡ lane.intake.taken
  pub told : IsTold lane.intake pass.own
  pub others : All (λ p. p.number ≢ pass.number → own_notes lane.intake.hart p.own ≡ []) passes
  pub judged : (all : List Write) → AreAllWrites image harts (notes_in pass.seen) all → IsJudgedBy lane image wide all
  pub outcome_is : e.outcome ≡ outcome_in lane.run
  pub notes_are : e.notes.items ≡ lane.run.notes
  pub done : IsTrue (is_done lane)

-- what came of all harts of a file, and no pass has a note of any other hart
pub record AreJoinedHarts (image : List ℕ) (wide : Bool) (harts : ℕ) (file : List Record) (passes : List PassState)
    (ends : List HartEnd) : Type 0 where
  pub each : All (IsJoinedHart image wide harts file passes) ends
  pub all_harts : HaveAllHarts harts ends
  pub no_other : (hart : ℕ) → harts ≤ hart → All (λ p. own_notes hart p.own ≡ []) passes
