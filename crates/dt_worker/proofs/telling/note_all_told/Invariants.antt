use Rattle.std.proofs.Common.{◌≡◌, ◌<◌, ◌≤◌, ℕ}
use Rattle.std.specs.Prelude.{slice_index_or}
use Rattle.dt_lane.specs.Lanes.{LaneView}
use Rattle.dt_worker.specs.Telling.{told_lane}
use Rattle.dt_worker.proofs.telling.note_all_told.Given as goal

-- the lanes so far told what they have, and the others are as they were
abbrev pub invariant-loop-lane : goal.invariant-loop-lane
invariant-loop-lane l = record {
  told : (k : ℕ) (d : LaneView) → k < l.lane-index → slice_index_or l.lane-items k d ≡ told_lane (slice_index_or l.initial.lane-items k d);
  others : (k : ℕ) (d : LaneView) → l.lane-index ≤ k → slice_index_or l.lane-items k d ≡ slice_index_or l.initial.lane-items k d;
}
