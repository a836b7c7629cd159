use Rattle.std.proofs.Common.{ℕ, ◌≡◌, ◌<◌, ◌≤◌, length}
use Rattle.std.specs.Prelude.{slice_index_or}
use Rattle.dt_lane.specs.Lanes.{LaneView}
use Rattle.dt_worker.specs.Steps.{JudgesMore}
use Rattle.dt_worker.proofs.lanes.judge_all.Given as goal

-- the lanes so far have judged, and the others are as they were
abbrev pub invariant-loop-i : goal.invariant-loop-i
invariant-loop-i g l = record {
  size : length l.lanes.items ≡ length l.initial.lanes.items;
  more : (k : ℕ) (d : LaneView) → k < l.i → JudgesMore l.m l.least (slice_index_or l.initial.lanes.items k d) (slice_index_or l.lanes.items k d);
  others : (k : ℕ) (d : LaneView) → l.i ≤ k → slice_index_or l.lanes.items k d ≡ slice_index_or l.initial.lanes.items k d;
}
