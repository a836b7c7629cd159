use Rattle.std.proofs.Common.{ℕ, ◌<◌}
use Rattle.std.specs.Prelude.{IsTrue, slice_index_or}
use Rattle.dt_lane.specs.Lanes.{LaneView, is_done}
use Rattle.dt_worker.proofs.lanes.are_done.Given as goal

abbrev pub invariant-loop-lane : goal.invariant-loop-lane
invariant-loop-lane l = (k : ℕ) (d : LaneView) → k < l.lane-index → IsTrue (is_done (slice_index_or l.lanes k d))
