-- The news of several lanes in one append. All of it is this project's own.
use Rattle.std.specs.Prelude.{◌≡◌, List, [], if◌then◌else◌}
use Rattle.dt_record.specs.declared.writes.Note.{Note}
use Rattle.dt_intake.specs.Intakes.{has_news, news_of, after_telling}
use Rattle.dt_lane.specs.Lanes.{LaneView}

-- what a lane adds to an append: its news, where it has any
abbrev pub news_in : LaneView → List Note
news_in l = if has_news l.intake then news_of l.intake else []

-- the lane after the append
abbrev pub told_lane : LaneView → LaneView
told_lane l = if has_news l.intake then record l { intake = after_telling l.intake } else l

-- the lane tells what it has
abbrev pub Tells : LaneView → LaneView → Type 0
Tells u v = v ≡ told_lane u
