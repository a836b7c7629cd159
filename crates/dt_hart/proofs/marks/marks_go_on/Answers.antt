use Rattle.dt_hart.proofs.MarksOn.{marks_go}
use Rattle.dt_hart.proofs.marks.marks_go_on.Goals as goal

pub returns : goal.returns
returns c = marks_go c.marks_stay_live.ensures c.marks_stay_live-2.ensures c.marks_stay_live-3.ensures
