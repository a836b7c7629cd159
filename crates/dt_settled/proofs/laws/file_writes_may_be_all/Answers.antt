use Rattle.dt_settled.proofs.AllWrites.{file-all}
use Rattle.dt_settled.proofs.laws.file_writes_may_be_all.Goals as goal

pub returns : goal.returns
returns c = file-all c.writes_below_mark_are_all.ensures c.file_history_is_kept.ensures c.writes_stand_in_order.ensures
