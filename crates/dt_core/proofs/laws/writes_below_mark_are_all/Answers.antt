use Rattle.dt_core.proofs.Watermark.{WritesBelowMark-all}
use Rattle.dt_core.proofs.laws.writes_below_mark_are_all.Goals as goal

pub returns : goal.returns
returns c = WritesBelowMark-all
