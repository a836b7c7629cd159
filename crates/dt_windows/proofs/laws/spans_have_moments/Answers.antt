use Rattle.dt_windows.proofs.Spans.{spans_have_moments}
use Rattle.dt_windows.proofs.laws.spans_have_moments.Goals as goal

pub returns : goal.returns
returns c = spans_have_moments c.visible_is_interval.ensures
