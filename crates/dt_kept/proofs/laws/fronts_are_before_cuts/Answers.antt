use Rattle.dt_kept.proofs.Cutting as cutting
use Rattle.dt_kept.proofs.laws.fronts_are_before_cuts.Goals as goal

pub returns : goal.returns
returns c = cutting.fronts_are_before_cuts
