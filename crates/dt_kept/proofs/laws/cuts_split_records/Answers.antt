use Rattle.dt_kept.proofs.Cutting as cutting
use Rattle.dt_kept.proofs.laws.cuts_split_records.Goals as goal

pub returns : goal.returns
returns c = cutting.cuts_split_records
