use Rattle.std.proofs.Common.{refl}
use Rattle.dt_settled.proofs.laws.seeing_starts.Goals as goal

pub returns : goal.returns
returns c = λ image all. record { front = (all, refl); told = refl }
