use Rattle.dt_atomics.proofs.AllowedAtomics.{allowed_are_exact}
use Rattle.dt_atomics.proofs.laws.allowed_atomics_are_exact.Goals as goal

pub returns : goal.returns
returns c = allowed_are_exact
