use Rattle.dt_decode.proofs.DecodedLemmas.{well_formed}
use Rattle.dt_decode.proofs.laws.meaning_is_well_formed.Goals as goal

pub returns : goal.returns
returns c = well_formed
