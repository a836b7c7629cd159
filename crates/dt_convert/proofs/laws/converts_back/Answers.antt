use Rattle.dt_convert.proofs.Files.{converts}
use Rattle.dt_convert.proofs.laws.converts_back.Goals as goal

pub returns : goal.returns
returns c = converts
