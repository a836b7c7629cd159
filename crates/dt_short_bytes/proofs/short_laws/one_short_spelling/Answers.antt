use Rattle.dt_short_bytes.proofs.ShortLengths.{one_spelling}
use Rattle.dt_short_bytes.proofs.short_laws.one_short_spelling.Goals as goal

pub returns : goal.returns
returns c = one_spelling
