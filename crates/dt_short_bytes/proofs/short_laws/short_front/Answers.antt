use Rattle.std.proofs.Common.{refl}
use Rattle.dt_record.specs.Spelling.{short_bytes}
use Rattle.dt_short_bytes.proofs.short_laws.short_front.Goals as goal

pub returns : goal.returns
unfolding short_bytes
returns c = λ last r. refl
