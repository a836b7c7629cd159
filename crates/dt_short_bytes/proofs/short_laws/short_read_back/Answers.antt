use Rattle.std.proofs.Common.{refl}
use Rattle.dt_short_bytes.proofs.short_laws.short_read_back.Goals as goal

pub returns : goal.returns
returns c = λ rest. (refl, rest, record { follows = record { fits = c.fits.ensures; lawful = c.requires.lawful; stamp = c.requires.stamp }; spelled = refl })
