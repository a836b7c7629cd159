use Rattle.std.proofs.Common.{◌*◌}
use Rattle.std.proofs.lemmas.Nat.{or_lt, xor_lt}
use Rattle.dt_alu.proofs.atomics.amo.Goals as goal

pub returns-in-Xor-clause-fits : goal.returns-in-Xor-clause-fits
returns-in-Xor-clause-fits c = xor_lt (8 * c.args.width) c.low_bytes-old.result c.low_bytes-b.result c.low_bytes-old.ensures.fits c.low_bytes-b.ensures.fits

pub returns-in-Or-clause-fits : goal.returns-in-Or-clause-fits
returns-in-Or-clause-fits c = or_lt (8 * c.args.width) c.low_bytes-old.result c.low_bytes-b.result c.low_bytes-old.ensures.fits c.low_bytes-b.ensures.fits
