use Rattle.std.proofs.Common.{arith}
use Rattle.dt_snapshot.proofs.Multiples.{newer-within}
use Rattle.dt_snapshot.proofs.cuts.newer_cut.Goals as goal

pub overflow_mul-result : goal.overflow_mul-result
overflow_mul-result c = omega (arith, newer-within c.args.interval c.args.stamp, c.ranges.stamp.fits)
