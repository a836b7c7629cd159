use Rattle.std.proofs.Common.{arith}
use Rattle.dt_record_bytes.proofs.Fields.{each_below}
use Rattle.dt_record_bytes.proofs.wide_reading.take_doubles.Goals as goal

pub returns-clause-fits : goal.returns-clause-fits
returns-clause-fits c = record {
  count_is = omega arith;
  each = each_below _ _ (λ i lt. c.loop-number.invariant.fits i (omega arith));
}
