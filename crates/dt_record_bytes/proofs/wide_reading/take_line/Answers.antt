use Rattle.std.proofs.Common.{arith}
use Rattle.dt_record_bytes.proofs.Fields.{line_at_front}
use Rattle.dt_record_bytes.proofs.wide_reading.take_line.Goals as goal

pub returns-clause-fits : goal.returns-clause-fits
returns-clause-fits c =
    line_at_front c.args.bytes.now _ _ c.copy_from_slice.ensures.after c.split_at.ensures.front c.copy_from_slice.ensures.len (λ i. omega (arith, c.type_inv.bytes i))
