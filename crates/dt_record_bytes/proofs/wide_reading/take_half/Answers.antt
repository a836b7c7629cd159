use Rattle.std.proofs.Common.{arith}
use Rattle.dt_record_bytes.proofs.Fields.{half_at_front}
use Rattle.dt_record_bytes.proofs.wide_reading.take_half.Goals as goal

pub returns-clause-spelled : goal.returns-clause-spelled
returns-clause-spelled c =
    half_at_front c.args.bytes.now c.copy_from_slice.new.self c.split_at.result.0.now c.split_at.result.1.now _ c.copy_from_slice.ensures.after c.split_at.ensures.front c.split_at.ensures.back c.copy_from_slice.ensures.len (λ i. omega (arith, c.type_inv.bytes i)) c.from_le_bytes.ensures
