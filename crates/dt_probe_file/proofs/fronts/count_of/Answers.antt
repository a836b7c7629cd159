use Rattle.std.proofs.Common.{arith}
use Rattle.dt_probe_file.proofs.Deciding.{count_spelled}
use Rattle.dt_probe_file.proofs.fronts.count_of.Goals as goal

pub returns-clause-spelled : goal.returns-clause-spelled
returns-clause-spelled c = count_spelled c.args.bytes.now c.copy_from_slice.new.self c.from_le_bytes.result c.requires (λ i. omega (arith, c.type_inv.bytes i)) c.copy_from_slice.ensures.after c.from_le_bytes.ensures
