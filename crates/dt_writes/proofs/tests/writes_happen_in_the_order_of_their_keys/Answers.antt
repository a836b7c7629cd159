use Rattle.std.proofs.Common.{rules, arith}
use Rattle.dt_writes.proofs.tests.writes_happen_in_the_order_of_their_keys.Goals as goal

pub moments_of-requires : goal.moments_of-requires
moments_of-requires g c = record {
  harts = 2;
  few_harts = omega arith;
  each = search rules;
  few_records = omega arith;
  few_writes = omega arith;
}
