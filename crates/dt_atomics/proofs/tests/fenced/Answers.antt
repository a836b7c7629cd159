use Rattle.std.proofs.Common.{[], arith}
use Rattle.dt_atomics.proofs.tests.fenced.Goals as goal

pub fence-requires : goal.fence-requires
fence-requires c =
    let stands = c.in_ok-commit.ensures.ok [] c.new-stores.ensures.stands in
    (omega (arith, stands.ww), omega (arith, stands.wr))
