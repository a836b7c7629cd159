use Rattle.std.proofs.Common.{◌≡◌, [], arith}
use Rattle.dt_stores.proofs.tests.a_fence_bars_the_younger_line.Goals as goal

pub fence-requires : goal.fence-requires
fence-requires g c =
    let stands = c.in_ok-commit.ensures.ok [] c.new-stores.ensures.stands in
    let ww : c.commit.new.self.ww ≡ 0 = stands.ww in
    let wr : c.commit.new.self.wr ≡ 0 = stands.wr in
    (omega arith, omega arith)
