use Rattle.std.proofs.Common.{◌≡◌, length, ◌-◌, ◌≤◌, take}
use Rattle.dt_source.specs.Known.{TakesFrom}
use Rattle.dt_source.proofs.whole.fill.Given as goal

-- the front of the buffer is what was taken
abbrev pub invariant-loop-at : goal.invariant-loop-at
invariant-loop-at g l =
    let left = g.S.Source.left in
    record {
      within : l.at ≤ length l.buf;
      taken : TakesFrom (left l.fn.source) (take l.at l.buf) (left l.source);
      quiet : g.S.Source.faults l.source ≡ g.S.Source.faults l.fn.source;
    }

abbrev pub decreases-loop-at : goal.decreases-loop-at
decreases-loop-at g l = length l.initial.buf - l.at
