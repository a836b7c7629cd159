use Rattle.std.proofs.Common.{ℕ, ◌≡◌, ◌+◌, ◌-◌, ◌<◌, ◌≤◌, false}
use Rattle.dt_sources.specs.Tries.{are_fit}
use Rattle.dt_sources.proofs.finding.least_fit.Given as goal

-- no moment so far fits
abbrev pub invariant-loop-k : goal.invariant-loop-k
invariant-loop-k l = record {
  begun : l.fn.span.first ≤ l.k;
  none : (j : ℕ) → l.fn.span.first ≤ j → j < l.k → are_fit l.m j l.addr l.raw l.bytes ≡ false;
}

abbrev pub decreases-loop-k : goal.decreases-loop-k
decreases-loop-k l = l.span.last + 1 - l.k
