use Rattle.std.proofs.Common.{◌≡◌, ℕ, ◌≤◌, ◌<◌, false}
use Rattle.std.specs.Str.{bytes_eq}
use Rattle.dt_refills.specs.Refilling.{line_at}
use Rattle.dt_refills.proofs.refilling.refill.Given as goal

-- no moment above this one has the line
abbrev pub invariant-down : goal.invariant-down
invariant-down l = record {
  within : l.k ≤ l.fn.seen.last;
  tried : (j : ℕ) → l.fn.seen.first ≤ j → j ≤ l.fn.seen.last → l.k < j → bytes_eq (line_at l.m.image l.m.writes j l.line) l.bytes ≡ false;
}

abbrev pub decreases-down : goal.decreases-down
decreases-down l = l.k
