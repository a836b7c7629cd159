use Rattle.std.proofs.Common.{◌≡◌, ℕ, ◌+◌, ◌-◌, vec_len}
use Rattle.dt_stores.specs.Lines.{places_in, taken_in}
use Rattle.dt_stores.proofs.lines.grow.Given as goal

-- no line has more stores than before
abbrev pub invariant-loop-lines : goal.invariant-loop-lines
invariant-loop-lines l = record {
  places : (other : ℕ) → places_in l.lines.items other ≡ places_in l.initial.lines.items other;
  taken : (other : ℕ) → taken_in l.lines.items other ≡ taken_in l.initial.lines.items other;
}

abbrev pub decreases-loop-lines : goal.decreases-loop-lines
decreases-loop-lines l = l.place + 1 - vec_len l.lines
