use Rattle.std.proofs.Common.{◌≡◌, nat_le, find, drop}
use Rattle.dt_snapshot.proofs.keepers.find_state.Given as goal

-- the states so far are of earlier cycles
abbrev pub invariant-loop-entry : goal.invariant-loop-entry
invariant-loop-entry g l = find (λ s. nat_le l.cut s.0) (drop l.entry-index l.states) ≡ find (λ s. nat_le l.cut s.0) l.states
