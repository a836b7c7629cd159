use Rattle.std.proofs.Common.{ℕ, ◌≡◌, ◌+◌, ◌-◌, vec_len}
use Rattle.dt_versions.specs.Chains.{chain_of}
use Rattle.dt_versions.proofs.chains.grow.Given as goal

abbrev pub invariant-growing : goal.invariant-growing
invariant-growing l = (other : ℕ) → chain_of l.lines.items other ≡ chain_of l.initial.lines.items other

abbrev pub decreases-growing : goal.decreases-growing
decreases-growing l = l.place + 1 - vec_len l.lines
