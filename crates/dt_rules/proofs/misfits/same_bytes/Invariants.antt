use Rattle.std.proofs.Common.{◌≡◌, drop, take}
use Rattle.dt_rules.specs.Checks.{first_difference}
use Rattle.dt_rules.proofs.misfits.same_bytes.Given as goal

abbrev pub invariant-loop-i : goal.invariant-loop-i
invariant-loop-i l =
    (first_difference l.reason l.dues l.found ≡ first_difference l.reason (drop l.i l.dues) (drop l.i l.found)) × (take l.i l.dues ≡ take l.i l.found)
