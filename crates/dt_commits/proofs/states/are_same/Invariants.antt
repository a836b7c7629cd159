use Rattle.std.proofs.Common.{◌≡◌, drop}
use Rattle.dt_record.specs.declared.reasons.Reason.TheVariants.{State}
use Rattle.dt_rules.specs.Checks.{first_difference}
use Rattle.dt_commits.proofs.states.are_same.Given as goal

abbrev pub invariant-loop-i : goal.invariant-loop-i
invariant-loop-i l = first_difference State l.dues l.found ≡ first_difference State (drop l.i l.dues) (drop l.i l.found)
