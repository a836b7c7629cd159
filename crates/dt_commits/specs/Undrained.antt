use Rattle.std.specs.Prelude.{ℕ, Result, Ok, List}
use Rattle.dt_record.specs.declared.reasons.Reason.TheVariants.{Undrained}
use Rattle.dt_record.specs.Actions.{Action}
use Rattle.dt_step.specs.declared.plans.Planned.{Planned}
use Rattle.dt_step.specs.declared.plans.Planned.TheVariants.{FenceI, FencesPages}
use Rattle.dt_stores.specs.declared.answers.Which.TheVariants.{All}
use Rattle.dt_stores.specs.Oldest.{oldest_after}
use Rattle.dt_rules.specs.declared.misfits.Misfit.{Misfit}
use Rattle.dt_rules.specs.Checks.{none_left}

-- Which commits ask that every own store is drained (this project's own).

-- FENCE.I and SFENCE.VMA ask it in their own cycle
abbrev pub undrained_check : List Action → Planned → (stamp seq : ℕ) → Result (Unit {0}) Misfit
undrained_check actions FenceI stamp seq = none_left Undrained (oldest_after actions All stamp) seq
undrained_check actions (FencesPages va all) stamp seq = none_left Undrained (oldest_after actions All stamp) seq
undrained_check actions plan stamp seq = Ok tt
