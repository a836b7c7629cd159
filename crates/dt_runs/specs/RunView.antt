use Rattle.std.specs.Prelude.{Option, List}
use Rattle.dt_hart.specs.HartView.{HartView}
use Rattle.dt_verdict.specs.declared.tallies.Noted.{Noted}
use Rattle.dt_verdict.specs.declared.verdicts.Failure.{Failure}
use Rattle.dt_verdict.specs.declared.verdicts.Outcome.{Outcome}

-- What is kept of a hart's run (this project's own): the hart behind its allowed records; its first record that is not
-- allowed, where there is one; and what a report says of the allowed ones, in their order.
pub record RunView : Type 0 where
  pub hart : HartView
  pub failure : Option Failure
  pub notes : List Noted

-- how far the hart came
abbrev pub outcome_in : RunView → Outcome
outcome_in v = record { hart = v.hart.arch.hart; failure = v.failure }
