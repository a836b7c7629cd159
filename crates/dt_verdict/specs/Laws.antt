use Rattle.std.specs.Prelude.{List}
use Rattle.dt_verdict.specs.declared.verdicts.Outcome.{Outcome}
use Rattle.dt_verdict.specs.Verdict.{verdict_of, IsVerdict}

-- Laws of the verdict (this project's own).

-- whatever the outcomes are, the verdict that is computed is Pass where there is no failure, and else at one with the least key
abbrev pub VerdictsAreLeast : Type 0
VerdictsAreLeast = (outcomes : List Outcome) → IsVerdict outcomes (verdict_of outcomes)
