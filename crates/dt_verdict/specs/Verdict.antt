use Rattle.std.specs.Prelude.{◌≡◌, Bool, true, false, not, List, [], Contains, All, find, Option, None, Some, if◌then◌else◌}
use Rattle.std.specs.List.{filter_map, list_all}
use Rattle.std.specs.Option.{option_map_or}
use Rattle.dt_record.specs.Keys.{key_below}
use Rattle.dt_verdict.specs.declared.verdicts.Failure.{Failure}
use Rattle.dt_verdict.specs.declared.verdicts.Outcome.{Outcome}
use Rattle.dt_verdict.specs.declared.verdicts.Verdict.{Verdict}
use Rattle.dt_verdict.specs.declared.verdicts.Verdict.TheVariants.{Pass, Fail}

-- The verdict of harts (this project's own).

-- the failures among outcomes, in their order
abbrev pub failures_of : List Outcome → List Failure
failures_of outcomes = filter_map (λ (o : Outcome). o.failure) outcomes

-- whether no failure has a key below this one's
abbrev pub has_least_key : List Failure → Failure → Bool
has_least_key failures f = list_all (λ (g : Failure). not (key_below g.key f.key)) failures

-- Fail at the failure with the least key, the first of them where several have it, and else Pass
abbrev pub verdict_of : List Outcome → Verdict
verdict_of outcomes = option_map_or Fail (find (has_least_key (failures_of outcomes)) (failures_of outcomes)) Pass

-- The same as a relation: a verdict is Pass where there is no failure, and Fail at one of the failures
-- where no failure has a key below its own.
pub record IsLeastFailure (failures : List Failure) (f : Failure) : Type 0 where
  pub is_failure : Contains failures f
  pub least : All (λ (g : Failure). key_below g.key f.key ≡ false) failures

abbrev pub IsVerdict : List Outcome → Verdict → Type 0
IsVerdict outcomes Pass = failures_of outcomes ≡ []
IsVerdict outcomes (Fail f) = IsLeastFailure (failures_of outcomes) f

-- whether a failure has a key below that of the verdict's, where the verdict has one
abbrev pub is_sooner : Failure → Verdict → Bool
is_sooner f Pass = true
is_sooner f (Fail first) = key_below f.key first.key

-- the verdict of some harts and one more, which may have a failure
abbrev pub joined_verdict : Verdict → Option Failure → Verdict
joined_verdict verdict None = verdict
joined_verdict verdict (Some f) = if is_sooner f verdict then Fail f else verdict
