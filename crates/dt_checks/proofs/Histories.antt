-- Lists of writes that begin alike give the same checks.
use Rattle.std.proofs.Common.{◌%◌, ◌==◌, Bool, ◌||◌, if◌then◌else◌, Ok, Result, ap, ◌∙◌, arith}
use Rattle.dt_access.specs.Translating.{walk_args}
use Rattle.dt_alu.specs.Words.{sum_of}
use Rattle.dt_record.specs.declared.reasons.Reason.TheVariants.{Pc}
use Rattle.dt_rules.specs.declared.misfits.Misfit.{Misfit}
use Rattle.dt_rules.specs.Checks.{and_then, check, misfit}
use Rattle.dt_translate.specs.Laws.{SameFirstWrites, SameWindows}
use Rattle.dt_translate.specs.Outcomes.{allowed_moment, outcome_at}
use Rattle.dt_walk.specs.declared.arguments.Access.TheVariants.{Fetch}
use Rattle.dt_walk.specs.declared.arguments.WalkAnswer.TheVariants.{Page}
use Rattle.dt_checks.specs.Addresses.{address_answer}
use Rattle.dt_checks.specs.Fetching.{first_half, half_answer, half_check, rest_check, second_half}
use Rattle.dt_checks.specs.Laws.{SameAddresses, SameFetches, SameHalves, SameStarts}
use Rattle.dt_checks.specs.Starting.{started_check}

module _ (windows : SameWindows) where
  pub same_halves : SameHalves
  same_halves image ws vs window since a va half same same_since =
      ap (half_answer window since va half) ((windows image ws vs window since (walk_args a Fetch va) same same_since).fetched half)

  pub same_fetches : SameFetches
  same_fetches image ws vs spans a bits alike =
      let after : Result Bool Misfit → Bool → Result Bool Misfit = λ (second : Result Bool Misfit) older.
      if bits % 4 == 3 then and_then second (λ (found : Bool). Ok (older || found)) else Ok older in
      ap (λ (first : Result Bool Misfit). and_then first (rest_check image ws spans a bits))
      (same_halves image ws vs spans.first spans.since a a.pc (first_half bits) alike.first alike.since)
      ∙ ap (λ second. and_then (half_check image vs spans.first spans.since a a.pc (first_half bits)) (after second))
      (same_halves image ws vs spans.second spans.since a (sum_of 64 a.pc 2) (second_half bits) alike.second alike.since)

  pub same_starts : SameStarts
  same_starts image ws vs spans a pc bits tag alike =
      ap (λ (fetched : Result Bool Misfit). check (pc == a.pc) (misfit Pc a.pc pc) (and_then fetched (started_check a bits tag)))
      (same_fetches image ws vs spans a bits alike)

  pub same_addresses : SameFirstWrites → SameAddresses
  same_addresses moments image ws vs window args ram_only paddr same =
      ap (λ last. address_answer window paddr last (allowed_moment image ws window args ram_only (Page paddr)))
      ((moments image ws vs window.last window.last same (omega arith)).outcomes args ram_only)
      ∙ ap (address_answer window paddr (outcome_at image vs window.last args ram_only))
      ((windows image ws vs window window args same same).allowed ram_only (Page paddr))
