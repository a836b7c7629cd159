use Rattle.std.specs.Prelude.{ℕ, ◌≡◌, ◌%◌, Bool, IsTrue, List, Result, Ok, Err, Option, Some, None}
use Rattle.dt_access.specs.Reaching.{is_reachable}
use Rattle.dt_alu.specs.Extend.{IsAccessWidth}
use Rattle.dt_record.specs.declared.reasons.Reason.TheVariants.{Address}
use Rattle.dt_record.specs.declared.writes.Write.{Write}
use Rattle.dt_rules.specs.declared.misfits.Misfit.{Misfit}
use Rattle.dt_rules.specs.declared.misfits.TheConstants.{NO_NUMBER}
use Rattle.dt_rules.specs.Checks.{misfit}
use Rattle.dt_translate.specs.Outcomes.{allowed_moment, outcome_at}
use Rattle.dt_versions.specs.declared.moments.Span.{Span}
use Rattle.dt_walk.specs.declared.arguments.WalkAnswer.{WalkAnswer}
use Rattle.dt_walk.specs.declared.arguments.WalkAnswer.TheVariants.{Page, PageFault, AccessFault}
use Rattle.dt_walk.specs.declared.arguments.WalkArgs.{WalkArgs}
use Rattle.dt_checks.specs.Fetching.{is_older}

-- Whether an access may have reached a physical address (this project's own).

-- the address of a translation, and no number where it faults
abbrev pub page_or_none : WalkAnswer → ℕ
page_or_none (Page addr) = addr
page_or_none PageFault = NO_NUMBER
page_or_none AccessFault = NO_NUMBER

-- what the chosen moment, if any, says of a physical address, where the last moment of the window gives this outcome
abbrev pub address_answer : (window : Span) (paddr : ℕ) (last : WalkAnswer) → Option ℕ → Result Bool Misfit
address_answer window paddr last (Some k) = Ok (is_older window k)
address_answer window paddr last None = Err (misfit Address (page_or_none last) paddr)

-- the physical address of an access, which some moment of the window gives: whether only older moments do
abbrev pub address_check : List ℕ → List Write → (window : Span) → WalkArgs → (ram_only : Bool) → (paddr : ℕ) → Result Bool Misfit
address_check image writes window args ram_only paddr =
    address_answer window paddr (outcome_at image writes window.last args ram_only)
    (allowed_moment image writes window args ram_only (Page paddr))

-- a physical address that an access at this virtual address can reach: both have the same place in their pages, so that
-- an aligned access stays aligned, and it is one of RAM, or a device's unless RAM alone is allowed
pub record IsPlaceOf (va : ℕ) (ram_only : Bool) (paddr : ℕ) : Type 0 where
  pub in_page : paddr % 4096 ≡ va % 4096
  pub alignment : (width : ℕ) → IsAccessWidth width → va % width ≡ 0 → paddr % width ≡ 0
  pub reachable : IsTrue (is_reachable ram_only paddr)
