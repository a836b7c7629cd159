-- A page address keeps its place in the page, so two bytes at an even address stay together.
use Rattle.std.proofs.Common.{◌≡◌, ℕ, ◌%◌, true, false, if◌then◌else◌, List, refl, arith}
use Rattle.std.proofs.lemmas.Bool.Decides.{nat_tests}
use Rattle.dt_access.specs.Reaching.{is_reachable, reached}
use Rattle.dt_record.specs.declared.writes.Write.{Write}
use Rattle.dt_walk.specs.declared.arguments.WalkArgs.{WalkArgs}
use Rattle.dt_walk.specs.declared.arguments.WalkAnswer.{WalkAnswer}
use Rattle.dt_walk.specs.declared.arguments.WalkAnswer.TheVariants.{Page, PageFault, AccessFault}
use Rattle.dt_walk.specs.Leaf.{KeepsOffset}
use Rattle.dt_walk.specs.Walk.{walk_of}
use Rattle.dt_translate.specs.Fetches.{LeadsToHalf}
use Rattle.dt_translate.specs.Outcomes.{entry_at, outcome_at}

even_in_page : (addr va : ℕ) → addr % 4096 ≡ va % 4096 → va % 2 ≡ 0 → addr % 2 ≡ 0
even_in_page addr va same even = omega arith

reached-leads : (a : WalkArgs) (answer : WalkAnswer) → KeepsOffset a answer → a.va % 2 ≡ 0 → LeadsToHalf (reached true answer)
reached-leads a (Page addr) keeps even =
    elim (is_reachable true addr) as (λ b. is_reachable true addr ≡ b → LeadsToHalf (if b then Page addr else AccessFault)) [
      | true ↦ λ inside.
          let aligned = even_in_page addr a.va keeps even in
          (aligned, grind (arith, nat_tests), grind (arith, nat_tests))
      | false ↦ λ _. tt
    ] refl
reached-leads a PageFault keeps even = tt
reached-leads a AccessFault keeps even = tt

-- a fetch from an even address leads to two bytes of RAM
pub LeadsToHalf-outcome_at : (image : List ℕ) (writes : List Write) (k : ℕ) (a : WalkArgs)
    → KeepsOffset a (walk_of (entry_at image writes k) a) → a.va % 2 ≡ 0 → LeadsToHalf (outcome_at image writes k a true)
unfolding outcome_at
LeadsToHalf-outcome_at image writes k a keeps even = reached-leads a (walk_of (entry_at image writes k) a) keeps even
