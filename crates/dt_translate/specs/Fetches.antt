use Rattle.std.specs.Prelude.{ℕ, ◌≡◌, ◌≤◌, ◌<◌, ◌+◌, ◌%◌, ◌==◌, ⊤, Bool, true, false, IsTrue, List, Option, option_map, option_and_then, is_some}
use Rattle.dt_record.specs.declared.limits.TheConstants.{RAM_END, RAM_START}
use Rattle.dt_record.specs.declared.writes.Write.{Write}
use Rattle.dt_versions.specs.declared.moments.Span.{Span}
use Rattle.dt_walk.specs.declared.arguments.WalkArgs.{WalkArgs}
use Rattle.dt_walk.specs.declared.arguments.WalkAnswer.{WalkAnswer}
use Rattle.dt_walk.specs.declared.arguments.WalkAnswer.TheVariants.{Page, PageFault, AccessFault}
use Rattle.dt_translate.specs.Newest.{IsWithin, IsNewest, newest}
use Rattle.dt_translate.specs.Outcomes.{half_at, outcome_at}

-- Which halfwords may be fetched (this project's own): translation may be of one moment and the
-- halfword of another, since a hart may use old translations and old instructions until it fences.

-- whether the halfword stands after the first k writes at the page address that a translation gave;
-- at a fault stands none
abbrev pub stands_at : List ℕ → List Write → ℕ → ℕ → WalkAnswer → Bool
stands_at image writes k half (Page addr) = half_at image writes k addr == half
stands_at image writes k half PageFault = false
stands_at image writes k half AccessFault = false

-- whether a halfword that is translated at the moment k1 stands in memory at the moment k2
abbrev pub is_fetched : List ℕ → List Write → WalkArgs → ℕ → ℕ → ℕ → Bool
is_fetched image writes a half k1 k2 = stands_at image writes k2 half (outcome_at image writes k1 a true)

abbrev pub IsFetched : List ℕ → List Write → WalkArgs → ℕ → ℕ → ℕ → Type 0
IsFetched image writes a half k1 k2 = IsTrue (is_fetched image writes a half k1 k2)

-- some moment of a span holds the halfword that is translated at k1
abbrev pub HasSource : List ℕ → List Write → Span → WalkArgs → ℕ → ℕ → Type 0
HasSource image writes since a half k1 = (k2 : ℕ) × IsWithin since k2 × IsFetched image writes a half k1 k2

-- the chosen pair: the newest moment of translation for which there is a moment of memory, and then
-- the newest of those
pub record IsChosen (image : List ℕ) (writes : List Write) (window since : Span) (a : WalkArgs) (half k1 k2 : ℕ) : Type 0 where
  pub translated : IsNewest (HasSource image writes since a half) window k1
  pub held : IsNewest (IsFetched image writes a half k1) since k2

-- no moments of both spans fetch the halfword
abbrev pub IsNeverFetched : List ℕ → List Write → Span → Span → WalkArgs → ℕ → Type 0
IsNeverFetched image writes window since a half =
    (k1 k2 : ℕ) → IsWithin window k1 → IsWithin since k2 → ¬ (IsFetched image writes a half k1 k2)

-- the newest moment of a span that holds the halfword that is translated at k1
abbrev pub held_moment : List ℕ → List Write → Span → WalkArgs → ℕ → ℕ → Option ℕ
held_moment image writes since a half k1 = newest (is_fetched image writes a half k1) since

-- the chosen pair, if any
unfoldable pub fetch_moments : List ℕ → List Write → Span → Span → WalkArgs → ℕ → Option (ℕ × ℕ)
fetch_moments image writes window since a half =
    let held = held_moment image writes since a half in
    option_and_then (λ k1. option_map (λ k2. (k1, k2)) (held k1)) (newest (λ k1. is_some (held k1)) window)

-- two bytes of RAM stand at the even page address that a translation gave, where it gave one
abbrev pub LeadsToHalf : WalkAnswer → Type 0
LeadsToHalf (Page addr) = (addr % 2 ≡ 0) × (RAM_START ≤ addr) × (addr + 1 < RAM_END)
LeadsToHalf PageFault = ⊤
LeadsToHalf AccessFault = ⊤
