use Rattle.std.specs.Prelude.{ℕ, ◌≡◌, ◌≢◌, ◌≤◌, ◌==◌, ◌↔◌, if◌then◌else◌, Some, List, [], ◌∷◌, ◌++◌, length, take, slice_get, IsTrue}
use Rattle.dt_record.specs.declared.writes.Write.{Write}
use Rattle.dt_record.specs.declared.accesses.LoadAsk.{LoadAsk}
use Rattle.dt_record.specs.Actions.{Action, Loaded}
use Rattle.dt_record.specs.LoadSources.{FitsLoad, KeepsFloor, Fits, HasSources, AreLeastSources}
use Rattle.dt_versions.specs.History.{are_in_order}

-- The law of the least choice (this project's own): where each load of a hart reads at the least
-- moment that fits, given the moments of the loads before it, no fitting assignment is earlier at
-- any load, and a load that fits at no moment fits in no assignment.
--
-- It holds because the source of a byte never falls as the moment rises, so that an assignment that
-- is nowhere earlier asks floors that are nowhere lower. A store that is forwarded, and an atomic's
-- source, do not depend on the assignment. The laws ask one thing only, that the writes stand in
-- the order of their keys, which holds of the writes of every file and of every history that
-- dt_versions keeps. They ask nothing of the actions: neither that a load's cycle is at most its
-- stamp, nor that keys or cycles rise, nor that drains take stores that are there.

-- the load at a place may read at moment k, where the loads before it read as assigned
abbrev pub FitsThere : List ℕ → List Write → List Action → (ℕ → ℕ) → (place : ℕ) → LoadAsk → ℕ → Type 0
FitsThere image writes actions moments place ask k =
    FitsLoad image writes (take place actions) (KeepsFloor writes actions moments place ask) ask k

-- each load reads at the least moment that fits, where the loads before it read as assigned
pub record ChoosesLeast (image : List ℕ) (writes : List Write) (actions : List Action) (moments : ℕ → ℕ) : Type 0 where
  pub fits : Fits image writes actions moments
  pub least : (place : ℕ) (ask : LoadAsk) → slice_get actions place ≡ Some (Loaded ask)
      → (k : ℕ) → FitsThere image writes actions moments place ask k → moments place ≤ k

-- the least choices are exactly the least fitting assignment
abbrev pub LeastChoiceIsLeast : Type 0
LeastChoiceIsLeast = (image : List ℕ) (writes : List Write) (actions : List Action) (moments : ℕ → ℕ) → IsTrue (are_in_order writes)
    → ChoosesLeast image writes actions moments ↔ AreLeastSources image writes actions moments

-- the actions with one more
abbrev pub then_action : List Action → Action → List Action
then_action actions action = actions ++ action ∷ []

-- a next load may read at moment k
abbrev pub FitsNext : List ℕ → List Write → List Action → (ℕ → ℕ) → LoadAsk → ℕ → Type 0
FitsNext image writes actions moments ask k =
    FitsThere image writes (then_action actions (Loaded ask)) moments (length actions) ask k

-- after least choices some moment fits a next load just where it and all loads before it can have sources
abbrev pub RefusalIsExact : Type 0
RefusalIsExact = (image : List ℕ) (writes : List Write) (actions : List Action) (moments : ℕ → ℕ) (ask : LoadAsk)
    → IsTrue (are_in_order writes)
    → ChoosesLeast image writes actions moments
    → HasSources image writes (then_action actions (Loaded ask)) ↔ ((k : ℕ) × FitsNext image writes actions moments ask k)

-- so a load that is refused stays refused, whatever the hart does afterwards
abbrev pub FrontsHaveSources : Type 0
FrontsHaveSources = (image : List ℕ) (writes : List Write) (actions more : List Action)
    → HasSources image writes (actions ++ more) → HasSources image writes actions

-- an assignment with another moment at one place
abbrev pub with_moment : (ℕ → ℕ) → (place k : ℕ) → ℕ → ℕ
with_moment moments place k n = if n == place then k else moments n

-- How the least choices go on from no action at all: a load takes the least moment that fits, and
-- another action nothing.
pub record LeastChoiceGoesOn : Type 0 where
  pub at_first : (image : List ℕ) (writes : List Write) (moments : ℕ → ℕ) → ChoosesLeast image writes [] moments
  pub load : (image : List ℕ) (writes : List Write) (actions : List Action) (moments : ℕ → ℕ) (ask : LoadAsk) (k : ℕ)
      → ChoosesLeast image writes actions moments → FitsNext image writes actions moments ask k
      → ((j : ℕ) → FitsNext image writes actions moments ask j → k ≤ j)
      → ChoosesLeast image writes (then_action actions (Loaded ask)) (with_moment moments (length actions) k)
  pub other : (image : List ℕ) (writes : List Write) (actions : List Action) (moments : ℕ → ℕ) (action : Action)
      → ChoosesLeast image writes actions moments → ((ask : LoadAsk) → action ≢ Loaded ask)
      → ChoosesLeast image writes (then_action actions action) moments
