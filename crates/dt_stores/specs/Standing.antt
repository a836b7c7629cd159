use Rattle.std.specs.Prelude.{◌≡◌, ℕ, ◌+◌, ◌≤◌, List, [], ◌∷◌, ◌++◌, length, filter}
use Rattle.dt_record.specs.declared.keys.Key.{Key}
use Rattle.dt_record.specs.declared.accesses.OwnStore.{OwnStore}
use Rattle.dt_record.specs.Actions.{Action, Stored, held_of, ww_fences, wr_fences, drains_on, is_on}
use Rattle.dt_stores.specs.Kept.{Kept}

-- the stores among some actions, the oldest first
abbrev pub stores_of : List Action → List OwnStore
stores_of [] = []
stores_of (Stored s ∷ rest) = s ∷ stores_of rest
stores_of (_ ∷ rest) = stores_of rest

-- how many stores some drains take together
abbrev pub counted : List (Key × ℕ) → ℕ
counted [] = 0
counted ((key, count) ∷ drains) = count + counted drains

-- What is kept stands for the actions of a hart: it has their stores and their fences, and their
-- drains took no more stores of a line than there were.
pub record StoresStand (kept : Kept) (actions : List Action) : Type 0 where
  pub held : kept.held ≡ held_of actions
  pub ww : kept.ww ≡ ww_fences actions
  pub wr : kept.wr ≡ wr_fences actions
  pub filled : (line : ℕ) → counted (drains_on line actions) ≤ length (filter (is_on line) (stores_of actions))

-- whatever actions the old value stands for, the new one stands for them and one more
abbrev pub GainsAction : Kept → Kept → Action → Type 0
GainsAction old new action = (actions : List Action) → StoresStand old actions → StoresStand new (actions ++ action ∷ [])
