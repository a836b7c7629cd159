use Rattle.std.specs.Prelude.{ℕ, ◌≡◌, ◌≤◌, Bool, true, false, None, List, [], ◌∷◌, ◌++◌, length, filter, All, IfSome, IsTrue}
use Rattle.dt_record.specs.declared.keys.Key.{Key}
use Rattle.dt_record.specs.declared.accesses.OwnStore.{OwnStore}
use Rattle.dt_record.specs.Keys.{KeyBelow}
use Rattle.dt_record.specs.Actions.{Action, Held, Stored, Drained, Fenced, Loaded, Atomic, held_of, ww_fences, wr_fences}
use Rattle.dt_stores.specs.Kept.{Kept}
use Rattle.dt_stores.specs.Standing.{StoresStand, stores_of}
use Rattle.dt_stores.specs.Draining.{is_waiting_on}
use Rattle.dt_stores.specs.Plans.{TakesFirst}

-- What the stores of a hart are after one more action (this project's own).

-- a fence, a load or an atomic
abbrev pub is_quiet : Action → Bool
is_quiet (Stored s) = false
is_quiet (Drained key line count) = false
is_quiet (Fenced ww wr rr) = true
is_quiet (Loaded ask) = true
is_quiet (Atomic key addr width reads acquires) = true

-- the drains that have taken some stores have keys below this one
abbrev pub AreDrainedBelow : Key → List Held → Type 0
AreDrainedBelow key held = All (λ h. IfSome h.drained (λ k. KeyBelow k key)) held

-- an action that is a drain has a key below this one
abbrev pub DrainsBelow : Key → Action → Type 0
DrainsBelow key (Stored s) = Unit {0}
DrainsBelow key (Drained own line count) = KeyBelow own key
DrainsBelow key (Fenced ww wr rr) = Unit {0}
DrainsBelow key (Loaded ask) = Unit {0}
DrainsBelow key (Atomic own addr width reads acquires) = Unit {0}

-- A key that is above those of all drains of a hart stays so, where it is above that of the next one.
abbrev pub DrainsStayBelow : Type 0
DrainsStayBelow = (kept : Kept) (actions : List Action) (action : Action) (key : Key) → StoresStand kept actions → DrainsBelow key action
    → AreDrainedBelow key (held_of actions) → AreDrainedBelow key (held_of (actions ++ action ∷ []))

-- A store comes last and waits; a drain takes the first so many that wait on its line, where so many
-- do; any other action leaves them. The store and the drain ask that earlier drains took no more stores
-- than there were, as in actions that something kept stands for.
pub record StoresGoOn : Type 0 where
  pub stores : (actions : List Action) (action : Action) → stores_of (actions ++ action ∷ []) ≡ stores_of actions ++ stores_of (action ∷ [])
  pub stored : (kept : Kept) (actions : List Action) (s : OwnStore) → StoresStand kept actions
      → held_of (actions ++ Stored s ∷ []) ≡ held_of actions
      ++ record { store = s; barrier = ww_fences actions; readers = wr_fences actions; drained = None } ∷ []
  pub drained : (kept : Kept) (actions : List Action) (key : Key) (line count : ℕ) → StoresStand kept actions
      → count ≤ length (filter (is_waiting_on line) (held_of actions))
      → TakesFirst line key count (held_of actions) (held_of (actions ++ Drained key line count ∷ []))
  pub quiet : (actions : List Action) (action : Action) → IsTrue (is_quiet action) → held_of (actions ++ action ∷ []) ≡ held_of actions
