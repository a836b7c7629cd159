-- What harts hold of lines. All of it is this project's own.
use Rattle.std.specs.Prelude.{ℕ, ◌≡◌, ◌≢◌, ◌==◌, ◌&&◌, Bool, true, false, if◌then◌else◌, Some, List, take, drop, reverse, find, slice_get, nat_le, IsTrue}
use Rattle.std.specs.List.{list_all}
use Rattle.std.specs.Option.{option_map_or}
use Rattle.dt_permissions.specs.declared.events.PermEvent.{PermEvent}
use Rattle.dt_permissions.specs.declared.events.Held.{Held}
use Rattle.dt_permissions.specs.declared.events.Held.TheVariants.{Nothing, Read, Write}

-- what an event gives its hart
abbrev pub given : PermEvent → Held
given e = if e.op == 1 then Read else (if e.op == 2 then Write else Nothing)

-- an event of this hart on this line
abbrev pub is_of : (hart line : ℕ) → PermEvent → Bool
is_of hart line e = (e.hart == hart) && (e.line == line)

-- what a hart holds of a line after some events: what the last of its events on the line gave
abbrev pub held_by : List PermEvent → (hart line : ℕ) → Held
held_by events hart line = option_map_or given (find (is_of hart line) (reverse events)) Nothing

-- what two harts may not hold of one line at once
abbrev pub clashes : Held → Held → Bool
clashes Write Write = true
clashes Write Read = true
clashes Write Nothing = false
clashes Read Write = true
clashes Read Read = false
clashes Read Nothing = false
clashes Nothing other = false

-- the event with the number j, from 0, gives its hart what clashes with what another hart holds of the line
pub record IsViolation (events : List PermEvent) (j holder : ℕ) : Type 0 where
  pub event : PermEvent
  pub there : slice_get events j ≡ Some event
  pub other : holder ≢ event.hart
  pub clash : IsTrue (clashes (given event) (held_by (take j events) holder event.line))

-- no event is above a cycle, or none is below it
abbrev pub are_by : ℕ → List PermEvent → Bool
are_by stamp events = list_all (λ e. nat_le e.stamp stamp) events

abbrev pub are_from : ℕ → List PermEvent → Bool
are_from stamp events = list_all (λ e. nat_le stamp e.stamp) events

-- the first j events have all of earlier cycles and none of later ones, and after them the hart may write the line
pub record IsCoveredAfter (events : List PermEvent) (hart line stamp j : ℕ) : Type 0 where
  pub all_earlier : IsTrue (are_from stamp (drop j events))
  pub none_later : IsTrue (are_by stamp (take j events))
  pub holds : held_by (take j events) hart line ≡ Write

-- a write in this cycle is covered: its hart may write the line after the earlier events and some of the cycle's own
abbrev pub IsCovered : List PermEvent → (hart line stamp : ℕ) → Type 0
IsCovered events hart line stamp = (j : ℕ) × IsCoveredAfter events hart line stamp j

-- while a hart may write a line, no other holds anything of it
abbrev pub IsExclusive : List PermEvent → Type 0
IsExclusive events = (line a b : ℕ) → a ≢ b → held_by events a line ≡ Write → held_by events b line ≡ Nothing

-- where no event is a violation, that is so at each moment
abbrev pub ExclusiveWhereNoViolation : Type 0
ExclusiveWhereNoViolation =
    (events : List PermEvent) → ((j holder : ℕ) → ¬ IsViolation events j holder) → (j : ℕ) → IsExclusive (take j events)
