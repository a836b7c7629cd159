use Rattle.std.specs.Prelude.{ℕ, ◌≡◌, ◌&&◌, Bool, if◌then◌else◌, Some, option_map, List, length, take, filter, slice_get, nat_lt}
use Rattle.dt_record.specs.declared.keys.Key.{Key}
use Rattle.dt_record.specs.Actions.{Held}
use Rattle.dt_stores.specs.Draining.{is_waiting_on}

-- the store at a place waits on a line, and is one of the first so many that do
abbrev pub is_among_first : (line count : ℕ) → List Held → ℕ → Held → Bool
is_among_first line count held i h = is_waiting_on line h && nat_lt (length (filter (is_waiting_on line) (take i held))) count

-- a drain takes the first so many stores that wait on a line, and nothing else changes
abbrev pub TakesFirst : (line : ℕ) (key : Key) (count : ℕ) (old new : List Held) → Type 0
TakesFirst line key count old new = (i : ℕ)
    → slice_get new i ≡ option_map (λ h. if is_among_first line count old i h then record h { drained = Some key } else h) (slice_get old i)
