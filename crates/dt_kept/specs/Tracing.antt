-- How a trace is made hart by hart. No public clause cites these words.
use Rattle.std.specs.Prelude.{ℕ, ◌+◌, if◌then◌else◌, List, [], ◌∷◌, ◌++◌}
use Rattle.std.specs.List.{flat_map}
use Rattle.dt_record.specs.declared.keys.Key.{Key}
use Rattle.dt_record.specs.declared.records.Record.{Record}
use Rattle.dt_record.specs.Keys.{key_below, key_of}
use Rattle.dt_kept.specs.declared.states.HartEvents.{HartEvents}
use Rattle.dt_kept.specs.declared.traces.Traced.{Traced}

-- a record with this number, where it stands not behind the failing one
abbrev pub traced_one : Key → ℕ → Record → List Traced
traced_one failing seq r = if key_below failing (key_of seq r) then [] else record { seq = seq; event = r } ∷ []

-- those of a hart's records that stand not behind it, after so many of its records
abbrev pub own_traced : Key → ℕ → List Record → List Traced
own_traced failing seq [] = []
own_traced failing seq (r ∷ rs) = traced_one failing seq r ++ own_traced failing (seq + 1) rs

-- those of all harts
abbrev pub all_traced : Key → List HartEvents → List Traced
all_traced failing kept = flat_map (λ (k : HartEvents). own_traced failing k.first k.events.items) kept
