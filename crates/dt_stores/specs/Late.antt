use Rattle.std.specs.Prelude.{ℕ, Bool, true, List, find, nat_lt, nat_le}
use Rattle.std.specs.Option.{option_map_or}
use Rattle.dt_record.specs.Actions.{Held}
use Rattle.dt_stores.specs.declared.late.Late.{Late}

-- the place of the oldest store that is undrained in a cycle: what waited first before the first drain
-- of a later cycle, or what waits first now
abbrev pub first_at : List Late → (first at : ℕ) → ℕ
first_at late first at = option_map_or (λ l. l.first) (find (λ l. nat_lt at l.stamp) late) first

-- no drain of a later cycle has taken the store
abbrev pub is_drained_by : ℕ → Held → Bool
is_drained_by at h = option_map_or (λ key. nat_le key.stamp at) h.drained true
