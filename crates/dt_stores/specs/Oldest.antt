use Rattle.std.specs.Prelude.{ℕ, Bool, true, Option, option_map, List, find, nat_lt}
use Rattle.dt_record.specs.Actions.{Action, Held, is_on, undrained, ww_fences, wr_fences}
use Rattle.dt_stores.specs.declared.answers.Which.{Which}
use Rattle.dt_stores.specs.declared.answers.Which.TheVariants.{All, Line, BeforeWr, BeforeWw}

-- Which stores are asked about, where there were so many write-before-write and write-before-read
-- fences (this project's own). A store before the last such fence has a lower number of them before it.
abbrev pub is_asked : (ww wr : ℕ) → Which → Held → Bool
is_asked ww wr All h = true
is_asked ww wr (Line line) h = is_on line h.store
is_asked ww wr BeforeWr h = nat_lt h.readers wr
is_asked ww wr BeforeWw h = nat_lt h.barrier ww

-- the number of the oldest store that is asked about and undrained in a cycle
abbrev pub oldest_after : List Action → Which → ℕ → Option ℕ
oldest_after actions which at =
    option_map (λ h. h.store.seq) (find (is_asked (ww_fences actions) (wr_fences actions) which) (undrained at actions))
