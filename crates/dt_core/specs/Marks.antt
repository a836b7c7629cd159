-- Marks, as notes come one after another, and what is below the least one. All of it is this project's own.
use Rattle.std.specs.Prelude.{ℕ, nat_lt, Bool, true, Option, Some, None}

-- the mark after one more note
abbrev pub mark_with : ℕ → Option ℕ → ℕ
mark_with mark None = mark
mark_with mark (Some stamp) = stamp

-- whether a cycle is below the least mark; each is where there is none
abbrev pub is_below : Option ℕ → ℕ → Bool
is_below None stamp = true
is_below (Some least) stamp = nat_lt stamp least
