use Rattle.std.specs.Prelude.{ℕ, ◌≡◌, ◌+◌, ◌-◌, ◌/◌, ◌%◌, ◌==◌, ◌<◌, ◌≤◌, Bool, true, false, nat_le, if◌then◌else◌, Option, None, List, [], length, reverse, find, slice_get, slice_index, slice_index_or, slice_range, IsTrue, Vec, vec_len, vec_capacity}
use Rattle.std.specs.List.{list_all}
use Rattle.std.specs.List.Sorted.{IsNonDecreasing}
use Rattle.std.specs.Option.{IsSomeAnd, option_map_or, unwrap_or}
use Rattle.dt_record.specs.declared.limits.TheConstants.{RAM_START}
use Rattle.dt_record.specs.declared.writes.Write.{Write}
use Rattle.dt_record.specs.Memory.{covers}

-- How the writes are found again: the writes to each line of RAM, and for each write which writes
-- the bytes of its line come from after it. Writes are named by their numbers, from 1 on, so that a
-- write's number is the moment that it leads to, and 0 stands for the image (this project's own).

-- the place of an address's line among the lines of RAM
abbrev pub line_place : ℕ → ℕ
line_place addr = (addr - RAM_START) / 64

-- the numbers of the writes to the line at a place; no list, and an empty one, are the same
abbrev pub chain_of : {Z : Type 0} → List (Vec ℕ Z) → ℕ → List ℕ
chain_of lines place = option_map_or (λ v. v.items) (slice_get lines place) []

-- the last number of a chain that is not above k, or 0
abbrev pub newest_until : List ℕ → ℕ → ℕ
newest_until chain k = unwrap_or (find (λ m. nat_le m k) (reverse chain)) 0

-- the element with this number, from 1 on
abbrev pub numbered : {X : Type 0} → List X → ℕ → Option X
numbered xs n = if n == 0 then None else slice_get xs (n - 1)

-- the row with this number; the image has none
abbrev pub row_of : List (List ℕ) → ℕ → List ℕ
row_of rows n = unwrap_or (numbered rows n) []

-- the number that a row has at a place of its line
abbrev pub number_at : List (List ℕ) → (n place : ℕ) → ℕ
number_at rows n place = slice_index (row_of rows n) place

-- of the first k writes, the one with this number is the last that covers the byte; 0 where none does
pub record IsLastCover (writes : List Write) (k addr n : ℕ) : Type 0 where
  pub within : n ≤ k
  pub hit : (d : Write) → 0 < n → covers addr (slice_index_or writes (n - 1) d) ≡ true
  pub clear : (j : ℕ) (d : Write) → n ≤ j → j < k → covers addr (slice_index_or writes j d) ≡ false

-- the row of the newest write to a line names, at each moment, the last write that covers each byte
pub record IsChained (writes : List Write) (rows : List (List ℕ)) (chains : ℕ → List ℕ) : Type 0 where
  pub exact : (addr k : ℕ) → RAM_START ≤ addr → k ≤ length writes
      → IsLastCover writes k addr (number_at rows (newest_until (chains (line_place addr)) k) (addr % 64))
  pub rising : (place : ℕ) → IsNonDecreasing (chains place)
  pub bounded : (place : ℕ) → IsTrue (list_all (λ m. nat_le m (length writes)) (chains place))
  pub as_long : length rows ≡ length writes

-- there is a list at the place, with room for one more number
abbrev pub HasRoom : {Z : Type 0} → List (Vec ℕ Z) → ℕ → Type 0
HasRoom lines place = IsSomeAnd (slice_get lines place) (λ v. vec_len v < vec_capacity v)

-- after the write with this number, all bytes of the word at a place of its line come from writes up to a limit
abbrev pub is_unchanged : List (List ℕ) → (start limit n : ℕ) → Bool
is_unchanged rows start limit n = list_all (λ number. nat_le number limit) (slice_range (row_of rows n) start (start + 8))
