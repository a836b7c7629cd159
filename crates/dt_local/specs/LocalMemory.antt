use Rattle.std.specs.Prelude.{ℕ, ◌≡◌, ◌%◌, ◌==◌, ◌&&◌, Bool, true, false, not, if◌then◌else◌, Option, None, Some, List, [], slice_get, IsTrue}
use Rattle.std.specs.Int.{bit_at}
use Rattle.std.specs.List.{list_all}
use Rattle.std.specs.List.Sorted.{IsStrictlySortedBy}
use Rattle.std.specs.Map.{lookup, keys_of}
use Rattle.std.specs.Ordering.{nat_cmp}
use Rattle.dt_record.specs.declared.keys.Key.{Key}
use Rattle.dt_record.specs.declared.states.KnownByte.{KnownByte}
use Rattle.dt_record.specs.Keys.{key_below}
use Rattle.dt_record.specs.Lawful.{is_in_ram}
use Rattle.dt_record.specs.Memory.{line_of}

-- The local memory of a hart (this project's own).

-- bytes of a line for which there is room
pub record Reserved : Type 0 where
  pub line : ℕ
  pub mask : ℕ

abbrev pub reserved_at : ℕ → ℕ → Reserved
reserved_at line mask = record { line = line; mask = mask }

-- the greatest key of each byte that has one, by rising addresses, and what is reserved; whether
-- the past is kept, how many steps came before it, and the keys before each step since then, oldest first
pub record LocalMemory : Type 0 where
  pub keys : List (ℕ × Key)
  pub reserved : Option Reserved
  pub keeps : Bool
  pub from : ℕ
  pub past : List (List (ℕ × Key))

-- one without a past
abbrev pub local_memory : List (ℕ × Key) → Option Reserved → LocalMemory
local_memory keys reserved = record { keys = keys; reserved = reserved; keeps = false; from = 0; past = [] }

-- the key of a byte
abbrev pub newest_of : LocalMemory → ℕ → Option Key
newest_of l addr = lookup (λ a. a == addr) l.keys

-- bytes of RAM by rising addresses, each with a key
pub record AreKnownBytes (keys : List (ℕ × Key)) : Type 0 where
  pub rising : IsStrictlySortedBy nat_cmp (keys_of keys)
  pub in_ram : IsTrue (list_all is_in_ram (keys_of keys))

-- the address and the key of a known byte
abbrev pub pair_of : KnownByte → ℕ × Key
pair_of b = (b.addr, b.key)

-- whether a byte is one of these of the line
abbrev pub is_noted : (line mask addr : ℕ) → Bool
is_noted line mask addr = (line == line_of addr) && (bit_at mask (addr % 64) == 1)

-- the key that a note gives a byte, where it gives one: keys has one for each byte of the line
abbrev pub noted_key : (line mask : ℕ) → List Key → (addr : ℕ) → Option Key
noted_key line mask keys addr = if is_noted line mask addr then slice_get keys (addr % 64) else None

-- the greater of two keys, where both are there
abbrev pub greater : Option Key → Option Key → Option Key
greater None b = b
greater (Some a) None = Some a
greater (Some a) (Some b) = Some (if key_below a b then b else a)

-- whether a key does not stand below another, where that is there
abbrev pub is_at_least : Key → Option Key → Bool
is_at_least key None = true
is_at_least key (Some a) = not (key_below key a)

-- a key does not stand below the greater of two exactly where it stands below neither
abbrev pub GreaterBoundsBoth : Type 0
GreaterBoundsBoth = (key : Key) (a b : Option Key) → is_at_least key (greater a b) ≡ (is_at_least key a && is_at_least key b)
