use Rattle.std.specs.Prelude.{ℕ, ◌-◌, ◌%◌, ◌==◌, ◌&&◌, Bool, not, Option, option_map, List, length, take, reverse, filter, find, slice_index}
use Rattle.std.specs.Option.{option_map_or}
use Rattle.std.specs.List.{list_any}
use Rattle.std.specs.Int.{bit_at}
use Rattle.dt_record.specs.declared.keys.Key.{Key}
use Rattle.dt_record.specs.declared.writes.Write.{Write}
use Rattle.dt_record.specs.Image.{image_byte}
use Rattle.dt_record.specs.Keys.{key_below}

-- Memory after some of the writes of a file, which stand in the order of their keys. At moment k
-- the first k of them are done and the others are not (this project's own).

-- the 64-byte line that holds an address
abbrev pub line_of : ℕ → ℕ
line_of addr = addr - addr % 64

-- whether a write covers the byte at an address
abbrev pub covers : ℕ → Write → Bool
covers addr w = (w.line == line_of addr) && (bit_at w.mask (addr % 64) == 1)

-- the last of the first k writes that covers the byte
abbrev pub last_covering : List Write → ℕ → ℕ → Option Write
last_covering writes k addr = find (covers addr) (reverse (take k writes))

-- the byte at an address of RAM after the first k writes
abbrev pub memory_at : List ℕ → List Write → ℕ → ℕ → ℕ
memory_at image writes k addr =
    option_map_or (λ w. slice_index w.bytes (addr % 64)) (last_covering writes k addr) (image_byte image addr)

-- the key of the write that the byte comes from after the first k writes, or none where it is the image's
abbrev pub source_at : List Write → ℕ → ℕ → Option Key
source_at writes k addr = option_map (λ w. w.key) (last_covering writes k addr)

-- how many writes have a key below this one: the moment at which an atomic with this key takes place
abbrev pub moment_of : List Write → Key → ℕ
moment_of writes key = length (filter (λ w. key_below w.key key) writes)

-- whether another hart than this one writes to the line between two keys
abbrev pub is_touched : List Write → ℕ → Key → Key → ℕ → Bool
is_touched writes line from to but =
    list_any (λ w. (w.line == line) && (not (w.key.hart == but) && (key_below from w.key && key_below w.key to))) writes
