-- Permission files. All of it is this project's own format.
--
-- A file has 16 bytes of header, 18 bytes for each event, and 9 bytes of end. The header is the eight letters SMPDPERM, the number
-- of harts in one byte, and seven zeros. An event is a byte of its kind, a byte of its hart, its stamp and its line. The end is a
-- byte 255 and the number of events. Numbers of eight bytes stand with the low byte first.
use Rattle.std.specs.Prelude.{ℕ, ◌+◌, ◌*◌, ◌==◌, ◌&&◌, Bool, not, if◌then◌else◌, nat_le, nat_lt, zero, suc, Option, None, Some, Result, Ok, Err, List, [], ◌∷◌, ◌++◌, length, take, drop, get_or, codes}
use Rattle.std.specs.Option.{option_map_or}
use Rattle.std.specs.Int.{from_le_bytes, w64}
use Rattle.std.specs.Str.{bytes_eq}
use Rattle.dt_record.specs.declared.limits.TheConstants.{HART_LIMIT}
use Rattle.dt_permissions.specs.declared.events.PermEvent.{PermEvent}
use Rattle.dt_permissions.specs.declared.perms.TheConstants.{EVENT_LIMIT}
use Rattle.dt_permissions.specs.declared.reading.PermsRefusal.{PermsRefusal}
use Rattle.dt_permissions.specs.declared.reading.PermsRefusal.TheVariants.{Malformed, Limit}
use Rattle.dt_permissions.specs.Events.{PermsView, is_event_of}

-- so many bytes from a place on, or as many of them as there are
unfoldable pub part : (at width : ℕ) → List ℕ → List ℕ
part at width bytes = take width (drop at bytes)

abbrev pub harts_in : List ℕ → ℕ
harts_in bytes = get_or bytes 8 0

-- the place of the first field of the header that isn't whole or breaks its bound
unfoldable pub header_fault : List ℕ → Option ℕ
header_fault bytes =
    if not (bytes_eq (part 0 8 bytes) (codes "SMPDPERM")) then Some 0
    else if not (nat_le 1 (harts_in bytes) && nat_le (harts_in bytes) HART_LIMIT) then Some 8
    else if not (bytes_eq (part 9 7 bytes) (0 ∷ 0 ∷ 0 ∷ 0 ∷ 0 ∷ 0 ∷ 0 ∷ [])) then Some 9
    else None

-- where the event with this number stands, the first having the number 0, and the end after so many events
abbrev pub event_start : ℕ → ℕ
event_start number = 16 + 18 * number

-- the event of these bytes, whatever bounds it breaks
unfoldable pub event_of : List ℕ → PermEvent
event_of bytes = record {
  op = get_or bytes 0 0;
  hart = get_or bytes 1 0;
  stamp = from_le_bytes w64 (part 2 8 bytes);
  line = from_le_bytes w64 (part 10 8 bytes);
}

abbrev pub event_at : List ℕ → ℕ → PermEvent
event_at bytes number = event_of (part (event_start number) 18 bytes)

-- these bytes are a whole event of a file with so many harts, and its stamp is not below this one
unfoldable pub may_stand : (harts least : ℕ) → List ℕ → Bool
may_stand harts least bytes = (length bytes == 18) && (is_event_of harts (event_of bytes) && nat_le least (event_of bytes).stamp)

-- the stamp of the event before the one with this number, and 0 where there is none
abbrev pub stamp_before : List ℕ → ℕ → ℕ
stamp_before bytes zero = 0
stamp_before bytes (suc number) = (event_at bytes number).stamp

-- an event stands in the place of the event with this number
unfoldable pub is_event : List ℕ → ℕ → Bool
is_event bytes number = may_stand (harts_in bytes) (stamp_before bytes number) (part (event_start number) 18 bytes)

-- of so many numbers, from this one on, the first in whose place no event stands, and the one after them where there is none
unfoldable pub first_without : List ℕ → (number many : ℕ) → ℕ
first_without bytes number zero = number
first_without bytes number (suc many) = if is_event bytes number then first_without bytes (suc number) many else number

-- how many events stand one after another behind the header, where they are not more than one too many
unfoldable pub event_count : List ℕ → ℕ
event_count bytes = first_without bytes 0 (EVENT_LIMIT + 1)

-- the first so many events
unfoldable pub first_events : List ℕ → ℕ → List PermEvent
first_events bytes zero = []
first_events bytes (suc number) = first_events bytes number ++ event_at bytes number ∷ []

-- these bytes are the end of so many events
unfoldable pub is_end : ℕ → List ℕ → Bool
is_end count bytes = (length bytes == 9) && ((get_or bytes 0 0 == 255) && (from_le_bytes w64 (part 1 8 bytes) == count))

-- what is wrong behind a header and so many events: a number of events one too many, then an event or an end that isn't whole or
-- breaks a bound, at its first byte, then the first byte too many
unfoldable pub fault_behind : List ℕ → ℕ → Option PermsRefusal
fault_behind bytes count =
    if nat_lt EVENT_LIMIT count then Some Limit
    else if not (is_end count (part (event_start count) 9 bytes)) then Some (Malformed (event_start count))
    else if not (length bytes == event_start count + 9) then Some (Malformed (event_start count + 9))
    else None

-- what bytes say behind a header, where so many events stand there
abbrev pub said_behind : List ℕ → ℕ → Result PermsView PermsRefusal
said_behind bytes count =
    option_map_or Err (fault_behind bytes count) (Ok (record { harts = harts_in bytes; events = first_events bytes count }))

-- what the bytes of a permission file say, or why they are none
unfoldable pub perms_of : List ℕ → Result PermsView PermsRefusal
perms_of bytes = option_map_or (λ place. Err (Malformed place)) (header_fault bytes) (said_behind bytes (event_count bytes))
