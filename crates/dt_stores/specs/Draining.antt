use Rattle.std.specs.Prelude.{ℕ, ◌&&◌, Bool, true, false, not, if◌then◌else◌, Option, option_map, List, [], ◌∷◌, length, take, filter, find, map, max, reverse, nat_lt}
use Rattle.std.specs.List.{list_any, range_with_len}
use Rattle.std.specs.Option.{option_map_or}
use Rattle.std.specs.Simd.Lanes.{mask_l}
use Rattle.dt_record.specs.Actions.{Action, Held, held_of, is_on, is_waiting, store_covers, forwarded}
use Rattle.dt_record.specs.LoadSources.{stored_byte}
use Rattle.dt_stores.specs.declared.answers.DrainAnswer.{DrainAnswer}
use Rattle.dt_stores.specs.declared.answers.DrainAnswer.TheVariants as answer
use Rattle.dt_stores.specs.declared.answers.Forward.{Forward}

-- Which stores a drain takes, what it writes, and what keeps it from draining (this project's own).

-- a store of the line that no drain has taken
abbrev pub is_waiting_on : ℕ → Held → Bool
is_waiting_on line h = is_waiting h && is_on line h.store

-- some store covers the byte at an address
abbrev pub is_covered : List Held → ℕ → Bool
is_covered stores addr = list_any (λ h. store_covers addr h.store) stores

-- the byte there of the youngest store that covers it, or 0
abbrev pub youngest_byte : List Held → ℕ → ℕ
youngest_byte stores addr = option_map_or (stored_byte addr) (find (λ h. store_covers addr h.store) (reverse stores)) 0

-- the mask of the bytes of a line that some stores cover, and those bytes
unfoldable pub mask_over : (line : ℕ) → List Held → ℕ
mask_over line stores = mask_l (map (is_covered stores) (range_with_len line 64))

unfoldable pub bytes_over : (line : ℕ) → List Held → List ℕ
bytes_over line stores = map (youngest_byte stores) (range_with_len line 64)

-- the answer where a drain takes these stores of a line
abbrev pub took : (line : ℕ) → List Held → DrainAnswer
took line taken = answer.Took (mask_over line taken) (bytes_over line taken)

-- the greatest barrier number of some stores, or 0
abbrev pub greatest_barrier : List Held → ℕ
greatest_barrier [] = 0
greatest_barrier (h ∷ hs) = max h.barrier (greatest_barrier hs)

-- a store on another line that waits, with a lower barrier number
abbrev pub is_barring : ℕ → ℕ → Held → Bool
is_barring line barrier h = is_waiting h && (not (is_on line h.store) && nat_lt h.barrier barrier)

-- the answer where so many stores of a line are taken, unless an older store bars that
abbrev pub barred_or : List Held → ℕ → List Held → DrainAnswer
barred_or held line taken =
    option_map_or (λ h. answer.Barred h.store.seq) (find (is_barring line (greatest_barrier taken)) held) (took line taken)

-- the answer of a drain of so many stores of a line, among a hart's stores: too few wait there, or
-- the oldest that bars it, or what it writes
abbrev pub answer_among : List Held → (line count : ℕ) → DrainAnswer
answer_among held line count =
    if nat_lt (length (filter (is_waiting_on line) held)) count then answer.Few (length (filter (is_waiting_on line) held))
    else barred_or held line (take count (filter (is_waiting_on line) held))

-- the answer of a drain after some actions of its hart
abbrev pub drain_answer : List Action → (line count : ℕ) → DrainAnswer
drain_answer actions line count = answer_among (held_of actions) line count

abbrev pub is_taking : DrainAnswer → Bool
is_taking (answer.Took mask bytes) = true
is_taking _ = false

-- the drain took its stores
abbrev pub OnTook : DrainAnswer → Type 0 → Type 0
OnTook (answer.Took mask bytes) p = p
OnTook _ p = Unit {0}

-- the drain was refused, or there was no memory
abbrev pub OnRefused : DrainAnswer → Type 0 → Type 0
OnRefused (answer.Took mask bytes) p = Unit {0}
OnRefused _ p = p

-- there was memory
abbrev pub UnlessOutOfMemory : DrainAnswer → Type 0 → Type 0
UnlessOutOfMemory answer.OutOfMemory p = Unit {0}
UnlessOutOfMemory _ p = p

-- what a load has from a store that is forwarded to it
abbrev pub forward_of : ℕ → Held → Forward
forward_of addr h = record { seq = h.store.seq; byte = stored_byte addr h; drained = h.drained }

-- what a byte of a load in a cycle has from the hart's own stores
abbrev pub forward_after : List Action → (addr at : ℕ) → Option Forward
forward_after actions addr at = option_map (forward_of addr) (forwarded at actions addr)
