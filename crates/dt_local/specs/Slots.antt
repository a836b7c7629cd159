use Rattle.std.specs.Prelude.{ℕ, ◌≡◌, ◌+◌, ◌*◌, ◌/◌, ◌%◌, ◌^◌, ◌<◌, ◌≤◌, ◌==◌, ◌&&◌, Bool, true, false, not, if◌then◌else◌, Option, None, Some, List, [], ◌++◌, map, slice_get, option_map, nat_le, nat_lt, IsTrue, IsSome, All}
use Rattle.std.specs.Int.{bit_at}
use Rattle.std.specs.Ordering.{nat_cmp}
use Rattle.std.specs.List.{filter_map, flat_map, range_with_len}
use Rattle.std.specs.Option.{option_and_then}
use Rattle.std.specs.Map.{lookup}
use Rattle.std.specs.BTreeMap.{BTreeMap, get, is_at, IsOrdered}
use Rattle.std.specs.VecDeque.{deque_len, deque_capacity}
use Rattle.dt_record.specs.declared.keys.Key.{Key}
use Rattle.dt_record.specs.Lawful.{is_ram_line}
use Rattle.dt_record.specs.Undoing.{earlier_state, earlier_views, put_back}
use Rattle.dt_local.specs.declared.slots.Slot.{Slot}
use Rattle.dt_local.specs.declared.steps.Step.{Step}
use Rattle.dt_local.specs.declared.steps.Steps.{Steps}
use Rattle.dt_local.specs.LocalMemory.{LocalMemory, Reserved}

-- The slots of aligned words, by the number of the word: each word a byte of which was ever
-- reserved has one, with a key for each byte that was noted.

abbrev pub Entries : Type 0
Entries = List (ℕ × Slot)

-- the key of the byte at a place of its word
abbrev pub key_at : Slot → ℕ → Option Key
key_at slot place = if bit_at slot.mask place == 1 then slice_get slot.keys place else None

-- the bytes of a word, with the key of each that has one
abbrev pub word_bytes : ℕ × Slot → List (ℕ × Option Key)
word_bytes e = map (λ place. (8 * e.0 + place, key_at e.1 place)) (range_with_len 0 8)

-- the bytes that have a key
abbrev pub present : List (ℕ × Option Key) → List (ℕ × Key)
present bytes = filter_map (λ b. option_map (λ key. (b.0, key)) b.1) bytes

abbrev pub known_bytes : Entries → List (ℕ × Key)
known_bytes entries = flat_map (λ e. present (word_bytes e)) entries

-- the key of a byte
abbrev pub slot_key : Entries → ℕ → Option Key
slot_key entries addr = option_and_then (λ slot. key_at slot (addr % 8)) (lookup (is_at (nat_cmp (addr / 8))) entries)

-- whether a line's mask has a byte of the word at a place of the line
abbrev pub has_word : (mask place : ℕ) → Bool
has_word mask place = not (mask / 2 ^ (8 * place) % 256 == 0)

-- the key that the byte at a place of its line is given
abbrev pub noted_in : (mask : ℕ) → List Key → (place : ℕ) → Option Key
noted_in mask keys place = if bit_at mask place == 1 then slice_get keys place else None

-- the slots before a step
abbrev pub slots_before : Entries → Step → Entries
slots_before = put_back (λ s. s.word) (λ s. s.slot)

-- the slots before some steps, which are in the order in which they came
abbrev pub before_steps : Entries → List Step → Entries
before_steps entries steps = earlier_state slots_before entries steps

-- the keys before each of some steps
abbrev pub past_of : Entries → List Step → List (List (ℕ × Key))
past_of entries steps = earlier_views slots_before known_bytes entries steps

-- the local memory that slots, and the steps that led to them, stand for
abbrev pub memory_of : Entries → Steps → Option Reserved → LocalMemory
memory_of entries steps reserved = record {
  keys = known_bytes entries;
  reserved = reserved;
  keeps = steps.keeps;
  from = steps.from;
  past = past_of entries steps.kept.items;
}

-- the number of a word of RAM
abbrev pub is_ram_word : ℕ → Bool
is_ram_word word = nat_le 0x1000_0000 word && nat_lt word 0x1080_0000

-- the slots stand in order, and each is of a word of RAM
pub record AreWords (slots : BTreeMap ℕ Slot) : Type 0 where
  pub ordered : IsOrdered nat_cmp slots
  pub in_ram : (word : ℕ) → IsSome (get nat_cmp slots word) → IsTrue (is_ram_word word)

-- each word of which a line's mask has a byte has a slot
abbrev pub HasRoom : BTreeMap ℕ Slot → (line mask : ℕ) → Type 0
HasRoom slots line mask = (place : ℕ) → place < 8 → IsTrue (has_word mask place) → IsSome (get nat_cmp slots (line / 8 + place))

-- each word of these steps has a slot
abbrev pub HaveSlots : Entries → List Step → Type 0
HaveSlots entries steps = All (λ s. IsSome (lookup (is_at (nat_cmp s.word)) entries)) steps

-- slots were added, and nothing else: what is known, and what was known before any steps, is the same
pub record IsWidened (old new : Entries) : Type 0 where
  pub known : known_bytes new ≡ known_bytes old
  pub past : (steps : List Step) → HaveSlots old steps → past_of new steps ≡ past_of old steps
  pub kept : (word : ℕ) → IsSome (lookup (is_at (nat_cmp word)) old) → IsSome (lookup (is_at (nat_cmp word)) new)

-- the steps that came behind others lead back to the slots before them
pub record LeadsBack (old new : Entries) (before after : List Step) : Type 0 where
  pub added : List Step
  pub items : after ≡ before ++ added
  pub undone : before_steps new added ≡ old

-- slots were changed by at most so many steps, which are kept where steps are
pub record IsStepped (old new : Entries) (before after : Steps) (most : ℕ) : Type 0 where
  pub keeps : after.keeps ≡ before.keeps
  pub from : after.from ≡ before.from
  pub counted : deque_len after.kept ≤ deque_len before.kept + most
  pub capacity : deque_capacity after.kept ≡ deque_capacity before.kept
  pub idle : before.keeps ≡ false → after.kept.items ≡ before.kept.items
  pub led : before.keeps ≡ true → LeadsBack old new before.kept.items after.kept.items
  pub slots : HaveSlots old before.kept.items → HaveSlots new after.kept.items
  pub words : (word : ℕ) → IsSome (lookup (is_at (nat_cmp word)) old) → IsSome (lookup (is_at (nat_cmp word)) new)

-- there is room for so many more steps, and they can be counted
pub record HasSpare (steps : Steps) (count : ℕ) : Type 0 where
  pub room : deque_len steps.kept + count ≤ deque_capacity steps.kept
  pub counted : steps.from + (deque_len steps.kept + count) < 2 ^ 64

-- what a local memory keeps: the slots, the steps that led to them, and room for the note that is reserved
pub record IsSound (slots : BTreeMap ℕ Slot) (steps : Steps) (reserved : Option Reserved) : Type 0 where
  pub words : AreWords slots
  pub have : HaveSlots slots.entries steps.kept.items
  pub idle : steps.keeps ≡ false → steps.kept.items ≡ []
  pub counted : steps.from + deque_len steps.kept < 2 ^ 64
  pub line : (r : Reserved) → reserved ≡ Some r → IsTrue (is_ram_line r.line)
  pub room : (r : Reserved) → reserved ≡ Some r → HasRoom slots r.line r.mask
  pub spare : (r : Reserved) → reserved ≡ Some r → HasSpare steps 8
