use Rattle.std.specs.Prelude.{ℕ, ◌≡◌, ◌≤◌, ◌+◌, ◌-◌, ◌==◌, ◌&&◌, Bool, true, false, if◌then◌else◌, Option, None, Some, List, [], ◌∷◌, ◌++◌, length, filter, reverse, find, max, take, slice_get, nat_lt, nat_le, is_none}
use Rattle.std.specs.List.{filter_map, range_with_len}
use Rattle.std.specs.Option.{option_map_or, option_and_then}
use Rattle.dt_record.specs.declared.keys.Key.{Key}
use Rattle.dt_record.specs.declared.accesses.OwnStore.{OwnStore}
use Rattle.dt_record.specs.declared.accesses.LoadAsk.{LoadAsk}
use Rattle.dt_record.specs.Memory.{line_of}

-- What the records of one hart do that bears on the order of its memory accesses (this project's own).
pub data Action : Type 0 where
  -- a store to RAM goes into the store buffer
  Stored : OwnStore → Action
  -- a drain with this key takes so many stores of a line
  Drained : Key → (line count : ℕ) → Action
  -- a fence orders writes before writes, writes before reads, reads before reads
  Fenced : (ww wr rr : Bool) → Action
  -- a load from RAM
  Loaded : LoadAsk → Action
  -- an atomic: whether it reads memory (LR, AMO), and whether it is an acquire that isn't a failed SC
  Atomic : Key → (addr width : ℕ) (reads acquires : Bool) → Action

-- whether a store covers the byte at an address
abbrev pub store_covers : ℕ → OwnStore → Bool
store_covers addr s = nat_le s.addr addr && nat_lt addr (s.addr + s.width)

-- the drains of a line in their order, each with its key and the number of stores that it takes
abbrev pub drains_on : ℕ → List Action → List (Key × ℕ)
drains_on line [] = []
drains_on line (Drained key on count ∷ rest) = if on == line then (key, count) ∷ drains_on line rest else drains_on line rest
drains_on line (_ ∷ rest) = drains_on line rest

-- the drain that takes store number j of a line, counted from 1: the first up to which the counts add up to at least j
abbrev pub taker : ℕ → List (Key × ℕ) → Option Key
taker j [] = None
taker j ((key, count) ∷ drains) = if nat_le j count then Some key else taker (j - count) drains

-- A store, the numbers of write-before-write fences (its barrier number) and of write-before-read
-- fences before it, and the key of the drain that takes it.
pub record Held : Type 0 where
  pub store : OwnStore
  pub barrier : ℕ
  pub readers : ℕ
  pub drained : Option Key

abbrev pub is_on : ℕ → OwnStore → Bool
is_on line s = line_of s.addr == line

abbrev pub raised : ℕ → Bool → ℕ
raised n b = if b then n + 1 else n

-- how many write-before-write fences, and how many write-before-read fences, there were
abbrev pub ww_fences : List Action → ℕ
ww_fences [] = 0
ww_fences (Fenced ww wr rr ∷ rest) = raised (ww_fences rest) ww
ww_fences (_ ∷ rest) = ww_fences rest

abbrev pub wr_fences : List Action → ℕ
wr_fences [] = 0
wr_fences (Fenced ww wr rr ∷ rest) = raised (wr_fences rest) wr
wr_fences (_ ∷ rest) = wr_fences rest

-- whether an action is a store to a line
abbrev pub is_store_on : ℕ → Action → Bool
is_store_on line (Stored s) = is_on line s
is_store_on line _ = false

-- A store with what the actions before it, and all actions, say of it: its barrier number, and the drain that takes the
-- store of its number on its line.
abbrev pub store_held : (all before : List Action) → Action → Option Held
store_held all before (Stored s) = Some (record {
  store = s;
  barrier = ww_fences before;
  readers = wr_fences before;
  drained = taker (length (filter (is_store_on (line_of s.addr)) before) + 1) (drains_on (line_of s.addr) all);
})
store_held all before _ = None

-- the store at a place among a hart's actions, if one stands there
abbrev pub held_by_place : List Action → ℕ → Option Held
held_by_place actions place = option_and_then (store_held actions (take place actions)) (slice_get actions place)

-- the stores of a hart, the oldest first
abbrev pub held_of : List Action → List Held
held_of actions = filter_map (held_by_place actions) (range_with_len 0 (length actions))

-- no drain with a stamp of at most this cycle has taken the store
abbrev pub is_undrained : ℕ → Held → Bool
is_undrained at h = option_map_or (λ key. nat_lt at key.stamp) h.drained true

-- the stores that are undrained in a cycle, the oldest first
abbrev pub undrained : ℕ → List Action → List Held
undrained at actions = filter (is_undrained at) (held_of actions)

-- no drain has taken the store
abbrev pub is_waiting : Held → Bool
is_waiting h = is_none h.drained

-- each drain has a stamp of at most this cycle
abbrev pub AreDrainsBy : ℕ → List Action → Type 0
AreDrainsBy at [] = Unit {0}
AreDrainsBy at (Drained key line count ∷ rest) = (key.stamp ≤ at) × AreDrainsBy at rest
AreDrainsBy at (_ ∷ rest) = AreDrainsBy at rest

-- in a cycle that no drain is after, the undrained stores are those that wait
abbrev pub UndrainedWait : Type 0
UndrainedWait = (at : ℕ) (actions : List Action) → AreDrainsBy at actions
    → undrained at actions ≡ filter is_waiting (held_of actions)

-- the youngest store that is undrained in a cycle and covers a byte
abbrev pub forwarded : ℕ → List Action → ℕ → Option Held
forwarded at actions addr = find (λ h. store_covers addr h.store) (reverse (undrained at actions))

-- the greatest cycle in which a load, an LR or an AMO read
abbrev pub last_read : List Action → ℕ
last_read [] = 0
last_read (Loaded ask ∷ rest) = max ask.at (last_read rest)
last_read (Atomic key addr width reads acquires ∷ rest) = max (if reads then key.stamp else 0) (last_read rest)
last_read (_ ∷ rest) = last_read rest

-- The cycle that an action asks later loads not to be below, after the actions before it: a
-- read-before-read fence that of the greatest read before it, an acquire its own.
abbrev pub asked_floor : List Action → Action → ℕ
asked_floor before (Fenced ww wr rr) = if rr then last_read before else 0
asked_floor before (Atomic key addr width reads acquires) = if acquires then key.stamp else 0
asked_floor before _ = 0

abbrev pub order_floor_after : List Action → List Action → ℕ
order_floor_after before [] = 0
order_floor_after before (action ∷ rest) = max (asked_floor before action) (order_floor_after (before ++ action ∷ []) rest)

-- the cycle that the hart's next load may not be below
abbrev pub order_floor : List Action → ℕ
order_floor actions = order_floor_after [] actions
