use Rattle.std.specs.Prelude.{ℕ, ◌≡◌, ◌<◌, ◌≤◌, ◌+◌, ◌-◌, ◌*◌, ◌/◌, ◌%◌, ◌^◌, ◌==◌, ◌&&◌, Bool, false, if◌then◌else◌, Option, None, Some, List, take, find, nat_lt, nat_le, slice_get, IsTrue, IfSome, Contains, zero, suc}
use Rattle.std.specs.Option.{option_map_or}
use Rattle.dt_record.specs.declared.keys.Key.{Key}
use Rattle.dt_record.specs.declared.writes.Write.{Write}
use Rattle.dt_record.specs.declared.accesses.LoadAsk.{LoadAsk}
use Rattle.dt_record.specs.declared.origins.Origin.{Origin}
use Rattle.dt_record.specs.declared.origins.Origin.TheVariants as origin
use Rattle.dt_record.specs.Keys.{KeyBelow, key_below}
use Rattle.dt_record.specs.Memory.{covers, memory_at, source_at, moment_of}
use Rattle.dt_record.specs.Visible.{IsVisible}
use Rattle.dt_record.specs.Actions.{Action, Loaded, Atomic, Held, held_of, forwarded}

-- Which sources the bytes of a hart's loads may have (this project's own).

-- Where a byte's source stands among others: the image below all keys, a write at its key, an own
-- store that no drain has taken above all keys.
pub data Rank : Type 0 where
  Lowest : Rank
  At : Key → Rank
  Highest : Rank

abbrev pub rank_below : Rank → Rank → Bool
rank_below Lowest Lowest = false
rank_below Lowest (At key) = nat_lt 0 1
rank_below Lowest Highest = nat_lt 0 1
rank_below (At a) Lowest = false
rank_below (At a) (At b) = key_below a b
rank_below (At a) Highest = nat_lt 0 1
rank_below Highest rank = false

-- a source that is a write or, without one, the image
abbrev pub origin_of_key : Option Key → Origin
origin_of_key None = origin.Image
origin_of_key (Some key) = origin.Write key

-- the source of a byte for a load after some actions of its hart, where memory is read at moment k
abbrev pub origin_of : List Write → List Action → LoadAsk → ℕ → ℕ → Origin
origin_of writes before ask k addr =
    option_map_or (λ h. origin.Store h.store.seq) (forwarded ask.at before addr) (origin_of_key (source_at writes k addr))

-- the byte that it finds: of the store's value, or of memory
abbrev pub stored_byte : ℕ → Held → ℕ
stored_byte addr h = h.store.value / 2 ^ (8 * (addr - h.store.addr)) % 256

abbrev pub found_byte : List ℕ → List Write → List Action → LoadAsk → ℕ → ℕ → ℕ
found_byte image writes before ask k addr =
    option_map_or (stored_byte addr) (forwarded ask.at before addr) (memory_at image writes k addr)

-- the number whose bytes are found at so many addresses from one on, the low byte first
abbrev pub found_value : List ℕ → List Write → List Action → LoadAsk → ℕ → (width addr : ℕ) → ℕ
found_value image writes before ask k zero addr = 0
found_value image writes before ask k (suc width) addr =
    found_byte image writes before ask k addr + 256 * found_value image writes before ask k width (addr + 1)

-- where a source stands after some actions of its hart: an own store at the drain that takes it
abbrev pub store_rank : Option Key → Rank
store_rank None = Highest
store_rank (Some key) = At key

abbrev pub rank : List Action → Origin → Rank
rank before origin.Image = Lowest
rank before (origin.Write key) = At key
rank before (origin.Store seq) = option_map_or (λ h. store_rank h.drained) (find (λ h. h.store.seq == seq) (held_of before)) Highest

-- A load after some actions of its hart may read memory at moment k, where keeps says which ranks
-- the source of a byte may have.
pub record FitsLoad (image : List ℕ) (writes : List Write) (before : List Action) (keeps : ℕ → Rank → Type 0)
    (ask : LoadAsk) (k : ℕ) : Type 0 where
  pub visible : IsVisible writes ask.key ask.at k
  pub value : found_value image writes before ask k ask.width ask.addr ≡ ask.raw
  pub floor : (i : ℕ) → i < ask.width → keeps (ask.addr + i) (rank before (origin_of writes before ask k (ask.addr + i)))

abbrev pub is_within : ℕ → ℕ → ℕ → Bool
is_within addr width byte = nat_le addr byte && nat_lt byte (addr + width)

-- the source that an action had for a byte, where it read it: a load at its assigned moment, an LR
-- or AMO at the moment of its key
abbrev pub origin_at : List Write → List Action → (k : ℕ) → Action → ℕ → Option Origin
origin_at writes before k (Loaded ask) byte =
    if is_within ask.addr ask.width byte then Some (origin_of writes before ask k byte) else None
origin_at writes before k (Atomic key addr width reads acquires) byte =
    if reads && is_within addr width byte then Some (origin_of_key (source_at writes (moment_of writes key) byte)) else None
origin_at writes before k _ byte = None

-- An assignment gives each load of a hart a moment, by the load's place among the hart's actions.
-- What it gives at other places does not count.

-- no source of the byte that an earlier action had, and no own write before the load, ranks above this one
pub record KeepsFloor (writes : List Write) (actions : List Action) (moments : ℕ → ℕ) (place : ℕ)
    (ask : LoadAsk) (byte : ℕ) (own : Rank) : Type 0 where
  pub reads : (m : ℕ) → m < place → IfSome (slice_get actions m) (λ action.
      IfSome (origin_at writes (take m actions) (moments m) action byte) (λ o. rank_below own (rank (take place actions) o) ≡ false))
  pub own_writes : (w : Write) → Contains writes w → w.key.hart ≡ ask.key.hart → KeyBelow w.key ask.key → IsTrue (covers byte w)
      → rank_below own (At w.key) ≡ false

-- the load at a place fits the assignment
abbrev pub FitsAt : List ℕ → List Write → List Action → (ℕ → ℕ) → ℕ → LoadAsk → Type 0
FitsAt image writes actions moments place ask =
    FitsLoad image writes (take place actions) (KeepsFloor writes actions moments place ask) ask (moments place)

-- every load fits
abbrev pub Fits : List ℕ → List Write → List Action → (ℕ → ℕ) → Type 0
Fits image writes actions moments =
    (place : ℕ) (ask : LoadAsk) → slice_get actions place ≡ Some (Loaded ask) → FitsAt image writes actions moments place ask

-- some assignment fits
abbrev pub HasSources : List ℕ → List Write → List Action → Type 0
HasSources image writes actions = (moments : ℕ → ℕ) × Fits image writes actions moments

-- the assignment fits, and no fitting one has an earlier moment at any load
pub record AreLeastSources (image : List ℕ) (writes : List Write) (actions : List Action) (moments : ℕ → ℕ) : Type 0 where
  pub fits : Fits image writes actions moments
  pub least : (others : ℕ → ℕ) → Fits image writes actions others → (place : ℕ) (ask : LoadAsk)
      → slice_get actions place ≡ Some (Loaded ask) → moments place ≤ others place
