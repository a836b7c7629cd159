use Rattle.std.specs.Prelude.{ℕ, ◌≡◌, ◌<◌, ◌⊎◌, ◌↔◌, false, if◌then◌else◌, Option, Some, None, List, [], length, take, slice_get, IsTrue, IfSome, Contains}
use Rattle.std.specs.List.{list_all}
use Rattle.dt_record.specs.declared.keys.Key.{Key}
use Rattle.dt_record.specs.declared.writes.Write.{Write}
use Rattle.dt_record.specs.declared.accesses.LoadAsk.{LoadAsk}
use Rattle.dt_record.specs.declared.origins.Origin.{Origin}
use Rattle.dt_record.specs.declared.origins.Origin.TheVariants as origin
use Rattle.dt_record.specs.Keys.{KeyBelow, key_below}
use Rattle.dt_record.specs.Memory.{covers}
use Rattle.dt_record.specs.Actions.{Action, Loaded, Held, held_of, store_covers}
use Rattle.dt_record.specs.LoadSources.{At, rank, rank_below, origin_of, origin_at, KeepsFloor}
use Rattle.dt_versions.specs.Laws.{source_rank}
use Rattle.dt_stores.specs.Places.{is_store_place}
use Rattle.dt_stores.specs.Standing.{stores_of}
use Rattle.dt_local.specs.LocalMemory.{LocalMemory, local_memory, newest_of, greater}
use Rattle.dt_sources.specs.Finding.{StoresAreApart, KeepsNewest, FitsAsKnown}
use Rattle.dt_sources.specs.Choice.{FitsNext, then_action}

-- When the newest keys that local memory has ask of a load exactly what its floor asks (this
-- project's own).

-- an action among some actions, with the moments of the loads, had the byte from the write with this key
pub record HadFrom (writes : List Write) (actions : List Action) (moments : ℕ → ℕ) (byte : ℕ) (key : Key) : Type 0 where
  pub place : ℕ
  pub action : Action
  pub there : slice_get actions place ≡ Some action
  pub had : origin_at writes (take place actions) (moments place) action byte ≡ Some (origin.Write key)

-- the hart's own write with this key stands before a next record and covers the byte
pub record WroteBefore (writes : List Write) (next : Key) (byte : ℕ) (key : Key) : Type 0 where
  pub write : Write
  pub there : Contains writes write
  pub is_its : write.key ≡ key
  pub own : key.hart ≡ next.hart
  pub before : KeyBelow key next
  pub covering : IsTrue (covers byte write)

-- a key that the hart knows for the byte before its next record
abbrev pub IsKnownKey : List Write → List Action → (ℕ → ℕ) → (next : Key) → (byte : ℕ) → Key → Type 0
IsKnownKey writes actions moments next byte key = HadFrom writes actions moments byte key ⊎ WroteBefore writes next byte key

-- the greatest of some keys, and none where there is none
pub record IsGreatest (Is : Key → Type 0) (greatest : Option Key) : Type 0 where
  pub bound : (key : Key) → Is key → rank_below (source_rank greatest) (At key) ≡ false
  pub one_of_them : IfSome greatest Is

-- local memory has for each byte the greatest key that the hart knows for it, after some actions and before a next record
abbrev pub Knows : LocalMemory → List Write → List Action → (ℕ → ℕ) → (next : Key) → Type 0
Knows local writes actions moments next = (byte : ℕ) → IsGreatest (IsKnownKey writes actions moments next byte) (newest_of local byte)

-- What holds of a hart's actions before a next record where the records were judged: a store has a
-- number of its own and lies inside one line, since it is aligned, and a drain that takes a store is
-- an own write before the record that covers each byte of the store, since its mask was checked.
pub record AreJudged (writes : List Write) (actions : List Action) (next : Key) : Type 0 where
  pub apart : StoresAreApart actions
  pub placed : IsTrue (list_all is_store_place (stores_of actions))
  pub drained : (i : ℕ) (h : Held) (key : Key) (byte : ℕ) → slice_get (held_of actions) i ≡ Some h → h.drained ≡ Some key
      → IsTrue (store_covers byte h.store) → WroteBefore writes next byte key

-- a source keeps the newest key that local memory has exactly where it keeps the floor of the load
abbrev pub KnownIsFloor : Type 0
KnownIsFloor = (local : LocalMemory) (writes : List Write) (actions : List Action) (moments : ℕ → ℕ) (ask : LoadAsk)
    → Knows local writes actions moments ask.key → AreJudged writes actions ask.key → (k byte : ℕ)
    → KeepsNewest local byte (rank actions (origin_of writes actions ask k byte))
    ↔ KeepsFloor writes (then_action actions (Loaded ask)) moments (length actions) ask byte
    (rank actions (origin_of writes actions ask k byte))

-- so a moment fits a load with local memory exactly where it fits with the earlier loads' moments
abbrev pub KnownFitIsFit : Type 0
KnownFitIsFit = (image : List ℕ) (local : LocalMemory) (writes : List Write) (actions : List Action) (moments : ℕ → ℕ) (ask : LoadAsk)
    → Knows local writes actions moments ask.key → AreJudged writes actions ask.key → (k : ℕ)
    → FitsAsKnown image writes local actions ask k ↔ FitsNext image writes actions moments ask k

-- a key that one more action adds: the action had the byte from that write, or the hart's own write
-- with it stands before the record after the action and not before the action's
abbrev pub IsAddedKey : List Write → List Action → (moment : ℕ) → Action → (next after : Key) → (byte : ℕ) → Key → Type 0
IsAddedKey writes actions moment action next after byte key =
    (origin_at writes actions moment action byte ≡ Some (origin.Write key))
    ⊎ (WroteBefore writes after byte key × (key_below key next ≡ false))

-- How local memory goes on knowing: at first nothing is known; a record that does none of the actions
-- and writes nothing leaves it; and after one more action each byte has the greater of its newest key
-- and of those that the action adds. An own write between two of a hart's records is one that the
-- first of them made.
pub record KnowingGoesOn : Type 0 where
  pub at_first : (writes : List Write) (moments : ℕ → ℕ) (next : Key) → ((byte : ℕ) (key : Key) → ¬ WroteBefore writes next byte key)
      → Knows (local_memory [] None) writes [] moments next
  pub other_record : (local : LocalMemory) (writes : List Write) (actions : List Action) (moments : ℕ → ℕ) (next after : Key)
      → Knows local writes actions moments next → next.hart ≡ after.hart → key_below after next ≡ false
      → ((byte : ℕ) (key : Key) → WroteBefore writes after byte key → KeyBelow key next)
      → Knows local writes actions moments after
  pub action : (local noted : LocalMemory) (writes : List Write) (actions : List Action) (moments others : ℕ → ℕ)
      (action : Action) (next after : Key) (added : ℕ → Option Key)
      → Knows local writes actions moments next → next.hart ≡ after.hart → key_below after next ≡ false
      → ((place : ℕ) → place < length actions → others place ≡ moments place)
      → ((byte : ℕ) → IsGreatest (IsAddedKey writes actions (others (length actions)) action next after byte) (added byte))
      → ((byte : ℕ) → newest_of noted byte ≡ greater (newest_of local byte) (added byte))
      → Knows noted writes (then_action actions action) others after

-- the key of the write that a byte came from, where it came from one
abbrev pub write_key : Option Origin → Option Key
write_key None = None
write_key (Some origin.Image) = None
write_key (Some (origin.Write key)) = Some key
write_key (Some (origin.Store seq)) = None

-- the key of a write, where it covers the byte
abbrev pub covering_key : ℕ → Write → Option Key
covering_key byte w = if covers byte w then Some w.key else None

-- What one more action adds: the key that it had the byte from, where its record makes no write; else
-- the greater of that and of the write's, where that is the hart's one write from the record on and
-- before the next.
pub record NotesAreAdded : Type 0 where
  pub reads : (writes : List Write) (actions : List Action) (moment : ℕ) (action : Action) (next after : Key) (byte : ℕ)
      → ((key : Key) → WroteBefore writes after byte key → KeyBelow key next)
      → IsGreatest (IsAddedKey writes actions moment action next after byte) (write_key (origin_at writes actions moment action byte))
  pub writes : (writes : List Write) (actions : List Action) (moment : ℕ) (action : Action) (next after : Key) (byte : ℕ) (w : Write)
      → Contains writes w → w.key ≡ next → next.hart ≡ after.hart → KeyBelow next after
      → ((key : Key) (own : WroteBefore writes after byte key) → key_below key next ≡ false → own.write ≡ w)
      → IsGreatest (IsAddedKey writes actions moment action next after byte)
      (greater (write_key (origin_at writes actions moment action byte)) (covering_key byte w))
