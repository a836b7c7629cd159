use Rattle.std.specs.Prelude.{ℕ, ◌≡◌, ◌-◌, max, if◌then◌else◌, Option, Some, None, List, ◌++◌, take, option_to_list, nat_le, slice_get, IsTrue}
use Rattle.std.specs.List.{list_all}
use Rattle.std.specs.Option.{option_map_or}
use Rattle.dt_record.specs.declared.keys.Key.{Key}
use Rattle.dt_record.specs.declared.origins.Origin.{Origin}
use Rattle.dt_record.specs.declared.origins.Sources.{Sources}
use Rattle.dt_record.specs.declared.records.Body.{Body}
use Rattle.dt_record.specs.declared.records.Body.TheVariants.{Load, Atomic}
use Rattle.dt_record.specs.declared.records.Record.{Record}
use Rattle.dt_record.specs.Actions.{Action, Fenced, Atomic as Accessed, last_read}
use Rattle.dt_record.specs.Keys.{key_below, key_of}
use Rattle.dt_record.specs.Lawful.{is_in_ram}
use Rattle.dt_record.specs.Writes.{body_write}
use Rattle.dt_local.specs.LocalMemory.{LocalMemory, newest_of, greater}
use Rattle.dt_reference.specs.HartActions.{body_action, width_of, reads_memory}
use Rattle.dt_reference.specs.Meaning.{meaning_of}
use Rattle.dt_sources.specs.Knowing.{write_key, covering_key}
use Rattle.dt_step.specs.declared.state.Arch.{Arch}
use Rattle.dt_stores.specs.Standing.{StoresStand}
use Rattle.dt_windows.specs.Fences.{Fence}
use Rattle.dt_windows.specs.Kept.{WindowsView, FencesStand}
use Rattle.dt_hart.specs.declared.accesses.Accesses.{Accesses}
use Rattle.dt_hart.specs.Fences.{fence_by}
use Rattle.dt_hart.specs.Taking.{IsDrained}

-- What a record leaves of a hart's memory accesses and fences (this project's own).

-- the key of the write that a byte came from, where the bytes from a place on have these sources
abbrev pub read_key : (place : ℕ) → List Origin → ℕ → Option Key
read_key place from byte = if nat_le place byte then write_key (slice_get from (byte - place)) else None

-- the key of the write that a load from RAM, an LR or an AMO with these sources had a byte from
abbrev pub read_by : Body → Sources → ℕ → Option Key
read_by (Load retire at paddr) sources byte =
    if is_in_ram paddr then read_key paddr (take (width_of (meaning_of retire.bits)) sources.from) byte else None
read_by (Atomic retire paddr width wrote new) sources byte =
    if reads_memory (meaning_of retire.bits) then read_key paddr (take width sources.from) byte else None
read_by body sources byte = None

-- The key that is noted for a byte: of a record that wrote memory its own, where it wrote the byte, which is above that of
-- the write that it read there; of any other that of the write that it had the byte from.
abbrev pub noted_by : Key → Body → Sources → ℕ → Option Key
noted_by key body sources byte = option_map_or (covering_key byte) (body_write key body) (read_by body sources byte)

-- the cycle that an action asks later loads not to be below, where the hart's greatest read was in this one
abbrev pub floor_asked : (last : ℕ) → Option Action → ℕ
floor_asked last (Some (Fenced ww wr rr)) = if rr then last else 0
floor_asked last (Some (Accessed key addr width reads acquires)) = if acquires then key.stamp else 0
floor_asked last action = 0

-- the accesses go on by a record
pub record Follows (old new : Accesses) (key : Key) (body : Body) (sources : Sources) : Type 0 where
  pub stores : (actions : List Action) → StoresStand old.stores actions → IsDrained actions body
      → StoresStand new.stores (actions ++ option_to_list (body_action key body))
  pub keys : (byte : ℕ) → newest_of new.local byte ≡ greater (newest_of old.local byte) (noted_by key body sources byte)
  pub floor : new.floor ≡ max old.floor (floor_asked old.last_read (body_action key body))
  pub last_read : new.last_read ≡ max old.last_read (last_read (option_to_list (body_action key body)))

-- local memory, nothing reserved
abbrev pub known_in : LocalMemory → LocalMemory
known_in l = record l { reserved = None }

-- what later accesses ask for is the same
pub record KeepsAccesses (old new : Accesses) : Type 0 where
  pub stores : new.stores ≡ old.stores
  pub keys : new.local.keys ≡ old.local.keys
  pub local : known_in new.local ≡ known_in old.local
  pub floor : new.floor ≡ old.floor
  pub last_read : new.last_read ≡ old.last_read

-- The fences go on by a record: whatever fences the old value stands for, where these stand before the record, the new one
-- stands for them and the record's.
abbrev pub FollowsFences : WindowsView → WindowsView → Arch → (seq : ℕ) → Record → Type 0
FollowsFences old new a seq r = (fences : List Fence) → IsTrue (list_all (λ f. key_below f.key (key_of seq r)) fences)
    → FencesStand old fences → FencesStand new (fences ++ option_to_list (fence_by a seq r))
