use Rattle.std.specs.Prelude.{ℕ, ◌≡◌, ◌<◌, ◌+◌, Bool, true, false, Option, Some, None, slice_get, IsTrue}
use Rattle.dt_record.specs.declared.keys.Key.{Key}
use Rattle.dt_record.specs.declared.accesses.LoadAsk.{LoadAsk}
use Rattle.dt_record.specs.declared.origins.Origin.{Origin}
use Rattle.dt_record.specs.declared.origins.Origin.TheVariants as origin
use Rattle.dt_record.specs.declared.origins.Sources.{Sources}
use Rattle.dt_record.specs.Keys.{key_below}
use Rattle.dt_local.specs.LocalMemory.{LocalMemory, newest_of}

-- How a newer write is found, from the newest keys that local memory has.

-- whether a source is a write above the newest key of the byte
abbrev pub is_newer_than : Option Key → Origin → Bool
is_newer_than None (origin.Write key) = true
is_newer_than (Some newest) (origin.Write key) = key_below newest key
is_newer_than newest origin.Image = false
is_newer_than newest (origin.Store seq) = false

-- that of a byte of the load is
pub record HasNewerByte (local : LocalMemory) (ask : LoadAsk) (sources : Sources) : Type 0 where
  pub place : ℕ
  pub source : Origin
  pub within : place < ask.width
  pub there : slice_get sources.from place ≡ Some source
  pub newer : IsTrue (is_newer_than (newest_of local (ask.addr + place)) source)
