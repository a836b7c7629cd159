use Rattle.std.specs.Prelude.{ℕ, ◌≡◌, ◌<◌, ◌+◌, ◌-◌, Some, List, ◌++◌, map, replicate, if◌then◌else◌, IsTrue}
use Rattle.std.specs.List.{range_with_len}
use Rattle.dt_record.specs.declared.keys.Key.{Key}
use Rattle.dt_record.specs.declared.origins.Origin.{Origin}
use Rattle.dt_record.specs.declared.origins.Origin.TheVariants as origin
use Rattle.dt_record.specs.declared.origins.Sources.{Sources}
use Rattle.dt_record.specs.declared.writes.Write.{Write}
use Rattle.dt_record.specs.Keys.{KeyBelow}
use Rattle.dt_record.specs.LoadSources.{origin_of_key}
use Rattle.dt_record.specs.Memory.{source_at, moment_of}
use Rattle.dt_sources.specs.Knowing.{IsKnownKey}
use Rattle.dt_atomics.specs.declared.accesses.AtomicAccess.{AtomicAccess}
use Rattle.dt_atomics.specs.Asking.{reads}
use Rattle.dt_atomics.specs.Grounds.{AtomicGrounds}

-- What an atomic reads (this project's own). It takes place exactly at its key: it reads the memory that the writes with
-- smaller keys left.

-- where the byte at an address comes from after the first k writes
abbrev pub source_of : List Write → ℕ → ℕ → Origin
source_of writes k addr = origin_of_key (source_at writes k addr)

-- where the bytes come from that an LR or AMO reads, after the first k writes
abbrev pub sources_of : List Write → ℕ → AtomicAccess → Sources
sources_of writes k x =
    if reads x.op
    then record {
      count = x.width;
      from = map (source_of writes k) (range_with_len x.paddr x.width) ++ replicate (8 - x.width) origin.Image;
    }
    else record { count = 0; from = replicate 8 origin.Image }

-- some byte that an LR or AMO reads comes from a write that is newer than every write known to the hart for that byte
pub record ReadsNewer (g : AtomicGrounds) (key : Key) (x : AtomicAccess) : Type 0 where
  pub reading : IsTrue (reads x.op)
  pub place : ℕ
  pub within : place < x.width
  pub source : Key
  pub from : source_at g.writes (moment_of g.writes key) (x.paddr + place) ≡ Some source
  pub newer : (known : Key) → IsKnownKey g.writes g.actions g.moments key (x.paddr + place) known → KeyBelow known source
