use Rattle.std.specs.Prelude.{ℕ, ◌<◌, ◌+◌, List, IsTrue}
use Rattle.dt_local.specs.LocalMemory.{LocalMemory, newest_of}
use Rattle.dt_record.specs.declared.writes.Write.{Write}
use Rattle.dt_loads.specs.Newer.{is_newer_than}
use Rattle.dt_atomics.specs.declared.accesses.AtomicAccess.{AtomicAccess}
use Rattle.dt_atomics.specs.Asking.{reads}
use Rattle.dt_atomics.specs.Reading.{source_of}

-- How a newer write is found, from the newest keys that local memory has.

-- a byte that is read after the first k writes comes from a write above the byte's newest key
pub record HasNewerByte (local : LocalMemory) (writes : List Write) (k : ℕ) (x : AtomicAccess) : Type 0 where
  pub reading : IsTrue (reads x.op)
  pub place : ℕ
  pub within : place < x.width
  pub newer : IsTrue (is_newer_than (newest_of local (x.paddr + place)) (source_of writes k (x.paddr + place)))
