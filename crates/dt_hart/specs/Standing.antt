use Rattle.std.specs.Prelude.{ℕ, ◌≡◌, None, length, IsTrue}
use Rattle.std.specs.List.{list_all}
use Rattle.dt_record.specs.declared.keys.Key.{Key}
use Rattle.dt_record.specs.declared.origins.Sources.{Sources}
use Rattle.dt_record.specs.declared.records.Record.{Record}
use Rattle.dt_record.specs.Actions.{order_floor, last_read}
use Rattle.dt_record.specs.Keys.{key_below}
use Rattle.dt_record.specs.LoadSources.{AreLeastSources}
use Rattle.dt_local.specs.LocalMemory.{local_memory}
use Rattle.dt_sources.specs.Knowing.{Knows, AreJudged}
use Rattle.dt_stores.specs.Standing.{StoresStand}
use Rattle.dt_windows.specs.Kept.{FencesStand}
use Rattle.dt_hart.specs.Fences.{fences_of}
use Rattle.dt_hart.specs.HartView.{HartView}
use Rattle.dt_hart.specs.OwnWrites.{GoesOn}
use Rattle.dt_hart.specs.Reserving.{reserved_in}
use Rattle.dt_hart.specs.Settings.{Setting, after, arch_of, did, key_in, next_key, last_stamp}
use Rattle.dt_hart.specs.Taking.{WasJudged}

-- What is kept of a hart stands for a setting (this project's own): it is what the hart's records before leave, and the
-- loads among these read at the moments of the least fitting assignment.
pub record HartStands (h : HartView) (s : Setting) : Type 0 where
  pub seq : h.seq ≡ length s.before
  pub stamp : h.stamp ≡ last_stamp s.before
  pub arch : h.arch ≡ arch_of s
  pub stores : StoresStand h.stores (did s)
  pub knows : Knows (local_memory h.keys None) s.writes (did s) s.moments (next_key s)
  pub chosen : AreLeastSources s.image s.writes (did s) s.moments
  pub judged : AreJudged s.writes (did s) (next_key s)
  pub floor : h.floor ≡ order_floor (did s)
  pub last_read : h.last_read ≡ last_read (did s)
  pub reserved : h.reserved ≡ reserved_in s.before
  pub windows : FencesStand h.windows (fences_of s)

-- what local memory and the store buffer know at a next record
pub record KnowsAt (h : HartView) (s : Setting) (next : Key) : Type 0 where
  pub knows : Knows (local_memory h.keys None) s.writes (did s) s.moments next
  pub judged : AreJudged s.writes (did s) next

-- a hart has its setting's number, and may use Sv48 where its setting says so
pub record IsOfSetting (h : HartView) (s : Setting) : Type 0 where
  pub number : h.arch.hart ≡ s.hart
  pub wide : h.arch.csrs.wide ≡ s.wide

-- The hart goes on by a record with these sources: whatever records it stood for that go on with this one, it stands for
-- them and the record.
abbrev pub GoesOnWith : HartView → HartView → Record → Sources → Type 0
GoesOnWith old new r sources = (s : Setting) (moment : ℕ) → HartStands old s → GoesOn s r → WasJudged s r moment sources
    → HartStands new (after s r moment)

-- A law: what stands for a setting knows what it has to at the key of the next record, since no own write stands
-- between the least key that this may have and its own.
abbrev pub KnowsAtNext : Type 0
KnowsAtNext = (h : HartView) (s : Setting) (r : Record) → HartStands h s → GoesOn s r → KnowsAt h s (key_in s r)

-- A law: the fences of a hart's records stand before its next record.
abbrev pub FencesAreEarlier : Type 0
FencesAreEarlier = (s : Setting) (r : Record) → GoesOn s r → IsTrue (list_all (λ f. key_below f.key (key_in s r)) (fences_of s))

-- A law: no record changes a hart's number, or whether it may use Sv48, so that what stands for a setting has those of it.
abbrev pub HartsAreOfTheirSettings : Type 0
HartsAreOfTheirSettings = (h : HartView) (s : Setting) → HartStands h s → IsOfSetting h s
