use Rattle.std.specs.Prelude.{ℕ, ◌≡◌, ◌+◌, ◌==◌, Bool, Option, None, Some, List, [], ◌∷◌, ◌++◌, length, drop, filter, slice_get, Err, IsTrue}
use Rattle.std.specs.List.{list_all}
use Rattle.dt_record.specs.declared.records.Record.{Record}
use Rattle.dt_record.specs.declared.writes.Write.{Write}
use Rattle.dt_record.specs.Keys.{key_of}
use Rattle.dt_record.specs.Lawful.{is_lawful}
use Rattle.dt_versions.specs.History.{History, are_in_order}
use Rattle.dt_writes.specs.OwnWrites.{own_writes_from}
use Rattle.dt_rules.specs.declared.misfits.Misfit.{Misfit}
use Rattle.dt_rules.specs.declared.misfits.Passed.{Passed}
use Rattle.dt_hart.specs.HartView.{HartView}
use Rattle.dt_hart.specs.OwnWrites.{are_of, are_rising}
use Rattle.dt_hart.specs.Settings.{Setting}
use Rattle.dt_hart.specs.Standing.{HartStands}
use Rattle.dt_judge.specs.Judgement.{Finds}
use Rattle.dt_judge.specs.Judging.{are_later}
use Rattle.dt_judge.specs.Runs.{AreAllowed, setting_at}
use Rattle.dt_verdict.specs.declared.verdicts.Failure.{Failure}
use Rattle.dt_runs.specs.Noting.{failure_at, notes_from}
use Rattle.dt_runs.specs.RunView.{RunView}

-- What a hart's run stands for (this project's own). The writes here are all writes of the file; whoever judges a record
-- needs only those of its cycle and of earlier ones.

-- These are all records of a hart: each is lawful and the hart's, no stamp falls, and the hart's writes among all writes,
-- which stand in the order of their keys, are those of the records.
pub record AreOwn (writes : List Write) (hart : ℕ) (own : List Record) : Type 0 where
  pub its : IsTrue (are_of hart own)
  pub rising : IsTrue (are_rising own)
  pub lawful : IsTrue (list_all is_lawful own)
  pub in_order : IsTrue (are_in_order writes)
  pub same : filter (λ w. w.key.hart == hart) writes ≡ own_writes_from 0 own

-- Memory holds the first of all writes, and no write that it lacks is of this cycle or an earlier one.
pub record HoldsUntil (held : List Write) (stamp : ℕ) (writes : List Write) : Type 0 where
  pub later : List Write
  pub are : writes ≡ held ++ later
  pub after : IsTrue (are_later stamp later)

-- what a record after these records of a hart is judged against
abbrev pub setting_after : (image : List ℕ) (writes : List Write) (wide : Bool) (hart : ℕ) (records : List Record)
    (moments : ℕ → ℕ) → Setting
setting_after image writes wide hart records moments = record {
  image = image;
  writes = writes;
  wide = wide;
  hart = hart;
  before = records;
  moments = moments;
}

-- The last of a hart's records, behind so many allowed ones, is not allowed, and this is its failure.
pub record LastFails (image : List ℕ) (writes : List Write) (wide : Bool) (hart : ℕ) (records : List Record) (moments : ℕ → ℕ)
    (count : ℕ) (f : Failure) : Type 0 where
  pub misfit : Misfit
  pub own : Record
  pub there : slice_get records count ≡ Some own
  pub last : length records ≡ count + 1
  pub finds : Finds (setting_at image writes wide hart records moments count) own (Err misfit)
  pub failure : f ≡ failure_at (key_of count own) misfit

-- How a run over these records ends, so many of which are allowed: all are, or the last one is not. What is kept of the
-- hart stands for the allowed ones.
abbrev pub EndsWith : (h : HartView) (image : List ℕ) (writes : List Write) (wide : Bool) (records : List Record)
    (moments : ℕ → ℕ) (count : ℕ) → Option Failure → Type 0
EndsWith h image writes wide records moments count None =
    (count ≡ length records) × HartStands h (setting_after image writes wide h.arch.hart records moments)
EndsWith h image writes wide records moments count (Some f) =
    LastFails image writes wide h.arch.hart records moments count f
    × HartStands h (setting_at image writes wide h.arch.hart records moments count)

-- A run over these records of its hart behind earlier ones, with this image and these writes: they are allowed up to the
-- end, or up to the last one, which is the failure. What a report says of the allowed ones behind the earlier is noted.
pub record RunsBehind (earlier : List Record) (v : RunView) (image : List ℕ) (writes : List Write) (wide : Bool)
    (records : List Record) : Type 0 where
  pub allowed : List Passed
  pub moments : ℕ → ℕ
  pub are_allowed : AreAllowed image writes wide v.hart.arch.hart (earlier ++ records) moments allowed
  pub ends : EndsWith v.hart image writes wide (earlier ++ records) moments (length allowed) v.failure
  pub notes : v.notes ≡ notes_from (length earlier) records (drop (length earlier) allowed)

-- All of these first records of a hart are allowed, and what is kept of the hart stands for them.
pub record StandsBehind (h : HartView) (image : List ℕ) (writes : List Write) (wide : Bool) (records : List Record) : Type 0 where
  pub allowed : List Passed
  pub moments : ℕ → ℕ
  pub are_allowed : AreAllowed image writes wide h.arch.hart records moments allowed
  pub count : length allowed ≡ length records
  pub stands : HartStands h (setting_after image writes wide h.arch.hart records moments)

-- a run over these first records of its hart
abbrev pub Runs : RunView → (image : List ℕ) → (writes : List Write) → (wide : Bool) → List Record → Type 0
Runs v image writes wide records = RunsBehind [] v image writes wide records

-- A run goes on by its hart's next record, judged over this memory: whatever all writes are of which memory holds those
-- up to the record's cycle, and whatever records were before it, noted or not, and come after.
abbrev pub RunsOn : (old new : RunView) (held : History) → Record → Type 0
RunsOn old new held r = (writes : List Write) (wide : Bool) (earlier before more : List Record)
    → AreOwn writes old.hart.arch.hart (earlier ++ before ++ r ∷ more) → HoldsUntil held.writes r.stamp writes
    → RunsBehind earlier old held.image writes wide before → RunsBehind earlier new held.image writes wide (before ++ r ∷ [])
