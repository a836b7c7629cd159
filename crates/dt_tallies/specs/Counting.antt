use Rattle.std.specs.Prelude.{ℕ, ◌≤◌, ◌+◌, Bool, true, false, if◌then◌else◌, Option, List, [], ◌∷◌, length, filter}
use Rattle.std.specs.Option.{option_map_or}
use Rattle.dt_record.specs.declared.keys.Key.{Key}
use Rattle.dt_record.specs.declared.records.Record.{Record}
use Rattle.dt_record.specs.declared.records.Body.{Body}
use Rattle.dt_record.specs.declared.records.Body.TheVariants.{Commit, Trap, Load, Store, Atomic, Drain}
use Rattle.dt_record.specs.Keys.{key_of, key_below}
use Rattle.dt_record.specs.Writes.{writes_memory}
use Rattle.dt_verdict.specs.declared.tallies.Counts.{Counts}

-- How many records of each kind there are (this project's own).

-- whether a key stands below a limit, as that of a failing record; each does where there is none
abbrev pub is_below : Option Key → Key → Bool
is_below limit key = option_map_or (λ end. key_below key end) limit true

-- the records below a limit among those of one hart, after so many of them
abbrev pub below_from : Option Key → ℕ → List Record → List Record
below_from limit seq [] = []
below_from limit seq (r ∷ rs) = if is_below limit (key_of seq r) then r ∷ below_from limit (seq + 1) rs else below_from limit (seq + 1) rs

-- each retired instruction is one of these records
abbrev pub is_retired : Body → Bool
is_retired (Commit retire) = true
is_retired (Load retire at paddr) = true
is_retired (Store pc bits paddr value) = true
is_retired (Atomic retire paddr width wrote new) = true
is_retired _ = false

abbrev pub is_trap : Body → Bool
is_trap (Trap pc bits cause tval) = true
is_trap _ = false

abbrev pub is_load : Body → Bool
is_load (Load retire at paddr) = true
is_load _ = false

abbrev pub is_store : Body → Bool
is_store (Store pc bits paddr value) = true
is_store _ = false

abbrev pub is_atomic : Body → Bool
is_atomic (Atomic retire paddr width wrote new) = true
is_atomic _ = false

abbrev pub is_drain : Body → Bool
is_drain (Drain line mask count bytes) = true
is_drain _ = false

-- how many records have a body of a kind
abbrev pub count_of : (Body → Bool) → List Record → ℕ
count_of kind records = length (filter (λ r. kind r.body) records)

-- how many of each kind there are among some records
abbrev pub counts_among : List Record → Counts
counts_among records = record {
  records = length records;
  writes = length (filter writes_memory records);
  retired = count_of is_retired records;
  traps = count_of is_trap records;
  loads = count_of is_load records;
  stores = count_of is_store records;
  atomics = count_of is_atomic records;
  drains = count_of is_drain records;
}

-- what a report counts of the records of one hart, in their order: those below a limit
abbrev pub counts_of : Option Key → List Record → Counts
counts_of limit records = counts_among (below_from limit 0 records)

abbrev pub one_if : Bool → ℕ
one_if b = if b then 1 else 0

-- the counts with one more record
abbrev pub with_record : Counts → Record → Counts
with_record counts r = record {
  records = counts.records + 1;
  writes = counts.writes + one_if (writes_memory r);
  retired = counts.retired + one_if (is_retired r.body);
  traps = counts.traps + one_if (is_trap r.body);
  loads = counts.loads + one_if (is_load r.body);
  stores = counts.stores + one_if (is_store r.body);
  atomics = counts.atomics + one_if (is_atomic r.body);
  drains = counts.drains + one_if (is_drain r.body);
}

-- no count is above a number
pub record AreAtMost (most : ℕ) (counts : Counts) : Type 0 where
  pub records : counts.records ≤ most
  pub writes : counts.writes ≤ most
  pub retired : counts.retired ≤ most
  pub traps : counts.traps ≤ most
  pub loads : counts.loads ≤ most
  pub stores : counts.stores ≤ most
  pub atomics : counts.atomics ≤ most
  pub drains : counts.drains ≤ most
