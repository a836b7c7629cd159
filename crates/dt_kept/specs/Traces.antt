-- The trace of a failure. All of it is this project's own.
use Rattle.std.specs.Prelude.{ℕ, ◌&&◌, Bool, not, if◌then◌else◌, List, [], ◌∷◌, filter, nat_le}
use Rattle.dt_record.specs.declared.keys.Key.{Key}
use Rattle.dt_record.specs.declared.records.Record.{Record}
use Rattle.dt_record.specs.Keys.{key_below, key_of}
use Rattle.dt_record.specs.Writes.{counted, no_records}
use Rattle.dt_kept.specs.declared.traces.Traced.{Traced}

-- the key of a record with its number
abbrev pub traced_key : Traced → Key
traced_key t = key_of t.seq t.event

-- records with their numbers among their hart's, after so many records of each hart
abbrev pub numbered : (ℕ → ℕ) → List Record → List Traced
numbered seqs [] = []
numbered seqs (r ∷ rs) = record { seq = seqs r.hart; event = r } ∷ numbered (counted seqs r) rs

-- whether a record is of no cycle below the cut, and stands not behind the failing one
abbrev pub is_traced : (cut : ℕ) (failing : Key) → Traced → Bool
is_traced cut failing t = nat_le cut t.event.stamp && not (key_below failing (traced_key t))

-- a record among records in the order of their keys, before those with the same key
abbrev pub insert_traced : Traced → List Traced → List Traced
insert_traced t [] = t ∷ []
insert_traced t (u ∷ us) = if key_below (traced_key u) (traced_key t) then u ∷ insert_traced t us else t ∷ u ∷ us

abbrev pub traced_by_key : List Traced → List Traced
traced_by_key [] = []
traced_by_key (t ∷ ts) = insert_traced t (traced_by_key ts)

-- the records of a file from a cut on up to the failing one, by key
abbrev pub trace_of : (cut : ℕ) (failing : Key) → List Record → List Traced
trace_of cut failing records = traced_by_key (filter (is_traced cut failing) (numbered no_records records))
