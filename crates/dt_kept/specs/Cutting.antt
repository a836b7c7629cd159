-- A hart's records at a cut. All of it is this project's own.
use Rattle.std.specs.Prelude.{ℕ, List, filter, nat_lt, nat_le}
use Rattle.dt_record.specs.declared.records.Record.{Record}

-- those with a stamp below the cut
abbrev pub records_before : ℕ → List Record → List Record
records_before cut own = filter (λ r. nat_lt r.stamp cut) own

-- and the others
abbrev pub records_from : ℕ → List Record → List Record
records_from cut own = filter (λ r. nat_le cut r.stamp) own
