-- Parts of kept records (this project's own).
use Rattle.std.specs.Prelude.{ℕ, ◌-◌, List, take, drop}
use Rattle.dt_record.specs.declared.records.Record.{Record}
use Rattle.dt_record.specs.declared.record_lists.RecordsAt.{RecordsAt}

-- those from one place up to another
abbrev pub part : ℕ → ℕ → List Record → List Record
part from to records = take (to - from) (drop from records)

-- the records that such a part stands for
abbrev pub part_of : RecordsAt → List Record
part_of p = part p.from p.to p.kept.now
