use Rattle.std.specs.Prelude.{ℕ, ◌+◌, List, [], ◌∷◌, ◌++◌, option_to_list}
use Rattle.dt_record.specs.declared.records.Record.{Record}
use Rattle.dt_record.specs.declared.writes.Write.{Write}
use Rattle.dt_record.specs.Writes.{write_of_record}

-- the writes of a hart's records, after so many of its records (this project's own)
abbrev pub own_writes_from : ℕ → List Record → List Write
own_writes_from seq [] = []
own_writes_from seq (r ∷ rs) = option_to_list (write_of_record seq r) ++ own_writes_from (seq + 1) rs
