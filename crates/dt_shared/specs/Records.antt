-- What contracts see of a shared record. All of it is this project's own.
use Rattle.std.specs.Prelude.{◌≡◌, ℕ, List, ◌++◌}
use Rattle.atomic_table.specs.Seated.{TableId}
use Rattle.dt_shared.specs.declared.entries.Entry.{Entry}
use Rattle.dt_shared.specs.declared.records.SharedRecord.{SharedRecord}

-- which shared record it is
abbrev pub identity : SharedRecord → TableId
identity r = r.table.shared.table_id

-- how many passes it has
abbrev pub pass_count : SharedRecord → ℕ
pass_count r = r.passes

-- the later history begins with the earlier one and ends with these entries
abbrev pub Extends : List Entry → List Entry → List Entry → Type 0
Extends earlier later last = (between : List Entry) × (later ≡ (earlier ++ between) ++ last)
