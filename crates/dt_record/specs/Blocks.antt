-- Blocks of records, as contracts see them (this project's own).
use Rattle.std.specs.Prelude.{ℕ, List}
use Rattle.dt_record.specs.declared.records.Record.{Record}

-- the records, and a number that is 0 where no more fits and falls with each record
pub record BlockView : Type 0 where
  pub records : List Record
  pub room : ℕ
