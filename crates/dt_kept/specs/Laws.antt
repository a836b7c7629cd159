-- Laws of a hart's records at cuts. All of it is this project's own.
use Rattle.std.specs.Prelude.{ℕ, ◌≡◌, List, ◌++◌, nat_lt, nat_le, IsTrue}
use Rattle.std.specs.List.{list_all}
use Rattle.dt_record.specs.declared.records.Record.{Record}
use Rattle.dt_hart.specs.OwnWrites.{are_rising}
use Rattle.dt_kept.specs.Cutting.{records_before, records_from}

-- where no stamp falls, the records below a cut are the first ones, and the others follow
abbrev pub CutsSplitRecords : Type 0
CutsSplitRecords = (cut : ℕ) (own : List Record) → IsTrue (are_rising own) → records_before cut own ++ records_from cut own ≡ own

-- where the first records are below a cut and the others are not, these are those before the cut and those from it on
abbrev pub FrontsAreBeforeCuts : Type 0
FrontsAreBeforeCuts = (cut : ℕ) (before more : List Record) → IsTrue (list_all (λ r. nat_lt r.stamp cut) before)
    → IsTrue (list_all (λ r. nat_le cut r.stamp) more)
    → (records_before cut (before ++ more) ≡ before) × (records_from cut (before ++ more) ≡ more)
