-- How many of some records write memory.
use Rattle.std.specs.Prelude.{◌≡◌, ◌+◌, Bool, true, false, List, ◌∷◌, length, filter}
use Rattle.std.proofs.Common.{cond, arith}
use Rattle.dt_record.specs.declared.records.Record.{Record}
use Rattle.dt_record.specs.Writes.{writes_memory}

pub length-cond : (r : Record) (others : List Record) (t : Bool) → length (cond t (r ∷ others) others) ≡ cond t 1 0 + length others
length-cond r others true = omega arith
length-cond r others false = omega arith

pub length-writing : (r : Record) (records : List Record)
    → length (filter writes_memory (r ∷ records)) ≡ cond (writes_memory r) 1 0 + length (filter writes_memory records)
length-writing r records = length-cond r (filter writes_memory records) (writes_memory r)
