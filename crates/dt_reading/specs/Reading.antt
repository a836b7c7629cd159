use Rattle.std.specs.Prelude.{ℕ, ◌≡◌, ◌≤◌, Bool, Option, None, Some, IfSome, option_map, List, [], ◌∷◌, ◌++◌, length, map, filter}
use Rattle.dt_record.specs.declared.limits.TheConstants.{HART_LIMIT, RECORD_LIMIT, WRITE_LIMIT}
use Rattle.dt_record.specs.declared.records.Record.{Record}
use Rattle.dt_record.specs.declared.streams.Next.{Next}
use Rattle.dt_record.specs.declared.streams.Next.TheVariants as next
use Rattle.dt_record.specs.declared.streams.Next.TheVariants.{Header, Event, End}
use Rattle.dt_record.specs.ProbeFile.{AreRecords, no_stamps}
use Rattle.dt_record.specs.Streams.{Progress}
use Rattle.dt_record.specs.Writes.{writes_memory}
use Rattle.dt_verdict.specs.declared.answers.Refusal.{Refusal}
use Rattle.dt_verdict.specs.declared.answers.Refusal.TheVariants.{Malformed, Limit, ReadFault, OutOfMemory}

-- Which records a stream of probe records gives to be judged, or why it gives none (this project's own).

-- records that may stand in a probe file with so many harts
pub record AreStreamed (harts : ℕ) (records : List Record) : Type 0 where
  pub some_hart : 1 ≤ harts
  pub few_harts : harts ≤ HART_LIMIT
  pub each : AreRecords harts no_stamps records
  pub few_records : length records ≤ RECORD_LIMIT
  pub few_writes : length (filter writes_memory records) ≤ WRITE_LIMIT

-- the answers with which a stream begins: a header, and records
abbrev pub first_answers : (harts : ℕ) (wide : Bool) → List Record → List Next
first_answers harts wide records = Header harts wide ∷ map (λ r. Event r) records

-- A stream answered a header, these records and their end. Where the stream tells its answers, they are these.
pub record HasCome (told : Option (List Next)) (p : Progress) (harts : ℕ) (wide : Bool) (records : List Record) : Type 0 where
  pub answers : IfSome told (λ answers. (more : List Next) × (answers ≡ first_answers harts wide records ++ End (length records) ∷ more))
  pub harts_are : p.harts ≡ Some harts
  pub wide_is : p.wide ≡ wide
  pub ended : p.ended ≡ Some (End (length records))
  pub streamed : AreStreamed harts records

-- what a stream tells in all whose header came before what is left, where it tells
abbrev pub with_header : (harts : ℕ) (wide : Bool) → Option (List Next) → Option (List Next)
with_header harts wide left = option_map (λ rest. Header harts wide ∷ rest) left

-- why the records of these answers are not judged: the answer that ended them, where it is not their end
abbrev pub refusal_in : List Next → Option Refusal
refusal_in [] = None
refusal_in (Header harts wide ∷ rest) = refusal_in rest
refusal_in (Event r ∷ rest) = refusal_in rest
refusal_in (End count ∷ rest) = None
refusal_in (next.Malformed offset ∷ rest) = Some (Malformed offset)
refusal_in (next.Limit what number ∷ rest) = Some (Limit what number)
refusal_in (next.ReadFault ∷ rest) = Some ReadFault
refusal_in (next.OutOfMemory ∷ rest) = Some OutOfMemory

-- how far a stream was read where its records are refused: to the answer that ended it
abbrev pub IsRefusedAt : Progress → Refusal → Type 0
IsRefusedAt p (Malformed offset) = p.ended ≡ Some (next.Malformed offset)
IsRefusedAt p (Limit what number) = p.ended ≡ Some (next.Limit what number)
IsRefusedAt p ReadFault = p.ended ≡ Some next.ReadFault
IsRefusedAt p OutOfMemory = Unit {0}
