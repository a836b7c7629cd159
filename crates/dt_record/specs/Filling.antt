-- What some answers of a stream tell, one after another. All of it is this project's own.
use Rattle.std.specs.Prelude.{◌≡◌, ◌≤◌, ◌+◌, Option, Some, IsNone, List, [], ◌∷◌, ◌++◌, length, map, filter}
use Rattle.dt_record.specs.declared.limits.TheConstants.{RECORD_LIMIT, WRITE_LIMIT}
use Rattle.dt_record.specs.declared.records.Record.{Record}
use Rattle.dt_record.specs.declared.streams.Next.{Next}
use Rattle.dt_record.specs.declared.streams.Next.TheVariants.{Event, End, Malformed, Limit, ReadFault, OutOfMemory}
use Rattle.dt_record.specs.declared.streams.Stop.{Stop}
use Rattle.dt_record.specs.declared.streams.Stop.TheVariants as stop
use Rattle.dt_record.specs.Streams.{Progress, Continues, TakesAnswer}
use Rattle.dt_record.specs.Writes.{writes_memory}

-- what the answers tell
abbrev pub ContinuesBy : Progress → List Next → Progress → Type 0
ContinuesBy old [] new = new ≡ old
ContinuesBy old (answer ∷ more) new = (mid : Progress) × Continues old answer mid × ContinuesBy mid more new

-- the answers are the first of those that were left, where the stream tells them
abbrev pub TakesAnswers : Option (List Next) → List Next → Option (List Next) → Type 0
TakesAnswers before [] after = after ≡ before
TakesAnswers before (answer ∷ more) after = (mid : Option (List Next)) × TakesAnswer before answer mid × TakesAnswers mid more after

-- each record as an answer
abbrev pub events_of : List Record → List Next
events_of records = map (λ r. Event r) records

-- the answers of a call that fills a block: its records, and then the stop, where that is an answer
abbrev pub block_answers : List Record → Stop → List Next
block_answers records stop.Full = events_of records
block_answers records (stop.End count) = events_of records ++ End count ∷ []
block_answers records (stop.Malformed offset) = events_of records ++ Malformed offset ∷ []
block_answers records (stop.Limit what number) = events_of records ++ Limit what number ∷ []
block_answers records stop.ReadFault = events_of records ++ ReadFault ∷ []
block_answers records stop.OutOfMemory = events_of records ++ OutOfMemory ∷ []

-- what answers tell, and what further ones tell after them, is what all of them tell
abbrev pub AnswersGoOn : Type 0
AnswersGoOn = (old mid new : Progress) (first more : List Next)
    → ContinuesBy old first mid → ContinuesBy mid more new → ContinuesBy old (first ++ more) new

abbrev pub TakenAnswersGoOn : Type 0
TakenAnswersGoOn = (before mid after : Option (List Next)) (first more : List Next)
    → TakesAnswers before first mid → TakesAnswers mid more after → TakesAnswers before (first ++ more) after

-- after some records of a stream that was not over: the counts are greater by theirs, within the limits
pub record AreCounted (old : Progress) (records : List Record) (new : Progress) : Type 0 where
  pub harts_stay : new.harts ≡ old.harts
  pub wide_stays : new.wide ≡ old.wide
  pub events_are : new.events ≡ old.events + length records
  pub writes_are : new.writes ≡ old.writes + length (filter writes_memory records)
  pub few_events : old.events ≤ RECORD_LIMIT → new.events ≤ RECORD_LIMIT
  pub few_writes : old.writes ≤ WRITE_LIMIT → new.writes ≤ WRITE_LIMIT
  pub open_still : IsNone old.ended → IsNone new.ended

abbrev pub RecordsAreCounted : Type 0
RecordsAreCounted = (old new : Progress) (records : List Record) → ContinuesBy old (events_of records) new → AreCounted old records new

-- the answers that were left begin with the records that were taken
abbrev pub TakenRecordsWereLeft : Type 0
TakenRecordsWereLeft = (answers : List Next) (records : List Record) (after : Option (List Next))
    → TakesAnswers (Some answers) (events_of records) after
    → (rest : List Next) × (answers ≡ events_of records ++ rest) × (after ≡ Some rest)
