-- At the answer that ends a stream (this project's own). No public clause cites these words.
use Rattle.std.specs.Prelude.{◌≡◌, Some, List}
use Rattle.dt_record.specs.declared.records.Record.{Record}
use Rattle.dt_record.specs.declared.streams.Next.{Next}
use Rattle.dt_record.specs.declared.streams.Next.TheVariants.{Header, Event, End, Malformed, Limit, ReadFault, OutOfMemory}
use Rattle.dt_dump.specs.Dump.{records_in, end_of, BeginsWith}

-- these records came, and then this answer, which may stand for a stream that gave up
abbrev pub CameTo : List Next → List Record → Next → Type 0
CameTo answers given (Header harts wide) = ⊥
CameTo answers given (Event r) = ⊥
CameTo answers given (End count) = (records_in answers ≡ given) × (end_of answers ≡ Some (End count))
CameTo answers given (Malformed offset) = (records_in answers ≡ given) × (end_of answers ≡ Some (Malformed offset))
CameTo answers given (Limit what number) = (records_in answers ≡ given) × (end_of answers ≡ Some (Limit what number))
CameTo answers given ReadFault = BeginsWith answers given
CameTo answers given OutOfMemory = BeginsWith answers given
