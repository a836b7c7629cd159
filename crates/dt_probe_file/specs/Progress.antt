-- What the answers so far have told, by what the reader keeps of a file (this project's own).
use Rattle.std.specs.Option.{option_map_or}
use Rattle.std.specs.Prelude.{false, Option, None, Some, option_map}
use Rattle.dt_record.specs.declared.streams.Next.{Next}
use Rattle.dt_record.specs.declared.streams.Next.TheVariants.{Header, Event, End, Malformed, Limit, ReadFault, OutOfMemory}
use Rattle.dt_record.specs.Streams.{Progress}
use Rattle.dt_probe_file.specs.declared.reading.Opened.{Opened}
use Rattle.dt_probe_file.specs.Fronts.{reading_of}

-- the answer after which none comes
abbrev pub ended_by : Next → Option Next
ended_by (Header harts wide) = None
ended_by (Event r) = None
ended_by (End count) = Some (End count)
ended_by (Malformed offset) = Some (Malformed offset)
ended_by (Limit what number) = Some (Limit what number)
ended_by ReadFault = Some ReadFault
ended_by OutOfMemory = Some OutOfMemory

-- what is known of a file whose header may have come
abbrev pub progress_of : Option Opened → Option Next → Progress
progress_of opened ended = record {
  harts = option_map (λ o. o.harts) opened;
  wide = option_map_or (λ o. o.wide) opened false;
  stamps = λ hart. option_map_or (λ o. (reading_of o).last hart) opened 0;
  events = option_map_or (λ o. o.events) opened 0;
  writes = option_map_or (λ o. o.writes) opened 0;
  ended = ended;
}
