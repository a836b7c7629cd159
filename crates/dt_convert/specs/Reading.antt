-- What a stream came to. No public clause cites these words.
use Rattle.std.specs.Prelude.{ℕ, ◌≡◌, Some, List}
use Rattle.dt_record.specs.declared.streams.Next.{Next}
use Rattle.dt_record.specs.declared.streams.Next.TheVariants.{Header, Event, End, Malformed, Limit, ReadFault, OutOfMemory}
use Rattle.dt_record.specs.Spelling.{Version}
use Rattle.dt_dump.specs.Dump.{end_of}
use Rattle.dt_convert.specs.Convert.{file_with}

-- the answers come to their end, and these bytes are their file
abbrev pub IsFileOf : Version → List Next → List ℕ → Type 0
IsFileOf version answers bytes = (count : ℕ) × (end_of answers ≡ Some (End count)) × (bytes ≡ file_with version answers)

-- the stream stopped at this answer, which may stand for one that gave up
abbrev pub StopsAt : List Next → Next → Type 0
StopsAt answers (Header harts wide) = ⊥
StopsAt answers (Event r) = ⊥
StopsAt answers (End count) = ⊥
StopsAt answers (Malformed offset) = end_of answers ≡ Some (Malformed offset)
StopsAt answers (Limit what number) = end_of answers ≡ Some (Limit what number)
StopsAt answers ReadFault = Unit {0}
StopsAt answers OutOfMemory = Unit {0}
