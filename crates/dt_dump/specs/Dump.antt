-- What `dump` writes of a stream of probe records: a line for each record up to the first answer that
-- is no record, and a line for that answer (this project's own).
use Rattle.std.specs.Prelude.{ℕ, ◌≡◌, ◌⊎◌, Option, Some, None, IfSome, List, [], ◌∷◌, ◌++◌, length, take, codes}
use Rattle.std.specs.Fmt.{decimal}
use Rattle.std.specs.Option.{option_map_or}
use Rattle.dt_source.specs.Known.{Appends}
use Rattle.dt_record.specs.declared.records.Record.{Record}
use Rattle.dt_record.specs.declared.writes.What.{What}
use Rattle.dt_record.specs.declared.writes.What.TheVariants.{Records, Writes}
use Rattle.dt_record.specs.declared.streams.Next.{Next}
use Rattle.dt_record.specs.declared.streams.Next.TheVariants.{Header, Event, End, Malformed, Limit, ReadFault, OutOfMemory}
use Rattle.dt_record.specs.Keys.{records_of}
use Rattle.dt_text.specs.Line.{line_text}

-- ---- the answers of a stream

-- the records before the first other answer behind the header
abbrev pub records_in : List Next → List Record
records_in [] = []
records_in (Header harts wide ∷ rest) = records_in rest
records_in (Event r ∷ rest) = r ∷ records_in rest
records_in (End count ∷ rest) = []
records_in (Malformed offset ∷ rest) = []
records_in (Limit what number ∷ rest) = []
records_in (ReadFault ∷ rest) = []
records_in (OutOfMemory ∷ rest) = []

-- that answer
abbrev pub end_of : List Next → Option Next
end_of [] = None
end_of (Header harts wide ∷ rest) = end_of rest
end_of (Event r ∷ rest) = end_of rest
end_of (End count ∷ rest) = Some (End count)
end_of (Malformed offset ∷ rest) = Some (Malformed offset)
end_of (Limit what number ∷ rest) = Some (Limit what number)
end_of (ReadFault ∷ rest) = Some ReadFault
end_of (OutOfMemory ∷ rest) = Some OutOfMemory

-- ---- lines

-- the lines of records that come after others, each with its number among its hart's records
unfoldable pub lines_after : List Record → List Record → List ℕ
lines_after before [] = []
lines_after before (r ∷ rs) = line_text (length (records_of r.hart before)) r ++ lines_after (before ++ r ∷ []) rs

abbrev pub record_lines : List Record → List ℕ
record_lines records = lines_after [] records

abbrev pub read_fault_line : List ℕ
read_fault_line = codes "READ FAULT probes\n"

abbrev pub memory_line : List ℕ
memory_line = codes "OUT OF MEMORY\n"

abbrev pub limit_name : What → List ℕ
limit_name Records = codes "LIMIT records="
limit_name Writes = codes "LIMIT writes="

-- the line of the answer that ends a stream; a header and a record end none
abbrev pub last_line : Next → List ℕ
last_line (Header harts wide) = []
last_line (Event r) = []
last_line (End count) = codes "END count=" ++ decimal count ++ codes "\n"
last_line (Malformed offset) = codes "MALFORMED offset=" ++ decimal offset ++ codes "\n"
last_line (Limit what number) = limit_name what ++ decimal number ++ codes "\n"
last_line ReadFault = read_fault_line
last_line OutOfMemory = memory_line

-- the exit status where the stream ends so
abbrev pub last_status : Next → ℕ
last_status (Header harts wide) = 0
last_status (Event r) = 0
last_status (End count) = 0
last_status (Malformed offset) = 4
last_status (Limit what number) = 8
last_status ReadFault = 5
last_status OutOfMemory = 7

-- ---- what is written, and the exit status

abbrev pub dump_text : List Next → List ℕ
dump_text answers = record_lines (records_in answers) ++ option_map_or last_line (end_of answers) []

abbrev pub stream_status : List Next → ℕ
stream_status answers = option_map_or last_status (end_of answers) 0

-- the first records of the answers are these
abbrev pub BeginsWith : List Next → List Record → Type 0
BeginsWith answers given = (more : List Record) × (records_in answers ≡ given ++ more)

-- whole lines of some of the first records, and then this line; the answers are known where the stream tells them
abbrev pub IsCutShort : Option (List Next) → List ℕ → List ℕ → Type 0
IsCutShort told line text = (given : List Record) × IfSome told (λ answers. BeginsWith answers given) × (text ≡ record_lines given ++ line)

-- a text that may come: that of all answers; that of a read that failed; or that of want of memory
abbrev pub MayDump : Option (List Next) → Type 0 → List ℕ → Type 0
MayDump told read_failed text =
    IfSome told (λ answers. text ≡ dump_text answers)
    ⊎ ((read_failed × IsCutShort told read_fault_line text) ⊎ IsCutShort told memory_line text)

-- a front of a text was written
abbrev pub AppendsPart : Option (List ℕ) → List ℕ → Option (List ℕ) → Type 0
AppendsPart before text after = (n : ℕ) × Appends before (take n text) after
