-- The answers that are left of some bytes, where the source tells them (this project's own).
use Rattle.std.specs.Prelude.{ℕ, Option, None, Some, option_map, List, []}
use Rattle.dt_record.specs.declared.streams.Next.{Next}
use Rattle.dt_record.specs.Streams.{TakesAnswer}
use Rattle.dt_probe_file.specs.declared.reading.Opened.{Opened}
use Rattle.dt_probe_file.specs.Fronts.{reading_of}
use Rattle.dt_probe_file.specs.Progress.{ended_by}
use Rattle.dt_probe_file.specs.Computing.{answers_of, answers_after}

-- the answers that are left before the header, and behind it
abbrev pub answers_left : Option Opened → List ℕ → List Next
answers_left None bytes = answers_of bytes
answers_left (Some o) bytes = answers_after (reading_of o) bytes

-- the answers that are left of some bytes, which are none once one has ended the stream
abbrev pub left_of : Option Opened → Option Next → Option (List ℕ) → Option (List Next)
left_of opened None bytes = option_map (answers_left opened) bytes
left_of opened (Some answer) bytes = option_map (λ _. []) bytes

-- an answer is the first of those that are left of some bytes, and the others are left of other bytes
abbrev pub Takes : Option Opened → Option (List ℕ) → Next → Option Opened → Option (List ℕ) → Type 0
Takes opened old answer after new = TakesAnswer (left_of opened None old) answer (left_of after (ended_by answer) new)
