use Rattle.std.specs.Prelude.{ℕ, ◌≡◌, ◌≤◌, ◌<◌, ◌==◌, Bool, if◌then◌else◌, List, [], ◌∷◌, ◌++◌, length, Option, Some, None, codes}
use Rattle.dt_record.specs.declared.limits.TheConstants.{IMAGE_LIMIT}
use Rattle.dt_record.specs.declared.records.Record.{Record}
use Rattle.dt_record.specs.declared.writes.What.{What}
use Rattle.dt_record.specs.declared.streams.Next.{Next}
use Rattle.dt_record.specs.declared.streams.Next.TheVariants as next
use Rattle.dt_record.specs.Answers.{AreAnswers}
use Rattle.dt_record.specs.Spelling.{Version, One, Two}
use Rattle.dt_dump.specs.Dump.{dump_text, last_line, memory_line, read_fault_line, stream_status}
use Rattle.dt_convert.specs.Convert.{converted}
use Rattle.dt_image.specs.declared.images.ImageRefusal.{ImageRefusal}
use Rattle.dt_image.specs.declared.images.ImageRefusal.TheVariants as image_refusal
use Rattle.dt_verdict.specs.declared.answers.Checked.{Checked}
use Rattle.dt_verdict.specs.declared.answers.Refusal.{Refusal}
use Rattle.dt_verdict.specs.declared.answers.Refusal.TheVariants.{Malformed, Limit, ReadFault, OutOfMemory}
use Rattle.dt_verdict.specs.declared.verdicts.Verdict.{Verdict}
use Rattle.dt_verdict.specs.declared.verdicts.Verdict.TheVariants as verdicts
use Rattle.dt_pass.specs.Checked.{IsChecked}
use Rattle.dt_reading.specs.Reading.{first_answers, refusal_in}
use Rattle.dt_report.specs.Report.{report_text}
use Rattle.dt_words.specs.declared.commands.Task.TheVariants.{Dump}
use Rattle.dt_words.specs.Table.{Asked}
use Rattle.dt_top.specs.Tasks.{AsksFor, AsksToConvert, AsksToJudge, AsksToReport, ReadsImage}

-- What the program answers (this project's own).

-- its exit status and the bytes that it writes
pub record Answer : Type 0 where
  pub status : ℕ
  pub text : List ℕ

abbrev pub answer : ℕ → List ℕ → Answer
answer status text = record { status = status; text = text }

abbrev pub usage_answer : Answer
usage_answer = answer 2 (codes "USAGE\n")

abbrev pub image_fault_answer : Answer
image_fault_answer = answer 5 (codes "READ FAULT image\n")

abbrev pub memory_answer : Answer
memory_answer = answer 7 memory_line

-- ---- the check of a file

-- 0 where the file passes, 1 where it fails
abbrev pub verdict_status : Verdict → ℕ
verdict_status verdicts.Pass = 0
verdict_status (verdicts.Fail f) = 1

-- an image has more bytes than there may be
abbrev pub IsTooLong : List ℕ → Type 0
IsTooLong image = IMAGE_LIMIT < length image

-- it has no more
abbrev pub Fits : List ℕ → Type 0
Fits image = length image ≤ IMAGE_LIMIT

abbrev pub too_long_answer : Answer
too_long_answer = answer 3 (codes "IMAGE TOO LONG\n")

abbrev pub image_answer : ImageRefusal → Answer
image_answer image_refusal.TooLong = too_long_answer
image_answer image_refusal.ReadFault = image_fault_answer
image_answer image_refusal.OutOfMemory = memory_answer

-- why a stream is not read to its end: the answer that ends its answers, a fault of its form or a limit
abbrev pub IsRefused : List Next → Refusal → Type 0
IsRefused answers r = refusal_in answers ≡ Some r

-- a fault of its form comes before its end and before any limit
abbrev pub EndsMalformed : List Next → Type 0
EndsMalformed answers = (offset : ℕ) × IsRefused answers (Malformed offset)

-- a limit comes before its end and before any fault of its form
abbrev pub EndsAtLimit : List Next → Type 0
EndsAtLimit answers = (what : What) × (number : ℕ) × IsRefused answers (Limit what number)

abbrev pub refusal_status : Refusal → ℕ
refusal_status (Malformed offset) = 4
refusal_status (Limit what number) = 8
refusal_status ReadFault = 5
refusal_status OutOfMemory = 7

-- the line of a refusal, which is that of `dump` too
abbrev pub refusal_line : Refusal → List ℕ
refusal_line (Malformed offset) = last_line (next.Malformed offset)
refusal_line (Limit what number) = last_line (next.Limit what number)
refusal_line ReadFault = read_fault_line
refusal_line OutOfMemory = memory_line

abbrev pub refusal_answer : Refusal → Answer
refusal_answer r = answer (refusal_status r) (refusal_line r)

-- The report of what checking the records of a stream comes to, and the status of its verdict: the stream's answers are a
-- header, these records and their end, and nothing else.
pub record IsReport (image : List ℕ) (answers : List Next) (sources : Bool) (a : Answer) : Type 0 where
  pub harts : ℕ
  pub wide : Bool
  pub records : List Record
  pub whole : answers ≡ first_answers harts wide records ++ next.End (length records) ∷ []
  pub checked : Checked
  pub is_checked : IsChecked image wide harts records checked
  pub reported : a ≡ answer (verdict_status checked.verdict) (report_text checked sources)

-- ---- the other tasks

-- the lines of the records that a file answers, and a line for how the file ends
abbrev pub dump_answer : List Next → Answer
dump_answer answers = answer (stream_status answers) (dump_text answers)

-- the version that a number names, where the words allow 1 and 2 alone
abbrev pub version_named : ℕ → Version
version_named to = if to == 1 then One else Two

-- the file of that version with the same header and records, or a line for how the file ends otherwise
abbrev pub convert_answer : ℕ → List Next → Answer
convert_answer to answers = answer (stream_status answers) (converted (version_named to) answers)

-- ---- the answer

-- The program's answer to what its words ask of the top call that runs, the bytes of an image and those of a probe file,
-- where nothing fails and memory is ample: one sentence for each cause. It speaks of the answers of the stream that the
-- probe file's bytes give, of which there is one list.
pub record IsAnswer (asked : Option Asked) (image probes : List ℕ) (a : Answer) : Type 0 where
  pub answers : List Next
  pub are_answers : AreAnswers probes answers
  pub usage : asked ≡ None → a ≡ usage_answer
  pub too_long : ReadsImage asked → IsTooLong image → a ≡ too_long_answer
  pub refused : (r : Refusal) → AsksToJudge asked → Fits image → IsRefused answers r → a ≡ refusal_answer r
  pub report : (sources : Bool) → AsksToReport sources asked → Fits image → refusal_in answers ≡ None
      → IsReport image answers sources a
  pub dump : AsksFor Dump asked → a ≡ dump_answer answers
  pub convert : (to : ℕ) → AsksToConvert to asked → a ≡ convert_answer to answers
