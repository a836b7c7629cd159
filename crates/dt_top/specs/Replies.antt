-- What the program comes to before it writes. No public clause cites these words.
use Rattle.std.specs.Prelude.{ℕ, ◌≡◌, ◌≢◌, Bool, true, List, [], Option, Some, IfSome}
use Rattle.std.specs.String.{string_bytes}
use Rattle.dt_record.specs.declared.streams.Next.{Next}
use Rattle.dt_verdict.specs.declared.answers.Checked.{Checked}
use Rattle.dt_verdict.specs.declared.answers.Refusal.{Refusal}
use Rattle.dt_verdict.specs.declared.answers.Refusal.TheVariants as refusal
use Rattle.dt_report.specs.Report.{report_text}
use Rattle.dt_words.specs.declared.commands.Task.{Task}
use Rattle.dt_words.specs.Table.{Asked}
use Rattle.dt_top.specs.declared.replies.Reply.{Reply}
use Rattle.dt_top.specs.declared.replies.Reply.TheVariants.{Usage, TooLong, ReadFaultImage, Refused, Report, OutOfMemory}
use Rattle.dt_top.specs.Answer.{Answer, answer, verdict_status, usage_answer, image_fault_answer, memory_answer, too_long_answer, refusal_status, refusal_line, IsRefused, IsReport}
use Rattle.dt_top.specs.Running.{Outside, outside, HasFailed, HasFailedOpen, IsGiven, IsGivenFront, Ran}
use Rattle.dt_top.specs.Tasks.{an_image, first_input, prints_report, reads_probes}

-- the status and the text of a reply
abbrev pub answer_by : Reply → Answer
answer_by Usage = usage_answer
answer_by TooLong = too_long_answer
answer_by ReadFaultImage = image_fault_answer
answer_by (Refused r line) = answer (refusal_status r) (string_bytes line)
answer_by (Report verdict text) = answer (verdict_status verdict) text
answer_by OutOfMemory = memory_answer

-- the reply to a check that came to its end
abbrev pub IsReportReply : Checked → Bool → Reply → Type 0
IsReportReply checked sources (Report verdict text) = (verdict ≡ checked.verdict) × (text ≡ report_text checked sources)
IsReportReply checked sources OutOfMemory = Unit {0}
IsReportReply checked sources reply = ⊥

-- the reply to a check that was refused
abbrev pub IsRefusalReply : Refusal → Reply → Type 0
IsRefusalReply r (Refused named line) = (named ≡ r) × (string_bytes line ≡ refusal_line r)
IsRefusalReply r OutOfMemory = Unit {0}
IsRefusalReply r reply = ⊥

-- the reply to an image and a stream, where it tells its answers
abbrev pub IsStreamReply : (image : List ℕ) (sources : Bool) (told : Option (List Next)) (probes : Outside) → Reply → Type 0
IsStreamReply image sources told probes (Refused r line) =
    (string_bytes line ≡ refusal_line r) × (r ≡ refusal.ReadFault → HasFailedOpen probes)
    × (r ≢ refusal.ReadFault → r ≢ refusal.OutOfMemory → IfSome told (λ answers. IsRefused answers r))
IsStreamReply image sources told probes (Report verdict text) =
    IfSome told (λ answers. IsReport image answers sources (answer (verdict_status verdict) text))
IsStreamReply image sources told probes OutOfMemory = Unit {0}
IsStreamReply image sources told probes reply = ⊥

-- a task that reads an image and then a probe file, and prints the report
pub record JudgesFile (task : Task) : Type 0 where
  pub image_first : first_input task ≡ an_image
  pub file : reads_probes task ≡ true
  pub report : prints_report task ≡ true

-- a reply, before it is written: it is what a run comes to whose sink takes all
abbrev pub CameOf : Option Asked → (image probes : Outside) → Answer → Type 0
CameOf asked image probes a = Ran asked image probes (outside (Some []) (Some a.text) 0 0) a.status

-- what was written of an answer, and the exit status; 6 where a write failed
pub record IsPut (a : Answer) (out : Outside) (status : ℕ) : Type 0 where
  pub whole : status ≢ 6 → (status ≡ a.status) × IsGiven out a.text
  pub fault : status ≡ 6 → HasFailed out × IsGivenFront out a.text
