-- What the answers of a probe file say of its check.
use Rattle.std.proofs.Common.{◌≡◌, ◌≢◌, ℕ, Bool, List, [], ◌∷◌, ◌++◌, map, length, Option, Some, None, Result, Ok, Err, IfSome, IfOk, IfErr, refl, sym, ap, ◌∙◌, subst}
use Rattle.std.specs.String.{string_bytes}
use Rattle.dt_source.specs.Faults.{Rose}
use Rattle.dt_record.specs.declared.records.Record.{Record}
use Rattle.dt_record.specs.declared.streams.Next.{Next}
use Rattle.dt_record.specs.declared.streams.Next.TheVariants.{Event, End}
use Rattle.dt_record.specs.Answers.{Reading, AreAnswers, AreAnswersAfter, after_record}
use Rattle.dt_record.specs.Streams.{Progress}
use Rattle.dt_probe_file.specs.OpenFronts.{HasOpenFront}
use Rattle.dt_probe_file.specs.Told.{AreToldOf}
use Rattle.dt_verdict.specs.declared.answers.Checked.{Checked}
use Rattle.dt_verdict.specs.declared.answers.Refusal.{Refusal}
use Rattle.dt_verdict.specs.declared.answers.Refusal.TheVariants as refusal
use Rattle.dt_pass.specs.Checked.{IsCheckOf}
use Rattle.dt_reading.specs.Reading.{first_answers, refusal_in}
use Rattle.dt_report.specs.Report.{report_text}
use Rattle.dt_top.specs.declared.replies.Reply.{Reply}
use Rattle.dt_top.specs.declared.replies.Reply.TheVariants.{Usage, TooLong, ReadFaultImage, Refused, Report, OutOfMemory}
use Rattle.dt_top.specs.Answer.{answer, refusal_line, verdict_status, IsRefused, IsReport}
use Rattle.dt_top.specs.Replies.{IsStreamReply, IsRefusalReply, IsReportReply}
use Rattle.dt_top.specs.Running.{Outside, HasFailedOpen}

-- ---- the answers

behind_end : (s : Reading) (bytes : List ℕ) (records : List Record) (count : ℕ) (more : List Next) → AreAnswersAfter s bytes (map (λ r. Event r) records ++ End count ∷ more) → more ≡ []
behind_end s bytes [] count more are = are.0
behind_end s bytes (r ∷ rs) count more are = behind_end (after_record s r) are.0 rs count more are.3

pub not_refused : (records : List Record) (count : ℕ) (more : List Next) → refusal_in (map (λ r. Event r) records ++ End count ∷ more) ≡ None
not_refused [] count more = refl
not_refused (r ∷ rs) count more = not_refused rs count more

-- ---- the reply

report_said : (image : List ℕ) (sources : Bool) (probes : Option (List ℕ)) (told : Option (List Next)) (progress : Progress) (checked : Checked) (v : _) (text : List ℕ)
    → AreToldOf probes told → IsCheckOf image told progress checked → v ≡ checked.verdict → text ≡ report_text checked sources
    → IfSome told (λ answers. IsReport image answers sources (answer (verdict_status v) text))
report_said image sources None told progress checked v text tells check verdict written =
    subst (λ (t : Option (List Next)). IfSome t (λ answers. IsReport image answers sources (answer (verdict_status v) text))) (sym tells) tt
report_said image sources (Some b) told progress checked v text tells check verdict written =
    let known = subst (λ (t : Option (List Next)). IsCheckOf image t progress checked) tells.1 check in
    let more = known.came.answers.0 in
    let opened = subst (λ (answers : List Next). AreAnswers b answers) known.came.answers.1 tells.2 in
    let ended = behind_end _ opened.1.rest known.records _ more opened.1.after in
    subst (λ (t : Option (List Next)). IfSome t (λ answers. IsReport image answers sources (answer (verdict_status v) text))) (sym tells.1) (record {
      harts = known.harts;
      wide = known.wide;
      records = known.records;
      whole = known.came.answers.1 ∙ ap (λ (rest : List Next). first_answers known.harts known.wide known.records ++ End (length known.records) ∷ rest) ended;
      checked = checked;
      is_checked = known.is_checked;
      reported = ap (λ w. answer (verdict_status w) text) verdict ∙ ap (λ t. answer (verdict_status checked.verdict) t) written;
    })

pub checked_said : (image : List ℕ) (sources : Bool) (probes : Outside)
    (told : Option (List Next)) (progress : Progress) (checked : Checked) (reply : Reply) → AreToldOf probes.before told
    → IsCheckOf image told progress checked → IsReportReply checked sources reply → IsStreamReply image sources told probes reply
checked_said image sources probes told progress checked Usage tells check is = is
checked_said image sources probes told progress checked TooLong tells check is = is
checked_said image sources probes told progress checked ReadFaultImage tells check is = is
checked_said image sources probes told progress checked (Refused r line) tells check is = absurd is
checked_said image sources probes told progress checked (Report v text) tells check is =
    report_said image sources probes.before told progress checked v text tells check is.0 is.1
checked_said image sources probes told progress checked OutOfMemory tells check is = tt

pub refused_said : (image : List ℕ) (sources : Bool) (probes : Outside) (told : Option (List Next)) (r : Refusal) (reply : Reply)
    → (r ≢ refusal.ReadFault → r ≢ refusal.OutOfMemory → IfSome told (λ answers. refusal_in answers ≡ Some r))
    → (r ≡ refusal.ReadFault → HasFailedOpen probes) → IsRefusalReply r reply → IsStreamReply image sources told probes reply
refused_said image sources probes told r Usage known fault is = is
refused_said image sources probes told r TooLong known fault is = is
refused_said image sources probes told r ReadFaultImage known fault is = is
refused_said image sources probes told r (Refused named line) known fault is =
    subst (λ (x : Refusal). (string_bytes line ≡ refusal_line x) × (x ≡ refusal.ReadFault → HasFailedOpen probes)
    × (x ≢ refusal.ReadFault → x ≢ refusal.OutOfMemory → IfSome told (λ answers. IsRefused answers x))) (sym is.0) (is.1, fault, known)
refused_said image sources probes told r (Report v text) known fault is = absurd is
refused_said image sources probes told r OutOfMemory known fault is = tt

-- What a stream has of the source that was lent to it: its counts of faults, before and after, are the source's, and it
-- left the source as it came back.
pub record IsLentTo (probes : Outside) (own_old own_new : ℕ) (left : Option (List ℕ)) : Type 0 where
  pub first : own_old ≡ probes.faults_before
  pub last : probes.faults_after ≡ own_new
  pub left_is : probes.after ≡ left

-- a read of the stream that failed is one of the source
pub failed_open : (probes : Outside) (own_old own_new : ℕ) (left : Option (List ℕ)) → IsLentTo probes own_old own_new left
    → Rose own_old own_new → HasOpenFront probes.before left → HasFailedOpen probes
failed_open probes own_old own_new left lent rose front = (
  subst (λ (n : ℕ). Rose n probes.faults_after) lent.first (subst (λ (n : ℕ). Rose own_old n) (sym lent.last) rose),
  subst (λ (after : Option (List ℕ)). HasOpenFront probes.before after) (sym lent.left_is) front,
)

pub stream_said : (image : List ℕ) (sources : Bool) (probes : Outside) (own_old own_new : ℕ) (left : Option (List ℕ))
    (told : Option (List Next)) (progress : Progress) (came : Result Checked Refusal) (reply : Reply) → AreToldOf probes.before told
    → IsLentTo probes own_old own_new left → IfOk came (λ checked. IsCheckOf image told progress checked)
    → IfErr came (λ r. r ≢ refusal.ReadFault → r ≢ refusal.OutOfMemory → IfSome told (λ answers. refusal_in answers ≡ Some r))
    → (came ≡ Err refusal.ReadFault → Rose own_old own_new) → (came ≡ Err refusal.ReadFault → HasOpenFront probes.before left)
    → IfOk came (λ checked. IsReportReply checked sources reply) → IfErr came (λ r. IsRefusalReply r reply)
    → IsStreamReply image sources told probes reply
stream_said image sources probes own_old own_new left told progress (Ok checked) reply tells lent check known fault needed report refused =
    checked_said image sources probes told progress checked reply tells check report
stream_said image sources probes own_old own_new left told progress (Err r) reply tells lent check known fault needed report refused =
    refused_said image sources probes told r reply known
    (λ e. failed_open probes own_old own_new left lent (fault (ap (λ (x : Refusal). Err x) e)) (needed (ap (λ (x : Refusal). Err x) e))) refused
