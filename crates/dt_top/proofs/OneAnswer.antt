-- The program has one answer.
use Rattle.std.proofs.Common.{◌≡◌, ◌⊎◌, ℕ, Bool, List, [], ◌∷◌, ◌++◌, map, length, Option, Some, None, refl, sym, ap, ◌∙◌, subst, inl, inr}
use Rattle.dt_record.specs.declared.records.Record.{Record}
use Rattle.dt_record.specs.declared.streams.Next.{Next}
use Rattle.dt_record.specs.declared.streams.Next.TheVariants.{Event, End}
use Rattle.dt_record.specs.Answers.{AreAnswers}
use Rattle.dt_verdict.specs.declared.answers.Checked.{Checked}
use Rattle.dt_verdict.specs.declared.answers.Refusal.{Refusal}
use Rattle.dt_pass.specs.Checked.{IsChecked}
use Rattle.dt_pass.specs.Laws.{AFileHasOneCheck}
use Rattle.dt_reading.specs.Reading.{first_answers, refusal_in}
use Rattle.dt_report.specs.Report.{report_text}
use Rattle.dt_words.specs.declared.commands.Task.{Task}
use Rattle.dt_words.specs.declared.commands.Task.TheVariants.{Pass, Check, Dump, Convert}
use Rattle.dt_words.specs.Table.{Asked}
use Rattle.dt_top.specs.Answer.{Answer, answer, convert_answer, dump_answer, verdict_status, Fits, IsAnswer, IsReport, IsTooLong}
use Rattle.dt_top.specs.Laws.{ARunHasOneAnswer}
use Rattle.dt_top.specs.Replies.{JudgesFile}
use Rattle.dt_top.proofs.AnAnswer.{has_length}
use Rattle.dt_top.proofs.Tasks.{check_judges, pass_judges}

-- bytes give no second list of answers
abbrev pub OneList : Type 0
OneList = (bytes : List ℕ) (answers others : List Next) → AreAnswers bytes answers → AreAnswers bytes others → answers ≡ others

-- ---- the same answers have the same header and records

same_records : (xs ys : List Record) (m n : ℕ) → map (λ r. Event r) xs ++ End m ∷ [] ≡ map (λ r. Event r) ys ++ End n ∷ [] → xs ≡ ys
same_records [] [] m n same = refl
same_records [] (y ∷ ys) m n same = cc
same_records (x ∷ xs) [] m n same = cc
same_records (x ∷ xs) (y ∷ ys) m n same =
    let first : x ≡ y = cc in
    let rest : map (λ r. Event r) xs ++ End m ∷ [] ≡ map (λ r. Event r) ys ++ End n ∷ [] = cc in
    ap (λ (r : Record). r ∷ xs) first ∙ ap (λ (rs : List Record). y ∷ rs) (same_records xs ys m n rest)

-- ---- the reports of a file are one

one_report : AFileHasOneCheck → (image : List ℕ) (answers : List Next) (sources : Bool) (a b : Answer)
    → IsReport image answers sources a → IsReport image answers sources b → a ≡ b
one_report checks image answers sources a b one other =
    let same : first_answers one.harts one.wide one.records ++ End (length one.records) ∷ []
    ≡ first_answers other.harts other.wide other.records ++ End (length other.records) ∷ []
    = sym one.whole ∙ other.whole in
    let harts : one.harts ≡ other.harts = cc in
    let wide : one.wide ≡ other.wide = cc in
    let rest : map (λ r. Event r) one.records ++ End (length one.records) ∷ [] ≡ map (λ r. Event r) other.records ++ End (length other.records) ∷ [] = cc in
    let records = same_records one.records other.records (length one.records) (length other.records) rest in
    let at_wide = subst (λ (w : Bool). IsChecked image w one.harts one.records one.checked) wide one.is_checked in
    let at_harts = subst (λ (n : ℕ). IsChecked image other.wide n one.records one.checked) harts at_wide in
    let at_records = subst (λ (rs : List Record). IsChecked image other.wide other.harts rs one.checked) records at_harts in
    let checked = checks image other.wide other.harts other.records one.checked other.checked at_records other.is_checked in
    one.reported ∙ ap (λ (c : Checked). answer (verdict_status c.verdict) (report_text c sources)) checked ∙ sym other.reported

-- ---- the answers to each task are one

one_answer_to_check : OneList → AFileHasOneCheck → (asked : Asked) (image probes : List ℕ) (a b : Answer) → JudgesFile asked.task
    → IsAnswer (Some asked) image probes a → IsAnswer (Some asked) image probes b → a ≡ b
one_answer_to_check lists checks asked image probes a b judges one other = by_length (has_length image)
  where
    same : one.answers ≡ other.answers
    same = lists probes one.answers other.answers one.are_answers other.are_answers

    by_refusal : Fits image → (o : Option Refusal) → refusal_in one.answers ≡ o → a ≡ b
    by_refusal fits (Some r) found =
        one.refused r judges.report fits found ∙ sym (other.refused r judges.report fits (ap refusal_in (sym same) ∙ found))
    by_refusal fits None none =
        one_report checks image one.answers asked.sources a b (one.report asked.sources (judges.report, refl) fits none)
        (subst (λ (answers : List Next). IsReport image answers asked.sources b) (sym same)
        (other.report asked.sources (judges.report, refl) fits (ap refusal_in (sym same) ∙ none)))

    by_length : IsTooLong image ⊎ Fits image → a ≡ b
    by_length (inl long) = one.too_long judges.image_first long ∙ sym (other.too_long judges.image_first long)
    by_length (inr fits) = by_refusal fits (refusal_in one.answers) refl

pub a_run_has_one_answer : OneList → AFileHasOneCheck → ARunHasOneAnswer
a_run_has_one_answer lists checks None image probes a b one other = one.usage refl ∙ sym (other.usage refl)
a_run_has_one_answer lists checks (Some asked) image probes a b one other = by_task asked.task refl
  where
    same : one.answers ≡ other.answers
    same = lists probes one.answers other.answers one.are_answers other.are_answers

    by_task : (task : Task) → asked.task ≡ task → a ≡ b
    by_task Pass is = one_answer_to_check lists checks asked image probes a b (pass_judges asked.task is) one other
    by_task Check is = one_answer_to_check lists checks asked image probes a b (check_judges asked.task is) one other
    by_task Dump is = one.dump is ∙ ap dump_answer same ∙ sym (other.dump is)
    by_task Convert is =
        one.convert asked.to (is, refl) ∙ ap (λ answers. convert_answer asked.to answers) same ∙ sym (other.convert asked.to (is, refl))
