-- The program has an answer.
use Rattle.std.proofs.Common.{◌≡◌, ◌∙◌, ◌⊎◌, ℕ, Bool, true, false, List, [], ◌∷◌, ◌++◌, map, length, Option, Some, None, refl, ap, subst, inl, inr}
use Rattle.std.specs.Prelude.{nat_le}
use Rattle.std.proofs.lemmas.Bool.{leb-true, leb-false}
use Rattle.dt_record.specs.declared.records.Record.{Record}
use Rattle.dt_record.specs.declared.streams.Next.{Next}
use Rattle.dt_record.specs.declared.streams.Next.TheVariants.{Header, Event, End, Malformed, Limit, ReadFault, OutOfMemory}
use Rattle.dt_record.specs.Spelling.{Version}
use Rattle.dt_record.specs.ProbeFile.{IsProbeFile}
use Rattle.dt_record.specs.Answers.{Reading, AreAnswers, AreAnswersAfter, after_record}
use Rattle.dt_verdict.specs.declared.answers.Refusal.{Refusal}
use Rattle.dt_pass.specs.Laws.{AFileHasACheck}
use Rattle.dt_reading.specs.Reading.{first_answers, refusal_in}
use Rattle.dt_report.specs.Report.{report_text}
use Rattle.dt_words.specs.declared.commands.Task.{Task}
use Rattle.dt_words.specs.declared.commands.Task.TheVariants.{Pass, Check, Dump, Convert}
use Rattle.dt_words.specs.Table.{Asked}
use Rattle.dt_top.specs.Answer.{Answer, answer, refusal_answer, refusal_line, too_long_answer, usage_answer, verdict_status, Fits, IsAnswer, IsReport, IsTooLong}
use Rattle.dt_top.specs.Laws.{ARunHasAnAnswer}
use Rattle.dt_top.specs.Replies.{JudgesFile}
use Rattle.dt_top.proofs.Filing.{convert_task, dump_task}
use Rattle.dt_top.proofs.Tasks.{check_judges, pass_judges}
use Rattle.dt_top.proofs.Replying.{refused_is_answer, report_is_answer, too_long_is_answer, usage_is_answer}

-- each list of bytes gives answers
abbrev pub SomeList : Type 0
SomeList = (bytes : List ℕ) → (answers : List Next) × AreAnswers bytes answers

-- the end of a file's answers counts its records
abbrev pub EndsCount : Type 0
EndsCount = (bytes : List ℕ) (harts : ℕ) (wide : Bool) (records : List Record) (count : ℕ)
    → AreAnswers bytes (Header harts wide ∷ map (λ r. Event r) records ++ End count ∷ [])
    → (count ≡ length records) × ((version : Version) × IsProbeFile bytes version harts wide records)

-- ---- answers that are no refusal are records and their end

records_come : (s : Reading) (bytes : List ℕ) (answers : List Next) → AreAnswersAfter s bytes answers → refusal_in answers ≡ None
    → (records : List Record) × (count : ℕ) × (answers ≡ map (λ r. Event r) records ++ End count ∷ [])
records_come s bytes [] are none = absurd are
records_come s bytes (Header harts wide ∷ more) are none = absurd are
records_come s bytes (Event r ∷ more) are none =
    let later = records_come (after_record s r) are.0 more are.3 none in
    (r ∷ later.0, later.1, ap (λ (xs : List Next). Event r ∷ xs) later.2)
records_come s bytes (End count ∷ more) are none = ([], count, ap (λ (xs : List Next). End count ∷ xs) are.0)
records_come s bytes (Malformed offset ∷ more) are none = cc
records_come s bytes (Limit what number ∷ more) are none = cc
records_come s bytes (ReadFault ∷ more) are none = absurd are
records_come s bytes (OutOfMemory ∷ more) are none = absurd are

-- the header, the records and the end that a file answers
record IsWhole (answers : List Next) : Type 0 where
  pub harts : ℕ
  pub wide : Bool
  pub records : List Record
  pub whole : answers ≡ first_answers harts wide records ++ End (length records) ∷ []

is_whole : EndsCount → (probes : List ℕ) (answers : List Next) → AreAnswers probes answers → refusal_in answers ≡ None → IsWhole answers
is_whole counts probes [] are none = absurd are
is_whole counts probes (Header harts wide ∷ more) are none =
    let come = records_come _ are.1.rest more are.1.after none in
    let all = subst (λ (xs : List Next). AreAnswers probes (Header harts wide ∷ xs)) come.2 are in
    let counted = (counts probes harts wide come.0 come.1 all).0 in
    record {
      harts = harts;
      wide = wide;
      records = come.0;
      whole = ap (λ (xs : List Next). Header harts wide ∷ xs) come.2
          ∙ ap (λ (n : ℕ). first_answers harts wide come.0 ++ End n ∷ []) counted;
    }
is_whole counts probes (Event r ∷ more) are none = absurd are
is_whole counts probes (End count ∷ more) are none = absurd are
is_whole counts probes (Malformed offset ∷ more) are none = cc
is_whole counts probes (Limit what number ∷ more) are none = absurd are
is_whole counts probes (ReadFault ∷ more) are none = absurd are
is_whole counts probes (OutOfMemory ∷ more) are none = absurd are

-- ---- the check of a file

a_report : AFileHasACheck → (image : List ℕ) (answers : List Next) (sources : Bool) → IsWhole answers → (a : Answer) × IsReport image answers sources a
a_report checks image answers sources whole =
    let check = checks image whole.wide whole.harts whole.records in (
      answer (verdict_status check.0.verdict) (report_text check.0 sources),
      record {
        harts = whole.harts;
        wide = whole.wide;
        records = whole.records;
        whole = whole.whole;
        checked = check.0;
        is_checked = check.1;
        reported = refl;
      },
    )

pub has_length : (image : List ℕ) → IsTooLong image ⊎ Fits image
has_length image = by_test (nat_le (length image) 16777216) refl
  where
    by_test : (t : Bool) → nat_le (length image) 16777216 ≡ t → IsTooLong image ⊎ Fits image
    by_test true is = inr (leb-true (length image) 16777216 is)
    by_test false is = inl (leb-false (length image) 16777216 is)

-- ---- the answer to each task

an_answer_to_check : AFileHasACheck → EndsCount → (asked : Asked) (image probes : List ℕ) (answers : List Next) → JudgesFile asked.task
    → AreAnswers probes answers → (a : Answer) × IsAnswer (Some asked) image probes a
an_answer_to_check checks counts asked image probes answers judges are = by_length (has_length image)
  where
    by_refusal : Fits image → (o : Option Refusal) → refusal_in answers ≡ o → (a : Answer) × IsAnswer (Some asked) image probes a
    by_refusal fits (Some r) found =
        (refusal_answer r, refused_is_answer asked image probes answers r (refusal_line r) judges fits are refl found)
    by_refusal fits None none =
        let report = a_report checks image answers asked.sources (is_whole counts probes answers are none) in
        (report.0, report_is_answer asked image probes answers report.0 judges fits are report.1)

    by_length : IsTooLong image ⊎ Fits image → (a : Answer) × IsAnswer (Some asked) image probes a
    by_length (inl long) = (too_long_answer, too_long_is_answer asked image probes judges long)
    by_length (inr fits) = by_refusal fits (refusal_in answers) refl

pub a_run_has_an_answer : SomeList → EndsCount → AFileHasACheck → ARunHasAnAnswer
a_run_has_an_answer lists counts checks None image probes = (usage_answer, usage_is_answer image probes)
a_run_has_an_answer lists counts checks (Some asked) image probes = by_task asked.task refl
  where
    by_task : (task : Task) → asked.task ≡ task → (a : Answer) × IsAnswer (Some asked) image probes a
    by_task Pass is =
        let list = lists probes in
        an_answer_to_check checks counts asked image probes list.0 (pass_judges asked.task is) list.1
    by_task Check is =
        let list = lists probes in
        an_answer_to_check checks counts asked image probes list.0 (check_judges asked.task is) list.1
    by_task Dump is = let list = lists probes in (_, (dump_task asked is).is_answer image probes list.0 _ _ list.1 refl refl)
    by_task Convert is = let list = lists probes in (_, (convert_task asked is).is_answer image probes list.0 _ _ list.1 refl refl)
