-- Words that ask for a report have one answer, whatever the command is that prints it.
use Rattle.std.proofs.Common.{◌≡◌, ◌∙◌, ℕ, List, Some, sym}
use Rattle.dt_words.specs.Table.{Asked}
use Rattle.dt_top.specs.Answer.{Answer, IsAnswer}
use Rattle.dt_top.specs.Laws.{CheckAnswersAsPass}
use Rattle.dt_top.specs.Replies.{JudgesFile}
use Rattle.dt_top.proofs.Tasks.{check_judges, not_convert, not_dump, pass_judges}

of_other : (one other : Asked) (image probes : List ℕ) (a : Answer) → JudgesFile one.task → JudgesFile other.task → one.sources ≡ other.sources
    → IsAnswer (Some one) image probes a → IsAnswer (Some other) image probes a
of_other one other image probes a first second same is = record {
  answers = is.answers;
  are_answers = is.are_answers;
  usage = λ none. cc;
  too_long = λ _ long. is.too_long first.image_first long;
  refused = λ r _ fits refused. is.refused r first.report fits refused;
  report = λ sources asks fits none. is.report sources (first.report, same ∙ asks.1) fits none;
  dump = λ asks. absurd (not_dump other.task second.report asks);
  convert = λ to asks. absurd (not_convert other.task second.report asks.0);
}

pub check_answers_as_pass : CheckAnswersAsPass
check_answers_as_pass checking passing image probes a checks passes same =
    let one = check_judges checking.task checks in
    let other = pass_judges passing.task passes in
    (of_other checking passing image probes a one other same, of_other passing checking image probes a other one (sym same))
