-- A file has one check.
use Rattle.std.proofs.Common.{ℕ, ◌≡◌, Bool, Option, List, [], ◌∷◌, map, refl, sym, ap, ◌∙◌, subst}
use Rattle.std.specs.Prelude.{All}
use Rattle.std.specs.List.{flat_map, range_with_len}
use Rattle.std.proofs.lemmas.List.Elements.{All-head, All-tail}
use Rattle.dt_record.specs.declared.records.Record.{Record}
use Rattle.dt_record.specs.Keys.{records_of}
use Rattle.dt_record.specs.Writes.{writes_of}
use Rattle.dt_writes.specs.Laws.{WritesStandInOrder}
use Rattle.dt_rules.specs.declared.misfits.Misfit.{Misfit}
use Rattle.dt_rules.specs.declared.misfits.Passed.{Passed}
use Rattle.dt_judge.specs.Laws.{RunsHaveOneEnd}
use Rattle.dt_judge.specs.Runs.{RunsTo}
use Rattle.dt_tallies.specs.Counting.{counts_of}
use Rattle.dt_tallies.specs.Naming.{named_notes}
use Rattle.dt_verdict.specs.declared.answers.Checked.{Checked}
use Rattle.dt_verdict.specs.declared.tallies.Counts.{Counts}
use Rattle.dt_verdict.specs.declared.tallies.Noted.{Noted}
use Rattle.dt_verdict.specs.declared.verdicts.Verdict.{Verdict}
use Rattle.dt_verdict.specs.Verdict.{verdict_of}
use Rattle.dt_pass.specs.Checked.{AllowedRun, IsRun, limit_of, notes_of, outcome_of}
use Rattle.dt_pass.specs.Laws.{AFileHasOneCheck}

abbrev pub run_made : ℕ → List Passed → Option Misfit → AllowedRun
run_made hart allowed refused = record { hart = hart; allowed = allowed; refused = refused }

-- a hart has one run
same_run : RunsHaveOneEnd → WritesStandInOrder → (image : List ℕ) (wide : Bool) (records : List Record) (one other : AllowedRun) → one.hart ≡ other.hart
    → IsRun image wide records one → IsRun image wide records other → one ≡ other
same_run law ordered image wide records one other numbers is also =
    let there : RunsTo image (writes_of records) wide one.hart (records_of one.hart records) other.allowed other.refused
    = subst (λ hart. RunsTo image (writes_of records) wide hart (records_of hart records) other.allowed other.refused) (sym numbers) also in
    let end = law image (writes_of records) wide one.hart (records_of one.hart records) one.allowed other.allowed one.refused other.refused (ordered records) is there in
    ap (λ hart. run_made hart one.allowed one.refused) numbers
    ∙ ap (λ allowed. run_made other.hart allowed one.refused) end.0
    ∙ ap (λ refused. run_made other.hart other.allowed refused) end.1

-- so the harts have one list of runs
same_runs : RunsHaveOneEnd → WritesStandInOrder → (image : List ℕ) (wide : Bool) (records : List Record) (runs others : List AllowedRun)
    → map (λ (run : AllowedRun). run.hart) runs ≡ map (λ (run : AllowedRun). run.hart) others
    → All (IsRun image wide records) runs → All (IsRun image wide records) others → runs ≡ others
same_runs law ordered image wide records [] [] numbers are also = refl
same_runs law ordered image wide records [] (other ∷ others) numbers are also = absurd (cc)
same_runs law ordered image wide records (run ∷ runs) [] numbers are also = absurd (cc)
same_runs law ordered image wide records (run ∷ runs) (other ∷ others) numbers are also =
    let number : AllowedRun → ℕ = λ run. run.hart in
    let all : run.hart ∷ map number runs ≡ other.hart ∷ map number others = numbers in
    let first : run ≡ other = same_run law ordered image wide records run other (cc) (All-head (IsRun image wide records) run runs are) (All-head (IsRun image wide records) other others also) in
    let rest : runs ≡ others = same_runs law ordered image wide records runs others (cc) (All-tail (IsRun image wide records) run runs are) (All-tail (IsRun image wide records) other others also) in
    ap (λ r. r ∷ runs) first ∙ ap (λ rs. other ∷ rs) rest

abbrev pub checked_made : Verdict → ℕ → List Counts → List Noted → Checked
checked_made verdict harts counts notes = record { verdict = verdict; harts = harts; tallies = record { harts = counts; notes = notes } }

same_checked : (one other : Checked) → one.verdict ≡ other.verdict → one.harts ≡ other.harts → one.tallies.harts ≡ other.tallies.harts → one.tallies.notes ≡ other.tallies.notes
    → one ≡ other
same_checked one other verdict harts counts notes =
    ap (λ v. checked_made v one.harts one.tallies.harts one.tallies.notes) verdict
    ∙ ap (λ n. checked_made other.verdict n one.tallies.harts one.tallies.notes) harts
    ∙ ap (λ cs. checked_made other.verdict other.harts cs one.tallies.notes) counts
    ∙ ap (λ ns. checked_made other.verdict other.harts other.tallies.harts ns) notes

pub a_file_has_one_check : RunsHaveOneEnd → WritesStandInOrder → AFileHasOneCheck
a_file_has_one_check law ordered image wide harts records one other is also =
    let runs : is.runs ≡ also.runs
    = same_runs law ordered image wide records is.runs also.runs (is.are_runs.harts_are ∙ sym also.are_runs.harts_are) is.are_runs.each also.are_runs.each in
    let verdict : one.verdict ≡ other.verdict = is.verdict ∙ ap (λ rs. verdict_of (map (outcome_of records) rs)) runs ∙ sym also.verdict in
    same_checked one other verdict (is.harts_are ∙ sym also.harts_are)
    (is.counts ∙ ap (λ v. map (λ hart. counts_of (limit_of v) (records_of hart records)) (range_with_len 0 harts)) verdict ∙ sym also.counts)
    (is.notes
    ∙ ap (λ v. named_notes (limit_of v) (flat_map (notes_of records) is.runs)) verdict
    ∙ ap (λ rs. named_notes (limit_of other.verdict) (flat_map (notes_of records) rs)) runs
    ∙ sym also.notes)
