-- A file has a check.
use Rattle.std.proofs.Common.{ℕ, ◌≡◌, Bool, List, [], ◌∷◌, map, refl, ap}
use Rattle.std.specs.Prelude.{All}
use Rattle.std.specs.List.{flat_map, range_with_len}
use Rattle.std.proofs.lemmas.List.Elements.{All-cons, All-nil}
use Rattle.dt_record.specs.declared.records.Record.{Record}
use Rattle.dt_record.specs.Keys.{records_of}
use Rattle.dt_record.specs.Writes.{writes_of}
use Rattle.dt_writes.specs.Laws.{WritesStandInOrder}
use Rattle.dt_judge.specs.Laws.{HasEnd, RunsHaveAnEnd}
use Rattle.dt_tallies.specs.Counting.{counts_of}
use Rattle.dt_tallies.specs.Naming.{named_notes}
use Rattle.dt_verdict.specs.declared.verdicts.Verdict.{Verdict}
use Rattle.dt_verdict.specs.Laws.{VerdictsAreLeast}
use Rattle.dt_verdict.specs.Verdict.{verdict_of}
use Rattle.dt_pass.specs.Checked.{AllowedRun, IsRun, limit_of, notes_of, outcome_of}
use Rattle.dt_pass.specs.Laws.{AFileHasACheck}
use Rattle.dt_pass.proofs.OneCheck.{checked_made, run_made}

-- a run for each of these harts
record AreRunsFor (image : List ℕ) (wide : Bool) (records : List Record) (harts : List ℕ) : Type 0 where
  pub runs : List AllowedRun
  pub harts_are : map (λ (run : AllowedRun). run.hart) runs ≡ harts
  pub each : All (IsRun image wide records) runs

-- each hart has one, since its records have a run to their end
runs_for : RunsHaveAnEnd → WritesStandInOrder → (image : List ℕ) (wide : Bool) (records : List Record) (harts : List ℕ) → AreRunsFor image wide records harts
runs_for law ordered image wide records [] = record { runs = []; harts_are = refl; each = All-nil (IsRun image wide records) }
runs_for law ordered image wide records (hart ∷ harts) =
    let end : HasEnd image (writes_of records) wide hart (records_of hart records) = law image (writes_of records) wide hart (records_of hart records) (ordered records) in
    let run : AllowedRun = run_made hart end.allowed end.refused in
    let rest = runs_for law ordered image wide records harts in
    record {
      runs = run ∷ rest.runs;
      harts_are = ap (λ (others : List ℕ). hart ∷ others) rest.harts_are;
      each = All-cons (IsRun image wide records) run rest.runs end.runs rest.each;
    }

pub a_file_has_a_check : RunsHaveAnEnd → WritesStandInOrder → VerdictsAreLeast → AFileHasACheck
a_file_has_a_check law ordered least image wide harts records =
    let all = runs_for law ordered image wide records (range_with_len 0 harts) in
    let outcomes = map (outcome_of records) all.runs in
    let verdict : Verdict = verdict_of outcomes in
    let counts = map (λ hart. counts_of (limit_of verdict) (records_of hart records)) (range_with_len 0 harts) in
    let notes = named_notes (limit_of verdict) (flat_map (notes_of records) all.runs) in (
      checked_made verdict harts counts notes,
      record {
        runs = all.runs;
        are_runs = record { harts_are = all.harts_are; each = all.each };
        harts_are = refl;
        verdict = refl;
        least = least outcomes;
        counts = refl;
        notes = refl;
      },
    )
