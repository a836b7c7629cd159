-- From joined lists to the check of the file.
use Rattle.std.proofs.Common.{◌≡◌, ◌≤◌, ◌==◌, ℕ, true, false, Option, List, [], ◌∷◌, ◌++◌, drop, refl, sym, ap, ◌∙◌, subst, inl, inr, arith}
use Rattle.std.proofs.lemmas.Bool.{cases_Bool, cases_lt, cond-true, cond-false}
use Rattle.std.proofs.lemmas.Bool.Decides.{nat_tests}
use Rattle.std.proofs.lemmas.List.{append-nil}
use Rattle.dt_record.specs.declared.records.Record.{Record}
use Rattle.dt_record.specs.Keys.{records_of}
use Rattle.dt_record.specs.ProbeFile.{AreRecords, no_stamps, stamped}
use Rattle.dt_record.specs.Writes.{writes_of}
use Rattle.dt_core.specs.Sound.{IsAnnounced}
use Rattle.dt_intake.specs.Intakes.{new_intake}
use Rattle.dt_intake.specs.Laws.{NothingIsTold, OwnNotesDecide, ToldIsAnnounced}
use Rattle.dt_intake.specs.Told.{IsTold}
use Rattle.dt_judge.specs.Runs.{RunsTo}
use Rattle.dt_runs.specs.Laws.{ComesTo, RunsComeToAnEnd}
use Rattle.dt_tallies.specs.Naming.{named_notes}
use Rattle.dt_verdict.specs.declared.verdicts.Failure.{Failure}
use Rattle.dt_verdict.specs.declared.verdicts.Outcome.{Outcome}
use Rattle.dt_verdict.specs.Verdict.{verdict_of, IsVerdict}
use Rattle.dt_pass.specs.Checked.{limit_of}
use Rattle.dt_joined.specs.Laws.{JoinedListsAreSound, JudgedHartsHaveRuns, ConcludedIsChecked}

-- ---- the records of one hart

pub own_again : (hart : ℕ) (file : List Record) → records_of hart (records_of hart file) ≡ records_of hart file
own_again hart [] = refl
own_again hart (r ∷ rs) = elim (cases_Bool (r.hart == hart)) [
  | inl its ↦
      ap (records_of hart) (cond-true (r.hart == hart) _ _ its)
      ∙ cond-true (r.hart == hart) _ _ its
      ∙ ap (λ (more : List Record). r ∷ more) (own_again hart rs)
      ∙ sym (cond-true (r.hart == hart) _ _ its)
  | inr not ↦
      ap (records_of hart) (cond-false (r.hart == hart) _ _ not) ∙ own_again hart rs ∙ sym (cond-false (r.hart == hart) _ _ not)
]

-- a file has no record of a hart that it does not have
none_beyond : (harts hart : ℕ) (last : ℕ → ℕ) (file : List Record) → AreRecords harts last file → harts ≤ hart → records_of hart file ≡ []
none_beyond harts hart last [] each beyond = refl
none_beyond harts hart last (r ∷ rs) each beyond =
    cond-false (r.hart == hart) _ _ (grind (arith, nat_tests)) ∙ none_beyond harts hart (stamped last r) rs each.1 beyond

-- ---- what is joined is sound

not_yet : false ≡ true → ⊥
not_yet ended = cc

pub joined_sound : NothingIsTold → OwnNotesDecide → ToldIsAnnounced → JoinedListsAreSound
joined_sound nothing decide announced harts file notes views records few joined = record {
  fed = record { front = ([], append-nil file); whole = λ over. refl };
  kept = λ hart. append-nil (records_of hart file);
  harts = λ hart. elim (cases_lt hart harts) [
    | inl within ↦
        let v = views hart in
        let its = joined.its hart within in
        let all : v.taken ≡ records_of v.hart file = joined.taken hart within ∙ ap (λ h. records_of h file) (sym its) in
        let one : IsAnnounced v.hart (records_of v.hart file) v.taken notes
        = announced harts file v notes records few ([], append-nil v.taken ∙ all) (λ ended. all) (joined.told hart within) in
        subst (λ taken. IsAnnounced hart (records_of hart file) taken notes) (joined.taken hart within)
        (subst (λ h. IsAnnounced h (records_of h file) v.taken notes) its one)
    | inr beyond ↦
        let none = none_beyond harts hart no_stamps file records beyond in
        let untold : IsTold (new_intake hart) notes = decide (new_intake hart) [] notes (sym (joined.no_other hart beyond)) (nothing hart) in
        subst (λ taken. IsAnnounced hart (records_of hart file) taken notes) (sym none)
        (announced harts file (new_intake hart) notes records few (records_of hart file, refl) (λ ended. absurd (not_yet ended)) untold)
  ];
}

-- ---- what came of each hart is its run to the end

-- nothing follows what is all
nothing_more : (xs more : List Record) → xs ++ more ≡ xs → more ≡ []
nothing_more [] more same = same
nothing_more (x ∷ xs) more same = nothing_more xs more (ap (drop 1) same)

abbrev outcome : ℕ → Option Failure → Outcome
outcome hart failure = record { hart = hart; failure = failure }

pub judged_runs : RunsComeToAnEnd → JudgedHartsHaveRuns
judged_runs law image wide file hart end noted are j =
    let own = records_of hart file in
    let v = j.run in
    let all : ComesTo v image (writes_of file) wide own
    = subst (ComesTo v image (writes_of file) wide) j.front.1
    (law v image (writes_of file) wide j.judged j.front.0 j.runs (λ none. nothing_more j.judged j.front.0 (j.front.1 ∙ sym (j.whole none)))) in
    record {
      run = record { hart = hart; allowed = all.allowed; refused = all.refused };
      hart_is = refl;
      is_run = subst (λ h. RunsTo image (writes_of file) wide h own all.allowed all.refused) j.number all.runs;
      outcome_is = j.outcome_is ∙ ap (λ h. outcome h v.failure) j.number ∙ ap (outcome hart) all.failure;
      notes_are = j.notes_are ∙ all.notes;
    }

-- ---- and together they are the check

pub concluded : ConcludedIsChecked
concluded image wide harts file outcomes notes checked runs are = record {
  runs = runs.runs;
  are_runs = runs.are_runs;
  harts_are = are.harts_are;
  verdict = are.verdict ∙ ap verdict_of runs.outcomes_are;
  least = subst (λ os. IsVerdict os checked.verdict) runs.outcomes_are are.least;
  counts = are.counts;
  notes = are.notes_are ∙ ap (named_notes (limit_of checked.verdict)) runs.notes_are;
}
