-- The runs of harts, one after another.
use Rattle.std.proofs.Common.{ℕ, ◌≡◌, ◌+◌, Bool, List, [], ◌∷◌, ◌++◌, map, refl, sym, ap, ◌∙◌, arith}
use Rattle.std.specs.List.{range_with_len}
use Rattle.std.proofs.lemmas.List.{map-append, map-id, flat_map_more}
use Rattle.std.proofs.lemmas.List.Elements.{All-nil, All-push}
use Rattle.std.proofs.lemmas.List.FromFn.{map-range_with_len_more}
use Rattle.dt_record.specs.declared.records.Record.{Record}
use Rattle.dt_versions.specs.History.{History}
use Rattle.dt_verdict.specs.declared.tallies.Noted.{Noted}
use Rattle.dt_verdict.specs.declared.verdicts.Outcome.{Outcome}
use Rattle.dt_pass.specs.Checked.{AllowedRun, IsRun, notes_of, outcome_of}
use Rattle.dt_pass.specs.Running.{AreRunsOf, IsRunOf}

pub none_yet : (held : History) (wide : Bool) (records : List Record) (outcomes : List Outcome) (notes : List Noted) → outcomes ≡ [] → notes ≡ [] → AreRunsOf held wide 0 records outcomes notes
none_yet held wide records outcomes notes no_outcomes no_notes = record {
  runs = [];
  are_runs = record { harts_are = refl; each = All-nil (IsRun held.image wide records) };
  outcomes_are = no_outcomes;
  notes_are = no_notes;
}

range-push : (n : ℕ) → range_with_len 0 (n + 1) ≡ range_with_len 0 n ++ n ∷ []
range-push n =
    sym (map-id (range_with_len 0 (n + 1)))
    ∙ map-range_with_len_more (λ (k : ℕ). k) 0 n n (omega arith)
    ∙ ap (λ (ks : List ℕ). ks ++ n ∷ []) (map-id (range_with_len 0 n))

pub one_more : (held : History) (wide : Bool) (hart : ℕ) (records : List Record) (outcomes more : List Outcome) (outcome : Outcome) (before own after : List Noted)
    → AreRunsOf held wide hart records outcomes before → IsRunOf held wide hart records outcome own → more ≡ outcomes ++ outcome ∷ [] → after ≡ before ++ own
    → AreRunsOf held wide (hart + 1) records more after
one_more held wide hart records outcomes more outcome before own after all one pushed added = record {
  runs = all.runs ++ one.run ∷ [];
  are_runs = record {
    harts_are =
        map-append (λ (run : AllowedRun). run.hart) all.runs (one.run ∷ [])
        ∙ ap (λ (ks : List ℕ). ks ++ one.run.hart ∷ []) all.are_runs.harts_are
        ∙ ap (λ n. range_with_len 0 hart ++ n ∷ []) one.hart_is
        ∙ sym (range-push hart);
    each = All-push (IsRun held.image wide records) all.runs one.run all.are_runs.each one.is_run;
  };
  outcomes_are =
      pushed
      ∙ ap (λ (os : List Outcome). os ++ outcome ∷ []) all.outcomes_are
      ∙ ap (λ o. map (outcome_of records) all.runs ++ o ∷ []) one.outcome_is
      ∙ sym (map-append (outcome_of records) all.runs (one.run ∷ []));
  notes_are =
      added
      ∙ ap (λ (ns : List Noted). before ++ ns) one.notes_are
      ∙ ap (λ (ns : List Noted). ns ++ notes_of records one.run) all.notes_are
      ∙ flat_map_more (notes_of records) [] all.runs one.run;
}
