-- What the failures of harts say.
use Rattle.std.proofs.Common.{ℕ, ◌≡◌, ◌<◌, ◌⊎◌, Bool, false, Option, Some, None, option_map, List, [], ◌∷◌, length, map, get_or, refl, sym, ap, ◌∙◌, subst, inl, inr, arith, zero, suc, Contains}
use Rattle.std.specs.List.{cons_option, range_with_len, slice_get}
use Rattle.std.proofs.lemmas.List.{length-map}
use Rattle.std.proofs.lemmas.List.Elements.{All-contains, All-get_or}
use Rattle.std.proofs.lemmas.List.FromFn.{get_or-range_with_len, length-range_with_len}
use Rattle.std.proofs.lemmas.Option.{get_or_from_slice_get, same_Some, slice_get-get_or, slice_get-map, slice_get_within}
use Rattle.dt_record.specs.declared.records.Record.{Record}
use Rattle.dt_record.specs.Keys.{key_of, key_below, records_of}
use Rattle.dt_record.specs.Writes.{writes_of}
use Rattle.dt_rules.specs.declared.misfits.Misfit.{Misfit}
use Rattle.dt_rules.specs.declared.misfits.Passed.{Passed}
use Rattle.dt_judge.specs.Runs.{RunsTo}
use Rattle.dt_verdict.specs.declared.verdicts.Failure.{Failure}
use Rattle.dt_verdict.specs.declared.verdicts.Outcome.{Outcome}
use Rattle.dt_verdict.specs.Verdict.{failures_of, IsVerdict}
use Rattle.dt_runs.specs.Noting.{failure_at}
use Rattle.dt_pass.specs.Checked.{AreRuns, AllowedRun, IsRun, failure_of, outcome_of}
use Rattle.dt_pass.specs.Laws.{AllAllowed, FailsAt, FailIsFirst, IsNotSooner, PassIsAllAllowed}

-- ---- one hart

-- all records of a hart are allowed, or it has this failure
pub record Fails (image : List ℕ) (wide : Bool) (records : List Record) (run : AllowedRun) : Type 0 where
  pub failure : Failure
  pub fails : FailsAt image wide records run.hart failure
  pub is : failure_of (records_of run.hart records) run ≡ Some failure

ended : (image : List ℕ) (wide : Bool) (records : List Record) (hart : ℕ) (allowed : List Passed) (refused : Option Misfit)
    → RunsTo image (writes_of records) wide hart (records_of hart records) allowed refused
    → AllAllowed image wide records hart ⊎ Fails image wide records (record { hart = hart; allowed = allowed; refused = refused })
ended image wide records hart allowed None runs = inl (allowed, runs)
ended image wide records hart allowed (Some m) runs =
    let end = runs.ends in
    inr (record {
      failure = failure_at (key_of (length allowed) end.0) m;
      fails = record { allowed = allowed; misfit = m; own = end.0; runs = runs; there = end.1; failure = refl };
      is = ap (option_map (λ (r : Record). failure_at (key_of (length allowed) r) m)) end.1;
    })

-- a failure of a hart is that of its first record that is not allowed
failed_by : (image : List ℕ) (wide : Bool) (records : List Record) (hart : ℕ) (allowed : List Passed) (refused : Option Misfit) (f : Failure)
    → RunsTo image (writes_of records) wide hart (records_of hart records) allowed refused
    → failure_of (records_of hart records) (record { hart = hart; allowed = allowed; refused = refused }) ≡ Some f → FailsAt image wide records hart f
failed_by image wide records hart allowed None f runs fails = absurd (cc)
failed_by image wide records hart allowed (Some m) f runs fails =
    let end = runs.ends in
    let found : Some (failure_at (key_of (length allowed) end.0) m) ≡ Some f
    = sym (ap (option_map (λ (r : Record). failure_at (key_of (length allowed) r) m)) end.1) ∙ fails in
    record { allowed = allowed; misfit = m; own = end.0; runs = runs; there = end.1; failure = sym (same_Some (failure_at (key_of (length allowed) end.0) m) f found) }

failed : (image : List ℕ) (wide : Bool) (records : List Record) (run : AllowedRun) (f : Failure) → IsRun image wide records run → failure_of (records_of run.hart records) run ≡ Some f
    → FailsAt image wide records run.hart f
failed image wide records run f is fails = failed_by image wide records run.hart run.allowed run.refused f is fails

-- ---- among all harts

any_run : AllowedRun
any_run = record { hart = 0; allowed = []; refused = None }

pub record RunAt (image : List ℕ) (wide : Bool) (records : List Record) (runs : List AllowedRun) (hart : ℕ) : Type 0 where
  pub run : AllowedRun
  pub there : slice_get runs hart ≡ Some run
  pub hart_is : run.hart ≡ hart
  pub is_run : IsRun image wide records run

run_at : (image : List ℕ) (wide : Bool) (harts : ℕ) (records : List Record) (runs : List AllowedRun) (hart : ℕ) → AreRuns image wide harts records runs → hart < harts → RunAt image wide records runs hart
run_at image wide harts records runs hart are within =
    let number = λ (run : AllowedRun). run.hart in
    let long : length runs ≡ harts = sym (length-map runs number) ∙ ap length are.harts_are ∙ length-range_with_len 0 harts in
    let inside : hart < length runs = omega arith in
    let run = get_or runs hart any_run in
    let there : slice_get runs hart ≡ Some run = slice_get-get_or runs hart any_run inside in
    let numbered : slice_get (map number runs) hart ≡ Some run.hart = slice_get-map number runs hart ∙ ap (option_map number) there in
    let ranged : get_or (range_with_len 0 harts) hart 0 ≡ run.hart = get_or_from_slice_get (range_with_len 0 harts) hart run.hart 0 (ap (λ ks. slice_get ks hart) (sym are.harts_are) ∙ numbered) in
    record {
      run = run;
      there = there;
      hart_is = sym ranged ∙ get_or-range_with_len 0 harts hart 0 within ∙ omega arith;
      is_run = All-get_or (IsRun image wide records) runs hart any_run inside are.each;
    }

failure_among : (outcomes : List Outcome) (k : ℕ) (o : Outcome) (f : Failure) → slice_get outcomes k ≡ Some o → o.failure ≡ Some f → Contains (failures_of outcomes) f
failure_among [] k o f there is = absurd (cc)
failure_among (p ∷ ps) zero o f there is = first p.failure (ap (λ (q : Outcome). q.failure) (same_Some p o there) ∙ is)
  where
    first : (x : Option Failure) → x ≡ Some f → Contains (cons_option x (failures_of ps)) f
    first None e = absurd (cc)
    first (Some g) e = (0, omega arith, same_Some g f e)
failure_among (p ∷ ps) (suc k) o f there is = later p.failure (failure_among ps k o f there is)
  where
    later : (x : Option Failure) → Contains (failures_of ps) f → Contains (cons_option x (failures_of ps)) f
    later None c = c
    later (Some g) c = (suc c.0, omega (arith, c.1), c.2)

-- the place of an outcome with a failure
pub record Among (outcomes : List Outcome) (f : Failure) : Type 0 where
  pub place : ℕ
  pub outcome : Outcome
  pub there : slice_get outcomes place ≡ Some outcome
  pub fails : outcome.failure ≡ Some f

among_cons : (p : Outcome) (ps : List Outcome) (f : Failure) → (Contains (failures_of ps) f → Among ps f) → (x : Option Failure) → p.failure ≡ x → Contains (cons_option x (failures_of ps)) f → Among (p ∷ ps) f
among_cons p ps f later None e c = let a = later c in record { place = suc a.place; outcome = a.outcome; there = a.there; fails = a.fails }
among_cons p ps f later (Some g) e (zero, within, is) = record { place = 0; outcome = p; there = refl; fails = e ∙ ap Some is }
among_cons p ps f later (Some g) e (suc k, within, is) =
    let a = later (k, omega arith, is) in
    record { place = suc a.place; outcome = a.outcome; there = a.there; fails = a.fails }

among : (outcomes : List Outcome) (f : Failure) → Contains (failures_of outcomes) f → Among outcomes f
among [] f c = absurd (omega (arith, c.1))
among (p ∷ ps) f c = among_cons p ps f (among ps f) p.failure refl c

-- ---- the laws

outcome_at : (records : List Record) (runs : List AllowedRun) (k : ℕ) (run : AllowedRun) → slice_get runs k ≡ Some run → slice_get (map (outcome_of records) runs) k ≡ Some (outcome_of records run)
outcome_at records runs k run there = slice_get-map (outcome_of records) runs k ∙ ap (option_map (outcome_of records)) there

-- a hart without a failure among all has none, and one with a failure has it among all
pub pass_is_all_allowed : PassIsAllAllowed
pass_is_all_allowed image wide harts records checked is passes hart within =
    let at = run_at image wide harts records is.runs hart is.are_runs within in
    let outcomes = map (outcome_of records) is.runs in
    let none : failures_of outcomes ≡ [] = subst (IsVerdict outcomes) passes is.least in
    subst (AllAllowed image wide records) at.hart_is (elim (ended image wide records at.run.hart at.run.allowed at.run.refused at.is_run) [
      | inl all ↦ all
      | inr has ↦
          let there = failure_among outcomes hart (outcome_of records at.run) has.failure (outcome_at records is.runs hart at.run at.there) has.is in
          absurd (omega (arith, there.1, ap length none))
    ])

-- the harts stand in their order
number_at : (harts : ℕ) (runs : List AllowedRun) (k : ℕ) (run : AllowedRun) → map (λ (r : AllowedRun). r.hart) runs ≡ range_with_len 0 harts → slice_get runs k ≡ Some run → (k < harts) × (run.hart ≡ k)
number_at harts runs k run are there =
    let number = λ (r : AllowedRun). r.hart in
    let long : length runs ≡ harts = sym (length-map runs number) ∙ ap length are ∙ length-range_with_len 0 harts in
    let within : k < harts = omega (arith, slice_get_within runs k run there) in
    let numbered : slice_get (map number runs) k ≡ Some run.hart = slice_get-map number runs k ∙ ap (option_map number) there in
    let ranged : get_or (range_with_len 0 harts) k 0 ≡ run.hart = get_or_from_slice_get (range_with_len 0 harts) k run.hart 0 (ap (λ ks. slice_get ks k) (sym are) ∙ numbered) in
    (within, sym ranged ∙ get_or-range_with_len 0 harts k 0 within ∙ omega arith)

pub fail_is_first : FailIsFirst
fail_is_first image wide harts records checked f is fails =
    let outcomes = map (outcome_of records) is.runs in
    let least = subst (IsVerdict outcomes) fails is.least in
    let a = among outcomes f least.is_failure in
    let within : a.place < length is.runs = omega (arith, slice_get_within outcomes a.place a.outcome a.there, length-map is.runs (outcome_of records)) in
    let run = get_or is.runs a.place any_run in
    let there : slice_get is.runs a.place ≡ Some run = slice_get-get_or is.runs a.place any_run within in
    let own : outcome_of records run ≡ a.outcome = same_Some (outcome_of records run) a.outcome (sym (outcome_at records is.runs a.place run there) ∙ a.there) in
    let number = number_at harts is.runs a.place run is.are_runs.harts_are there in
    record {
      hart = run.hart;
      within = omega (arith, number.0, number.1);
      fails = failed image wide records run f (All-get_or (IsRun image wide records) is.runs a.place any_run within is.are_runs.each) (ap (λ (o : Outcome). o.failure) own ∙ a.fails);
      others = λ other below.
          let at = run_at image wide harts records is.runs other is.are_runs below in
          subst (IsNotSooner image wide records f) at.hart_is (elim (ended image wide records at.run.hart at.run.allowed at.run.refused at.is_run) [
            | inl all ↦ inl all
            | inr has ↦
                let among_all = failure_among outcomes other (outcome_of records at.run) has.failure (outcome_at records is.runs other at.run at.there) has.is in
                inr (has.failure, has.fails, All-contains (λ (g : Failure). key_below g.key f.key ≡ false) (failures_of outcomes) has.failure least.least among_all)
          ]);
    }
