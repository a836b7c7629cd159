-- The run of a hart over the records of a file.
use Rattle.std.proofs.Common.{ℕ, ◌≡◌, ◌≤◌, ◌<◌, ◌+◌, ◌==◌, Bool, true, false, Option, Some, None, List, [], ◌∷◌, ◌++◌, length, get_or, take, drop, refl, sym, ap, ◌∙◌, subst, arith}
use Rattle.std.specs.Prelude.{is_some}
use Rattle.std.specs.List.{list_all}
use Rattle.std.proofs.lemmas.List.{append-nil, length-append}
use Rattle.std.proofs.lemmas.List.Sums.{count_by-le-length, length-filter}
use Rattle.dt_record.specs.declared.records.Record.{Record}
use Rattle.dt_record.specs.Keys.{records_of}
use Rattle.dt_record.specs.Lawful.{is_lawful}
use Rattle.dt_record.specs.Writes.{writes_of}
use Rattle.dt_versions.specs.History.{History}
use Rattle.dt_hart.specs.OwnWrites.{are_rising}
use Rattle.dt_hart.specs.Settings.{last_stamp}
use Rattle.dt_judge.specs.Runs.{RunsTo}
use Rattle.dt_runs.specs.Laws.{ComesTo, FileRecordsAreOwn, RunsComeToAnEnd}
use Rattle.dt_runs.specs.RunView.{RunView, outcome_in}
use Rattle.dt_runs.specs.Runs.{AreOwn, EndsWith, HoldsUntil, Runs, RunsOn}
use Rattle.dt_verdict.specs.declared.verdicts.Failure.{Failure}
use Rattle.dt_verdict.specs.declared.verdicts.Outcome.{Outcome}
use Rattle.dt_pass.specs.Running.{AreJudgeable, IsRunOf}
use Rattle.dt_runs.proofs.OwnRecords.{all_seam, any_record, before_more, before_same, own_from, own_split, stamp_rises}

-- a hart's records before a place of the file were judged
abbrev pub RunsUntil : History → (wide : Bool) (hart : ℕ) → List Record → ℕ → RunView → Type 0
RunsUntil held wide hart records i v = Runs v held.image (writes_of records) wide (records_of hart (take i records))

-- and all of them are allowed
pub record HasPassed (held : History) (wide : Bool) (hart : ℕ) (records : List Record) (i : ℕ) (v : RunView) : Type 0 where
  pub number : v.hart.arch.hart ≡ hart
  pub goes_on : v.failure ≡ None
  pub runs : RunsUntil held wide hart records i v

-- ---- before the hart's next record

-- the record may be judged
pub record IsReady (v : RunView) (r : Record) : Type 0 where
  pub lawful : is_lawful r ≡ true
  pub in_time : v.hart.stamp ≤ r.stamp
  pub room : v.hart.seq < 4_194_304

pub is_ready : (held : History) (wide : Bool) (hart : ℕ) (records : List Record) (i : ℕ) (v : RunView) → FileRecordsAreOwn → AreJudgeable held records
    → i < length records → ((get_or records i any_record).hart == hart) ≡ true → HasPassed held wide hart records i v → IsReady v (get_or records i any_record)
is_ready held wide hart records i v law can within its passed =
    let r = get_or records i any_record in
    let before = records_of hart (take i records) in
    let more = records_of hart (drop (i + 1) records) in
    let is : records_of hart records ≡ before ++ r ∷ more = own_from hart records i any_record within its in
    let own = law records hart can.file in
    let at = subst (EndsWith v.hart held.image (writes_of records) wide before passed.runs.moments (length passed.runs.allowed)) passed.goes_on passed.runs.ends in
    let rising : are_rising (before ++ r ∷ more) ≡ true = ap are_rising (sym is) ∙ own.rising in
    let last : last_stamp before ≤ r.stamp = stamp_rises 0 before r more rising (omega arith) in
    record {
      lawful = all_seam is_lawful before r more (ap (list_all is_lawful) (sym is) ∙ own.lawful);
      in_time = omega (arith, at.1.stamp, last);
      room = omega (
        arith,
        at.1.seq,
        can.file.few_records,
        ap length is,
        length-append before (r ∷ more),
        length-filter (λ (q : Record). q.hart == hart) records,
        count_by-le-length (λ (q : Record). q.hart == hart) records,
      );
    }

-- ---- behind it

pub judged_next : (held : History) (wide : Bool) (hart : ℕ) (records : List Record) (i : ℕ) (old new : RunView) → FileRecordsAreOwn → AreJudgeable held records
    → i < length records → ((get_or records i any_record).hart == hart) ≡ true → HasPassed held wide hart records i old
    → RunsOn old new held (get_or records i any_record) → RunsUntil held wide hart records (i + 1) new
judged_next held wide hart records i old new law can within its passed on =
    let r = get_or records i any_record in
    let before = records_of hart (take i records) in
    let more = records_of hart (drop (i + 1) records) in
    let all : AreOwn (writes_of records) hart (before ++ r ∷ more) = subst (AreOwn (writes_of records) hart) (own_from hart records i any_record within its) (law records hart can.file) in
    let own : AreOwn (writes_of records) old.hart.arch.hart (before ++ r ∷ more) = subst (λ h. AreOwn (writes_of records) h (before ++ r ∷ more)) (sym passed.number) all in
    let until : HoldsUntil held.writes r.stamp (writes_of records) = record { later = []; are = sym can.writes ∙ sym (append-nil held.writes); after = refl } in
    subst (Runs new held.image (writes_of records) wide) (sym (before_more hart records i any_record within its)) (on (writes_of records) wide [] before more own until passed.runs)

-- a record of another hart
pub passed_by : (held : History) (wide : Bool) (hart : ℕ) (records : List Record) (i : ℕ) (v : RunView) → i < length records → ((get_or records i any_record).hart == hart) ≡ false
    → HasPassed held wide hart records i v → HasPassed held wide hart records (i + 1) v
passed_by held wide hart records i v within other passed = record {
  number = passed.number;
  goes_on = passed.goes_on;
  runs = subst (Runs v held.image (writes_of records) wide) (sym (before_same hart records i any_record within other)) passed.runs;
}

pub not_failed : (failure : Option Failure) → is_some failure ≡ false → failure ≡ None
not_failed None none = refl
not_failed (Some f) none = cc

pub has_one : (failure : Option Failure) → is_some failure ≡ true → failure ≡ None → ⊥
has_one None some none = cc
has_one (Some f) some none = cc

-- ---- the end

abbrev outcome : ℕ → Option Failure → Outcome
outcome hart failure = record { hart = hart; failure = failure }

pub run_of_all : (held : History) (wide : Bool) (hart : ℕ) (records : List Record) (i : ℕ) (v : RunView) → RunsComeToAnEnd → v.hart.arch.hart ≡ hart
    → RunsUntil held wide hart records i v → (v.failure ≡ None → records_of hart (drop i records) ≡ []) → IsRunOf held wide hart records (outcome_in v) v.notes
run_of_all held wide hart records i v law number runs over =
    let own = records_of hart records in
    let all : ComesTo v held.image (writes_of records) wide own
    = subst (ComesTo v held.image (writes_of records) wide) (sym (own_split hart records i))
    (law v held.image (writes_of records) wide (records_of hart (take i records)) (records_of hart (drop i records)) runs over) in
    record {
      run = record { hart = hart; allowed = all.allowed; refused = all.refused };
      hart_is = refl;
      is_run = subst (λ h. RunsTo held.image (writes_of records) wide h own all.allowed all.refused) number all.runs;
      outcome_is = ap (λ h. outcome h v.failure) number ∙ ap (outcome hart) all.failure;
      notes_are = all.notes;
    }
