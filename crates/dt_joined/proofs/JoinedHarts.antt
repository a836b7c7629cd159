-- From the joined harts of a file to their judgement.
use Rattle.std.proofs.Common.{◌≡◌, ◌<◌, ◌≤◌, ◌==◌, ◌+◌, ◌&&◌, ◌||◌, not, ℕ, Bool, true, false, is_some, List, [], length, get_or, take, drop, ◌⊎◌, inl, inr, sym, ap, ◌∙◌, ◌++◌, arith}
use Rattle.std.specs.Prelude.{Contains, IsTrue}
use Rattle.std.proofs.lemmas.Bool.{cases_lt}
use Rattle.std.proofs.lemmas.Bool.Decides.{nat_tests}
use Rattle.std.proofs.lemmas.List.{append-nil, take-append-drop, take_all}
use Rattle.std.proofs.lemmas.List.Elements.{All-contains}
use Rattle.std.proofs.lemmas.List.Sums.{length-filter, count_by-le-length}
use mathlib.Core.List.{IsPrefix}
use Rattle.dt_record.specs.declared.limits.TheConstants.{RECORD_LIMIT}
use Rattle.dt_record.specs.declared.records.Record.{Record}
use Rattle.dt_record.specs.Keys.{records_of}
use Rattle.dt_record.specs.ProbeFile.{AreRecords, no_stamps}
use Rattle.dt_record.specs.Writes.{writes_of}
use Rattle.dt_intake.specs.Intakes.{IntakeView, new_intake, usable_of, is_over, has_news}
use Rattle.dt_intake.specs.Laws.{FileRecordsAreUsable}
use Rattle.dt_intake.specs.Told.{IsTold}
use Rattle.dt_runs.specs.Laws.{FileRecordsAreOwn}
use Rattle.dt_lane.specs.declared.ends.HartEnd.{HartEnd}
use Rattle.dt_lane.specs.Lanes.{is_judged, judged_len, judged_of}
use Rattle.dt_settled.specs.AllWrites.{AreAllWrites}
use Rattle.dt_shared.proofs.Histories.{prefix_map}
use Rattle.dt_shared.specs.declared.entries.Entry.{Entry}
use Rattle.dt_shared.specs.Entries.{notes_in}
use Rattle.dt_shared.specs.Passes.{PassState}
use Rattle.dt_writes.specs.FileRecords.{AreFileRecords}
use Rattle.dt_joined.specs.Ends.{AreJoinedHarts, IsJoinedHart}
use Rattle.dt_joined.specs.Joined.{AreAccounted, AreJoined, IsJudgedHart, IsToldByOne}
use Rattle.dt_joined.specs.Laws.{JoinedHartsAreFew, JoinedHartsAreJudged, JoinedWritesMayBeAll, OneTellerIsEnough, UntoldIsNotThere}

-- ---- the intake of each hart

-- a hart with what came of it
record IsOneOf (image : List ℕ) (wide : Bool) (harts : ℕ) (file : List Record) (passes : List PassState) (hart : ℕ) : Type 0 where
  end : HartEnd
  joined : IsJoinedHart image wide harts file passes end
  its : joined.lane.intake.hart ≡ hart

one_of : (image : List ℕ) (wide : Bool) (harts : ℕ) (file : List Record) (passes : List PassState) (ends : List HartEnd)
    → AreJoinedHarts image wide harts file passes ends → (hart : ℕ) → hart < harts → IsOneOf image wide harts file passes hart
one_of image wide harts file passes ends are hart within =
    let one = are.all_harts hart within in
    let its : Contains ends one.1 = (one.0, one.2, one.3) in
    let joined : IsJoinedHart image wide harts file passes one.1 = All-contains (IsJoinedHart image wide harts file passes) ends one.1 are.each its in
    record { end = one.1; joined = joined; its = sym joined.hart ∙ one.4 }

intake_of : (image : List ℕ) (wide : Bool) (harts : ℕ) (file : List Record) (passes : List PassState) (hart : ℕ)
    → (hart < harts → IsOneOf image wide harts file passes hart) → (hart < harts) ⊎ (harts ≤ hart) → IntakeView
intake_of image wide harts file passes hart one (inl within) = (one within).joined.lane.intake
intake_of image wide harts file passes hart one (inr beyond) = new_intake hart

-- what holds of the intake of what came of a hart holds of the hart's
intake_is : (image : List ℕ) (wide : Bool) (harts : ℕ) (file : List Record) (passes : List PassState) (hart : ℕ)
    → (one : hart < harts → IsOneOf image wide harts file passes hart) → (which : (hart < harts) ⊎ (harts ≤ hart)) → hart < harts
    → (P : IntakeView → Type 0) → ((o : IsOneOf image wide harts file passes hart) → P o.joined.lane.intake)
    → P (intake_of image wide harts file passes hart one which)
unfolding intake_of
intake_is image wide harts file passes hart one (inl within) below P holds = holds (one within)
intake_is image wide harts file passes hart one (inr beyond) below P holds = absurd (omega arith)

told_by_one : (image : List ℕ) (wide : Bool) (harts : ℕ) (file : List Record) (passes : List PassState) (e : HartEnd)
    → (j : IsJoinedHart image wide harts file passes e) → IsToldByOne passes j.lane.intake
told_by_one image wide harts file passes e j = record { teller = j.pass; its = j.its_pass; told = j.told; others = j.others }

-- the joined lists, by hart
joined_lists : OneTellerIsEnough → UntoldIsNotThere → (image : List ℕ) (wide : Bool) (harts : ℕ) (file : List Record) (passes : List PassState)
    (closed : List Entry) (ends : List HartEnd) → AreAccounted passes closed → AreJoinedHarts image wide harts file passes ends
    → (views : ℕ → IntakeView) × AreJoined harts file (notes_in closed) views
joined_lists teller untold image wide harts file passes closed ends accounted are =
    let one = one_of image wide harts file passes ends are in
    let views : ℕ → IntakeView = λ hart. intake_of image wide harts file passes hart (one hart) (cases_lt hart harts) in
    let about : (hart : ℕ) → hart < harts → (P : IntakeView → Type 0) → ((o : IsOneOf image wide harts file passes hart) → P o.joined.lane.intake) → P (views hart)
    = λ hart within. intake_is image wide harts file passes hart (one hart) (cases_lt hart harts) within in (
      views,
      record {
        its = λ hart within. about hart within (λ v. v.hart ≡ hart) (λ o. o.its);
        taken = λ hart within. about hart within (λ v. v.taken ≡ records_of hart file) (λ o. o.joined.all_taken ∙ ap (λ h. records_of h file) o.its);
        told = λ hart within. about hart within (λ v. IsTold v (notes_in closed))
            (λ o. teller passes closed o.joined.lane.intake accounted (told_by_one image wide harts file passes o.end o.joined));
        no_other = λ hart beyond. untold passes closed hart accounted (are.no_other hart beyond);
      },
    )

-- ---- what came of one hart is its judgement

no_failure : (failure : Bool) (count all : ℕ) → failure ≡ false → IsTrue (failure || (count == all)) → all ≤ count
no_failure true count all none judged = cc
no_failure false count all none judged = grind (arith, nat_tests)

judged_at_end : (over news judged : Bool) → IsTrue (over && (not news && judged)) → IsTrue judged
judged_at_end true false judged done = done
judged_at_end true true judged done = cc
judged_at_end false news judged done = cc

judged_hart : FileRecordsAreOwn → FileRecordsAreUsable → (image : List ℕ) (wide : Bool) (harts : ℕ) (file : List Record)
    (passes : List PassState) (e : HartEnd) → AreRecords harts no_stamps file → AreFileRecords file → length file ≤ RECORD_LIMIT
    → (j : IsJoinedHart image wide harts file passes e) → AreAllWrites image harts (notes_in j.pass.seen) (writes_of file)
    → IsJudgedHart image wide file e.hart e.outcome e.notes.items
judged_hart own usable image wide harts file passes e records are few j all =
    let l = j.lane in
    let hart = l.intake.hart in
    let count = judged_len l.run in
    let takes : l.intake.taken ≡ records_of e.hart file = j.all_taken ∙ ap (λ h. records_of h file) (sym j.hart) in
    let whole : usable_of l.intake ≡ records_of hart file
    = usable harts hart file l.intake.taken records few ([], append-nil l.intake.taken ∙ j.all_taken) ∙ j.all_taken in
    let first : take count (usable_of l.intake) ++ drop count (usable_of l.intake) ≡ records_of hart file
    = take-append-drop count (usable_of l.intake) ∙ whole in
    record {
      run = l.run;
      judged = judged_of l;
      number = j.is_lane.number ∙ sym j.hart;
      front = (drop count (usable_of l.intake), first ∙ ap (λ h. records_of h file) (sym j.hart));
      runs = (j.judged (writes_of file) all).runs (records_of hart file) (own file hart are) (drop count (usable_of l.intake), first);
      whole = λ none.
          let ended : IsTrue (is_judged l) = judged_at_end (is_over l.intake) (has_news l.intake) (is_judged l) j.done in
          let unfailed : is_some l.run.failure ≡ false = ap is_some none in
          let enough : length (usable_of l.intake) ≤ count = no_failure (is_some l.run.failure) count (length (usable_of l.intake)) unfailed ended in
          take_all count (usable_of l.intake) enough ∙ whole ∙ ap (λ h. records_of h file) (sym j.hart);
      outcome_is = j.outcome_is;
      notes_are = j.notes_are;
    }

-- ---- and together

pub judged_harts : FileRecordsAreOwn → FileRecordsAreUsable → JoinedWritesMayBeAll → OneTellerIsEnough → UntoldIsNotThere → JoinedHartsAreJudged
judged_harts own usable may_be_all teller untold image wide harts file passes closed ends records are few accounted seen joined =
    let lists = joined_lists teller untold image wide harts file passes closed ends accounted joined in
    let of_pass : (p : PassState) → Contains passes p → AreAllWrites image harts (notes_in p.seen) (writes_of file) = λ p its.
    let first : IsPrefix p.seen closed = All-contains (λ (p : PassState). IsPrefix p.seen closed) passes p seen its in
    may_be_all image harts file (notes_in p.seen) (notes_in closed) lists.0 records are few lists.1 (prefix_map (λ (e : Entry). e.note) p.seen closed first) in
    record {
      judged = λ k d within.
          let e = get_or ends k d in
          let j : IsJoinedHart image wide harts file passes e = joined.each k d within in
          judged_hart own usable image wide harts file passes e records are few j (of_pass j.pass j.its_pass);
      taken = λ k d within.
          let e = get_or ends k d in
          let j : IsJoinedHart image wide harts file passes e = joined.each k d within in
          j.taken_are ∙ j.all_taken ∙ ap (λ h. records_of h file) (sym j.hart);
    }

own_are_few : (hart : ℕ) (file : List Record) → length (records_of hart file) ≤ length file
own_are_few hart file = omega (arith, length-filter (λ (r : Record). r.hart == hart) file, count_by-le-length (λ (r : Record). r.hart == hart) file)

pub few_each : JoinedHartsAreFew
few_each image wide harts file passes ends few joined = λ k d within.
    let e = get_or ends k d in
    let j : IsJoinedHart image wide harts file passes e = joined.each k d within in
    omega (arith, few, ap length (j.taken_are ∙ j.all_taken), own_are_few j.lane.intake.hart file)
