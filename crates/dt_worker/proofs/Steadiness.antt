use Rattle.std.proofs.Common.{ℕ, ◌≡◌, ◌<◌, ◌≤◌, ◌-◌, Bool, true, false, cond, Option, List, [], ◌++◌, length, min, take, drop, get_or, All, refl, sym, ap, ◌∙◌, subst, inl, inr, arith, length-drop}
use Rattle.std.specs.Prelude.{IsTrue, Result, Ok, Err, OnOk, OnErr}
use Rattle.std.proofs.lemmas.Bool.{cases_lt}
use Rattle.std.proofs.lemmas.List.Elements.{All-nil}
use Rattle.std.proofs.lemmas.List.{append_assoc, drop_all, append-nil, map-append, length-take, get_or-take, get_or-drop, take-append-le}
use Rattle.std.proofs.Math.Seq.{take-length}
use mathlib.Core.List.{IsPrefix}
use Rattle.dt_record.specs.declared.records.Record.{Record}
use Rattle.dt_record.specs.declared.writes.Note.{Note}
use Rattle.dt_record.specs.declared.writes.Write.{Write}
use Rattle.dt_record.specs.Marks.{least_mark, HasPassed, PassedGoesOn, JudgedIsPassed}
use Rattle.dt_core.specs.Laws.{BelowMarkMayBeJudged}
use Rattle.dt_core.specs.Marks.{is_below}
use Rattle.dt_intake.specs.Intakes.{IntakeView, usable_of, has_news, after_telling}
use Rattle.dt_intake.specs.Told.{IsTold}
use Rattle.dt_runs.specs.RunView.{RunView}
use Rattle.dt_runs.specs.Runs.{AreOwn, Runs}
use Rattle.dt_versions.specs.History.{History, history}
use Rattle.dt_settled.specs.AllWrites.{AreAllWrites, FrontsTellAllWrites, AllWritesArePromised}
use Rattle.dt_settled.specs.Settling.{SettledView, Stands, Continues, ArePromised, Settles, StaysTrue}
use Rattle.dt_shared.specs.declared.entries.Entry.{Entry}
use Rattle.dt_shared.specs.Entries.{notes_in}
use Rattle.dt_shared.specs.Passes.{PassState}
use Rattle.dt_shared.specs.Replicas.{ReplicaState}
use Rattle.dt_lane.specs.Lanes.{LaneView, judged_len, judged_of, IsJudgedBy}
use Rattle.dt_worker.specs.Steps.{AreApart, AreJudgedBy, AreOthers, ArePassed, EachGoes, HasSettled, IsInStep, IsSteady, JudgesMore, LooksFurther, TakesMore}
use Rattle.dt_worker.specs.Telling.{told_lane, Tells}
use Rattle.dt_worker.specs.Workers.{WorkerView}

-- What a worker's steps keep.

-- lists

pub prefix-chain : {X : Type 0} (xs ys zs : List X) → IsPrefix xs ys → IsPrefix ys zs → IsPrefix xs zs
prefix-chain xs ys zs first second =
    (first.0 ++ second.0, sym (append_assoc xs first.0 second.0) ∙ ap (λ ns. ns ++ second.0) first.1 ∙ second.1)

-- harts

record SameHarts (lanes later : List LaneView) : Type 0 where
  pub size : length later ≡ length lanes
  pub each : (k : ℕ) (d : LaneView) → k < length lanes → (get_or later k d).intake.hart ≡ (get_or lanes k d).intake.hart

here : (lanes later : List LaneView) → SameHarts lanes later → (k : ℕ) → k < length later → k < length lanes
here lanes later same k h = let size = same.size in omega arith

there : (lanes later : List LaneView) → SameHarts lanes later → (k : ℕ) → k < length lanes → k < length later
there lanes later same k h = let size = same.size in omega arith

same-apart : (lanes later : List LaneView) → SameHarts lanes later → AreApart lanes → AreApart later
same-apart lanes later same apart = record {
  each = λ j k d h g ne e.
      let j-in = here lanes later same j h in
      let k-in = here lanes later same k g in
      apart.each j k d j-in k-in ne (sym (same.each j d j-in) ∙ e ∙ same.each k d k-in);
}

same-others : (lanes later : List LaneView) → SameHarts lanes later → (hart : ℕ) → AreOthers hart later → AreOthers hart lanes
same-others lanes later same hart others = λ j d h e. others j d (there lanes later same j h) (same.each j d h ∙ e)

-- what a step keeps that judges nothing

record KeepsJudged (u v : LaneView) : Type 0 where
  pub hart : v.intake.hart ≡ u.intake.hart
  pub run : v.run ≡ u.run
  pub judged : judged_of v ≡ judged_of u

kept-judged : (u v : LaneView) → KeepsJudged u v → (image : List ℕ) (wide : Bool) (all : List Write) → IsJudgedBy u image wide all → IsJudgedBy v image wide all
kept-judged u v keeps image wide all was = record {
  runs = λ own are begins.
      subst (λ (x : RunView). Runs x image all wide (judged_of v)) (sym keeps.run)
      (subst (λ (rs : List Record). Runs u.run image all wide rs) (sym keeps.judged)
      (was.runs own (subst (λ (h : ℕ). AreOwn all h own) keeps.hart are) (subst (λ (rs : List Record). IsPrefix rs own) keeps.judged begins)));
}

kept-passed : (u v : LaneView) → KeepsJudged u v → (harts : ℕ) (notes : List Note)
    → All (λ (r : Record). HasPassed harts notes r.stamp) (judged_of u) → All (λ (r : Record). HasPassed harts notes r.stamp) (judged_of v)
kept-passed u v keeps harts notes was = subst (λ (rs : List Record). All (λ (r : Record). HasPassed harts notes r.stamp) rs) (sym keeps.judged) was

record AllKeep (lanes later : List LaneView) : Type 0 where
  pub size : length later ≡ length lanes
  pub each : (k : ℕ) (d : LaneView) → k < length lanes → KeepsJudged (get_or lanes k d) (get_or later k d)

all-harts : (lanes later : List LaneView) → AllKeep lanes later → SameHarts lanes later
all-harts lanes later keep = record { size = keep.size; each = λ k d h. (keep.each k d h).hart }

all-passed : (harts : ℕ) (notes : List Note) (lanes later : List LaneView) → AllKeep lanes later → ArePassed harts notes lanes → ArePassed harts notes later
all-passed harts notes lanes later keep was = λ k d h.
    let k-in = here lanes later (all-harts lanes later keep) k h in
    kept-passed (get_or lanes k d) (get_or later k d) (keep.each k d k-in) harts notes (was k d k-in)

all-judged : (lanes later : List LaneView) → AllKeep lanes later → (image : List ℕ) (wide : Bool) (all : List Write)
    → AreJudgedBy lanes image wide all → AreJudgedBy later image wide all
all-judged lanes later keep image wide all was = λ k d h.
    let k-in = here lanes later (all-harts lanes later keep) k h in
    kept-judged (get_or lanes k d) (get_or later k d) (keep.each k d k-in) image wide all (was k d k-in)

-- taking

pub takes-same : (u : LaneView) → TakesMore u u
takes-same u = record { queue = refl; hart = refl; run = refl; judged = refl; told = λ notes was. was }

taken-keep : (lanes later : List LaneView) → EachGoes TakesMore lanes later → AllKeep lanes later
taken-keep lanes later goes = record {
  size = goes.size;
  each = λ k d h. let more = goes.each k d h in record { hart = more.hart; run = more.run; judged = more.judged };
}

taken-in_step : (lanes later : List LaneView) (own : List Note) → EachGoes TakesMore lanes later → IsInStep lanes own → IsInStep later own
taken-in_step lanes later own goes was =
    let same : SameHarts lanes later = all-harts lanes later (taken-keep lanes later goes) in record {
      apart = same-apart lanes later same was.apart;
      told = λ k d h.
          let k-in = here lanes later same k h in
          (goes.each k d k-in).told own (was.told k d k-in);
      no_other = λ hart others. was.no_other hart (same-others lanes later same hart others);
    }

pub taking_keeps : (w : WorkerView) (later : List LaneView) → EachGoes TakesMore w.lanes later → IsSteady w → IsSteady (record w { lanes = later })
taking_keeps w later goes was =
    let keep : AllKeep w.lanes later = taken-keep w.lanes later goes in record {
      begins = was.begins;
      within = was.within;
      image = was.image;
      in_step = taken-in_step w.lanes later w.pass.own goes was.in_step;
      passed = all-passed w.harts w.notes w.lanes later keep was.passed;
      settled = was.settled;
      judged = λ all are. all-judged w.lanes later keep w.image w.wide all (was.judged all are);
    }

-- announcing

told-keeps : (u : LaneView) → KeepsJudged u (told_lane u)
told-keeps u = choice (has_news u.intake)
  where
    choice : (b : Bool) → KeepsJudged u (cond b (record u { intake = after_telling u.intake }) u)
    choice true = record { hart = refl; run = refl; judged = refl }
    choice false = record { hart = refl; run = refl; judged = refl }

told-keep : (lanes later : List LaneView) → EachGoes Tells lanes later → AllKeep lanes later
told-keep lanes later goes = record {
  size = goes.size;
  each = λ k d h. subst (λ (v : LaneView). KeepsJudged (get_or lanes k d) v) (sym (goes.each k d h)) (told-keeps (get_or lanes k d));
}

notes-begin : (p q : PassState) (notes : List Note) → IsPrefix p.seen q.seen → IsPrefix notes (notes_in p.seen) → IsPrefix notes (notes_in q.seen)
notes-begin p q notes later begins =
    prefix-chain notes (notes_in p.seen) (notes_in q.seen) begins
    (notes_in later.0, sym (map-append (λ (e : Entry). e.note) p.seen later.0) ∙ ap notes_in later.1)

pub announcing_keeps : (w : WorkerView) (q : PassState) (later : List LaneView) → EachGoes Tells w.lanes later → IsPrefix w.pass.seen q.seen
    → IsInStep later q.own → IsSteady w → IsSteady (record w { pass = q; lanes = later })
announcing_keeps w q later goes seen in_step was =
    let keep : AllKeep w.lanes later = told-keep w.lanes later goes in record {
      begins = notes-begin w.pass q w.notes seen was.begins;
      within = was.within;
      image = was.image;
      in_step = in_step;
      passed = all-passed w.harts w.notes w.lanes later keep was.passed;
      settled = was.settled;
      judged = λ all are. all-judged w.lanes later keep w.image w.wide all (was.judged all are);
    }

-- the same whatever comes of it
pub announced_keeps : {X Y : Type 0} (result : Result X Y) (w : WorkerView) (q : PassState) (later : List LaneView)
    → OnOk result (EachGoes Tells w.lanes later) → OnErr result ((q ≡ w.pass) × (later ≡ w.lanes)) → IsPrefix w.pass.seen q.seen
    → IsInStep later q.own → IsSteady w → IsSteady (record w { pass = q; lanes = later }) × (length later ≡ length w.lanes)
announced_keeps (Ok x) w q later goes same seen in_step was = (announcing_keeps w q later goes seen in_step was, goes.size)
announced_keeps (Err y) w q later goes same seen in_step was = (
  subst (λ (p : PassState). IsSteady (record w { pass = p; lanes = later })) (sym same.0)
      (subst (λ (ls : List LaneView). IsSteady (record w { lanes = ls })) (sym same.1) was),
  ap length same.1,
)

-- looking

pub pass-further : PassedGoesOn → (harts stamp : ℕ) (notes later : List Note) → IsPrefix notes later → HasPassed harts notes stamp → HasPassed harts later stamp
pass-further goes_on harts stamp notes later begins was =
    subst (λ (ns : List Note). HasPassed harts ns stamp) begins.1 (goes_on harts stamp notes begins.0 was)

pub looking_keeps : PassedGoesOn → FrontsTellAllWrites → (w : WorkerView) (q : PassState) (r s : ReplicaState) (v : SettledView)
    → r.notes ≡ w.notes → r.harts ≡ w.harts → LooksFurther r.harts w.pass q r s w.settled v
    → IsSteady w → IsSteady (record w { image = v.image; pass = q; notes = s.notes; settled = v })
looking_keeps goes_on fronts w q r s v notes harts further was =
    let image : v.image ≡ w.image = further.image ∙ was.image in
    let begins : IsPrefix w.notes s.notes = subst (λ (ns : List Note). IsPrefix ns s.notes) notes further.notes in
    let earlier : (all : List Write) → AreAllWrites v.image w.harts s.notes all → AreAllWrites w.image w.harts w.notes all = λ all are.
    fronts w.image w.harts w.notes s.notes all begins (subst (λ (i : List ℕ). AreAllWrites i w.harts s.notes all) image are) in record {
      begins = further.begins;
      within = further.within;
      image = refl;
      in_step = subst (λ (own : List Note). IsInStep w.lanes own) (sym (ap (λ (p : PassState). p.own) further.pass)) was.in_step;
      passed = λ k d h j e g. pass-further goes_on w.harts (get_or (judged_of (get_or w.lanes k d)) j e).stamp w.notes s.notes begins (was.passed k d h j e g);
      settled = λ all are.
          further.stands all
          (subst (λ (h : ℕ). AreAllWrites w.settled.image h s.notes all) (sym harts)
          (subst (λ (i : List ℕ). AreAllWrites i w.harts s.notes all) further.image are))
          (subst (λ (ns : List Note). Stands w.settled (take w.settled.seen ns) all) (sym notes) (was.settled all (earlier all are)));
      judged = λ all are. subst (λ (i : List ℕ). AreJudgedBy w.lanes i w.wide all) (sym image) (was.judged all (earlier all are));
    }

-- judging

-- behind the judged records of a lane there is none of them
none-behind : (l : LaneView) → drop (judged_len l.run) (judged_of l) ≡ []
none-behind l = drop_all (judged_len l.run) (judged_of l) (omega (arith, length-take (judged_len l.run) (usable_of l.intake)))

pub judges-same : (m : History) (least : Option ℕ) (u : LaneView) → JudgesMore m least u u
judges-same m least u = record {
  same = refl;
  below = subst (All (λ (r : Record). IsTrue (is_below least r.stamp))) (sym (none-behind u)) (All-nil (λ (r : Record). IsTrue (is_below least r.stamp)));
  judged = λ wide all goes was. was;
}

judged-harts : (m : History) (least : Option ℕ) (lanes later : List LaneView) → EachGoes (JudgesMore m least) lanes later → SameHarts lanes later
judged-harts m least lanes later goes = record { size = goes.size; each = λ k d h. ap (λ (l : LaneView). l.intake.hart) (goes.each k d h).same }

judged-in_step : (m : History) (least : Option ℕ) (lanes later : List LaneView) (own : List Note) → EachGoes (JudgesMore m least) lanes later
    → IsInStep lanes own → IsInStep later own
judged-in_step m least lanes later own goes was =
    let same : SameHarts lanes later = judged-harts m least lanes later goes in record {
      apart = same-apart lanes later same was.apart;
      told = λ k d h.
          let k-in = here lanes later same k h in
          subst (λ (v : IntakeView). IsTold v own) (sym (ap (λ (l : LaneView). l.intake) (goes.each k d k-in).same)) (was.told k d k-in);
      no_other = λ hart others. was.no_other hart (same-others lanes later same hart others);
    }

below-passed : BelowMarkMayBeJudged → JudgedIsPassed → (harts : ℕ) (notes : List Note) (stamp : ℕ)
    → is_below (least_mark harts notes) stamp ≡ true → HasPassed harts notes stamp
below-passed may passed harts notes stamp below =
    subst (λ (ns : List Note). HasPassed harts ns stamp) (append-nil notes) (passed harts stamp notes [] (may harts stamp notes below))

-- what is so of the first n elements of a list, and of those behind them up to the m-th, is so of the first m
all-of_more : {X : Type 0} (P : X → Type 0) (xs : List X) (n m : ℕ) → All P (take n xs) → All P (drop n (take m xs)) → All P (take m xs)
all-of_more P xs n m first more = λ j d h.
    let size : length (take m xs) ≡ min m (length xs) = length-take m xs in
    let sized : length (take n xs) ≡ min n (length xs) = length-take n xs in
    let in-xs : j < min m (length xs) = subst (λ (k : ℕ). j < k) size h in
    elim (cases_lt j n) [
      | inl early ↦
          let same : get_or (take n xs) j d ≡ get_or (take m xs) j d = get_or-take n xs j d early ∙ sym (get_or-take m xs j d (omega arith)) in
          subst P same (first j d (omega arith))
      | inr late ↦
          let same : get_or (drop n (take m xs)) (j - n) d ≡ get_or (take m xs) j d =
          get_or-drop n (take m xs) (j - n) d ∙ ap (λ (k : ℕ). get_or (take m xs) k d) (omega arith) in
          let left = length-drop n (take m xs) in
          subst P same (more (j - n) d (omega arith))
    ]

judged-passed : BelowMarkMayBeJudged → JudgedIsPassed → (m : History) (harts : ℕ) (notes : List Note) (u v : LaneView)
    → JudgesMore m (least_mark harts notes) u v
    → All (λ (r : Record). HasPassed harts notes r.stamp) (judged_of u) → All (λ (r : Record). HasPassed harts notes r.stamp) (judged_of v)
judged-passed may passed m harts notes u v more was =
    let P : Record → Type 0 = λ r. HasPassed harts notes r.stamp in
    let usable : usable_of v.intake ≡ usable_of u.intake = ap (λ (l : LaneView). usable_of l.intake) more.same in
    let judged : judged_of v ≡ take (judged_len v.run) (usable_of u.intake) = ap (take (judged_len v.run)) usable in
    let below = subst (λ (rs : List Record). All (λ (r : Record). IsTrue (is_below (least_mark harts notes) r.stamp)) (drop (judged_len u.run) rs)) judged more.below in
    let later : All P (drop (judged_len u.run) (take (judged_len v.run) (usable_of u.intake))) = λ j d h. below-passed may passed harts notes _ (below j d h) in
    subst (All P) (sym judged) (all-of_more P (usable_of u.intake) (judged_len u.run) (judged_len v.run) was later)

-- each lane is judged by all writes after it was judged further
all-judged_more : (m : History) (least : Option ℕ) (lanes later : List LaneView) → EachGoes (JudgesMore m least) lanes later
    → (wide : Bool) (all : List Write) → Continues m.writes least all → AreJudgedBy lanes m.image wide all → AreJudgedBy later m.image wide all
all-judged_more m least lanes later goes wide all settled was = λ k d h.
    let k-in = here lanes later (judged-harts m least lanes later goes) k h in
    (goes.each k d k-in).judged wide all settled (was k d k-in)

pub judging_keeps : BelowMarkMayBeJudged → JudgedIsPassed → (w : WorkerView) (later : List LaneView)
    → EachGoes (JudgesMore (history w.settled.image w.settled.writes) (least_mark w.harts w.notes)) w.lanes later
    → HasSettled w → IsSteady w → IsSteady (record w { lanes = later })
judging_keeps may passed w later goes settled was =
    let m = history w.settled.image w.settled.writes in
    let least = least_mark w.harts w.notes in
    let same : SameHarts w.lanes later = judged-harts m least w.lanes later goes in record {
      begins = was.begins;
      within = was.within;
      image = was.image;
      in_step = judged-in_step m least w.lanes later w.pass.own goes was.in_step;
      passed = λ k d h.
          let k-in = here w.lanes later same k h in
          judged-passed may passed m w.harts w.notes (get_or w.lanes k d) (get_or later k d) (goes.each k d k-in) (was.passed k d k-in);
      settled = was.settled;
      judged = λ all are.
          subst (λ (i : List ℕ). AreJudgedBy later i w.wide all) was.image
          (all-judged_more m least w.lanes later goes w.wide all (settled.continues all are)
          (subst (λ (i : List ℕ). AreJudgedBy w.lanes i w.wide all) (sym was.image) (was.judged all are)));
    }

-- the same by what the calls say
pub judging_steady : BelowMarkMayBeJudged → JudgedIsPassed → (w : WorkerView) (later : List LaneView) (m : History) (least : Option ℕ)
    → m ≡ history w.settled.image w.settled.writes → least ≡ least_mark w.harts w.notes → EachGoes (JudgesMore m least) w.lanes later
    → HasSettled w → IsSteady w → IsSteady (record w { lanes = later })
judging_steady may passed w later m least is-m is-least goes =
    judging_keeps may passed w later
    (subst (λ (h : History). EachGoes (JudgesMore h (least_mark w.harts w.notes)) w.lanes later) is-m
    (subst (λ (l : Option ℕ). EachGoes (JudgesMore m l) w.lanes later) is-least goes))

-- a look

take-front : (n : ℕ) (xs ys : List Note) → IsPrefix xs ys → n ≤ length xs → take n xs ≡ take n ys
take-front n xs ys begins within = sym (take-append-le n xs begins.0 within) ∙ ap (take n) begins.1

module _ (promised : AllWritesArePromised) (p q : PassState) (r s : ReplicaState) (u v : SettledView)
    (same : q ≡ record p { seen = q.seen }) (seen : IsPrefix p.seen q.seen) (replica : s ≡ record r { notes = notes_in q.seen })
    (before : IsPrefix r.notes (notes_in p.seen)) (in-notes : u.seen ≤ length r.notes)
    (notes : List Note) (are-notes : notes ≡ s.notes) (least : Option ℕ) (is-least : least ≡ least_mark s.harts s.notes)
    (image : v.image ≡ u.image) (within : v.seen ≤ length notes) where
  caught : s.notes ≡ notes_in q.seen
  caught = ap (λ (t : ReplicaState). t.notes) replica

  later : IsPrefix r.notes s.notes
  later = subst (λ (ns : List Note). IsPrefix r.notes ns) (sym caught) (notes-begin p q r.notes seen before)

  promise : (all : List Write) → AreAllWrites u.image r.harts s.notes all → ArePromised u.image notes least all
  promise all are =
      subst (λ (ns : List Note). ArePromised u.image ns least all) (sym are-notes)
      (subst (λ (l : Option ℕ). ArePromised u.image s.notes l all) (sym is-least)
      (promised u.image s.harts s.notes s.notes all ([], append-nil s.notes)
      (subst (λ (h : ℕ). AreAllWrites u.image h s.notes all) (sym (ap (λ (t : ReplicaState). t.harts) replica)) are)))

  stood : (all : List Write) → Stands u (take u.seen r.notes) all → Stands u (take u.seen notes) all
  stood all = subst (λ (ns : List Note). Stands u ns all) (take-front u.seen r.notes s.notes later in-notes ∙ ap (take u.seen) (sym are-notes))

  looks : ((all : List Write) → ArePromised u.image notes least all → Stands u (take u.seen notes) all → Stands v (take v.seen notes) all)
      → LooksFurther r.harts p q r s u v
  looks stays = record {
    pass = same;
    seen = seen;
    replica = replica ∙ ap (λ (ns : List Note). record r { notes = ns }) (sym caught);
    notes = later;
    begins = ([], append-nil s.notes ∙ caught);
    image = image;
    within = subst (λ (ns : List Note). v.seen ≤ length ns) are-notes within;
    stands = λ all are was.
        subst (λ (ns : List Note). Stands v (take v.seen ns) all) are-notes (stays all (promise all are) (stood all was));
  }

  pub looks-stayed : StaysTrue u v notes least → LooksFurther r.harts p q r s u v
  looks-stayed stays = looks stays

  pub looks-settled : Settles u v notes least → v.seen ≡ length notes → LooksFurther r.harts p q r s u v
  looks-settled settles all-seen = looks (λ all are was.
      subst (λ (ns : List Note). Stands v ns all) (sym (ap (λ (n : ℕ). take n notes) all-seen ∙ take-length notes)) (settles all are was).0)

  pub looks-continues : Settles u v notes least → (all : List Write) → AreAllWrites v.image s.harts s.notes all
      → Stands u (take u.seen r.notes) all → Continues v.writes (least_mark s.harts s.notes) all
  looks-continues settles all are was =
      subst (λ (l : Option ℕ). Continues v.writes l all) is-least
      (settles all
      (promise all
      (subst (λ (h : ℕ). AreAllWrites u.image h s.notes all) (ap (λ (t : ReplicaState). t.harts) replica)
      (subst (λ (i : List ℕ). AreAllWrites i s.harts s.notes all) image are)))
      (stood all was)).1

-- after a look no write below the least mark is wanting

on_ok : {X Y P Q : Type 0} (result : Result X Y) → (P → Q) → OnOk result P → OnOk result Q
on_ok (Ok x) then was = then was
on_ok (Err y) then was = was

pub has_settled : {X Y : Type 0} → FrontsTellAllWrites → (w : WorkerView) (q : PassState) (r s : ReplicaState) (v : SettledView) (result : Result X Y)
    → r.notes ≡ w.notes → r.harts ≡ w.harts → LooksFurther r.harts w.pass q r s w.settled v → IsSteady w
    → OnOk result ((all : List Write) → AreAllWrites v.image s.harts s.notes all → Stands w.settled (take w.settled.seen r.notes) all
    → Continues v.writes (least_mark s.harts s.notes) all)
    → OnOk result (HasSettled (record w { image = v.image; pass = q; notes = s.notes; settled = v }))
has_settled fronts w q r s v result notes harts further was continues =
    let same : s.harts ≡ w.harts = ap (λ (t : ReplicaState). t.harts) further.replica ∙ harts in
    let image : v.image ≡ w.image = further.image ∙ was.image in
    let begins : IsPrefix w.notes s.notes = subst (λ (ns : List Note). IsPrefix ns s.notes) notes further.notes in
    on_ok result (λ settles. record {
      continues = λ all are.
          subst (λ (h : ℕ). Continues v.writes (least_mark h s.notes) all) same
          (settles all (subst (λ (h : ℕ). AreAllWrites v.image h s.notes all) (sym same) are)
          (subst (λ (ns : List Note). Stands w.settled (take w.settled.seen ns) all) (sym notes)
          (was.settled all
          (fronts w.image w.harts w.notes s.notes all begins (subst (λ (i : List ℕ). AreAllWrites i w.harts s.notes all) image are)))));
    })
    continues
