-- A lane after its next usable record was judged.
use Rattle.std.proofs.Common.{ℕ, ◌≡◌, ◌≤◌, ◌<◌, ◌+◌, ◌-◌, Bool, Option, Some, None, is_some, List, [], ◌∷◌, ◌++◌, length, get_or, take, drop, All, if◌then◌else◌, refl, sym, ap, ◌∙◌, subst, inl, inr, arith}
use Rattle.std.specs.Prelude.{IfNone, IfSome, IsTrue}
use Rattle.std.proofs.lemmas.Bool.{cases_lt}
use Rattle.std.proofs.lemmas.List.Elements.{All-cons, All-nil}
use Rattle.std.proofs.lemmas.List.{append_assoc, drop_at, get_or-drop, get_or_append_left, length-drop, length-take, take-append-drop, take_more}
use mathlib.Core.List.{IsPrefix}
use Rattle.dt_core.specs.Marks.{is_below}
use Rattle.dt_record.specs.declared.records.Record.{Record}
use Rattle.dt_record.specs.declared.writes.Write.{Write}
use Rattle.dt_verdict.specs.declared.verdicts.Failure.{Failure}
use Rattle.dt_versions.specs.History.{History}
use Rattle.dt_intake.specs.Fronts.{AreUsable, MayBeNext, stamp_after}
use Rattle.dt_intake.specs.Intakes.{usable_of}
use Rattle.dt_runs.specs.RunView.{RunView}
use Rattle.dt_runs.specs.Runs.{AreOwn, HoldsUntil, Runs, RunsOn}
use Rattle.dt_settled.specs.Laws.{EarlyWritesHaveSettled}
use Rattle.dt_settled.specs.Settling.{Continues}
use Rattle.dt_lane.specs.Lanes.{IsJudgedBy, IsLane, LaneView, judged_len, judged_of}

take_push : (rs : List Record) (n : ℕ) (r : Record) → n < length rs → r ≡ get_or rs n r → take (n + 1) rs ≡ take n rs ++ r ∷ []
take_push rs n r within is = take_more rs n r within ∙ ap (λ (q : Record). take n rs ++ q ∷ []) (sym is)

last_stamp-push : (stamp : ℕ) (rs : List Record) (r : Record) → stamp_after stamp (rs ++ r ∷ []) ≡ r.stamp
last_stamp-push stamp [] r = refl
last_stamp-push stamp (q ∷ qs) r = last_stamp-push q.stamp qs r

-- the records split at one
split_at : (rs : List Record) (n : ℕ) (r : Record) → n < length rs → r ≡ get_or rs n r → rs ≡ take n rs ++ r ∷ drop (n + 1) rs
split_at rs n r within is =
    sym (take-append-drop (n + 1) rs) ∙ ap (λ (first : List Record). first ++ drop (n + 1) rs) (take_push rs n r within is)
    ∙ append_assoc (take n rs) (r ∷ []) (drop (n + 1) rs)

-- the lane with what became of its run
abbrev pub with_run : LaneView → RunView → LaneView
with_run l run = record { queue = l.queue; popped = l.popped; intake = l.intake; run = run }

-- the next usable record of a lane that has not failed
pub record IsNext (l : LaneView) (r : Record) : Type 0 where
  pub lane : IsLane l
  pub none : l.run.failure ≡ None
  pub within : l.run.hart.seq < length (usable_of l.intake)
  pub there : r ≡ get_or (usable_of l.intake) l.run.hart.seq r

-- what one step says of it
pub record WasJudged (old new : RunView) (r : Record) : Type 0 where
  pub number : new.hart.arch.hart ≡ old.hart.arch.hart
  pub counted : IfNone new.failure (new.hart.seq ≡ old.hart.seq + 1)
  pub stamp : IfNone new.failure (new.hart.stamp ≡ r.stamp)
  pub stays : IfSome new.failure (λ (f : Failure). new.hart ≡ old.hart)

-- the record that was found at the place of the next one
pub found_next : (l : LaneView) (found : List Record) (place : ℕ) (r : Record) → IsLane l → l.run.failure ≡ None → found ≡ usable_of l.intake → place ≡ l.run.hart.seq
    → place < length found → r ≡ get_or found place r → IsNext l r
found_next l found place r is none same its within there = record {
  lane = is;
  none = none;
  within = subst (λ (us : List Record). l.run.hart.seq < length us) same (subst (λ (n : ℕ). n < length found) its within);
  there = subst (λ (us : List Record). r ≡ get_or us l.run.hart.seq r) same (subst (λ (n : ℕ). r ≡ get_or found n r) its there);
}

pub next_may_be : (l : LaneView) (r : Record) (found : List Record) → IsNext l r → found ≡ usable_of l.intake → AreUsable l.intake.hart found
    → MayBeNext l.intake.hart l.run.hart.seq l.run.hart.stamp r
next_may_be l r found is same are =
    let us = usable_of l.intake in
    let n = l.run.hart.seq in
    let usable = subst (AreUsable l.intake.hart) same are in
    let count : length (take n us) ≡ n = omega (arith, length-take n us, is.within) in
    subst (λ (k : ℕ). MayBeNext l.intake.hart k l.run.hart.stamp r) count
    (subst (λ (s : ℕ). MayBeNext l.intake.hart (length (take n us)) s r) (sym is.lane.stamp) (usable (take n us) (drop (n + 1) us) r (split_at us n r is.within is.there)))

-- a run that has failed has judged one record more than are allowed
abbrev failing : Option Failure → ℕ
failing o = if is_some o then 1 else 0

unjudged : (old : RunView) → old.failure ≡ None → judged_len old ≡ old.hart.seq
unjudged old none =
    let no_more : failing old.failure ≡ 0 = ap failing none in
    ap (λ (n : ℕ). old.hart.seq + n) no_more ∙ (let same : old.hart.seq + 0 ≡ old.hart.seq = omega arith in same)

one_more : (old new : RunView) (r : Record) (failure : Option Failure) → new.failure ≡ failure → WasJudged old new r → judged_len new ≡ old.hart.seq + 1
one_more old new r None is was =
    let counted : new.hart.seq ≡ old.hart.seq + 1 = subst (λ (o : Option Failure). IfNone o (new.hart.seq ≡ old.hart.seq + 1)) is was.counted in
    let no_more : failing new.failure ≡ 0 = ap failing is in
    ap (λ (n : ℕ). new.hart.seq + n) no_more ∙ (let same : new.hart.seq + 0 ≡ old.hart.seq + 1 = omega arith in same)
one_more old new r (Some f) is was =
    let stays : new.hart ≡ old.hart = subst (λ (o : Option Failure). IfSome o (λ (g : Failure). new.hart ≡ old.hart)) is was.stays in
    let same : new.hart.seq ≡ old.hart.seq = cc in
    let one : failing new.failure ≡ 1 = ap failing is in
    ap (λ (n : ℕ). new.hart.seq + n) one ∙ ap (λ (n : ℕ). n + 1) same

pub judged_more : (l : LaneView) (new : RunView) (r : Record) → IsNext l r → WasJudged l.run new r → judged_of (with_run l new) ≡ judged_of l ++ r ∷ []
judged_more l new r is was =
    let us = usable_of l.intake in
    ap (λ (n : ℕ). take n us) (one_more l.run new r new.failure refl was) ∙ take_push us l.run.hart.seq r is.within is.there
    ∙ ap (λ (n : ℕ). take n us ++ r ∷ []) (sym (unjudged l.run is.none))

stamp_follows : (l : LaneView) (new : RunView) (r : Record) (failure : Option Failure) → new.failure ≡ failure → IsNext l r → WasJudged l.run new r
    → new.hart.stamp ≡ stamp_after 0 (take new.hart.seq (usable_of l.intake))
stamp_follows l new r None failed is was =
    let us = usable_of l.intake in
    let n = l.run.hart.seq in
    let counted : new.hart.seq ≡ n + 1 = subst (λ (o : Option Failure). IfNone o (new.hart.seq ≡ n + 1)) failed was.counted in
    subst (λ (o : Option Failure). IfNone o (new.hart.stamp ≡ r.stamp)) failed was.stamp
    ∙ sym (ap (λ (k : ℕ). stamp_after 0 (take k us)) counted ∙ ap (stamp_after 0) (take_push us n r is.within is.there) ∙ last_stamp-push 0 (take n us) r)
stamp_follows l new r (Some f) failed is was =
    let stays : new.hart ≡ l.run.hart = subst (λ (o : Option Failure). IfSome o (λ (g : Failure). new.hart ≡ l.run.hart)) failed was.stays in
    let seq : new.hart.seq ≡ l.run.hart.seq = cc in
    let stamp : new.hart.stamp ≡ l.run.hart.stamp = cc in
    stamp ∙ is.lane.stamp ∙ ap (λ (n : ℕ). stamp_after 0 (take n (usable_of l.intake))) (sym seq)

pub judging_keeps : (l : LaneView) (new : RunView) (r : Record) → IsNext l r → WasJudged l.run new r → IsLane (with_run l new)
judging_keeps l new r is was = record {
  number = was.number ∙ is.lane.number;
  popped = is.lane.popped;
  within = omega (arith, one_more l.run new r new.failure refl was, is.within);
  stamp = stamp_follows l new r new.failure refl is was;
}

pub judged_below : (l : LaneView) (new : RunView) (r : Record) (least : Option ℕ) → IsNext l r → WasJudged l.run new r → IsTrue (is_below least r.stamp)
    → All (λ (q : Record). IsTrue (is_below least q.stamp)) (drop (judged_len l.run) (judged_of (with_run l new)))
judged_below l new r least is was below =
    let us = usable_of l.intake in
    let count : length (judged_of l) ≡ judged_len l.run = omega (arith, length-take (judged_len l.run) us, is.lane.within) in
    let P : Record → Type 0 = λ q. IsTrue (is_below least q.stamp) in
    subst (All P)
    (sym (ap (drop (judged_len l.run)) (judged_more l new r is was) ∙ drop_at (judged_of l) (r ∷ []) (judged_len l.run) count)) (All-cons P r [] below (All-nil P))

pub judged_on : EarlyWritesHaveSettled → (l : LaneView) (new : RunView) (m : History) (least : Option ℕ) (r : Record) → IsNext l r → WasJudged l.run new r
    → IsTrue (is_below least r.stamp) → RunsOn l.run new m r → (wide : Bool) (all : List Write) → Continues m.writes least all
    → IsJudgedBy l m.image wide all → IsJudgedBy (with_run l new) m.image wide all
judged_on settled l new m least r is was below on wide all goes so_far = record {
  runs = λ own are begins.
      let old = judged_of l in
      let more = judged_more l new r is was in
      let split : own ≡ old ++ r ∷ begins.0 = sym begins.1 ∙ ap (λ (rs : List Record). rs ++ begins.0) more ∙ append_assoc old (r ∷ []) begins.0 in
      let early = settled m.writes all least r.stamp goes below in
      let until : HoldsUntil m.writes r.stamp all = record { later = early.0; are = early.1; after = early.2 } in
      let its : AreOwn all l.run.hart.arch.hart own = subst (λ (hart : ℕ). AreOwn all hart own) (sym is.lane.number) are in
      let before = so_far.runs own are (r ∷ begins.0, sym split) in
      subst (Runs new m.image all wide) (sym more) (on all wide [] old begins.0 (subst (AreOwn all l.run.hart.arch.hart) split its) until before);
}

-- ---- several records

pub goes_further : (old mid new : List Record) → IsPrefix old mid → IsPrefix mid new → IsPrefix old new
goes_further old mid new first more =
    (first.0 ++ more.0, sym (append_assoc old first.0 more.0) ∙ ap (λ (rs : List Record). rs ++ more.0) first.1 ∙ more.1)

-- what holds of the records from one place on, and then of those behind the next, holds of all
pub below_further : (P : Record → Type 0) (us : List Record) (a b c : ℕ) → IsPrefix (take b us) (take c us) → All P (drop a (take b us))
    → All P (drop b (take c us)) → All P (drop a (take c us))
below_further P us a b c begins first more k d within =
    let mid = take b us in
    let new = take c us in
    let long : a + k < length new = omega (arith, within, length-drop a new) in
    elim (cases_lt (a + k) (length mid)) [
      | inl early ↦
          let inside : k < length (drop a mid) = omega (arith, early, length-drop a mid) in
          let same : get_or (drop a mid) k d ≡ get_or (drop a new) k d =
          get_or-drop a mid k d ∙ sym (get_or_append_left mid begins.0 d (a + k) early) ∙ ap (λ (rs : List Record). get_or rs (a + k) d) begins.1
          ∙ sym (get_or-drop a new k d) in
          subst P same (first k d inside)
      | inr late ↦
          let behind : b ≤ a + k = omega (arith, late, long, length-take b us, length-take c us) in
          let place : b + (a + k - b) ≡ a + k = omega arith in
          let inside : a + k - b < length (drop b new) = omega (arith, long, length-drop b new) in
          let same : get_or (drop b new) (a + k - b) d ≡ get_or (drop a new) k d =
          get_or-drop b new (a + k - b) d ∙ ap (λ (n : ℕ). get_or new n d) place ∙ sym (get_or-drop a new k d) in
          subst P same (more (a + k - b) d inside)
    ]

pub lanes_below : (least : Option ℕ) (old mid new : LaneView) → new ≡ record mid { run = new.run } → IsPrefix (judged_of mid) (judged_of new)
    → All (λ (q : Record). IsTrue (is_below least q.stamp)) (drop (judged_len old.run) (judged_of mid))
    → All (λ (q : Record). IsTrue (is_below least q.stamp)) (drop (judged_len mid.run) (judged_of new))
    → All (λ (q : Record). IsTrue (is_below least q.stamp)) (drop (judged_len old.run) (judged_of new))
lanes_below least old mid new same begins first more =
    let P : Record → Type 0 = λ q. IsTrue (is_below least q.stamp) in
    let is : judged_of new ≡ take (judged_len new.run) (usable_of mid.intake) = ap (λ (l : LaneView). take (judged_len new.run) (usable_of l.intake)) same in
    subst (λ (rs : List Record). All P (drop (judged_len old.run) rs)) (sym is)
    (below_further P (usable_of mid.intake) (judged_len old.run) (judged_len mid.run) (judged_len new.run) (begins.0, begins.1 ∙ is) first
    (subst (λ (rs : List Record). All P (drop (judged_len mid.run) rs)) is more))
