-- A lane after one more record was popped from its queue.
use Rattle.std.proofs.Common.{ℕ, ◌≡◌, ◌≤◌, false, List, [], ◌∷◌, ◌++◌, length, take, refl, sym, ap, ◌∙◌, subst, inl, inr, arith}
use Rattle.std.proofs.lemmas.Bool.{cases_Bool}
use Rattle.std.proofs.lemmas.List.{append-nil, length-append, take-append-le}
use Rattle.std.proofs.lemmas.List.Elements.{All-append, All-cons, All-nil}
use mathlib.Core.List.{IsPrefix}
use Rattle.dt_record.specs.declared.records.Record.{Record}
use Rattle.dt_queue.specs.Queue.{QueueName}
use Rattle.dt_intake.specs.Fronts.{stamp_after}
use Rattle.dt_intake.specs.Intakes.{IntakeView, is_feed_end, usable_of, with_record}
use Rattle.dt_intake.specs.Laws.{UsableFrontGrows}
use Rattle.dt_runs.specs.RunView.{RunView}
use Rattle.dt_lane.specs.Lanes.{IsLane, IsPopped, LaneView, judged_len, judged_of}

-- the first of more records are the first ones
front_kept : (n : ℕ) (old new : List Record) → IsPrefix old new → n ≤ length old → take n new ≡ take n old
front_kept n old new begins within = ap (take n) (sym begins.1) ∙ take-append-le n old begins.0 within

-- the usable records go on when one more is taken, or the feed ends
usable_goes_on : UsableFrontGrows → (v : IntakeView) (r : Record) → IsPrefix (usable_of v) (usable_of (with_record v r))
usable_goes_on grows v r = elim (cases_Bool (is_feed_end r)) [
  | inl ends ↦ rw ends ([], append-nil (usable_of v))
  | inr plain ↦ rw plain (grows v.hart v.taken (r ∷ []))
]

popped_more : (v : IntakeView) (popped : List Record) (r : Record) → v.ended ≡ false → IsPopped v.ended v.taken popped
    → IsPopped (with_record v r).ended (with_record v r).taken (popped ++ r ∷ [])
popped_more v popped r goes_on was = elim (cases_Bool (is_feed_end r)) [
  | inl ends ↦ rw ends (record {
    plain = was.plain;
    open_still = λ still. absurd (cc);
    over = λ now. (r, ends, ap (λ rs. rs ++ r ∷ []) (was.open_still goes_on));
  })
  | inr plain ↦ rw plain (record {
    plain = All-append (λ q. is_feed_end q ≡ false) v.taken (r ∷ []) was.plain (All-cons (λ q. is_feed_end q ≡ false) r [] plain (All-nil (λ q. is_feed_end q ≡ false)));
    open_still = λ still. ap (λ rs. rs ++ r ∷ []) (was.open_still goes_on);
    over = λ now. absurd (cc);
  })
]

abbrev lane_of : QueueName → List Record → IntakeView → RunView → LaneView
lane_of queue popped intake run = record { queue = queue; popped = popped; intake = intake; run = run }

-- a lane whose next record was popped, once its intake has room
pub popped_into : UsableFrontGrows → (l new : LaneView) (roomy : IntakeView) (r : Record) → IsLane l → l.intake.ended ≡ false
    → roomy ≡ record l.intake { room = roomy.room } → new.popped ≡ l.popped ++ r ∷ [] → new.intake ≡ with_record roomy r → new.run ≡ l.run
    → IsLane new × (judged_of new ≡ judged_of l)
popped_into grows l new roomy r is goes_on had popped taken same =
    let v : IntakeView = record l.intake { room = roomy.room } in
    let next : IntakeView = with_record v r in
    let after : new.intake ≡ next = taken ∙ ap (λ (w : IntakeView). with_record w r) had in
    let plain : LaneView = record { queue = new.queue; popped = l.popped ++ r ∷ []; intake = next; run = l.run } in
    let whole : new ≡ plain =
    ap (λ (rs : List Record). lane_of new.queue rs new.intake new.run) popped ∙ ap (λ (w : IntakeView). lane_of new.queue (l.popped ++ r ∷ []) w new.run) after
    ∙ ap (λ (run : RunView). lane_of new.queue (l.popped ++ r ∷ []) next run) same in
    let on = usable_goes_on grows v r in
    let hart : next.hart ≡ l.intake.hart = elim (cases_Bool (is_feed_end r)) [ inl ends ↦ rw ends refl | inr other ↦ rw other refl ] in
    let longer : length (usable_of l.intake) ≤ length (usable_of next) = omega (arith, ap length on.1, length-append (usable_of l.intake) on.0) in
    let kept : IsLane plain = record {
      number = is.number ∙ sym hart;
      popped = popped_more v l.popped r goes_on is.popped;
      within = omega (arith, is.within);
      stamp = is.stamp ∙ ap (stamp_after 0) (sym (front_kept l.run.hart.seq (usable_of l.intake) (usable_of next) on (omega (arith, is.within))));
    } in (
      subst IsLane (sym whole) kept,
      ap judged_of whole ∙ front_kept (judged_len l.run) (usable_of l.intake) (usable_of next) on is.within,
    )
