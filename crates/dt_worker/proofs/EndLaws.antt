use Rattle.std.proofs.Common.{ℕ, ◌≡◌, ◌<◌, ◌||◌, Bool, true, false, not, List, [], ◌∷◌, length, get_or, zero, suc, All, refl, sym, ap, ◌∙◌, subst, arith}
use Rattle.std.specs.Prelude.{IsTrue}
use Rattle.std.proofs.lemmas.Bool.{not-true, false≢true}
use Rattle.std.proofs.lemmas.List.{append-nil}
use mathlib.Core.List.{IsPrefix}
use Rattle.dt_record.specs.declared.records.Record.{Record}
use Rattle.dt_record.specs.declared.writes.Note.{Note}
use Rattle.dt_record.specs.Marks.{HasPassed, PassedGoesOn}
use Rattle.dt_queue.specs.declared.ends.Take.{Take}
use Rattle.dt_record.specs.Writes.{by_key}
use Rattle.dt_core.specs.Notes.{announced}
use Rattle.dt_intake.specs.Intakes.{IntakeView}
use Rattle.dt_intake.specs.Told.{IsTold, own_notes}
use Rattle.dt_intake.specs.Laws.{NothingIsTold}
use Rattle.dt_settled.specs.AllWrites.{AreAllWrites, FrontsTellAllWrites, OrderlyWritesMayBeAll}
use Rattle.dt_settled.specs.Laws.{SeeingStarts}
use Rattle.dt_settled.specs.Settling.{SettledView, new_settled}
use Rattle.dt_shared.specs.Entries.{notes_in}
use Rattle.dt_shared.specs.Passes.{PassState, new_pass}
use Rattle.dt_lane.specs.declared.ends.HartEnd.{HartEnd}
use Rattle.dt_lane.specs.Lanes.{LaneView, judged_of, IsJudgedBy, is_done}
use Rattle.dt_worker.specs.declared.ends.WorkerEnd.{WorkerEnd}
use Rattle.dt_worker.specs.Ends.{has_finished, IsHartEnd, IsWorkerEnd}
use Rattle.dt_worker.specs.LaneEnds.{IsLaneEnd, AreLaneEnds, IsOpened, AreOpened}
use Rattle.dt_worker.specs.Laws.{OutcomesOverItsOwnHistory}
use Rattle.dt_worker.specs.Steps.{Goes, IsInStep, IsSteady, SameLane}
use Rattle.dt_worker.specs.Workers.{AreNewLanes, AreOfDifferentHarts, WorkerView}
use Rattle.dt_worker.proofs.Steadiness.{prefix-chain, pass-further}

-- How a worker begins, goes on and ends.

-- going on

pub goes_further : (u v w : WorkerView) → Goes u v → Goes v w → Goes u w
goes_further u v w first second = record {
  harts = second.harts ∙ first.harts;
  wide = second.wide ∙ first.wide;
  image = second.image ∙ first.image;
  pass = record {
    of = second.pass.of ∙ first.pass.of;
    number = second.pass.number ∙ first.pass.number;
    seen = prefix-chain u.pass.seen v.pass.seen w.pass.seen first.pass.seen second.pass.seen;
  };
  lanes = record {
    size = second.lanes.size ∙ first.lanes.size;
    each = λ k d h.
        let there : k < length v.lanes = let size = first.lanes.size in omega arith in
        let one = first.lanes.each k d h in
        let two = second.lanes.each k d there in record { queue = two.queue ∙ one.queue; hart = two.hart ∙ one.hart };
  };
}

-- ending

ends_len : (ls : List LaneView) (ts : List (ℕ × Take)) (es : List HartEnd) → AreLaneEnds ls ts es
    → (length ts ≡ length ls) × (length es ≡ length ls)
ends_len [] [] [] are = (refl, refl)
ends_len [] [] (e ∷ es) are = absurd are
ends_len [] (t ∷ ts) es are = absurd are
ends_len (l ∷ ls) [] es are = absurd are
ends_len (l ∷ ls) (t ∷ ts) [] are = absurd are
ends_len (l ∷ ls) (t ∷ ts) (e ∷ es) are = let rest = ends_len ls ts es are.1 in (ap suc rest.0, ap suc rest.1)

ends_at : (ls : List LaneView) (ts : List (ℕ × Take)) (es : List HartEnd) → AreLaneEnds ls ts es
    → (k : ℕ) (l : LaneView) (t : ℕ × Take) (e : HartEnd) → k < length ls → IsLaneEnd (get_or ls k l) (get_or ts k t) (get_or es k e)
ends_at [] [] [] are k l t e h = absurd (omega arith)
ends_at [] [] (x ∷ es) are k l t e h = absurd are
ends_at [] (x ∷ ts) es are k l t e h = absurd are
ends_at (x ∷ ls) [] es are k l t e h = absurd are
ends_at (x ∷ ls) (y ∷ ts) [] are k l t e h = absurd are
ends_at (x ∷ ls) (y ∷ ts) (z ∷ es) are zero l t e h = are.0
ends_at (x ∷ ls) (y ∷ ts) (z ∷ es) are (suc k) l t e h = ends_at ls ts es are.1 k l t e (omega arith)

or-parts : (a b : Bool) → not (a || b) ≡ true → (a ≡ false) × (b ≡ false)
or-parts false b is = (refl, not-true b is)
or-parts true b is = absurd (false≢true is)

pub worker-end : PassedGoesOn → FrontsTellAllWrites → (w : WorkerView) (e : WorkerEnd) → IsSteady w → e.pass ≡ w.pass
    → AreLaneEnds w.lanes e.takes.items e.harts.items → e.refused ≡ w.pass.stopped → (e.stopped ≡ true → w.pass.saw_stop ≡ true)
    → (w.pass.stopped ≡ false → e.stopped ≡ false → All (λ l. IsTrue (is_done l)) w.lanes) → IsWorkerEnd w e
worker-end goes_on fronts w e was same ends refused stopped done =
    let begins : IsPrefix w.notes (notes_in e.pass.seen) = subst (λ (p : PassState). IsPrefix w.notes (notes_in p.seen)) (sym same) was.begins in
    let sizes = ends_len w.lanes e.takes.items e.harts.items ends in
    let in_step : IsInStep w.lanes e.pass.own = subst (λ (p : PassState). IsInStep w.lanes p.own) (sym same) was.in_step in record {
      pass = record {
        of = ap (λ (p : PassState). p.of) same;
        number = ap (λ (p : PassState). p.number) same;
        seen = ([], append-nil w.pass.seen ∙ sym (ap (λ (p : PassState). p.seen) same));
      };
      takes = sizes.0;
      harts = sizes.1;
      each = λ k l t h g.
          let end = ends_at w.lanes e.takes.items e.harts.items ends k l t h g in record {
            lane = get_or w.lanes k l;
            is_lane = end.lane;
            same_queue = refl;
            same_hart = refl;
            take_hart = end.number;
            queue = end.queue;
            hart = end.hart;
            popped = end.popped;
            taken_are = end.taken_are;
            told = in_step.told k l g;
            passed = λ j r i. pass-further goes_on w.harts (get_or (judged_of (get_or w.lanes k l)) j r).stamp w.notes (notes_in e.pass.seen) begins (was.passed k l g j r i);
            judged = λ all are. was.judged all (fronts w.image w.harts w.notes (notes_in e.pass.seen) all begins are) k l g;
            count = end.count;
            outcome_is = end.outcome_is;
            notes_are = end.notes_are;
            done = λ finished.
                let flags = or-parts e.refused e.stopped finished in done (sym refused ∙ flags.0) flags.1 k l g;
          };
      no_other = in_step.no_other;
      refused = refused ∙ sym (ap (λ (p : PassState). p.stopped) same);
      stopped = λ is. ap (λ (p : PassState). p.saw_stop) same ∙ stopped is;
    }

-- the end of a later worker is that of an earlier one

same-end : (u v : WorkerView) (pass : PassState) (finished : Bool) (a b : LaneView) (t : ℕ × Take) (h : HartEnd)
    → v.harts ≡ u.harts → v.wide ≡ u.wide → v.image ≡ u.image → SameLane a b → IsHartEnd v pass finished b t h → IsHartEnd u pass finished a t h
same-end u v pass finished a b t h harts wide image same is = record {
  lane = is.lane;
  is_lane = is.is_lane;
  same_queue = is.same_queue ∙ same.queue;
  same_hart = is.same_hart ∙ same.hart;
  take_hart = is.take_hart ∙ same.hart;
  queue = is.queue ∙ same.queue;
  hart = is.hart ∙ same.hart;
  popped = is.popped;
  taken_are = is.taken_are;
  told = is.told;
  passed = subst (λ (n : ℕ). All (λ (r : Record). HasPassed n (notes_in pass.seen) r.stamp) (judged_of is.lane)) harts is.passed;
  judged = λ all are.
      subst (λ (i : List ℕ). IsJudgedBy is.lane i u.wide all) image
      (subst (λ (b : Bool). IsJudgedBy is.lane v.image b all) wide
      (is.judged all
      (subst (λ (i : List ℕ). AreAllWrites i v.harts (notes_in pass.seen) all) (sym image)
      (subst (λ (n : ℕ). AreAllWrites u.image n (notes_in pass.seen) all) (sym harts) are))));
  count = is.count;
  outcome_is = is.outcome_is;
  notes_are = is.notes_are;
  done = is.done;
}

pub end_of_later : (u v : WorkerView) (e : WorkerEnd) → Goes u v → IsWorkerEnd v e → IsWorkerEnd u e
end_of_later u v e goes is =
    let size : length v.lanes ≡ length u.lanes = goes.lanes.size in
    let there : (k : ℕ) → k < length u.lanes → k < length v.lanes = λ k h. omega arith in record {
      pass = record {
        of = is.pass.of ∙ goes.pass.of;
        number = is.pass.number ∙ goes.pass.number;
        seen = prefix-chain u.pass.seen v.pass.seen e.pass.seen goes.pass.seen is.pass.seen;
      };
      takes = is.takes ∙ size;
      harts = is.harts ∙ size;
      each = λ k l t h g.
          same-end u v e.pass (has_finished e) (get_or u.lanes k l) (get_or v.lanes k l) (get_or e.takes.items k t) (get_or e.harts.items k h)
          goes.harts goes.wide goes.image (goes.lanes.each k l g) (is.each k l t h (there k g));
      no_other = λ hart others. is.no_other hart (λ j d g same.
          let here : j < length u.lanes = omega arith in
          others j d here (sym (goes.lanes.each j d here).hart ∙ same));
      refused = is.refused;
      stopped = is.stopped;
    }

-- beginning

pub opened_len : (wide : Bool) (ts : List (ℕ × Take)) (ls : List LaneView) → AreOpened wide ts ls → length ls ≡ length ts
opened_len wide [] [] are = refl
opened_len wide [] (l ∷ ls) are = absurd are
opened_len wide (t ∷ ts) [] are = absurd are
opened_len wide (t ∷ ts) (l ∷ ls) are = ap suc (opened_len wide ts ls are.1)

opened_at : (wide : Bool) (ts : List (ℕ × Take)) (ls : List LaneView) → AreOpened wide ts ls
    → (k : ℕ) (t : ℕ × Take) (l : LaneView) → k < length ls → IsOpened wide (get_or ts k t) (get_or ls k l)
opened_at wide [] [] are k t l h = absurd (omega arith)
opened_at wide [] (x ∷ ls) are k t l h = absurd are
opened_at wide (y ∷ ts) [] are k t l h = absurd are
opened_at wide (y ∷ ts) (x ∷ ls) are zero t l h = are.0
opened_at wide (y ∷ ts) (x ∷ ls) are (suc k) t l h = opened_at wide ts ls are.1 k t l (omega arith)

pub opened-lanes : (wide : Bool) (ts : List (ℕ × Take)) (ls : List LaneView) → AreOpened wide ts ls → AreNewLanes ts ls
opened-lanes wide ts ls are =
    let size : length ls ≡ length ts = opened_len wide ts ls are in record {
      size = size;
      each = λ k t l h. (opened_at wide ts ls are k t l (omega arith)).fresh;
    }

any-take : (ts : List (ℕ × Take)) (k : ℕ) → k < length ts → ℕ × Take
any-take [] k h = absurd (omega arith)
any-take (t ∷ ts) k h = t

pub opened_steady : NothingIsTold → SeeingStarts → (harts : ℕ) (wide : Bool) (image : List ℕ) (pass : PassState) (ts : List (ℕ × Take)) (ls : List LaneView)
    → AreOfDifferentHarts ts → AreOpened wide ts ls → pass ≡ new_pass pass.of pass.number
    → IsSteady (record { harts = harts; wide = wide; image = image; pass = pass; lanes = ls; notes = []; settled = new_settled image })
opened_steady none starts harts wide image pass ts ls apart are new =
    let own : pass.own ≡ [] = ap (λ (p : PassState). p.own) new in
    let size : length ls ≡ length ts = opened_len wide ts ls are in
    let at : (k : ℕ) (d : LaneView) (h : k < length ls) (t : ℕ × Take) → IsOpened wide (get_or ts k t) (get_or ls k d) = λ k d h t. opened_at wide ts ls are k t d h in record {
      begins = (notes_in pass.seen, refl);
      within = omega arith;
      image = refl;
      in_step = record {
        apart = record {
          each = λ j k d h g ne same.
              let t = any-take ts j (omega arith) in
              apart.each j k t (omega arith) (omega arith) ne
              (sym (ap (λ (v : IntakeView). v.hart) (at j d h t).fresh.intake) ∙ same ∙ ap (λ (v : IntakeView). v.hart) (at k d g t).fresh.intake);
        };
        told = λ k d h.
            let opened = at k d h (any-take ts k (omega arith)) in
            subst (λ (ns : List Note). IsTold (get_or ls k d).intake ns) (sym own)
            (subst (λ (v : IntakeView). IsTold v []) (sym opened.fresh.intake) (none _));
        no_other = λ hart others. ap (own_notes hart) own;
      };
      passed = λ k d h.
          let opened = at k d h (any-take ts k (omega arith)) in
          subst (λ (rs : List Record). All (λ (r : Record). HasPassed harts [] r.stamp) rs) (sym opened.unjudged) (λ j r i. absurd (omega (arith, i)));
      settled = λ all may. starts image all;
      judged = λ all may k d h. (at k d h (any-take ts k (omega arith))).judged image all;
    }

-- the same by what the calls say

pub opened_worker : NothingIsTold → SeeingStarts → (harts : ℕ) (wide : Bool) (image : List ℕ) (settled : SettledView) (pass given : PassState) (notes : List Note)
    (ts : List (ℕ × Take)) (ls : List LaneView)
    → settled ≡ new_settled image → notes ≡ [] → pass ≡ given → AreOfDifferentHarts ts → AreOpened wide ts ls → given ≡ new_pass given.of given.number
    → IsSteady (record { harts = harts; wide = wide; image = settled.image; pass = pass; lanes = ls; notes = notes; settled = settled })
opened_worker none starts harts wide image settled pass given notes ts ls is-settled is-notes is-pass apart are new =
    subst (λ (s : SettledView). IsSteady (record { harts = harts; wide = wide; image = s.image; pass = pass; lanes = ls; notes = notes; settled = s })) (sym is-settled)
    (subst (λ (ns : List Note). IsSteady (record { harts = harts; wide = wide; image = image; pass = pass; lanes = ls; notes = ns; settled = new_settled image })) (sym is-notes)
    (subst (λ (p : PassState). IsSteady (record { harts = harts; wide = wide; image = image; pass = p; lanes = ls; notes = []; settled = new_settled image })) (sym is-pass)
    (opened_steady none starts harts wide image given ts ls apart are new)))

-- the writes of an orderly history

any-lane : (ls : List LaneView) (k : ℕ) → k < length ls → LaneView
any-lane [] k h = absurd (omega arith)
any-lane (l ∷ ls) k h = l

any-given : (ts : List (ℕ × Take)) (ls : List LaneView) (k : ℕ) → length ts ≡ length ls → k < length ls → ℕ × Take
any-given [] ls k size h = absurd (omega arith)
any-given (t ∷ ts) ls k size h = t

pub own-history : OrderlyWritesMayBeAll → OutcomesOverItsOwnHistory
own-history may w e k h is orderly g =
    let t = any-given e.takes.items w.lanes k is.takes g in
    let end = is.each k (any-lane w.lanes k g) t h g in record {
      lane = end.lane;
      hart = end.same_hart ∙ sym end.hart;
      taken_are = sym end.taken_are;
      judged = end.judged (by_key (announced (notes_in e.pass.seen))) (may w.image w.harts (notes_in e.pass.seen) orderly);
      count = end.count;
      outcome_is = end.outcome_is;
      notes_are = end.notes_are;
    }
