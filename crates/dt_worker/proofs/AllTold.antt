use Rattle.std.proofs.Common.{ℕ, ◌≡◌, ◌<◌, Bool, true, false, cond, List, [], ◌∷◌, ◌++◌, length, get_or, zero, suc, refl, sym, ap, ◌∙◌, subst, arith}
use Rattle.std.specs.Prelude.{◌≢◌}
use Rattle.std.specs.List.{flat_map}
use Rattle.std.proofs.lemmas.List.{append-nil, get_or_default}
use Rattle.std.proofs.lemmas.List.Elements.{filter-append}
use Rattle.dt_record.specs.declared.writes.Note.{Note}
use Rattle.dt_intake.specs.Intakes.{has_news, news_of, after_telling}
use Rattle.dt_intake.specs.Laws.{TellingGoesOn, OwnNotesDecide, NewsIsOfOneHart}
use Rattle.dt_intake.specs.Told.{is_of, own_notes, IsTold}
use Rattle.dt_lane.specs.Lanes.{LaneView}
use Rattle.dt_worker.specs.Steps.{AreOthers, EachGoes, IsInStep}
use Rattle.dt_worker.specs.Telling.{news_in, told_lane, Tells}

-- The news of several lanes, put together, tells each lane.

own-append : (hart : ℕ) (ns ms : List Note) → own_notes hart (ns ++ ms) ≡ own_notes hart ns ++ own_notes hart ms
own-append hart ns ms = filter-append (is_of hart) ns ms

-- telling changes no hart
pub hart-told_lane : (v : LaneView) → (told_lane v).intake.hart ≡ v.intake.hart
hart-told_lane v = choice (has_news v.intake)
  where
    choice : (b : Bool) → (cond b (record v { intake = after_telling v.intake }) v).intake.hart ≡ v.intake.hart
    choice true = refl
    choice false = refl

module _ (goes_on : TellingGoesOn) (decide : OwnNotesDecide) (one_hart : NewsIsOfOneHart) where
  -- a lane adds no note of another hart
  other-news_in : (v : LaneView) (hart : ℕ) → hart ≢ v.intake.hart → own_notes hart (news_in v) ≡ []
  other-news_in v hart ne = choice (has_news v.intake)
    where
      choice : (b : Bool) → own_notes hart (cond b (news_of v.intake) []) ≡ []
      choice true = one_hart v.intake hart ne
      choice false = refl

  -- nor do lanes of other harts
  other-news : (hart : ℕ) (lanes : List LaneView) → ((j : ℕ) (d : LaneView) → j < length lanes → hart ≢ (get_or lanes j d).intake.hart)
      → own_notes hart (flat_map news_in lanes) ≡ []
  other-news hart [] ne = refl
  other-news hart (v ∷ vs) ne =
      own-append hart (news_in v) (flat_map news_in vs)
      ∙ ap (λ (ns : List Note). ns ++ own_notes hart (flat_map news_in vs)) (other-news_in v hart (ne zero v (omega arith)))
      ∙ other-news hart vs (λ j d h. ne (suc j) d (omega arith))

  -- what stands of a hart in all news is what its lane adds
  own-news : (lanes : List LaneView) (k : ℕ) (d : LaneView) → k < length lanes
      → ((j : ℕ) → j < length lanes → k ≢ j → (get_or lanes k d).intake.hart ≢ (get_or lanes j d).intake.hart)
      → own_notes (get_or lanes k d).intake.hart (flat_map news_in lanes) ≡ own_notes (get_or lanes k d).intake.hart (news_in (get_or lanes k d))
  own-news [] k d h apart = absurd (omega arith)
  own-news (v ∷ vs) zero d h apart =
      own-append v.intake.hart (news_in v) (flat_map news_in vs)
      ∙ ap (λ (ns : List Note). own_notes v.intake.hart (news_in v) ++ ns)
      (other-news v.intake.hart vs (λ j e g.
      subst (λ (w : LaneView). v.intake.hart ≢ w.intake.hart) (get_or_default vs j d e g) (apart (suc j) (omega arith) (omega arith))))
      ∙ append-nil (own_notes v.intake.hart (news_in v))
  own-news (v ∷ vs) (suc k) d h apart =
      let hart = (get_or vs k d).intake.hart in
      own-append hart (news_in v) (flat_map news_in vs)
      ∙ ap (λ (ns : List Note). ns ++ own_notes hart (flat_map news_in vs)) (other-news_in v hart (apart zero (omega arith) (omega arith)))
      ∙ own-news vs k d (omega arith) (λ j g ne. apart (suc j) (omega arith) (λ e. ne (omega arith)))

  -- a lane is told by notes that have of its hart what it adds, behind what told it before
  told_by : (v : LaneView) (own news : List Note) → own_notes v.intake.hart news ≡ own_notes v.intake.hart (news_in v)
      → IsTold v.intake own → IsTold (told_lane v).intake (own ++ news)
  told_by v own news same told = choice (has_news v.intake) same
    where
      joined : (part : List Note) → own_notes v.intake.hart news ≡ own_notes v.intake.hart part
          → own_notes v.intake.hart (own ++ part) ≡ own_notes v.intake.hart (own ++ news)
      joined part is =
          own-append v.intake.hart own part
          ∙ ap (λ (ns : List Note). own_notes v.intake.hart own ++ ns) (sym is) ∙ sym (own-append v.intake.hart own news)

      choice : (b : Bool) → own_notes v.intake.hart news ≡ own_notes v.intake.hart (cond b (news_of v.intake) [])
          → IsTold (cond b (record v { intake = after_telling v.intake }) v).intake (own ++ news)
      choice true is = decide (after_telling v.intake) (own ++ news_of v.intake) (own ++ news) (joined (news_of v.intake) is) (goes_on v.intake own told)
      choice false is = decide v.intake own (own ++ news) (ap (own_notes v.intake.hart) (sym (append-nil own)) ∙ joined [] is) told

  -- with the news of all its lanes a worker is in step
  pub all_in_step : (lanes later : List LaneView) (own : List Note) → EachGoes Tells lanes later → IsInStep lanes own
      → IsInStep later (own ++ flat_map news_in lanes)
  all_in_step lanes later own goes before = record {
    apart = record { each = λ j k d h g ne e. before.apart.each j k d (here j h) (here k g) ne (sym (same j d (here j h)) ∙ e ∙ same k d (here k g)) };
    told = λ k d h.
        subst (λ (w : LaneView). IsTold w.intake (own ++ flat_map news_in lanes)) (sym (goes.each k d (here k h)))
        (told_by (get_or lanes k d) own (flat_map news_in lanes)
        (own-news lanes k d (here k h) (λ j g ne. before.apart.each k j d (here k h) g ne)) (before.told k d (here k h)));
    no_other = λ hart others.
        let mine : AreOthers hart lanes = λ j d h e. others j d (there j h) (same j d h ∙ e) in
        own-append hart own (flat_map news_in lanes)
        ∙ ap (λ (ns : List Note). ns ++ own_notes hart (flat_map news_in lanes)) (before.no_other hart mine)
        ∙ other-news hart lanes (λ j d h e. mine j d h (sym e));
  }
    where
      here : (k : ℕ) → k < length later → k < length lanes
      here k h = let size = goes.size in omega arith

      there : (k : ℕ) → k < length lanes → k < length later
      there k h = let size = goes.size in omega arith

      same : (k : ℕ) (d : LaneView) → k < length lanes → (get_or later k d).intake.hart ≡ (get_or lanes k d).intake.hart
      same k d h = ap (λ (w : LaneView). w.intake.hart) (goes.each k d h) ∙ hart-told_lane (get_or lanes k d)
