use Rattle.std.proofs.Common.{ℕ, ◌≡◌, ◌+◌, ◌<◌, ◌≤◌, Bool, Option, Some, None, List, [], ◌∷◌, ◌++◌, length, take, get_or, zero, suc, Result, Ok, Err, IsTrue, inl, inr, refl, sym, ap, subst, ◌∙◌, arith}
use Rattle.std.specs.Prelude.{◌⊎◌}
use Rattle.std.specs.List.{slice_get}
use Rattle.std.specs.Option.{option_to_list}
use Rattle.std.proofs.lemmas.List.{length-append}
use Rattle.std.proofs.lemmas.Option.{same_Some, slice_get-get_or, slice_get_within}
use Rattle.dt_sources.proofs.Choices.{with_moment-elsewhere}
use Rattle.dt_lists.proofs.Lists.{slice_get-append_left, slice_get-push}
use Rattle.dt_hart.specs.Settings.{Setting, did, does, moments_after}
use Rattle.dt_rules.specs.declared.misfits.Passed.{Passed}
use Rattle.dt_record.specs.declared.records.Body.TheVariants.{Beat}
use Rattle.dt_record.specs.declared.records.Record.{Record}
use Rattle.dt_record.specs.declared.writes.Write.{Write}
use Rattle.dt_record.specs.Actions.{Action, Stored, Drained, Fenced, Loaded, Atomic}
use Rattle.dt_record.specs.LoadSources.{AreLeastSources}
use Rattle.dt_reference.specs.HartActions.{action_of, actions_of}
use Rattle.dt_rules.specs.declared.misfits.Misfit.{Misfit}
use Rattle.dt_versions.specs.History.{are_in_order}
use Rattle.dt_judge.specs.Judgement.{Finds}
use Rattle.dt_judge.specs.Laws.{AgreeAtLoads, EarlierMomentsDecide, HasEnd, RunsHaveAnEnd}
use Rattle.dt_judge.specs.Runs.{AreAllowed, setting_at}
use Rattle.dt_judge.proofs.AFinding.{Laws as FindingLaws, finding_of, least_goes_on}
use Rattle.dt_judge.proofs.OneEnd.{actions_front}

-- A hart's records are allowed up to some place.

-- the laws that it rests on
pub record Laws : Type 0 where
  pub findings : FindingLaws
  pub decide : EarlierMomentsDecide
  pub actions : (records : List Record) (r : Record) → actions_of (records ++ r ∷ []) ≡ actions_of records ++ option_to_list (action_of (length records) r)

-- ---- lists

take_next : {X : Type 0} (n : ℕ) (xs : List X) (x : X) → slice_get xs n ≡ Some x → take (suc n) xs ≡ take n xs ++ x ∷ []
take_next n [] x there = absurd (cc)
take_next zero (y ∷ ys) x there = ap (λ z. z ∷ []) (same_Some y x there)
take_next (suc n) (y ∷ ys) x there = ap (λ zs. y ∷ zs) (take_next n ys x there)

-- ---- moments

-- the moments after one more record are those before at the loads before
next_agrees : (s : Setting) (a : Option Action) (k : ℕ) → AgreeAtLoads (did s) s.moments (moments_after s a k)
next_agrees s None k place ask there = refl
next_agrees s (Some (Stored store)) k place ask there = refl
next_agrees s (Some (Drained key line count)) k place ask there = refl
next_agrees s (Some (Fenced ww wr rr)) k place ask there = refl
next_agrees s (Some (Atomic key addr width reads acquires)) k place ask there = refl
next_agrees s (Some (Loaded load)) k place ask there =
    let within = slice_get_within (did s) place (Loaded ask) there in
    with_moment-elsewhere s.moments (length (did s)) k place (λ same. omega arith)

module _ (laws : Laws) (image : List ℕ) (writes : List Write) (ordered : IsTrue (are_in_order writes)) (wide : Bool) (hart : ℕ) (records : List Record) where
  abbrev at : (moments : ℕ → ℕ) (n : ℕ) → Setting
  at moments n = setting_at image writes wide hart records moments n

  -- moments that agree at the loads of some first records do at those of fewer
  fewer_agree : (moments others : ℕ → ℕ) (few many : ℕ) → few ≤ many → AgreeAtLoads (actions_of (take many records)) moments others → AgreeAtLoads (actions_of (take few records)) moments others
  fewer_agree moments others few many within agree place ask there =
      let front = actions_front 0 few many records within in
      let first = actions_of (take few records) in
      agree place ask
      (ap (λ (l : List Action). slice_get l place) front.1 ∙ slice_get-append_left first front.0 place (slice_get_within first place (Loaded ask) there) ∙ there)

  -- the first so many records are allowed
  record AreBegun (n : ℕ) : Type 0 where
    pub moments : ℕ → ℕ
    pub allowed : List Passed
    pub count : length allowed ≡ n
    pub are : AreAllowed image writes wide hart records moments allowed

  -- one more is
  one_more : (n : ℕ) (begun : AreBegun n) (r : Record) (p : Passed) → slice_get records n ≡ Some r → Finds (at begun.moments n) r (Ok p)
      → AreLeastSources image writes (did (at begun.moments n)) begun.moments → AreBegun (suc n)
  one_more n begun r p there finds chosen =
      let s : Setting = at begun.moments n in
      let gone = least_goes_on laws.findings s ordered chosen r p finds in
      let next : ℕ → ℕ = moments_after s (does s r) gone.0 in
      let agree = next_agrees s (does s r) gone.0 in
      let acts : actions_of (take (suc n) records) ≡ did s ++ option_to_list (does s r) = ap actions_of (take_next n records r there) ∙ laws.actions (take n records) r in
      let long : length (begun.allowed ++ p ∷ []) ≡ suc n = omega (arith, begun.count, length-append begun.allowed (p ∷ [])) in
      record {
        moments = next;
        allowed = begun.allowed ++ p ∷ [];
        count = long;
        are = record {
          chosen =
              subst (λ k. AreLeastSources image writes (actions_of (take k records)) next) (sym long)
              (subst (λ (l : List Action). AreLeastSources image writes l next) (sym acts) gone.1);
          each = λ m q here. elim (slice_get-push begun.allowed p m q here) [
            | inl earlier ↦
                let before = begun.are.each m q earlier in
                let within = slice_get_within begun.allowed m q earlier in
                let fewer = fewer_agree begun.moments next m n (omega (arith, begun.count)) agree in
                (before.0, before.1, laws.decide (at begun.moments m) next before.0 (Ok q) fewer before.2)
            | inr last ↦
                let place : n ≡ m = omega (arith, begun.count, last.0) in
                let now = laws.decide s next r (Ok p) agree finds in (
                  r,
                  subst (λ k. slice_get records k ≡ Some r) place there,
                  subst (λ k. Finds (at next k) r (Ok q)) place (subst (λ z. Finds (at next n) r (Ok z)) last.1 now),
                )
          ];
        };
      }

  -- one more is, or the run ends there
  step : (n : ℕ) → AreBegun n → n < length records → AreBegun (suc n) ⊎ HasEnd image writes wide hart records
  step n begun within = by_finding found.0 found.1
    where
      any_record : Record
      any_record = record { stamp = 0; hart = 0; body = Beat }

      r : Record
      r = get_or records n any_record

      there : slice_get records n ≡ Some r
      there = slice_get-get_or records n any_record within

      chosen : AreLeastSources image writes (actions_of (take n records)) begun.moments
      chosen = subst (λ k. AreLeastSources image writes (actions_of (take k records)) begun.moments) begun.count begun.are.chosen

      found : (f : Result Passed Misfit) × Finds (at begun.moments n) r f
      found = finding_of laws.findings (at begun.moments n) ordered chosen r

      by_finding : (f : Result Passed Misfit) → Finds (at begun.moments n) r f → AreBegun (suc n) ⊎ HasEnd image writes wide hart records
      by_finding (Ok p) finds = inl (one_more n begun r p there finds chosen)
      by_finding (Err refused) finds = inr (record {
        allowed = begun.allowed;
        refused = Some refused;
        runs = record {
          moments = begun.moments;
          are_allowed = begun.are;
          ends = subst (λ k. (q : Record) × (slice_get records k ≡ Some q) × Finds (at begun.moments k) q (Err refused)) (sym begun.count) (r, there, finds);
        };
      })

  -- the rest of the records
  goes_on : (rest n : ℕ) → n + rest ≡ length records → AreBegun n → HasEnd image writes wide hart records
  goes_on zero n all begun = record {
    allowed = begun.allowed;
    refused = None;
    runs = record { moments = begun.moments; are_allowed = begun.are; ends = omega (arith, begun.count) };
  }
  goes_on (suc rest) n all begun = elim (step n begun (omega arith)) [
    | inl more ↦ goes_on rest (suc n) (omega arith) more
    | inr ends ↦ ends
  ]

  first : AreBegun 0
  first = record {
    moments = λ n. 0;
    allowed = [];
    count = refl;
    are = record {
      chosen = record { fits = λ place ask there. absurd (cc); least = λ others fits place ask there. absurd (cc) };
      each = λ n p there. absurd (cc);
    };
  }

  pub end_of : HasEnd image writes wide hart records
  end_of = goes_on (length records) 0 (omega arith) first

pub runs_have_an_end : Laws → RunsHaveAnEnd
runs_have_an_end laws image writes wide hart records ordered = end_of laws image writes ordered wide hart records
