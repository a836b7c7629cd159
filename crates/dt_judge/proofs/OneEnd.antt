use Rattle.std.proofs.Common.{ℕ, ◌≡◌, ◌+◌, ◌≤◌, ◌++◌, Bool, Option, Some, None, List, [], ◌∷◌, length, take, get_or, zero, suc, Result, Ok, Err, refl, sym, ap, ◌∙◌, subst, inl, inr, append_assoc, IsTrue, arith}
use Rattle.std.specs.Prelude.{option_to_list}
use Rattle.std.specs.List.{slice_get}
use Rattle.std.proofs.lemmas.Bool.{cases_lt}
use Rattle.std.proofs.lemmas.Option.{same_Some, slice_get-get_or, slice_get_within}
use Rattle.dt_record.specs.declared.records.Record.{Record}
use Rattle.dt_record.specs.declared.writes.Write.{Write}
use Rattle.dt_record.specs.Actions.{Action}
use Rattle.dt_record.specs.LoadSources.{AreLeastSources}
use Rattle.dt_reference.specs.HartActions.{action_of, actions_from, actions_of}
use Rattle.dt_rules.specs.declared.misfits.Misfit.{Misfit}
use Rattle.dt_rules.specs.declared.misfits.TheConstants.{NO_LETTERS, NO_SOURCES}
use Rattle.dt_sources.specs.Choice.{LeastChoiceIsLeast}
use Rattle.dt_versions.specs.History.{are_in_order}
use Rattle.dt_rules.specs.declared.misfits.Passed.{Passed}
use Rattle.dt_judge.specs.Judgement.{Finds}
use Rattle.dt_judge.specs.Laws.{AgreeAtLoads, EarlierMomentsDecide, RecordsHaveOneFinding, RunsHaveOneEnd}
use Rattle.dt_judge.specs.Runs.{AreAllowed, EndsAllowed, setting_at}
use Rattle.dt_judge.proofs.LoadMoments.{least_agree, least_front}

-- A hart's records are allowed up to one place, and the next one has one reason or none.

-- the actions of the first records begin those of more of them
pub actions_front : (seq count longer : ℕ) (records : List Record) → count ≤ longer
    → (more : List Action) × (actions_from seq (take longer records) ≡ actions_from seq (take count records) ++ more)
actions_front seq zero longer records within = (actions_from seq (take longer records), refl)
actions_front seq (suc count) zero records within = absurd (omega arith)
actions_front seq (suc count) (suc longer) [] within = ([], refl)
actions_front seq (suc count) (suc longer) (r ∷ rs) within =
    let later = actions_front (seq + 1) count longer rs (omega arith) in
    let own : List Action = option_to_list (action_of seq r) in
    (later.0, ap (λ actions. own ++ actions) later.1 ∙ sym (append_assoc own (actions_from (seq + 1) (take count rs)) later.0))

-- lists with the same elements
same_elements : {X : Type 0} (xs ys : List X) → length xs ≡ length ys
    → ((n : ℕ) (x y : X) → slice_get xs n ≡ Some x → slice_get ys n ≡ Some y → x ≡ y) → xs ≡ ys
same_elements [] [] long same = refl
same_elements [] (y ∷ ys) long same = absurd (omega arith)
same_elements (x ∷ xs) [] long same = absurd (omega arith)
same_elements (x ∷ xs) (y ∷ ys) long same =
    ap (λ z. z ∷ xs) (same 0 x y refl refl) ∙ ap (λ zs. y ∷ zs) (same_elements xs ys (omega arith) (λ n a b at also. same (suc n) a b at also))

any_passed : Passed
any_passed = record { letters = NO_LETTERS; sources = NO_SOURCES }

-- the laws that it rests on
pub record Laws : Type 0 where
  pub one_finding : RecordsHaveOneFinding
  pub decide : EarlierMomentsDecide
  pub is_least : LeastChoiceIsLeast

module _ (laws : Laws) (image : List ℕ) (writes : List Write) (ordered : IsTrue (are_in_order writes)) (wide : Bool) (hart : ℕ) (records : List Record) where
  -- runs with these allowed records have the same moments at the loads of the records that both allow
  same_moments : (moments others : ℕ → ℕ) (allowed also : List Passed) (count : ℕ) → count ≤ length allowed → count ≤ length also
      → AreAllowed image writes wide hart records moments allowed → AreAllowed image writes wide hart records others also
      → AgreeAtLoads (actions_of (take count records)) moments others
  same_moments moments others allowed also count within too one other =
      let chosen = actions_front 0 count (length allowed) records within in
      let again = actions_front 0 count (length also) records too in
      least_agree image writes (actions_of (take count records)) moments others
      (least_front laws.is_least image writes (actions_of (take count records)) chosen.0 moments ordered (subst (λ actions. AreLeastSources image writes actions moments) chosen.1 one.chosen))
      (least_front laws.is_least image writes (actions_of (take count records)) again.0 others ordered (subst (λ actions. AreLeastSources image writes actions others) again.1 other.chosen))

  -- so a record up to there has one finding in both
  same_finding : (moments others : ℕ → ℕ) (count : ℕ) (r s : Record) (f g : Result Passed Misfit) → AgreeAtLoads (actions_of (take count records)) moments others
      → slice_get records count ≡ Some r → slice_get records count ≡ Some s
      → Finds (setting_at image writes wide hart records moments count) r f → Finds (setting_at image writes wide hart records others count) s g → f ≡ g
  same_finding moments others count r s f g agree there also is again =
      let same : r ≡ s = same_Some r s (sym there ∙ also) in
      laws.one_finding (setting_at image writes wide hart records others count) r f g
      (laws.decide (setting_at image writes wide hart records moments count) others r f agree is)
      (subst (λ x. Finds (setting_at image writes wide hart records others count) x g) (sym same) again)

  -- a place where one run ends is none at which another allows a record
  no_further : (moments others : ℕ → ℕ) (count : ℕ) (refused : Option Misfit) (p : Passed) (r : Record) → AgreeAtLoads (actions_of (take count records)) moments others
      → EndsAllowed image writes wide hart records moments count refused
      → slice_get records count ≡ Some r → Finds (setting_at image writes wide hart records others count) r (Ok p) → ⊥
  no_further moments others count None p r agree ends there is = let over : count ≡ length records = ends in omega (arith, slice_get_within records count r there)
  no_further moments others count (Some m) p r agree ends there is =
      let both : ◌≡◌ {A = Result Passed Misfit} (Err m) (Ok p) = same_finding moments others count ends.0 r (Err m) (Ok p) agree ends.1 there ends.2 is in
      cc

  -- the one allows as many as the other
  no_shorter : (allowed also : List Passed) (refused : Option Misfit) (moments others : ℕ → ℕ)
      → AreAllowed image writes wide hart records moments allowed → EndsAllowed image writes wide hart records moments (length allowed) refused
      → AreAllowed image writes wide hart records others also → length also ≤ length allowed
  no_shorter allowed also refused moments others one ends other = elim (cases_lt (length allowed) (length also)) [
    | inr least ↦ least
    | inl less ↦
        let p = get_or also (length allowed) any_passed in
        let next = other.each (length allowed) p (slice_get-get_or also (length allowed) any_passed less) in
        absurd (no_further moments others (length allowed) refused p next.0
        (same_moments moments others allowed also (length allowed) (omega arith) (omega arith) one other) ends next.1 next.2)
  ]

  same_end : (moments others : ℕ → ℕ) (count : ℕ) (refused other : Option Misfit) → AgreeAtLoads (actions_of (take count records)) moments others
      → EndsAllowed image writes wide hart records moments count refused → EndsAllowed image writes wide hart records others count other → refused ≡ other
  same_end moments others count None None agree ends also = refl
  same_end moments others count None (Some m) agree ends also = let over : count ≡ length records = ends in absurd (omega (arith, slice_get_within records count also.0 also.1))
  same_end moments others count (Some m) None agree ends also = let over : count ≡ length records = also in absurd (omega (arith, slice_get_within records count ends.0 ends.1))
  same_end moments others count (Some m) (Some n) agree ends also =
      let both : ◌≡◌ {A = Result Passed Misfit} (Err m) (Err n) = same_finding moments others count ends.0 also.0 (Err m) (Err n) agree ends.1 also.1 ends.2 also.2 in
      cc

  same_allowed : (moments others : ℕ → ℕ) (allowed also : List Passed) → AreAllowed image writes wide hart records moments allowed → AreAllowed image writes wide hart records others also
      → length allowed ≡ length also → allowed ≡ also
  same_allowed moments others allowed also one other long = same_elements allowed also long same
    where
      same : (n : ℕ) (p q : Passed) → slice_get allowed n ≡ Some p → slice_get also n ≡ Some q → p ≡ q
      same n p q at here =
          let within = slice_get_within allowed n p at in
          let first = one.each n p at in
          let second = other.each n q here in
          let both : ◌≡◌ {A = Result Passed Misfit} (Ok p) (Ok q) =
          same_finding moments others n first.0 second.0 (Ok p) (Ok q) (same_moments moments others allowed also n (omega arith) (omega arith) one other) first.1 second.1 first.2 second.2 in
          cc

pub runs_have_one_end : Laws → RunsHaveOneEnd
runs_have_one_end laws image writes wide hart records allowed others refused other ordered one also =
    let short = no_shorter laws image writes ordered wide hart records allowed others refused one.moments also.moments one.are_allowed one.ends also.are_allowed in
    let long = no_shorter laws image writes ordered wide hart records others allowed other also.moments one.moments also.are_allowed also.ends one.are_allowed in
    let same : length allowed ≡ length others = omega arith in (
      same_allowed laws image writes ordered wide hart records one.moments also.moments allowed others one.are_allowed also.are_allowed same,
      same_end laws image writes ordered wide hart records one.moments also.moments (length allowed) refused other
          (same_moments laws image writes ordered wide hart records one.moments also.moments allowed others (length allowed) (omega arith) (omega arith) one.are_allowed also.are_allowed)
          one.ends (subst (λ count. EndsAllowed image writes wide hart records also.moments count other) (sym same) also.ends),
    )
