use Rattle.std.proofs.Common.{ℕ, ◌≡◌, ◌<◌, ◌≤◌, false, Option, Some, None, List, [], ◌∷◌, ◌++◌, length, take, refl, sym, ap, ◌∙◌, subst, inl, inr, IsTrue, arith}
use Rattle.std.specs.Prelude.{IfSome}
use Rattle.std.specs.List.{slice_get}
use Rattle.std.proofs.lemmas.Bool.{cases_eq}
use Rattle.std.proofs.lemmas.List.{length-append, take-append-le}
use Rattle.std.proofs.lemmas.Option.{slice_get_within}
use Rattle.dt_sources.proofs.Choices.{with_moment-elsewhere}
use Rattle.dt_loads.proofs.Moments.{moment_here}
use Rattle.dt_lists.proofs.Lists.{slice_get-append_left, slice_get-append_seam}
use Rattle.dt_record.specs.declared.accesses.LoadAsk.{LoadAsk}
use Rattle.dt_record.specs.declared.origins.Origin.{Origin}
use Rattle.dt_record.specs.declared.writes.Write.{Write}
use Rattle.dt_record.specs.Actions.{Action, Stored, Drained, Fenced, Loaded, Atomic}
use Rattle.dt_record.specs.LoadSources.{AreLeastSources, Fits, FitsLoad, KeepsFloor, Rank, origin_at, rank, rank_below}
use Rattle.dt_sources.specs.Choice.{ChoosesLeast, FitsThere, LeastChoiceIsLeast, then_action, with_moment}
use Rattle.dt_versions.specs.History.{are_in_order}
use Rattle.dt_judge.specs.Laws.{AgreeAtLoads}

-- What a load may read depends on the actions before it and the moments of the loads among these alone, so there is one
-- least fitting assignment.

-- the source of a byte depends on the moment where a load had it
pub same_origin : (writes : List Write) (before : List Action) (j k : ℕ) (action : Action) (byte : ℕ) → ((ask : LoadAsk) → action ≡ Loaded ask → k ≡ j)
    → origin_at writes before j action byte ≡ origin_at writes before k action byte
same_origin writes before j k (Loaded ask) byte same = ap (λ n. origin_at writes before n (Loaded ask) byte) (sym (same ask refl))
same_origin writes before j k (Stored store) byte same = refl
same_origin writes before j k (Drained key line count) byte same = refl
same_origin writes before j k (Fenced ww wr rr) byte same = refl
same_origin writes before j k (Atomic key addr width reads acquires) byte same = refl

-- the byte that an action had, where there is one and it had it, does not stand above this one
abbrev IsReadBelow : List Write → Option Action → (before all : List Action) → (moment byte : ℕ) → Rank → Type 0
IsReadBelow writes found before all moment byte own =
    IfSome found (λ action. IfSome (origin_at writes before moment action byte) (λ o. rank_below own (rank all o) ≡ false))

at_moment : (writes : List Write) (found : Option Action) (before all : List Action) (j k byte : ℕ) (own : Rank) → ((ask : LoadAsk) → found ≡ Some (Loaded ask) → k ≡ j)
    → IsReadBelow writes found before all j byte own → IsReadBelow writes found before all k byte own
at_moment writes None before all j k byte own same keeps = keeps
at_moment writes (Some action) before all j k byte own same keeps =
    subst (λ (o : Option Origin). IfSome o (λ o. rank_below own (rank all o) ≡ false)) (same_origin writes before j k action byte (λ ask is. same ask (ap Some is))) keeps

at_actions : (writes : List Write) (found there : Option Action) (before past all every : List Action) (moment byte : ℕ) (own : Rank) → found ≡ there → before ≡ past → all ≡ every
    → IsReadBelow writes found before all moment byte own → IsReadBelow writes there past every moment byte own
at_actions writes found there before past all every moment byte own same_action same_front same_all keeps =
    subst (λ actions. IsReadBelow writes there past actions moment byte own) same_all
    (subst (λ actions. IsReadBelow writes there actions all moment byte own) same_front
    (subst (λ action. IsReadBelow writes action before all moment byte own) same_action keeps))

-- two lists of actions are the same before a place, and two assignments at the loads before it
pub record AreSameBefore (place : ℕ) (actions others : List Action) (moments again : ℕ → ℕ) : Type 0 where
  pub all : take place actions ≡ take place others
  pub front : (m : ℕ) → m < place → take m actions ≡ take m others
  pub found : (m : ℕ) → m < place → slice_get actions m ≡ slice_get others m
  pub moment : (m : ℕ) (ask : LoadAsk) → m < place → slice_get actions m ≡ Some (Loaded ask) → again m ≡ moments m

floor_along : (writes : List Write) (actions others : List Action) (moments again : ℕ → ℕ) (place : ℕ) (ask : LoadAsk) (byte : ℕ) (own : Rank)
    → AreSameBefore place actions others moments again
    → KeepsFloor writes actions moments place ask byte own → KeepsFloor writes others again place ask byte own
floor_along writes actions others moments again place ask byte own same keeps = record {
  reads = λ m before.
      at_actions writes (slice_get actions m) (slice_get others m) (take m actions) (take m others) (take place actions) (take place others) (again m) byte own
      (same.found m before) (same.front m before) same.all
      (at_moment writes (slice_get actions m) (take m actions) (take place actions) (moments m) (again m) byte own (λ a there. same.moment m a before there) (keeps.reads m before));
  own_writes = keeps.own_writes;
}

pub fits_along : (image : List ℕ) (writes : List Write) (actions others : List Action) (moments again : ℕ → ℕ) (place : ℕ) (ask : LoadAsk) (k : ℕ)
    → AreSameBefore place actions others moments again
    → FitsThere image writes actions moments place ask k → FitsThere image writes others again place ask k
fits_along image writes actions others moments again place ask k same fits =
    subst (λ before. FitsLoad image writes before (KeepsFloor writes others again place ask) ask k) same.all
    (record {
      visible = fits.visible;
      value = fits.value;
      floor = λ i within. floor_along writes actions others moments again place ask _ _ same (fits.floor i within);
    })

-- other moments for the same actions
pub same_actions : (place : ℕ) (actions : List Action) (moments others : ℕ → ℕ)
    → ((m : ℕ) (ask : LoadAsk) → m < place → slice_get actions m ≡ Some (Loaded ask) → others m ≡ moments m)
    → AreSameBefore place actions actions moments others
same_actions place actions moments others same = record { all = refl; front = λ m before. refl; found = λ m before. refl; moment = same }

-- actions with more of them
pub same_front : (place : ℕ) (actions more : List Action) (moments : ℕ → ℕ) → place ≤ length actions → AreSameBefore place (actions ++ more) actions moments moments
same_front place actions more moments within = record {
  all = take-append-le place actions more within;
  front = λ m before. take-append-le m actions more (omega arith);
  found = λ m before. slice_get-append_left actions more m (omega arith);
  moment = λ m ask before there. refl;
}

same_longer : (place : ℕ) (actions more : List Action) (moments : ℕ → ℕ) → place ≤ length actions → AreSameBefore place actions (actions ++ more) moments moments
same_longer place actions more moments within = record {
  all = sym (take-append-le place actions more within);
  front = λ m before. sym (take-append-le m actions more (omega arith));
  found = λ m before. sym (slice_get-append_left actions more m (omega arith));
  moment = λ m ask before there. refl;
}

-- ---- assignments

-- an assignment that agrees at each load fits where this one does
pub fits_again : (image : List ℕ) (writes : List Write) (actions : List Action) (moments others : ℕ → ℕ) → AgreeAtLoads actions moments others
    → Fits image writes actions moments → Fits image writes actions others
fits_again image writes actions moments others agree fits place ask there =
    subst (λ k. FitsThere image writes actions others place ask k) (sym (agree place ask there))
    (fits_along image writes actions actions moments others place ask (moments place) (same_actions place actions moments others (λ m a before at. agree m a at)) (fits place ask there))

-- and is the least where this one is
pub least_again : (image : List ℕ) (writes : List Write) (actions : List Action) (moments others : ℕ → ℕ) → AgreeAtLoads actions moments others
    → AreLeastSources image writes actions moments → AreLeastSources image writes actions others
least_again image writes actions moments others agree are = record {
  fits = fits_again image writes actions moments others agree are.fits;
  least = λ again fits place ask there. subst (λ k. k ≤ again place) (sym (agree place ask there)) (are.least again fits place ask there);
}

-- two least ones agree
pub least_agree : (image : List ℕ) (writes : List Write) (actions : List Action) (moments others : ℕ → ℕ)
    → AreLeastSources image writes actions moments → AreLeastSources image writes actions others → AgreeAtLoads actions moments others
least_agree image writes actions moments others one other place ask there =
    let low = one.least others other.fits place ask there in
    let high = other.least moments one.fits place ask there in
    omega arith

-- ---- a next load

pub agree_next : (actions : List Action) (action : Action) (moments others : ℕ → ℕ) (k : ℕ) → AgreeAtLoads actions moments others
    → AgreeAtLoads (then_action actions action) (with_moment moments (length actions) k) (with_moment others (length actions) k)
agree_next actions action moments others k agree place ask there = elim (cases_eq place (length actions)) [
  | inl same ↦ subst (λ n. with_moment others (length actions) k n ≡ with_moment moments (length actions) k n) (sym same)
      (moment_here others (length actions) k ∙ sym (moment_here moments (length actions) k))
  | inr apart ↦
      let within = slice_get_within (then_action actions action) place (Loaded ask) there in
      let before : place < length actions = omega (arith, length-append actions (action ∷ [])) in
      with_moment-elsewhere others (length actions) k place apart
      ∙ agree place ask (sym (slice_get-append_left actions (action ∷ []) place before) ∙ there)
      ∙ sym (with_moment-elsewhere moments (length actions) k place apart)
]

-- the load fits at its moment
pub next_fits : (image : List ℕ) (writes : List Write) (actions : List Action) (moments : ℕ → ℕ) (ask : LoadAsk) (k : ℕ)
    → Fits image writes (then_action actions (Loaded ask)) (with_moment moments (length actions) k)
    → FitsThere image writes (then_action actions (Loaded ask)) (with_moment moments (length actions) k) (length actions) ask k
next_fits image writes actions moments ask k fits =
    let place = length actions in
    let others : ℕ → ℕ = with_moment moments place k in
    subst (λ j. FitsThere image writes (then_action actions (Loaded ask)) others place ask j) (moment_here moments place k) (fits place ask (slice_get-append_seam actions (Loaded ask) []))

-- ---- first actions

-- least choices are so among the first actions
greedy_front : (image : List ℕ) (writes : List Write) (actions more : List Action) (moments : ℕ → ℕ)
    → ChoosesLeast image writes (actions ++ more) moments → ChoosesLeast image writes actions moments
greedy_front image writes actions more moments chosen = record {
  fits = λ place ask there.
      let within = slice_get_within actions place (Loaded ask) there in
      fits_along image writes (actions ++ more) actions moments moments place ask (moments place) (same_front place actions more moments (omega arith))
      (chosen.fits place ask (slice_get-append_left actions more place within ∙ there));
  least = λ place ask there k fits.
      let within = slice_get_within actions place (Loaded ask) there in
      chosen.least place ask (slice_get-append_left actions more place within ∙ there) k
      (fits_along image writes actions (actions ++ more) moments moments place ask k (same_longer place actions more moments (omega arith)) fits);
}

-- the least fitting assignment is that of the first actions too, where writes stand in their order
pub least_front : LeastChoiceIsLeast → (image : List ℕ) (writes : List Write) (actions more : List Action) (moments : ℕ → ℕ) → IsTrue (are_in_order writes)
    → AreLeastSources image writes (actions ++ more) moments → AreLeastSources image writes actions moments
least_front law image writes actions more moments ordered are =
    (law image writes actions moments ordered).0 (greedy_front image writes actions more moments ((law image writes (actions ++ more) moments ordered).1 are))
