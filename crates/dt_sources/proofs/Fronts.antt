use Rattle.std.proofs.Common.{ℕ, ◌≡◌, ◌<◌, ◌≤◌, Option, List, ◌++◌, length, take, refl, sym, ◌∙◌, subst, arith}
use Rattle.std.specs.List.{slice_get}
use Rattle.std.proofs.lemmas.List.{take-append-le}
use Rattle.std.proofs.lemmas.Option.{slice_get_within}
use Rattle.dt_lists.proofs.Lists.{slice_get-append_left}
use Rattle.dt_record.specs.declared.writes.Write.{Write}
use Rattle.dt_record.specs.declared.accesses.LoadAsk.{LoadAsk}
use Rattle.dt_record.specs.Actions.{Action, Loaded}
use Rattle.dt_record.specs.LoadSources.{Rank, FitsLoad, KeepsFloor, Fits}
use Rattle.dt_sources.specs.Choice.{FitsThere, FrontsHaveSources}
use Rattle.dt_sources.proofs.Floors.{KeepsRead}

-- What a load at a place may read depends on the actions before it and their moments alone.

-- two lists of actions and two assignments do not differ before a place
pub record AreSameBefore (place : ℕ) (actions others : List Action) (moments others_moments : ℕ → ℕ) : Type 0 where
  pub all : take place actions ≡ take place others
  pub front : (m : ℕ) → m < place → take m actions ≡ take m others
  pub found : (m : ℕ) → m < place → slice_get actions m ≡ slice_get others m
  pub moment : (m : ℕ) → m < place → moments m ≡ others_moments m

read_along : (writes : List Write) (found there : Option Action) (before past now then : List Action) (j k byte : ℕ) (own : Rank)
    → found ≡ there → before ≡ past → now ≡ then → j ≡ k → KeepsRead writes found before now j byte own → KeepsRead writes there past then k byte own
read_along writes found there before past now then j k byte own same_action same_front same_all same_moment keeps =
    subst (λ n. KeepsRead writes there past then n byte own) same_moment
    (subst (λ actions. KeepsRead writes there past actions j byte own) same_all
    (subst (λ actions. KeepsRead writes there actions now j byte own) same_front
    (subst (λ action. KeepsRead writes action before now j byte own) same_action keeps)))

pub floor_along : (writes : List Write) (actions others : List Action) (moments others_moments : ℕ → ℕ) (place : ℕ) (ask : LoadAsk) (byte : ℕ) (own : Rank)
    → AreSameBefore place actions others moments others_moments
    → KeepsFloor writes actions moments place ask byte own → KeepsFloor writes others others_moments place ask byte own
floor_along writes actions others moments others_moments place ask byte own same keeps = record {
  reads = λ m before. read_along writes (slice_get actions m) (slice_get others m) (take m actions) (take m others) (take place actions) (take place others)
      (moments m) (others_moments m) byte own (same.found m before) (same.front m before) same.all (same.moment m before) (keeps.reads m before);
  own_writes = keeps.own_writes;
}

pub fits_along : (image : List ℕ) (writes : List Write) (actions others : List Action) (moments others_moments : ℕ → ℕ) (place : ℕ) (ask : LoadAsk) (k : ℕ)
    → AreSameBefore place actions others moments others_moments
    → FitsThere image writes actions moments place ask k → FitsThere image writes others others_moments place ask k
fits_along image writes actions others moments others_moments place ask k same fits =
    subst (λ before. FitsLoad image writes before (KeepsFloor writes others others_moments place ask) ask k) same.all
    (record {
      visible = fits.visible;
      value = fits.value;
      floor = λ i within. floor_along writes actions others moments others_moments place ask _ _ same (fits.floor i within);
    })

pub front_is_same : (place : ℕ) (actions more : List Action) (moments others : ℕ → ℕ) → place ≤ length actions → ((m : ℕ) → m < place → moments m ≡ others m)
    → AreSameBefore place (actions ++ more) actions moments others
front_is_same place actions more moments others within same = record {
  all = take-append-le place actions more within;
  front = λ m before. take-append-le m actions more (omega arith);
  found = λ m before. slice_get-append_left actions more m (omega arith);
  moment = same;
}

pub same_back : (place : ℕ) (actions others : List Action) (moments others_moments : ℕ → ℕ)
    → AreSameBefore place actions others moments others_moments → AreSameBefore place others actions others_moments moments
same_back place actions others moments others_moments same = record {
  all = sym same.all;
  front = λ m before. sym (same.front m before);
  found = λ m before. sym (same.found m before);
  moment = λ m before. sym (same.moment m before);
}

pub front_fits : (image : List ℕ) (writes : List Write) (actions more : List Action) (moments : ℕ → ℕ)
    → Fits image writes (actions ++ more) moments → Fits image writes actions moments
front_fits image writes actions more moments fits place ask is =
    let within = slice_get_within actions place (Loaded ask) is in
    fits_along image writes (actions ++ more) actions moments moments place ask (moments place)
    (front_is_same place actions more moments moments (omega arith) (λ m before. refl))
    (fits place ask (slice_get-append_left actions more place within ∙ is))

pub fronts_have : FrontsHaveSources
fronts_have image writes actions more has = (has.0, front_fits image writes actions more has.0 has.1)
