use Rattle.std.proofs.Common.{ℕ, ◌≡◌, ◌+◌, ◌≤◌, ◌&&◌, Bool, true, false, Option, Some, None, List, [], ◌∷◌, ◌++◌, length, take, if◌then◌else◌, IsTrue, refl, sym, ap, subst, ◌∙◌, arith}
use Rattle.std.specs.Prelude.{IfSome, nat_le}
use Rattle.std.specs.List.{list_all, slice_get}
use Rattle.std.proofs.lemmas.Bool.{and_parts}
use Rattle.std.proofs.lemmas.Bool.Decides.{nat_tests}
use Rattle.std.proofs.lemmas.List.Elements.{Contains-append_left}
use Rattle.std.proofs.lemmas.List.Folds.{list_all-append}
use Rattle.std.proofs.lemmas.Option.{get_or_from_slice_get, slice_get_within}
use Rattle.dt_record.specs.declared.accesses.LoadAsk.{LoadAsk}
use Rattle.dt_record.specs.declared.origins.Origin.{Origin}
use Rattle.dt_record.specs.declared.writes.Write.{Write}
use Rattle.dt_record.specs.Actions.{Action, Stored, Drained, Fenced, Loaded, Atomic}
use Rattle.dt_record.specs.LoadSources.{AreLeastSources, Fits, KeepsFloor, Rank, is_within, origin_at, origin_of, origin_of_key, rank, rank_below}
use Rattle.dt_sources.specs.Choice.{FitsThere, then_action}
use Rattle.dt_judge.specs.Judging.{are_later}
use Rattle.dt_judge.proofs.LaterWrites.{is_earlier, origin_same, own_source_same, passes_in, seen_within, sees_less, sees_more, value_same}

-- The same assignments fit with writes of later cycles.

if_some_with : {X : Type 0} (o : Option X) (P Q : X → Type 0) → ((x : X) → o ≡ Some x → P x → Q x) → IfSome o P → IfSome o Q
if_some_with None P Q leads holds = tt
if_some_with (Some x) P Q leads holds = leads x refl holds

-- an action of no later cycle
abbrev pub is_seen : ℕ → Action → Bool
is_seen stamp (Loaded ask) = nat_le ask.at stamp && nat_le ask.key.stamp stamp
is_seen stamp (Atomic key addr width reads acquires) = nat_le key.stamp stamp
is_seen stamp action = true

-- what the actions before had for a byte is the same
abbrev pub Steady : List Write → List Write → List Action → (ℕ → ℕ) → Type 0
Steady ws later actions moments =
    (m : ℕ) (action : Action) → slice_get actions m ≡ Some action → (before : List Action) (byte : ℕ)
    → origin_at (ws ++ later) before (moments m) action byte ≡ origin_at ws before (moments m) action byte

-- a load among actions of no later cycle
pub record IsEarly (stamp : ℕ) (ask : LoadAsk) : Type 0 where
  pub at : ask.at ≤ stamp
  pub key : ask.key.stamp ≤ stamp

is_at_most : (a b : ℕ) → IsTrue (nat_le a b) → a ≤ b
is_at_most a b below = grind (arith, nat_tests)

seen_there : (stamp : ℕ) (actions : List Action) (place : ℕ) (action : Action) → IsTrue (list_all (is_seen stamp) actions) → slice_get actions place ≡ Some action → IsTrue (is_seen stamp action)
seen_there stamp actions place action seen there =
    passes_in (is_seen stamp) actions action seen (place, slice_get_within actions place action there, get_or_from_slice_get actions place action action there)

pub early_load : (stamp : ℕ) (actions : List Action) (place : ℕ) (ask : LoadAsk) → IsTrue (list_all (is_seen stamp) actions) → slice_get actions place ≡ Some (Loaded ask) → IsEarly stamp ask
early_load stamp actions place ask seen there =
    let parts = and_parts (nat_le ask.at stamp) (nat_le ask.key.stamp stamp) (seen_there stamp actions place (Loaded ask) seen there) in
    record { at = is_at_most ask.at stamp parts.0; key = is_at_most ask.key.stamp stamp parts.1 }

load_test : (stamp : ℕ) (ask : LoadAsk) → IsEarly stamp ask → is_seen stamp (Loaded ask) ≡ true
load_test stamp ask early = let at = early.at in let key = early.key in grind (arith, nat_tests)

-- with one more load
pub seen_next : (stamp : ℕ) (actions : List Action) (ask : LoadAsk) → IsTrue (list_all (is_seen stamp) actions) → IsEarly stamp ask → IsTrue (list_all (is_seen stamp) (then_action actions (Loaded ask)))
seen_next stamp actions ask seen early = rw (list_all-append (is_seen stamp) actions (Loaded ask ∷ []), seen, load_test stamp ask early) refl

module _ (ws later : List Write) (stamp : ℕ) (after : IsTrue (are_later stamp later)) (actions : List Action) (moments : ℕ → ℕ) where
  -- a read that a source may not stand below
  abbrev BelowNone : ℕ → Rank → Origin → Type 0
  BelowNone place own o = rank_below own (rank (take place actions) o) ≡ false

  keeps_more : Steady ws later actions moments → (place : ℕ) (ask : LoadAsk) (byte : ℕ) (own : Rank) → ask.key.stamp ≤ stamp → KeepsFloor ws actions moments place ask byte own → KeepsFloor (ws ++ later) actions moments place ask byte own
  keeps_more steady place ask byte own early keeps = record {
    reads = λ m before.
        if_some_with (slice_get actions m) (λ action. IfSome (origin_at ws (take m actions) (moments m) action byte) (BelowNone place own))
        (λ action. IfSome (origin_at (ws ++ later) (take m actions) (moments m) action byte) (BelowNone place own))
        (λ action there below. subst (λ o. IfSome o (BelowNone place own)) (sym (steady m action there (take m actions) byte)) below)
        (keeps.reads m before);
    own_writes = λ w there its below covering. keeps.own_writes w (is_earlier ws later stamp after w ask.key early there below) its below covering;
  }

  keeps_less : Steady ws later actions moments → (place : ℕ) (ask : LoadAsk) (byte : ℕ) (own : Rank) → KeepsFloor (ws ++ later) actions moments place ask byte own → KeepsFloor ws actions moments place ask byte own
  keeps_less steady place ask byte own keeps = record {
    reads = λ m before.
        if_some_with (slice_get actions m) (λ action. IfSome (origin_at (ws ++ later) (take m actions) (moments m) action byte) (BelowNone place own))
        (λ action. IfSome (origin_at ws (take m actions) (moments m) action byte) (BelowNone place own))
        (λ action there below. subst (λ o. IfSome o (BelowNone place own)) (steady m action there (take m actions) byte) below)
        (keeps.reads m before);
    own_writes = λ w there its below covering. keeps.own_writes w (Contains-append_left ws later w there) its below covering;
  }

  fits_more : Steady ws later actions moments → (image : List ℕ) (place : ℕ) (ask : LoadAsk) (k : ℕ) → IsEarly stamp ask → FitsThere image ws actions moments place ask k → FitsThere image (ws ++ later) actions moments place ask k
  fits_more steady image place ask k early fits =
      let before : List Action = take place actions in record {
        visible = sees_more ws later stamp after ask.key ask.at k early.at fits.visible;
        value = value_same ws later stamp after image before ask k ask.width ask.addr fits.visible.within ∙ fits.value;
        floor = λ i within.
            subst (λ o. KeepsFloor (ws ++ later) actions moments place ask (ask.addr + i) (rank before o)) (sym (origin_same ws later stamp after before ask k (ask.addr + i) fits.visible.within))
            (keeps_more steady place ask (ask.addr + i) (rank before (origin_of ws before ask k (ask.addr + i))) early.key (fits.floor i within));
      }

  fits_less : Steady ws later actions moments → (image : List ℕ) (place : ℕ) (ask : LoadAsk) (k : ℕ) → IsEarly stamp ask → FitsThere image (ws ++ later) actions moments place ask k → FitsThere image ws actions moments place ask k
  fits_less steady image place ask k early fits =
      let before : List Action = take place actions in
      let visible = sees_less ws later stamp after ask.key ask.at k early.at fits.visible in record {
        visible = visible;
        value = sym (value_same ws later stamp after image before ask k ask.width ask.addr visible.within) ∙ fits.value;
        floor = λ i within.
            subst (λ o. KeepsFloor ws actions moments place ask (ask.addr + i) (rank before o)) (origin_same ws later stamp after before ask k (ask.addr + i) visible.within)
            (keeps_less steady place ask (ask.addr + i) (rank before (origin_of (ws ++ later) before ask k (ask.addr + i))) (fits.floor i within));
      }

  -- what each action had is the same, where no load read past the first writes
  steady_within : IsTrue (list_all (is_seen stamp) actions) → ((place : ℕ) (ask : LoadAsk) → slice_get actions place ≡ Some (Loaded ask) → moments place ≤ length ws) → Steady ws later actions moments
  steady_within seen within m action there before byte = by_action action there
    where
      by_action : (a : Action) → slice_get actions m ≡ Some a → origin_at (ws ++ later) before (moments m) a byte ≡ origin_at ws before (moments m) a byte
      by_action (Loaded ask) at = ap (λ o. if is_within ask.addr ask.width byte then Some o else None) (origin_same ws later stamp after before ask (moments m) byte (within m ask at))
      by_action (Atomic key addr width reads acquires) at =
          ap (λ source. if reads && is_within addr width byte then Some (origin_of_key source) else None)
          (own_source_same ws later stamp after key byte (is_at_most key.stamp stamp (seen_there stamp actions m (Atomic key addr width reads acquires) seen at)))
      by_action (Stored store) at = refl
      by_action (Drained key line count) at = refl
      by_action (Fenced ww wr rr) at = refl

  steady_first : IsTrue (list_all (is_seen stamp) actions) → (image : List ℕ) → Fits image ws actions moments → Steady ws later actions moments
  steady_first seen image fits = steady_within seen (λ place ask there. let fit = fits place ask there in fit.visible.within)

  pub steady : IsTrue (list_all (is_seen stamp) actions) → (image : List ℕ) → Fits image (ws ++ later) actions moments → Steady ws later actions moments
  steady seen image fits = steady_within seen (λ place ask there.
      let fit = fits place ask there in
      let early = early_load stamp actions place ask seen there in
      seen_within ws later stamp after ask.key ask.at (moments place) early.at fit.visible)

  all_more : IsTrue (list_all (is_seen stamp) actions) → (image : List ℕ) → Fits image ws actions moments → Fits image (ws ++ later) actions moments
  all_more seen image fits place ask there =
      fits_more (steady_first seen image fits) image place ask (moments place) (early_load stamp actions place ask seen there) (fits place ask there)

  pub all_less : IsTrue (list_all (is_seen stamp) actions) → (image : List ℕ) → Fits image (ws ++ later) actions moments → Fits image ws actions moments
  all_less seen image fits place ask there =
      fits_less (steady seen image fits) image place ask (moments place) (early_load stamp actions place ask seen there) (fits place ask there)

-- so the least fitting assignment is the same
pub least_more : (ws later : List Write) (stamp : ℕ) → IsTrue (are_later stamp later) → (actions : List Action) (moments : ℕ → ℕ) → IsTrue (list_all (is_seen stamp) actions) → (image : List ℕ)
    → AreLeastSources image ws actions moments → AreLeastSources image (ws ++ later) actions moments
least_more ws later stamp after actions moments seen image are = record {
  fits = all_more ws later stamp after actions moments seen image are.fits;
  least = λ others fits. are.least others (all_less ws later stamp after actions others seen image fits);
}

pub least_less : (ws later : List Write) (stamp : ℕ) → IsTrue (are_later stamp later) → (actions : List Action) (moments : ℕ → ℕ) → IsTrue (list_all (is_seen stamp) actions) → (image : List ℕ)
    → AreLeastSources image (ws ++ later) actions moments → AreLeastSources image ws actions moments
least_less ws later stamp after actions moments seen image are = record {
  fits = all_less ws later stamp after actions moments seen image are.fits;
  least = λ others fits. are.least others (all_more ws later stamp after actions others seen image fits);
}
