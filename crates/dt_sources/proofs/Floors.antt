use Rattle.std.proofs.Common.{ℕ, ◌≡◌, ◌<◌, ◌≤◌, Bool, true, false, if◌then◌else◌, Option, Some, None, List, take, refl, IsTrue}
use Rattle.std.specs.Prelude.{IfSome}
use Rattle.std.specs.Option.{option_map_or}
use Rattle.std.specs.List.{slice_get}
use Rattle.dt_record.specs.declared.keys.Key.{Key}
use Rattle.dt_record.specs.declared.writes.Write.{Write}
use Rattle.dt_record.specs.declared.accesses.LoadAsk.{LoadAsk}
use Rattle.dt_record.specs.declared.origins.Origin.TheVariants as origin
use Rattle.dt_record.specs.Memory.{source_at}
use Rattle.dt_record.specs.Actions.{Action, Stored, Drained, Fenced, Loaded, Atomic, Held, forwarded}
use Rattle.dt_record.specs.LoadSources.{Rank, rank, rank_below, origin_of, origin_of_key, origin_at, is_within, KeepsFloor}
use Rattle.dt_versions.specs.History.{are_in_order}
use Rattle.dt_versions.specs.Laws.{SourcesRise, source_rank}
use Rattle.dt_sources.specs.Choice.{FitsThere}
use Rattle.dt_sources.proofs.Ranks.{rank_below-itself, not_below-chain}

-- An assignment that is nowhere earlier asks floors that are nowhere lower.

-- a forwarded byte ranks alike at all moments, and another one as its write
ranks_rise : (now : List Action) (own : Option Held) (early late : Option Key) → rank_below (source_rank late) (source_rank early) ≡ false
    → rank_below (rank now (option_map_or (λ h. origin.Store h.store.seq) own (origin_of_key late)))
    (rank now (option_map_or (λ h. origin.Store h.store.seq) own (origin_of_key early))) ≡ false
ranks_rise now (Some h) early late rises = rank_below-itself (rank now (origin.Store h.store.seq))
ranks_rise now None None None rises = rises
ranks_rise now None None (Some l) rises = rises
ranks_rise now None (Some e) None rises = rises
ranks_rise now None (Some e) (Some l) rises = rises

pub origin_rises : SourcesRise → (writes : List Write) (before now : List Action) (ask : LoadAsk) (byte j k : ℕ) → IsTrue (are_in_order writes) → j ≤ k
    → rank_below (rank now (origin_of writes before ask k byte)) (rank now (origin_of writes before ask j byte)) ≡ false
origin_rises rises writes before now ask byte j k ordered later =
    ranks_rise now (forwarded ask.at before byte) (source_at writes j byte) (source_at writes k byte) (rises writes byte j k ordered later)

-- no source of the byte that an action at this place had ranks above this one
abbrev pub KeepsRead : List Write → (found : Option Action) → (before now : List Action) → (k byte : ℕ) → Rank → Type 0
KeepsRead writes found before now k byte own = IfSome found (λ action. IfSome (origin_at writes before k action byte) (λ o. rank_below own (rank now o) ≡ false))

abbrev KeepsOrigin : List Write → (before now : List Action) → LoadAsk → (byte : ℕ) → Rank → Bool → ℕ → Type 0
KeepsOrigin writes before now a byte own within n = IfSome (if within then Some (origin_of writes before a n byte) else None) (λ o. rank_below own (rank now o) ≡ false)

read_falls : SourcesRise → (writes : List Write) (before now : List Action) (byte : ℕ) (own : Rank) (j k : ℕ) → IsTrue (are_in_order writes)
    → (found : Option Action) → ((a : LoadAsk) → found ≡ Some (Loaded a) → j ≤ k)
    → KeepsRead writes found before now k byte own → KeepsRead writes found before now j byte own
read_falls rises writes before now byte own j k ordered None later keeps = keeps
read_falls rises writes before now byte own j k ordered (Some (Loaded a)) later keeps = loaded (is_within a.addr a.width byte) keeps
  where
    loaded : (within : Bool) → KeepsOrigin writes before now a byte own within k → KeepsOrigin writes before now a byte own within j
    loaded true kept = not_below-chain own (rank now (origin_of writes before a k byte)) (rank now (origin_of writes before a j byte)) kept
        (origin_rises rises writes before now a byte j k ordered (later a refl))
    loaded false kept = kept
read_falls rises writes before now byte own j k ordered (Some (Stored s)) later keeps = keeps
read_falls rises writes before now byte own j k ordered (Some (Drained key line count)) later keeps = keeps
read_falls rises writes before now byte own j k ordered (Some (Fenced ww wr rr)) later keeps = keeps
read_falls rises writes before now byte own j k ordered (Some (Atomic key addr width reads acquires)) later keeps = keeps

-- an assignment is nowhere later than another at the loads before a place
pub record IsNoLater (actions : List Action) (place : ℕ) (moments others : ℕ → ℕ) : Type 0 where
  pub at : (m : ℕ) (a : LoadAsk) → m < place → slice_get actions m ≡ Some (Loaded a) → moments m ≤ others m

pub floor_falls : SourcesRise → (writes : List Write) (actions : List Action) (moments others : ℕ → ℕ) (place : ℕ) (ask : LoadAsk) (byte : ℕ) (own : Rank)
    → IsTrue (are_in_order writes) → IsNoLater actions place moments others
    → KeepsFloor writes actions others place ask byte own → KeepsFloor writes actions moments place ask byte own
floor_falls rises writes actions moments others place ask byte own ordered earlier keeps = record {
  reads = λ m before. read_falls rises writes (take m actions) (take place actions) byte own (moments m) (others m) ordered (slice_get actions m)
      (λ a is. earlier.at m a before is) (keeps.reads m before);
  own_writes = keeps.own_writes;
}

pub fits_falls : SourcesRise → (image : List ℕ) (writes : List Write) (actions : List Action) (moments others : ℕ → ℕ) (place : ℕ) (ask : LoadAsk) (k : ℕ)
    → IsTrue (are_in_order writes) → IsNoLater actions place moments others
    → FitsThere image writes actions others place ask k → FitsThere image writes actions moments place ask k
fits_falls rises image writes actions moments others place ask k ordered earlier fits = record {
  visible = fits.visible;
  value = fits.value;
  floor = λ i within. floor_falls rises writes actions moments others place ask _ _ ordered earlier (fits.floor i within);
}
