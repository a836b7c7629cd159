use Rattle.std.specs.Prelude.{ℕ, ◌≡◌, ◌≤◌, ◌<◌, ◌+◌, ◌%◌, ◌==◌, ◌&&◌, Bool, true, false, not, Some, List, [], ◌∷◌, slice_get, IsTrue}
use Rattle.std.specs.List.{list_all}
use Rattle.dt_record.specs.declared.writes.Write.{Write}
use Rattle.dt_record.specs.declared.accesses.OwnStore.{OwnStore}
use Rattle.dt_record.specs.declared.accesses.LoadAsk.{LoadAsk}
use Rattle.dt_record.specs.declared.origins.Origin.TheVariants as origin
use Rattle.dt_record.specs.declared.origins.Sources.{Sources}
use Rattle.dt_record.specs.Actions.{Action}
use Rattle.dt_record.specs.Lawful.{is_in_ram}
use Rattle.dt_record.specs.LoadSources.{Rank, rank_below, origin_of, FitsLoad}
use Rattle.dt_versions.specs.Laws.{source_rank}
use Rattle.dt_stores.specs.Places.{is_store_width}
use Rattle.dt_stores.specs.Standing.{stores_of}
use Rattle.dt_local.specs.LocalMemory.{LocalMemory, newest_of}
use Rattle.dt_sources.specs.declared.finding.Found.{Found}
use Rattle.dt_sources.specs.declared.finding.Found.TheVariants as found

-- What `find` answers (this project's own).

-- a load from RAM, as wide as stores may be, whose address is a multiple of its width
abbrev pub is_load_place : LoadAsk → Bool
is_load_place ask = is_store_width ask.width && ((ask.addr % ask.width == 0) && is_in_ram ask.addr)

-- whether no two of the stores have the same number
abbrev pub are_apart : List OwnStore → Bool
are_apart [] = true
are_apart (s ∷ rest) = list_all (λ t. not (s.seq == t.seq)) rest && are_apart rest

-- the stores among some actions are told apart by their numbers, which are those of their records
abbrev pub StoresAreApart : List Action → Type 0
StoresAreApart actions = IsTrue (are_apart (stores_of actions))

-- the source of a byte does not stand below the newest key that local memory has for it
abbrev pub KeepsNewest : LocalMemory → ℕ → Rank → Type 0
KeepsNewest local byte own = rank_below own (source_rank (newest_of local byte)) ≡ false

-- the load may read at moment k, after some actions of its hart and with this local memory
abbrev pub FitsAsKnown : List ℕ → List Write → LocalMemory → List Action → LoadAsk → ℕ → Type 0
FitsAsKnown image writes local actions ask k = FitsLoad image writes actions (KeepsNewest local) ask k

-- it may read at moment k and at no earlier one
pub record IsLeastMoment (image : List ℕ) (writes : List Write) (local : LocalMemory) (actions : List Action) (ask : LoadAsk)
    (k : ℕ) : Type 0 where
  pub fits : FitsAsKnown image writes local actions ask k
  pub least : (j : ℕ) → FitsAsKnown image writes local actions ask j → k ≤ j

-- the sources of its bytes at moment k: one for each byte, the lowest address first
pub record AreSourcesAt (writes : List Write) (actions : List Action) (ask : LoadAsk) (k : ℕ) (sources : Sources) : Type 0 where
  pub count : sources.count ≡ ask.width
  pub from : (i : ℕ) → i < ask.width → slice_get sources.from i ≡ Some (origin_of writes actions ask k (ask.addr + i))
  pub no_more : (i : ℕ) → ask.width ≤ i → i < 8 → slice_get sources.from i ≡ Some origin.Image

-- a moment was found
abbrev pub OnAt : Found → (ℕ → Sources → Type 0) → Type 0
OnAt (found.At moment sources) P = P moment sources
OnAt found.Nowhere P = Unit {0}

-- no moment was found
abbrev pub OnNowhere : Found → Type 0 → Type 0
OnNowhere (found.At moment sources) P = Unit {0}
OnNowhere found.Nowhere P = P
