use Rattle.std.specs.Prelude.{ℕ, ◌≡◌, ◌<◌, Option, Some, None, List, take, slice_get, IsTrue, IfSome}
use Rattle.std.specs.Option.{option_map_or}
use Rattle.dt_record.specs.declared.accesses.LoadAsk.{LoadAsk}
use Rattle.dt_record.specs.declared.keys.Key.{Key}
use Rattle.dt_record.specs.declared.writes.Write.{Write}
use Rattle.dt_record.specs.Actions.{Action, Loaded, Atomic}
use Rattle.dt_record.specs.Keys.{KeyBelow}
use Rattle.dt_record.specs.LoadSources.{Fits, found_value}
use Rattle.dt_record.specs.Memory.{moment_of}
use Rattle.dt_versions.specs.History.{are_in_order}
use Rattle.dt_sources.specs.Knowing.{AreJudged}

-- Loads that each read memory as it stands when their turn comes (this project's own).

-- the key of a load or an atomic
abbrev pub read_key : Action → Option Key
read_key (Loaded ask) = Some ask.key
read_key (Atomic key addr width reads acquires) = Some key
read_key _ = None

-- the assignment of the moments of the keys
abbrev pub key_moment : List Write → Option Action → ℕ
key_moment writes found = option_map_or (λ action. option_map_or (moment_of writes) (read_key action) 0) found 0

abbrev pub key_moments : List Write → List Action → ℕ → ℕ
key_moments writes actions place = key_moment writes (slice_get actions place)

-- The load at a place is of its record's cycle, finds its value at the moment of its key, and stands after the reads before
-- it; what holds of judged records holds of the actions before it.
pub record ReadsAtItsKey (image : List ℕ) (writes : List Write) (actions : List Action) (place : ℕ) (ask : LoadAsk) : Type 0 where
  pub now : ask.at ≡ ask.key.stamp
  pub value : found_value image writes (take place actions) ask (moment_of writes ask.key) ask.width ask.addr ≡ ask.raw
  pub rises : (m : ℕ) (action : Action) → m < place → slice_get actions m ≡ Some action
      → IfSome (read_key action) (λ key. KeyBelow key ask.key)
  pub judged : AreJudged writes (take place actions) ask.key

-- where each load does, the assignment of the moments of the keys fits
abbrev pub ReadsAtKeysFit : Type 0
ReadsAtKeysFit = (image : List ℕ) (writes : List Write) (actions : List Action) → IsTrue (are_in_order writes)
    → ((place : ℕ) (ask : LoadAsk) → slice_get actions place ≡ Some (Loaded ask) → ReadsAtItsKey image writes actions place ask)
    → Fits image writes actions (key_moments writes actions)
