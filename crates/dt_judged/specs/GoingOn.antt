use Rattle.std.specs.Prelude.{ℕ, ◌≡◌, ◌≢◌, false, List, [], IsTrue, Contains}
use Rattle.dt_record.specs.declared.keys.Key.{Key}
use Rattle.dt_record.specs.declared.writes.Write.{Write}
use Rattle.dt_record.specs.declared.accesses.OwnStore.{OwnStore}
use Rattle.dt_record.specs.Keys.{KeyBelow, key_below}
use Rattle.dt_record.specs.Actions.{Action, Stored, Drained}
use Rattle.dt_stores.specs.declared.answers.DrainAnswer.TheVariants as answer
use Rattle.dt_stores.specs.Kept.{Kept}
use Rattle.dt_stores.specs.Standing.{StoresStand, stores_of}
use Rattle.dt_stores.specs.Draining.{drain_answer}
use Rattle.dt_stores.specs.Places.{is_store_place}
use Rattle.dt_stores.specs.GoingOn.{is_quiet}
use Rattle.dt_sources.specs.Choice.{then_action}
use Rattle.dt_sources.specs.Knowing.{AreJudged}

-- How the actions of a hart go on being judged, from one record, with the key next, to a later one of the
-- hart, with the key after (this project's own).

-- the key is one of the same hart, and not below
pub record IsOnward (next after : Key) : Type 0 where
  pub hart : next.hart ≡ after.hart
  pub rises : key_below after next ≡ false

-- no store among the actions has the number
abbrev pub IsNewNumber : List Action → ℕ → Type 0
IsNewNumber actions seq = (s : OwnStore) → Contains (stores_of actions) s → s.seq ≢ seq

-- The record with this key drained so: its count and its barrier allow that, and it wrote with the mask
-- of the stores that it took.
pub record IsAllowedDrain (writes : List Write) (actions : List Action) (key : Key) (line count : ℕ) : Type 0 where
  pub write : Write
  pub there : Contains writes write
  pub is_its : write.key ≡ key
  pub on_line : write.line ≡ line
  pub bytes : List ℕ
  pub took : drain_answer actions line count ≡ answer.Took write.mask bytes

-- Before the first record no action was done. A record that does none leaves them judged, as do a fence,
-- a load and an atomic, a store that is placed and has a number of its own, and a drain that is allowed.
-- More writes leave them judged too.
pub record JudgedGoesOn : Type 0 where
  pub at_first : (writes : List Write) (next : Key) → AreJudged writes [] next
  pub more_writes : (writes more : List Write) (actions : List Action) (next : Key)
      → AreJudged writes actions next → ((w : Write) → Contains writes w → Contains more w) → AreJudged more actions next
  pub other_record : (writes : List Write) (actions : List Action) (next after : Key)
      → AreJudged writes actions next → IsOnward next after → AreJudged writes actions after
  pub quiet : (writes : List Write) (actions : List Action) (action : Action) (next after : Key)
      → AreJudged writes actions next → IsOnward next after → IsTrue (is_quiet action)
      → AreJudged writes (then_action actions action) after
  pub stored : (kept : Kept) (writes : List Write) (actions : List Action) (s : OwnStore) (next after : Key) → StoresStand kept actions
      → AreJudged writes actions next → IsOnward next after → IsTrue (is_store_place s) → IsNewNumber actions s.seq
      → AreJudged writes (then_action actions (Stored s)) after
  pub drained : (kept : Kept) (writes : List Write) (actions : List Action) (line count : ℕ) (next after : Key) → StoresStand kept actions
      → AreJudged writes actions next → IsOnward next after → KeyBelow next after → IsAllowedDrain writes actions next line count
      → AreJudged writes (then_action actions (Drained next line count)) after
