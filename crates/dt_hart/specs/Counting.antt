use Rattle.std.specs.Prelude.{◌+◌, ◌≤◌, List, length}
use Rattle.dt_record.specs.declared.keys.Key.{Key}
use Rattle.dt_record.specs.Actions.{Action}
use Rattle.dt_stores.specs.GoingOn.{AreDrainedBelow}
use Rattle.dt_stores.specs.Kept.{Kept}
use Rattle.dt_stores.specs.Standing.{StoresStand}

-- A store buffer stands for some actions, no more than its hart had records, so it counted no more fences than these;
-- and the drains among them have keys below one that the hart's next record may have (this project's own).
pub record IsCounted (stores : Kept) (next : Key) : Type 0 where
  pub actions : List Action
  pub stands : StoresStand stores actions
  pub few : length actions ≤ next.seq
  pub below : AreDrainedBelow next stores.held

-- the least key of the record after the one with this key
abbrev pub key_after : Key → Key
key_after key = record key { seq = key.seq + 1 }

-- it goes on so by the record with this key
abbrev pub CountsOn : Key → Kept → Kept → Type 0
CountsOn key old new = IsCounted old key → IsCounted new (key_after key)
