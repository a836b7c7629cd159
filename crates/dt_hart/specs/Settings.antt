use Rattle.std.specs.Prelude.{ℕ, Bool, Option, Some, List, [], ◌∷◌, ◌++◌, length}
use Rattle.dt_record.specs.declared.keys.Key.{Key}
use Rattle.dt_record.specs.declared.records.Record.{Record}
use Rattle.dt_record.specs.declared.writes.Write.{Write}
use Rattle.dt_record.specs.Actions.{Action, Loaded}
use Rattle.dt_record.specs.Keys.{key_of}
use Rattle.dt_reference.specs.HartActions.{action_of, actions_of}
use Rattle.dt_reference.specs.Run.{state_after}
use Rattle.dt_sources.specs.Choice.{with_moment}
use Rattle.dt_step.specs.declared.state.Arch.{Arch}

-- What a record of a hart is judged against (this project's own): the image, all writes of the file in the order of
-- their keys, the hart, whether harts may use Sv48, the hart's records before, and the moments at which the loads among
-- these read memory, by the place of the load among the hart's actions. What moments has at other places does not count.
pub record Setting : Type 0 where
  pub image : List ℕ
  pub writes : List Write
  pub hart : ℕ
  pub wide : Bool
  pub before : List Record
  pub moments : ℕ → ℕ

-- a setting with no record before
abbrev pub at_first : (image : List ℕ) (writes : List Write) (hart : ℕ) (wide : Bool) (moments : ℕ → ℕ) → Setting
at_first image writes hart wide moments =
    record { image = image; writes = writes; hart = hart; wide = wide; before = []; moments = moments }

-- the reference's state before the next record
abbrev pub arch_of : Setting → Arch
arch_of s = state_after s.hart s.wide s.before

-- what the hart did before it
abbrev pub did : Setting → List Action
did s = actions_of s.before

-- what a next record does
abbrev pub does : Setting → Record → Option Action
does s r = action_of (length s.before) r

-- its key
abbrev pub key_in : Setting → Record → Key
key_in s r = key_of (length s.before) r

-- the stamp of the last of some records, and this one where there is none
abbrev pub stamp_from : ℕ → List Record → ℕ
stamp_from stamp [] = stamp
stamp_from stamp (r ∷ rs) = stamp_from r.stamp rs

-- the stamp of the last of a hart's first records, and 0 before the first
abbrev pub last_stamp : List Record → ℕ
last_stamp records = stamp_from 0 records

-- the least key that a next record may have
abbrev pub next_key : Setting → Key
next_key s = record { stamp = last_stamp s.before; hart = s.hart; seq = length s.before }

-- the moments of the loads after one more action: a load from RAM reads at this one
abbrev pub moments_after : Setting → Option Action → ℕ → ℕ → ℕ
moments_after s (Some (Loaded ask)) moment = with_moment s.moments (length (did s)) moment
moments_after s action moment = s.moments

-- the setting after one more record, which read memory at this moment where it is a load from RAM
abbrev pub after : Setting → Record → (moment : ℕ) → Setting
after s r moment = record s { before = s.before ++ r ∷ []; moments = moments_after s (does s r) moment }
