use Rattle.std.specs.Prelude.{ℕ, ◌≡◌, Bool, Some, List, take, slice_get, IsTrue}
use Rattle.dt_record.specs.declared.records.Record.{Record}
use Rattle.dt_record.specs.LoadSources.{AreLeastSources}
use Rattle.dt_reference.specs.HartActions.{action_of, actions_of}
use Rattle.dt_sources.specs.Knowing.{AreJudged}
use Rattle.dt_hart.specs.Settings.{Setting, did, next_key}
use Rattle.dt_hart.specs.Taking.{IsDrained, is_placed}

-- What is known of the records before a next one where all are allowed, whatever is kept of their hart (this project's own).

-- each drain takes its stores, after the actions of the records before it
abbrev pub AreDrained : List Record → Type 0
AreDrained records = (n : ℕ) (r : Record) → slice_get records n ≡ Some r → IsDrained (actions_of (take n records)) r.body

-- each load from RAM, store to RAM and atomic has a width that there is, and is aligned to it
abbrev pub ArePlaced : List Record → Type 0
ArePlaced records = (n : ℕ) (r : Record) → slice_get records n ≡ Some r → IsTrue (is_placed (action_of n r))

-- the records before the next one are allowed, and their loads read at the moments of the least fitting assignment
pub record IsLegal (s : Setting) : Type 0 where
  pub chosen : AreLeastSources s.image s.writes (did s) s.moments
  pub judged : AreJudged s.writes (did s) (next_key s)
  pub drained : AreDrained s.before
  pub placed : ArePlaced s.before

-- the setting is one of this hart, in a file that does or does not let harts use Sv48, after these records
pub record IsOver (number : ℕ) (sv48 : Bool) (records : List Record) (s : Setting) : Type 0 where
  pub hart : s.hart ≡ number
  pub wide : s.wide ≡ sv48
  pub before : s.before ≡ records
