use Rattle.std.specs.Prelude.{ℕ, ◌≡◌, ◌↔◌, Bool, Option, Some, List, ◌++◌, slice_get, Result, IsTrue}
use Rattle.std.specs.List.{list_all}
use Rattle.dt_record.specs.declared.accesses.LoadAsk.{LoadAsk}
use Rattle.dt_record.specs.declared.records.Record.{Record}
use Rattle.dt_record.specs.declared.writes.Write.{Write}
use Rattle.dt_record.specs.Actions.{Action, Loaded}
use Rattle.dt_record.specs.Lawful.{is_lawful}
use Rattle.dt_record.specs.LoadSources.{AreLeastSources}
use Rattle.dt_hart.specs.OwnWrites.{GoesOn}
use Rattle.dt_hart.specs.Settings.{Setting, did}
use Rattle.dt_rules.specs.declared.misfits.Passed.{Passed}
use Rattle.dt_rules.specs.declared.misfits.Misfit.{Misfit}
use Rattle.dt_versions.specs.History.{are_in_order}
use Rattle.dt_judge.specs.Judgement.{Finds}
use Rattle.dt_judge.specs.Judging.{are_later}
use Rattle.dt_judge.specs.Runs.{RunsTo}

-- Laws of the judgement (this project's own).

-- a record has one finding
abbrev pub RecordsHaveOneFinding : Type 0
RecordsHaveOneFinding = (s : Setting) (r : Record) (f g : Result Passed Misfit) → Finds s r f → Finds s r g → f ≡ g

-- a setting whose loads read at other moments
abbrev pub with_moments : Setting → (ℕ → ℕ) → Setting
with_moments s moments = record s { moments = moments }

-- two assignments give each load among some actions the same moment
abbrev pub AgreeAtLoads : List Action → (moments others : ℕ → ℕ) → Type 0
AgreeAtLoads actions moments others = (place : ℕ) (ask : LoadAsk) → slice_get actions place ≡ Some (Loaded ask)
    → others place ≡ moments place

-- only the moments at which the hart's loads before read count
abbrev pub EarlierMomentsDecide : Type 0
EarlierMomentsDecide = (s : Setting) (others : ℕ → ℕ) (r : Record) (f : Result Passed Misfit)
    → AgreeAtLoads (did s) s.moments others → Finds s r f → Finds (with_moments s others) r f

-- a setting with more writes behind its own
abbrev pub with_later : Setting → List Write → Setting
with_later s later = record s { writes = s.writes ++ later }

-- A record comes next in a setting: the hart's records go on with it, it and those before are lawful, and the loads before
-- read at the moments of the least fitting assignment.
pub record ComesNext (s : Setting) (r : Record) : Type 0 where
  pub goes_on : GoesOn s r
  pub lawful : IsTrue (list_all is_lawful s.before)
  pub its_lawful : IsTrue (is_lawful r)
  pub chosen : AreLeastSources s.image s.writes (did s) s.moments

-- The judgement of a record reads the writes only up to the record's cycle: later ones decide nothing.
abbrev pub LaterWritesDecideNothing : Type 0
LaterWritesDecideNothing = (s : Setting) (later : List Write) (r : Record) (f : Result Passed Misfit)
    → ComesNext (with_later s later) r → IsTrue (are_later r.stamp later) → Finds s r f ↔ Finds (with_later s later) r f

-- Over writes that stand in the order of their keys, a hart's records are allowed up to one place only, with the same
-- letters and sources, and the next one, if any, has one reason.
abbrev pub RunsHaveOneEnd : Type 0
RunsHaveOneEnd = (image : List ℕ) (writes : List Write) (wide : Bool) (hart : ℕ) (records : List Record)
    (allowed others : List Passed) (refused other : Option Misfit) → IsTrue (are_in_order writes)
    → RunsTo image writes wide hart records allowed refused → RunsTo image writes wide hart records others other
    → (allowed ≡ others) × (refused ≡ other)

-- Some records of a hart are allowed from the first on, and then all are or the next one has a reason.
pub record HasEnd (image : List ℕ) (writes : List Write) (wide : Bool) (hart : ℕ) (records : List Record) : Type 0 where
  pub allowed : List Passed
  pub refused : Option Misfit
  pub runs : RunsTo image writes wide hart records allowed refused

-- Over writes that stand in the order of their keys, every hart's records have a run to their end.
abbrev pub RunsHaveAnEnd : Type 0
RunsHaveAnEnd = (image : List ℕ) (writes : List Write) (wide : Bool) (hart : ℕ) (records : List Record) → IsTrue (are_in_order writes)
    → HasEnd image writes wide hart records
