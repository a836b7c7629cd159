-- What the lists of a state are, as the code needs it.
use Rattle.std.specs.Prelude.{◌≡◌, ◌≤◌, ℕ, Some, List, length}
use Rattle.std.specs.List.{slice_get}
use Rattle.dt_record.specs.declared.limits.TheConstants.{HART_LIMIT, RECORD_LIMIT}
use Rattle.dt_record.specs.declared.records.Record.{Record}
use Rattle.dt_record.specs.Lawful.{IsLawful}
use Rattle.dt_core.specs.Machine.{HartState, CoreState}

-- each of the records is lawful, and of this hart
abbrev pub AreOfHart : ℕ → List Record → Type 0
AreOfHart hart records = (i : ℕ) (r : Record) → slice_get records i ≡ Some r → IsLawful r × (r.hart ≡ hart)

-- what each hart has taken is its own, and not more than a file may have
pub record AreTaken {J : Type 0} (harts : List (HartState J)) : Type 0 where
  pub own : (hart : ℕ) (s : HartState J) → slice_get harts hart ≡ Some s → AreOfHart hart s.taken
  pub few : (hart : ℕ) (s : HartState J) → slice_get harts hart ≡ Some s → length s.taken ≤ RECORD_LIMIT

pub record IsSafe {J : Type 0} (c : CoreState J) : Type 0 where
  pub few_harts : length c.harts ≤ HART_LIMIT
  pub some_worker : 1 ≤ length c.seen
  pub few_workers : length c.seen ≤ 8
  pub taken : AreTaken c.harts
