-- Any judgement of one hart's records, in their order. All of it is this project's own.
use Rattle.std.specs.Prelude.{◌≡◌, ℕ, ◌+◌, Bool, false, Option, Some, None, List, [], ◌∷◌, if◌then◌else◌}
use Rattle.dt_record.specs.declared.keys.Key.{Key}
use Rattle.dt_record.specs.declared.records.Record.{Record}
use Rattle.dt_record.specs.declared.writes.Write.{Write}
use Rattle.dt_record.specs.Keys.{key_of}
use Rattle.dt_versions.specs.History.{writes_until}

-- what a judgement answers: its state before the first record of a hart; whether a record is allowed
-- after a state, over these writes; and the state after the record
pub record Meaning (J : Type 0) : Type 0 where
  pub opening : ℕ → J
  pub allows : J → List Write → Record → Bool
  pub after : J → List Write → Record → J

-- writes of later cycles than a record's do not count for it
abbrev pub ReadsNoLaterWrites : {J : Type 0} → Meaning J → Type 0
ReadsNoLaterWrites {J} m = (state : J) (ws vs : List Write) (r : Record) → writes_until r.stamp ws ≡ writes_until r.stamp vs
    → (m.allows state ws r ≡ m.allows state vs r) × (m.after state ws r ≡ m.after state vs r)

-- Over these writes the first of the records have these outcomes, one after another from a first
-- state to a last one. Behind a record that is not allowed none is judged.
abbrev pub AreAnswered : {J : Type 0} → Meaning J → List Write → J → List Record → List Bool → J → Type 0
AreAnswered m writes first records [] last = last ≡ first
AreAnswered m writes first [] (o ∷ os) last = ⊥
AreAnswered m writes first (r ∷ rs) (o ∷ os) last =
    (o ≡ m.allows first writes r) × (o ≡ false → os ≡ []) × AreAnswered m writes (m.after first writes r) rs os last

-- the key of the first record that is not allowed over these writes, where the first record has this number
abbrev pub failure_from : {J : Type 0} → Meaning J → List Write → ℕ → J → List Record → Option Key
failure_from m writes seq state [] = None
failure_from m writes seq state (r ∷ rs) =
    if m.allows state writes r then failure_from m writes (seq + 1) (m.after state writes r) rs else Some (key_of seq r)

-- the failure of a hart with these records, if any
abbrev pub failure_by : {J : Type 0} → Meaning J → List Write → ℕ → List Record → Option Key
failure_by m writes hart records = failure_from m writes 0 (m.opening hart) records
