use Rattle.std.specs.Prelude.{ℕ, ◌≡◌, true, false, Bool, List, [], ◌∷◌, Ok, Err, refl}
use Rattle.dt_record.specs.declared.keys.Key.{Key}
use Rattle.dt_record.specs.declared.reasons.Reason.TheVariants.{Order}
use Rattle.dt_record.specs.Actions.{Action, Stored, Drained, Fenced, Atomic}
use Rattle.dt_rules.specs.Checks.{misfit}
use Rattle.dt_loads.specs.Checks.{order_check}

-- Examples of a load's order that the definitions compute (this project's own): a hart stores 7, and
-- loads from elsewhere.

abbrev line : ℕ
line = 0x8000_0100

abbrev key : (stamp hart seq : ℕ) → Key
key stamp hart seq = record { stamp = stamp; hart = hart; seq = seq }

abbrev stored : Action
stored = Stored (record { seq = 2; addr = line; width = 8; value = 7 })

-- behind FENCE rw,rw no load is performed before the store has drained
pub load_over_a_fence : order_check (stored ∷ Fenced true true true ∷ []) 8 ≡ Err (misfit Order 2 8)
load_over_a_fence = refl

pub load_behind_the_drain : order_check (stored ∷ Fenced true true true ∷ Drained (key 6 0 4) line 1 ∷ []) 6 ≡ Ok tt
load_behind_the_drain = refl

-- FENCE.TSO does not order reads behind writes
pub load_over_a_fence_tso : order_check (stored ∷ Fenced true false true ∷ []) 8 ≡ Ok tt
load_over_a_fence_tso = refl

-- an AMO in cycle 6 behind the drain: no load is performed before it where it is an acquire
abbrev amo : Bool → List Action
amo acquires = stored ∷ Drained (key 5 0 4) line 1 ∷ Atomic (key 6 0 5) line 8 true acquires ∷ []

pub load_before_an_acquire : order_check (amo true) 5 ≡ Err (misfit Order 6 5)
load_before_an_acquire = refl

pub load_before_another_amo : order_check (amo false) 5 ≡ Ok tt
load_before_another_amo = refl
