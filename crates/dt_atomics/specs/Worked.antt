use Rattle.std.specs.Prelude.{ℕ, ◌≡◌, true, false, None, Err, refl}
use Rattle.dt_record.specs.declared.keys.Key.{Key}
use Rattle.dt_record.specs.declared.reasons.Reason.TheVariants.{AtomicValue, AtomicWrite, ScSuccess}
use Rattle.dt_rules.specs.Checks.{misfit}
use Rattle.dt_step.specs.declared.plans.AtomicOp.TheVariants.{Lr, Sc}
use Rattle.dt_atomics.specs.declared.accesses.AtomicAccess.{AtomicAccess}
use Rattle.dt_atomics.specs.Answers.{fails_alive, may_succeed}
use Rattle.dt_atomics.specs.Grounds.{AtomicGrounds}
use Rattle.dt_atomics.specs.Values.{result_check, success_check, write_check}

-- Worked examples of the definitions (this project's own).

-- an SC that wrote without a reservation
success_without_reservation : (g : AtomicGrounds) (key : Key) (x : AtomicAccess)
    → success_check (may_succeed (record g { reserved = None }) key x) (record x { op = Sc; wrote = true }) ≡ Err (misfit ScSuccess 1 0)
success_without_reservation g key x = refl

-- an SC that failed and gave 0
failure_that_gives_zero : result_check false 0 ≡ Err (misfit AtomicValue 1 0)
failure_that_gives_zero = refl

-- a failure without a reservation departs from nothing
failure_without_reservation : (g : AtomicGrounds) (key : Key) (x : AtomicAccess)
    → fails_alive (record g { reserved = None }) key (record x { op = Sc; wrote = false }) ≡ false
failure_without_reservation g key x = refl

-- an LR that says that it wrote
reservation_that_writes : (old : ℕ) (x : AtomicAccess)
    → write_check old (record x { op = Lr; width = 8; said_width = 8; wrote = true }) ≡ Err (misfit AtomicWrite 0 1)
reservation_that_writes old x = refl
