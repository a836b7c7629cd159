-- Whether a reservation is live counts for an SC alone.
use Rattle.std.proofs.Common.{◌≡◌, ◌&&◌, Bool, true, false, not, refl, ap}
use Rattle.std.specs.Prelude.{◌||◌, Ok}
use Rattle.dt_record.specs.declared.reasons.Reason.TheVariants.{ScSuccess}
use Rattle.dt_rules.specs.Checks.{misfit, check}
use Rattle.dt_atomics.specs.declared.accesses.AtomicAccess.{AtomicAccess}
use Rattle.dt_atomics.specs.Asking.{has_failed, is_conditional}
use Rattle.dt_atomics.specs.Values.{success_check}

tested_alone : (conditional wrote live : Bool) → (not (conditional && wrote) || live) ≡ (not (conditional && wrote) || (conditional && live))
tested_alone true wrote live = refl
tested_alone false wrote live = refl

failed_alone : (conditional failed live : Bool) → ((conditional && failed) && (conditional && live)) ≡ ((conditional && failed) && live)
failed_alone true failed live = refl
failed_alone false failed live = refl

pub asked_success : (live : Bool) (x : AtomicAccess) → success_check live x ≡ success_check (is_conditional x.op && live) x
asked_success live x = ap (λ b. check b (misfit ScSuccess 1 0) (Ok tt)) (tested_alone (is_conditional x.op) x.wrote live)

pub asked_failure : (live : Bool) (x : AtomicAccess) → (has_failed x && (is_conditional x.op && live)) ≡ (has_failed x && live)
asked_failure live x = failed_alone (is_conditional x.op) (not x.wrote) live
