use Rattle.std.proofs.Common.{◌≡◌, Result, Ok, ap, ◌∙◌}
use Rattle.dt_record.specs.declared.keys.Key.{Key}
use Rattle.dt_rules.specs.declared.misfits.Misfit.{Misfit}
use Rattle.dt_rules.specs.Checks.{and_then}
use Rattle.dt_atomics.specs.declared.accesses.AtomicAccess.{AtomicAccess}
use Rattle.dt_atomics.specs.Answers.{access_check, may_succeed, old_value}
use Rattle.dt_atomics.specs.Draining.{all_drained_check}
use Rattle.dt_atomics.specs.Grounds.{AtomicGrounds}
use Rattle.dt_atomics.specs.Values.{success_check, value_check, write_check}

-- One check after another.

goes_on : {A B : Type 0} (first : Result A Misfit) (later : A → Result B Misfit) (x : A) (answer : Result B Misfit) → first ≡ Ok x → later x ≡ answer → and_then first later ≡ answer
goes_on first later x answer is then = ap (λ r. and_then r later) is ∙ then

-- all of them hold
pub all_hold : (g : AtomicGrounds) (key : Key) (x : AtomicAccess)
    → all_drained_check g.actions key x ≡ Ok tt → success_check (may_succeed g key x) x ≡ Ok tt
    → value_check (old_value g key x) x ≡ Ok tt → write_check (old_value g key x) x ≡ Ok tt
    → access_check g key x ≡ Ok tt
all_hold g key x drained success value write =
    goes_on (all_drained_check g.actions key x) _ tt (Ok tt) drained
    (goes_on (success_check (may_succeed g key x) x) _ tt (Ok tt) success
    (goes_on (value_check (old_value g key x) x) _ tt (Ok tt) value write))
