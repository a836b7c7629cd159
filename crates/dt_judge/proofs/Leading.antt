use Rattle.std.proofs.Common.{ℕ, ◌≡◌, ◌==◌, List, Result, Ok, Err, None, sym, subst}
use Rattle.std.specs.Prelude.{OnOk, IfOk}
use Rattle.std.specs.Map.{lookup}
use Rattle.dt_record.specs.declared.keys.Key.{Key}
use Rattle.dt_record.specs.declared.writes.Write.{Write}
use Rattle.dt_record.specs.Actions.{Action}
use Rattle.dt_rules.specs.declared.misfits.Misfit.{Misfit}
use Rattle.dt_rules.specs.declared.misfits.Passed.{Passed}
use Rattle.dt_local.specs.LocalMemory.{LocalMemory, local_memory}
use Rattle.dt_sources.specs.Knowing.{IsGreatest, IsKnownKey, Knows}
use Rattle.dt_judge.specs.Kinds.{Leads}

-- What checks lead to, and facts of results.

pub leads_ok : {A : Type 0} (r : Result A Misfit) (x : A) (Later : A → Result Passed Misfit → Type 0) (f : Result Passed Misfit) → r ≡ Ok x → Later x f → Leads r Later f
leads_ok (Ok y) x Later f is holds = let same : x ≡ y = cc in subst (λ z. Later z f) same holds
leads_ok (Err refused) x Later f is holds = let no : Err refused ≡ Ok x = is in absurd (cc)

pub leads_err : {A : Type 0} (r : Result A Misfit) (refused : Misfit) (Later : A → Result Passed Misfit → Type 0) (f : Result Passed Misfit) → r ≡ Err refused → f ≡ Err refused → Leads r Later f
leads_err (Ok y) refused Later f is stops = let no : Ok y ≡ Err refused = is in absurd (cc)
leads_err (Err other) refused Later f is stops = let same : other ≡ refused = cc in subst (λ e. f ≡ Err e) (sym same) stops

pub on_ok : {A E : Type 0} (r : Result A E) (P Q : Type 0) → (P → Q) → OnOk r P → OnOk r Q
on_ok (Ok x) P Q then holds = then holds
on_ok (Err e) P Q then holds = tt

pub if_ok : {A E : Type 0} (r : Result A E) (P Q : A → Type 0) → ((x : A) → P x → Q x) → IfOk r P → IfOk r Q
if_ok (Ok x) P Q then holds = then x holds
if_ok (Err e) P Q then holds = tt

-- local memories with the same keys know the same
pub same_knowing : (l : LocalMemory) (keys : List (ℕ × Key)) (writes : List Write) (actions : List Action) (moments : ℕ → ℕ) (key : Key) → l.keys ≡ keys
    → Knows (local_memory keys None) writes actions moments key → Knows l writes actions moments key
same_knowing l keys writes actions moments key same knows = λ byte. subst (λ (ks : List (ℕ × Key)). IsGreatest (IsKnownKey writes actions moments key byte) (lookup (λ a. a == byte) ks)) (sym same) (knows byte)
