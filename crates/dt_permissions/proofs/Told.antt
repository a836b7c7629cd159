-- What a source that was read to its end, or far enough, had left.
use Rattle.std.proofs.Common.{◌≡◌, ℕ, ◌<◌, ◌≤◌, Option, Some, None, List, [], ◌++◌, length, sym, ap, ◌∙◌, subst, inl, inr, arith}
use Rattle.std.specs.Prelude.{◌⊎◌, Result, Ok, Err, IfSome, OnOk}
use Rattle.std.proofs.lemmas.Bool.{cases_lt}
use Rattle.std.proofs.lemmas.List.{append-nil}
use Rattle.dt_source.specs.Known.{TakesFrom}
use Rattle.dt_permissions.specs.declared.reading.PermsRefusal.{PermsRefusal}
use Rattle.dt_permissions.specs.Events.{PermsView}
use Rattle.dt_permissions.specs.Files.{perms_of}
use Rattle.dt_permissions.proofs.Fronts.{front_decides}

all_or_front : (bytes rest : List ℕ) → length bytes ≤ 75497506 → (length bytes < 75497506 → rest ≡ [])
    → ((length bytes < 75497506) ⊎ (75497506 ≤ length bytes)) → perms_of (bytes ++ rest) ≡ perms_of bytes
all_or_front bytes rest within end (inl short) = ap (λ (z : List ℕ). perms_of (bytes ++ z)) (end short) ∙ ap perms_of (append-nil bytes)
all_or_front bytes rest within end (inr long) = front_decides bytes rest (omega arith)

pub told : (before after : Option (List ℕ)) (bytes : List ℕ) (r : Result PermsView PermsRefusal) → TakesFrom before bytes after
    → length bytes ≤ 75497506 → (length bytes < 75497506 → IfSome after (λ rest. rest ≡ [])) → r ≡ perms_of bytes
    → IfSome before (λ all. r ≡ perms_of all)
told before None bytes r takes within end is = subst (λ (b : Option (List ℕ)). IfSome b (λ all. r ≡ perms_of all)) (sym takes) tt
told before (Some rest) bytes r takes within end is =
    subst (λ (b : Option (List ℕ)). IfSome b (λ all. r ≡ perms_of all)) (sym takes)
    (is ∙ sym (all_or_front bytes rest within end (cases_lt (length bytes) 75497506)))

pub on_ok : {A B : Type 0} → (r : Result A B) (P Q : Type 0) → OnOk r P → (P → Q) → OnOk r Q
on_ok (Ok x) P Q p f = f p
on_ok (Err e) P Q p f = tt
