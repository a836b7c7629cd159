-- What one more event leaves a hart with.
use Rattle.std.proofs.Common.{ℕ, ◌≡◌, ◌+◌, ◌<◌, true, false, if◌then◌else◌, List, take, length, get_or, ap, ◌∙◌}
use Rattle.std.proofs.lemmas.Bool.{cond-true, cond-false}
use Rattle.std.proofs.lemmas.List.{take_more}
use Rattle.dt_permissions.specs.declared.events.PermEvent.{PermEvent}
use Rattle.dt_permissions.specs.Holding.{given, is_of, held_by}
use Rattle.dt_permissions.proofs.Exclusive.{held_snoc}

held_after_one : (events : List PermEvent) (n hart line : ℕ) (d : PermEvent) → n < length events
    → held_by (take (n + 1) events) hart line ≡ (if is_of hart line (get_or events n d) then given (get_or events n d) else held_by (take n events) hart line)
held_after_one events n hart line d lt =
    ap (λ (es : List PermEvent). held_by es hart line) (take_more events n d lt) ∙ held_snoc (take n events) (get_or events n d) hart line

pub held_here : (events : List PermEvent) (n hart line : ℕ) (d : PermEvent) → n < length events → is_of hart line (get_or events n d) ≡ true
    → held_by (take (n + 1) events) hart line ≡ given (get_or events n d)
held_here events n hart line d lt is =
    held_after_one events n hart line d lt ∙ cond-true (is_of hart line (get_or events n d)) (given (get_or events n d)) (held_by (take n events) hart line) is

pub held_before : (events : List PermEvent) (n hart line : ℕ) (d : PermEvent) → n < length events → is_of hart line (get_or events n d) ≡ false
    → held_by (take (n + 1) events) hart line ≡ held_by (take n events) hart line
held_before events n hart line d lt isnt =
    held_after_one events n hart line d lt ∙ cond-false (is_of hart line (get_or events n d)) (given (get_or events n d)) (held_by (take n events) hart line) isnt
