use Rattle.std.proofs.Common.{ℕ, zero, suc, ◌≡◌, Bool, true, false, if◌then◌else◌, Option, Some, None, List, [], ◌∷◌, ◌++◌, take, reverse, refl, sym, ap, ◌∙◌, subst, inl, inr}
use Rattle.std.specs.Prelude.{◌≢◌, ◌==◌, ◌⊎◌, find, slice_get}
use Rattle.std.specs.Option.{option_map_or}
use Rattle.std.proofs.lemmas.Bool.{and_parts, cases_Bool, cond-true, cond-false, eqb-true}
use Rattle.std.proofs.lemmas.List.{reverse-append}
use Rattle.dt_permissions.specs.declared.events.PermEvent.{PermEvent}
use Rattle.dt_permissions.specs.declared.events.Held.{Held}
use Rattle.dt_permissions.specs.declared.events.Held.TheVariants.{Nothing, Read, Write}
use Rattle.dt_permissions.specs.Holding.{given, is_of, held_by, clashes, IsViolation, IsExclusive, ExclusiveWhereNoViolation}

-- one more event gives its hart what it gives there, and leaves the rest
if_found : (b : Bool) (e : PermEvent) (rest : Option PermEvent)
    → option_map_or given (if b then Some e else rest) Nothing ≡ (if b then given e else option_map_or given rest Nothing)
if_found true e rest = refl
if_found false e rest = refl

pub held_snoc : (events : List PermEvent) (e : PermEvent) (hart line : ℕ)
    → held_by (events ++ e ∷ []) hart line ≡ (if is_of hart line e then given e else held_by events hart line)
held_snoc events e hart line =
    ap (λ es. option_map_or given (find (is_of hart line) es) Nothing) (reverse-append events (e ∷ []))
    ∙ if_found (is_of hart line e) e (find (is_of hart line) (reverse events))

gained : (events : List PermEvent) (e : PermEvent) (hart line : ℕ) → is_of hart line e ≡ true → held_by (events ++ e ∷ []) hart line ≡ given e
gained events e hart line its = held_snoc events e hart line ∙ cond-true (is_of hart line e) (given e) (held_by events hart line) its

kept : (events : List PermEvent) (e : PermEvent) (hart line : ℕ) → is_of hart line e ≡ false → held_by (events ++ e ∷ []) hart line ≡ held_by events hart line
kept events e hart line others = held_snoc events e hart line ∙ cond-false (is_of hart line e) (given e) (held_by events hart line) others

-- what goes with Write is Nothing
beside_write : (h : Held) → (clashes Write h ≡ true → ⊥) → h ≡ Nothing
beside_write Nothing free = refl
beside_write Read free = absurd (free refl)
beside_write Write free = absurd (free refl)

write_beside : (h : Held) → (clashes h Write ≡ true → ⊥) → h ≡ Nothing
write_beside Nothing free = refl
write_beside Read free = absurd (free refl)
write_beside Write free = absurd (free refl)

pub exclusive_snoc : (events : List PermEvent) (e : PermEvent) → IsExclusive events
    → ((holder : ℕ) → holder ≢ e.hart → clashes (given e) (held_by events holder e.line) ≡ true → ⊥)
    → IsExclusive (events ++ e ∷ [])
exclusive_snoc events e before free line a b apart wrote = by_first (cases_Bool (is_of a line e)) (cases_Bool (is_of b line e))
  where
    by_first : ((is_of a line e ≡ true) ⊎ (is_of a line e ≡ false)) → ((is_of b line e ≡ true) ⊎ (is_of b line e ≡ false))
        → held_by (events ++ e ∷ []) b line ≡ Nothing
    by_first (inl first) (inl second) =
        let a_is = eqb-true e.hart a (and_parts (e.hart == a) (e.line == line) first).0 in
        let b_is = eqb-true e.hart b (and_parts (e.hart == b) (e.line == line) second).0 in
        absurd (apart (sym a_is ∙ b_is))
    by_first (inl first) (inr second) =
        let parts = and_parts (e.hart == a) (e.line == line) first in
        let a_is = eqb-true e.hart a parts.0 in
        let line_is = eqb-true e.line line parts.1 in
        let gives : given e ≡ Write = sym (gained events e a line first) ∙ wrote in
        kept events e b line second
        ∙ beside_write (held_by events b line) (λ clash. free b (λ same. apart (sym a_is ∙ sym same))
        (ap (λ h. clashes h (held_by events b e.line)) gives ∙ ap (λ l. clashes Write (held_by events b l)) line_is ∙ clash))
    by_first (inr first) (inl second) =
        let parts = and_parts (e.hart == b) (e.line == line) second in
        let b_is = eqb-true e.hart b parts.0 in
        let line_is = eqb-true e.line line parts.1 in
        let held : held_by events a line ≡ Write = sym (kept events e a line first) ∙ wrote in
        gained events e b line second
        ∙ write_beside (given e) (λ clash. free a (λ same. apart (same ∙ b_is))
        (ap (λ l. clashes (given e) (held_by events a l)) line_is ∙ ap (clashes (given e)) held ∙ clash))
    by_first (inr first) (inr second) =
        kept events e b line second ∙ before line a b apart (sym (kept events e a line first) ∙ wrote)

take_one_more : (j : ℕ) (events : List PermEvent) (e : PermEvent) → slice_get events j ≡ Some e → take (suc j) events ≡ take j events ++ e ∷ []
take_one_more j [] e there = absurd cc
take_one_more zero (x ∷ xs) e there = cc
take_one_more (suc j) (x ∷ xs) e there = ap (λ es. x ∷ es) (take_one_more j xs e there)

take_no_more : (j : ℕ) (events : List PermEvent) → slice_get events j ≡ None → take (suc j) events ≡ take j events
take_no_more zero [] there = refl
take_no_more (suc j) [] there = refl
take_no_more zero (x ∷ xs) there = absurd cc
take_no_more (suc j) (x ∷ xs) there = ap (λ es. x ∷ es) (take_no_more j xs there)

one_more : (events : List PermEvent) (j : ℕ) → ((holder : ℕ) → ¬ IsViolation events j holder) → IsExclusive (take j events)
    → (found : Option PermEvent) → slice_get events j ≡ found → IsExclusive (take (suc j) events)
one_more events j free before None there = subst IsExclusive (sym (take_no_more j events there)) before
one_more events j free before (Some e) there =
    subst IsExclusive (sym (take_one_more j events e there))
    (exclusive_snoc (take j events) e before
    (λ holder other clash. free holder (record { event = e; there = there; other = other; clash = clash })))

pub exclusive : ExclusiveWhereNoViolation
exclusive events free zero = λ line a b apart wrote. refl
exclusive events free (suc j) = one_more events j (free j) (exclusive events free j) (slice_get events j) refl
