-- Stores that no drain takes after a cycle.
use Rattle.std.proofs.Common.{◌≡◌, ℕ, ◌+◌, ◌-◌, ◌≤◌, ◌==◌, Bool, true, if◌then◌else◌, Option, None, Some, List, [], ◌∷◌, ◌++◌, length, filter, inl, inr, refl, ap, sym, ◌∙◌}
use Rattle.std.specs.Prelude.{nat_lt, nat_le, is_none}
use Rattle.std.specs.Option.{option_map_or}
use Rattle.std.proofs.lemmas.Bool.{cases_Bool, le-ltb}
use Rattle.dt_record.specs.declared.keys.Key.{Key}
use Rattle.dt_record.specs.declared.accesses.OwnStore.{OwnStore}
use Rattle.dt_record.specs.Memory.{line_of}
use Rattle.dt_record.specs.Actions.{Action, Stored, Drained, Fenced, Loaded, Atomic, Held, raised, taker, drains_on, is_on, is_undrained, is_waiting, AreDrainsBy, UndrainedWait}
use Rattle.dt_record.proofs.Holding.{held_from, held-is_from}

-- each drain of a line is by this cycle
abbrev AreBy : ℕ → List (Key × ℕ) → Type 0
AreBy at [] = Unit {0}
AreBy at ((key, count) ∷ rest) = (key.stamp ≤ at) × AreBy at rest

abbrev IsBy : ℕ → Option Key → Type 0
IsBy at None = Unit {0}
IsBy at (Some key) = key.stamp ≤ at

line_drains : (at line : ℕ) (actions : List Action) → AreDrainsBy at actions → AreBy at (drains_on line actions)
line_drains at line [] by = tt
line_drains at line (Stored s ∷ rest) by = line_drains at line rest by
line_drains at line (Drained key on count ∷ rest) by = elim (cases_Bool (on == line)) [
  | inl here ↦ rw here (by.0, line_drains at line rest by.1)
  | inr other ↦ rw other (line_drains at line rest by.1)
]
line_drains at line (Fenced ww wr rr ∷ rest) by = line_drains at line rest by
line_drains at line (Loaded ask ∷ rest) by = line_drains at line rest by
line_drains at line (Atomic key addr width reads acquires ∷ rest) by = line_drains at line rest by

taker_by : (at j : ℕ) (drains : List (Key × ℕ)) → AreBy at drains → IsBy at (taker j drains)
taker_by at j [] by = tt
taker_by at j ((key, count) ∷ drains) by = elim (cases_Bool (nat_le j count)) [
  | inl enough ↦ rw enough by.0
  | inr more ↦ rw more (taker_by at (j - count) drains by.1)
]

not_later : (at : ℕ) (drained : Option Key) → IsBy at drained → option_map_or (λ (key : Key). nat_lt at key.stamp) drained true ≡ is_none drained
not_later at None by = refl
not_later at (Some key) by = le-ltb at key.stamp by

kept_alike : (p q : Held → Bool) (h : Held) (hs : List Held) → p h ≡ q h → filter p hs ≡ filter q hs → filter p (h ∷ hs) ≡ filter q (h ∷ hs)
kept_alike p q h hs same more =
    ap (λ (b : Bool). if b then h ∷ filter p hs else filter p hs) same ∙ ap (λ (xs : List Held). if q h then h ∷ xs else xs) more

wait_from : (at : ℕ) (all : List Action) → AreDrainsBy at all → (seen : List OwnStore) (ww wr : ℕ) (rest : List Action)
    → filter (is_undrained at) (held_from all seen ww wr rest) ≡ filter is_waiting (held_from all seen ww wr rest)
wait_from at all by seen ww wr [] = refl
wait_from at all by seen ww wr (Stored s ∷ rest) =
    let place = length (filter (is_on (line_of s.addr)) seen) + 1 in
    let drains = drains_on (line_of s.addr) all in
    kept_alike (is_undrained at) is_waiting (record { store = s; barrier = ww; readers = wr; drained = taker place drains }) (held_from all (seen ++ s ∷ []) ww wr rest)
    (not_later at (taker place drains) (taker_by at place drains (line_drains at (line_of s.addr) all by))) (wait_from at all by (seen ++ s ∷ []) ww wr rest)
wait_from at all by seen ww wr (Drained key on count ∷ rest) = wait_from at all by seen ww wr rest
wait_from at all by seen ww wr (Fenced fence_ww fence_wr fence_rr ∷ rest) = wait_from at all by seen (raised ww fence_ww) (raised wr fence_wr) rest
wait_from at all by seen ww wr (Loaded ask ∷ rest) = wait_from at all by seen ww wr rest
wait_from at all by seen ww wr (Atomic key addr width reads acquires ∷ rest) = wait_from at all by seen ww wr rest

pub undrained-wait : UndrainedWait
undrained-wait at actions by =
    ap (filter (is_undrained at)) (held-is_from actions) ∙ wait_from at actions by [] 0 0 actions ∙ ap (filter is_waiting) (sym (held-is_from actions))
