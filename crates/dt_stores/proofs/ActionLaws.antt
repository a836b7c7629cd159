use Rattle.std.proofs.Common.{◌≡◌, ℕ, ◌+◌, ◌-◌, ◌<◌, ◌≤◌, ◌==◌, Bool, true, false, if◌then◌else◌, Option, Some, None, is_none, List, [], ◌∷◌, ◌++◌, length, filter, nat_le, refl, sym, ap, ◌∙◌, arith, append_assoc, inl, inr}
use Rattle.std.proofs.lemmas.List.{append-nil}
use Rattle.std.proofs.lemmas.Bool.{lt-leb, le-leb, cases_lt}
use Rattle.dt_record.specs.declared.keys.Key.{Key}
use Rattle.dt_record.specs.declared.accesses.OwnStore.{OwnStore}
use Rattle.dt_record.specs.Memory.{line_of}
use Rattle.dt_record.specs.Actions.{Action, Stored, Drained, Fenced, Loaded, Atomic, Held, ww_fences, wr_fences, raised, drains_on, taker, is_on}
use Rattle.dt_record.proofs.Holding.{held_from}
use Rattle.dt_stores.specs.Standing.{stores_of, counted}

-- What a hart's stores, drains and fences are once an action is added.

kept-append : {X : Type 0} (b : Bool) (x : X) (zs xs ys : List X) → zs ≡ xs ++ ys → (if b then x ∷ zs else zs) ≡ (if b then x ∷ xs else xs) ++ ys
kept-append true x zs xs ys e = ap (λ l. x ∷ l) e
kept-append false x zs xs ys e = e

pub drains_on-append : (line : ℕ) (xs ys : List Action) → drains_on line (xs ++ ys) ≡ drains_on line xs ++ drains_on line ys
drains_on-append line [] ys = refl
drains_on-append line (Drained key on count ∷ xs) ys =
    kept-append (on == line) (key, count) (drains_on line (xs ++ ys)) (drains_on line xs) (drains_on line ys) (drains_on-append line xs ys)
drains_on-append line (Stored s ∷ xs) ys = drains_on-append line xs ys
drains_on-append line (Fenced ww wr rr ∷ xs) ys = drains_on-append line xs ys
drains_on-append line (Loaded ask ∷ xs) ys = drains_on-append line xs ys
drains_on-append line (Atomic key addr width reads acquires ∷ xs) ys = drains_on-append line xs ys

pub stores_of-append : (xs ys : List Action) → stores_of (xs ++ ys) ≡ stores_of xs ++ stores_of ys
stores_of-append [] ys = refl
stores_of-append (Stored s ∷ xs) ys = ap (λ l. s ∷ l) (stores_of-append xs ys)
stores_of-append (Drained key on count ∷ xs) ys = stores_of-append xs ys
stores_of-append (Fenced ww wr rr ∷ xs) ys = stores_of-append xs ys
stores_of-append (Loaded ask ∷ xs) ys = stores_of-append xs ys
stores_of-append (Atomic key addr width reads acquires ∷ xs) ys = stores_of-append xs ys

pub counted-append : (xs ys : List (Key × ℕ)) → counted (xs ++ ys) ≡ counted xs + counted ys
counted-append [] ys = omega arith
counted-append ((key, count) ∷ xs) ys = omega (arith, counted-append xs ys)

raised-add : (n m : ℕ) (b : Bool) → raised n b + m ≡ n + raised m b
raised-add n m true = omega arith
raised-add n m false = refl

-- the stores of two parts, one after the other
pub held_from-append : (all : List Action) (seen : List OwnStore) (ww wr : ℕ) (xs ys : List Action)
    → held_from all seen ww wr (xs ++ ys) ≡ held_from all seen ww wr xs ++ held_from all (seen ++ stores_of xs) (ww + ww_fences xs) (wr + wr_fences xs) ys
held_from-append all seen ww wr [] ys =
    let no_stores : seen ++ [] ≡ seen = append-nil seen in
    let no_ww : ww + 0 ≡ ww = omega arith in
    let no_wr : wr + 0 ≡ wr = omega arith in
    sym (ap (λ s. held_from all s (ww + 0) (wr + 0) ys) no_stores ∙ ap (λ n. held_from all seen n (wr + 0) ys) no_ww ∙ ap (λ n. held_from all seen ww n ys) no_wr)
held_from-append all seen ww wr (Stored s ∷ xs) ys =
    let first : Held = record { store = s; barrier = ww; readers = wr; drained = taker (length (filter (is_on (line_of s.addr)) seen) + 1) (drains_on (line_of s.addr) all) } in
    ap (λ l. first ∷ l) (held_from-append all (seen ++ s ∷ []) ww wr xs ys
    ∙ ap (λ l. held_from all (seen ++ s ∷ []) ww wr xs ++ held_from all l (ww + ww_fences xs) (wr + wr_fences xs) ys) (append_assoc seen (s ∷ []) (stores_of xs)))
held_from-append all seen ww wr (Fenced fence_ww fence_wr fence_rr ∷ xs) ys =
    held_from-append all seen (raised ww fence_ww) (raised wr fence_wr) xs ys
    ∙ ap (λ n. held_from all seen (raised ww fence_ww) (raised wr fence_wr) xs ++ held_from all (seen ++ stores_of xs) n (raised wr fence_wr + wr_fences xs) ys) (raised-add ww (ww_fences xs) fence_ww)
    ∙ ap (λ n. held_from all seen (raised ww fence_ww) (raised wr fence_wr) xs ++ held_from all (seen ++ stores_of xs) (ww + raised (ww_fences xs) fence_ww) n ys) (raised-add wr (wr_fences xs) fence_wr)
held_from-append all seen ww wr (Drained key on count ∷ xs) ys = held_from-append all seen ww wr xs ys
held_from-append all seen ww wr (Loaded ask ∷ xs) ys = held_from-append all seen ww wr xs ys
held_from-append all seen ww wr (Atomic key addr width reads acquires ∷ xs) ys = held_from-append all seen ww wr xs ys

-- where the drains are the same, so are the stores
pub held_from-same_drains : (all others : List Action) → ((line : ℕ) → drains_on line all ≡ drains_on line others)
    → (seen : List OwnStore) (ww wr : ℕ) (xs : List Action) → held_from all seen ww wr xs ≡ held_from others seen ww wr xs
held_from-same_drains all others same seen ww wr [] = refl
held_from-same_drains all others same seen ww wr (Stored s ∷ xs) =
    let number : ℕ = length (filter (is_on (line_of s.addr)) seen) + 1 in
    let with : Option Key → Held = λ d. record { store = s; barrier = ww; readers = wr; drained = d } in
    ap (λ d. with (taker number d) ∷ held_from all (seen ++ s ∷ []) ww wr xs) (same (line_of s.addr))
    ∙ ap (λ l. with (taker number (drains_on (line_of s.addr) others)) ∷ l) (held_from-same_drains all others same (seen ++ s ∷ []) ww wr xs)
held_from-same_drains all others same seen ww wr (Fenced fence_ww fence_wr fence_rr ∷ xs) =
    held_from-same_drains all others same seen (raised ww fence_ww) (raised wr fence_wr) xs
held_from-same_drains all others same seen ww wr (Drained key on count ∷ xs) = held_from-same_drains all others same seen ww wr xs
held_from-same_drains all others same seen ww wr (Loaded ask ∷ xs) = held_from-same_drains all others same seen ww wr xs
held_from-same_drains all others same seen ww wr (Atomic key addr width reads acquires ∷ xs) = held_from-same_drains all others same seen ww wr xs

-- no drain takes a store past those that they count
pub taker_past : (j : ℕ) (drains : List (Key × ℕ)) → counted drains < j → taker j drains ≡ None
taker_past j [] past = refl
taker_past j ((key, count) ∷ drains) past =
    let above : nat_le j count ≡ false = lt-leb j count (omega arith) in
    let rest : counted drains < j - count = omega arith in
    rw above (taker_past (j - count) drains rest)

-- a further drain takes the next stores
pub taker_next : (j : ℕ) (drains : List (Key × ℕ)) (key : Key) (count : ℕ) → counted drains < j
    → taker j (drains ++ (key, count) ∷ []) ≡ (if nat_le (j - counted drains) count then Some key else None)
taker_next j [] key count past =
    let all : j - 0 ≡ j = omega arith in
    ap (λ n. if nat_le n count then Some key else None) (sym all)
taker_next j ((first, some) ∷ drains) key count past =
    let above : nat_le j some ≡ false = lt-leb j some (omega arith) in
    let rest : counted drains < j - some = omega arith in
    let both : j - some - counted drains ≡ j - (some + counted drains) = omega arith in
    rw above (taker_next (j - some) drains key count rest ∙ ap (λ n. if nat_le n count then Some key else None) both)

-- and none of those that are taken already
pub taker_within : (j : ℕ) (drains more : List (Key × ℕ)) → 0 < j → j ≤ counted drains → taker j (drains ++ more) ≡ taker j drains
taker_within j [] more some within = absurd (omega arith)
taker_within j ((key, count) ∷ drains) more some within =
    elim (cases_lt count j) [
      | inr low ↦ let here : nat_le j count ≡ true = le-leb j count low in rw here refl
      | inl high ↦
          let above : nat_le j count ≡ false = lt-leb j count high in
          let still : 0 < j - count = omega arith in
          let rest : j - count ≤ counted drains = omega arith in
          rw above (taker_within (j - count) drains more still rest)
    ]

pub taken_within : (j : ℕ) (drains : List (Key × ℕ)) → 0 < j → j ≤ counted drains → is_none (taker j drains) ≡ false
taken_within j [] some within = absurd (omega arith)
taken_within j ((key, count) ∷ drains) some within =
    elim (cases_lt count j) [
      | inr low ↦ let here : nat_le j count ≡ true = le-leb j count low in rw here refl
      | inl high ↦
          let above : nat_le j count ≡ false = lt-leb j count high in
          let still : 0 < j - count = omega arith in
          let rest : j - count ≤ counted drains = omega arith in
          rw above (taken_within (j - count) drains still rest)
    ]
