use Rattle.std.proofs.Common.{◌≡◌, ℕ, ◌+◌, ◌-◌, ◌<◌, ◌==◌, ◌&&◌, true, false, if◌then◌else◌, Option, Some, None, is_none, List, [], ◌∷◌, ◌++◌, length, filter, nat_lt, nat_le, refl, sym, ap, ◌∙◌, arith, length-append, inl, inr, subst}
use Rattle.std.proofs.lemmas.List.{append-nil}
use Rattle.std.proofs.lemmas.List.Elements.{filter-append}
use Rattle.std.proofs.lemmas.Bool.{lt-leb, le-leb, lt-ltb, le-ltb, cases_lt, cases_Bool, eqb-true, eq-eqb, ne_eqb, eqb-false, and_right}
use Rattle.dt_record.specs.declared.keys.Key.{Key}
use Rattle.dt_record.specs.declared.accesses.OwnStore.{OwnStore}
use Rattle.dt_record.specs.Memory.{line_of}
use Rattle.dt_record.specs.Actions.{Action, Stored, Drained, Fenced, Loaded, Atomic, Held, raised, drains_on, taker, is_on}
use Rattle.dt_record.proofs.Holding.{held_from}
use Rattle.dt_stores.specs.Standing.{stores_of, counted}
use Rattle.dt_stores.specs.Draining.{is_waiting_on}
use Rattle.dt_stores.proofs.ActionLaws.{drains_on-append, taker_past, taker_next, taker_within, taken_within}

-- Which stores a further drain takes: the first that wait on its line.

-- some stores, of which a drain has taken the first so many that wait on its line
abbrev pub marked : ℕ → Key → ℕ → List Held → List Held
marked line key left [] = []
marked line key left (h ∷ hs) =
    if is_waiting_on line h && nat_lt 0 left then record h { drained = Some key } ∷ marked line key (left - 1) hs else h ∷ marked line key left hs

pub marked-none : (line : ℕ) (key : Key) (hs : List Held) → marked line key 0 hs ≡ hs
marked-none line key [] = refl
marked-none line key (h ∷ hs) =
    elim (cases_Bool (is_waiting_on line h)) [
      | inl waits ↦ rw waits (ap (λ l. h ∷ l) (marked-none line key hs))
      | inr not_here ↦ rw not_here (ap (λ l. h ∷ l) (marked-none line key hs))
    ]

abbrev with_taker : OwnStore → ℕ → ℕ → Option Key → Held
with_taker s ww wr drained = record { store = s; barrier = ww; readers = wr; drained = drained }

-- the next store of the drain's line, after so many
marked-next : (s : OwnStore) (ww wr n : ℕ) (drains : List (Key × ℕ)) (key : Key) (count : ℕ) (hs : List Held)
    → with_taker s ww wr (taker (n + 1) (drains ++ (key, count) ∷ [])) ∷ marked (line_of s.addr) key (count - (n + 1 - counted drains)) hs
    ≡ marked (line_of s.addr) key (count - (n - counted drains)) (with_taker s ww wr (taker (n + 1) drains) ∷ hs)
marked-next s ww wr n drains key count hs =
    let line : ℕ = line_of s.addr in
    let here : (line_of s.addr == line_of s.addr) ≡ true = eq-eqb (line_of s.addr) (line_of s.addr) refl in
    elim (cases_lt (counted drains) (n + 1)) [
      | inl past ↦
          let free : taker (n + 1) drains ≡ None = taker_past (n + 1) drains past in
          let next : taker (n + 1) (drains ++ (key, count) ∷ []) ≡ (if nat_le (n + 1 - counted drains) count then Some key else None) = taker_next (n + 1) drains key count past in
          elim (cases_lt count (n + 1 - counted drains)) [
            | inl beyond ↦
                let not_it : nat_le (n + 1 - counted drains) count ≡ false = lt-leb (n + 1 - counted drains) count beyond in
                let none_left : nat_lt 0 (count - (n - counted drains)) ≡ false = le-ltb 0 (count - (n - counted drains)) (omega arith) in
                let left : count - (n + 1 - counted drains) ≡ count - (n - counted drains) = omega arith in
                rw (free, next, not_it, here, none_left) (ap (λ k. with_taker s ww wr None ∷ marked line key k hs) left)
            | inr within ↦
                let it : nat_le (n + 1 - counted drains) count ≡ true = le-leb (n + 1 - counted drains) count within in
                let some_left : nat_lt 0 (count - (n - counted drains)) ≡ true = lt-ltb 0 (count - (n - counted drains)) (omega arith) in
                let left : count - (n + 1 - counted drains) ≡ count - (n - counted drains) - 1 = omega arith in
                rw (free, next, it, here, some_left) (ap (λ k. with_taker s ww wr (Some key) ∷ marked line key k hs) left)
          ]
      | inr earlier ↦
          let some : 0 < n + 1 = omega arith in
          let same : taker (n + 1) (drains ++ (key, count) ∷ []) ≡ taker (n + 1) drains = taker_within (n + 1) drains ((key, count) ∷ []) some earlier in
          let taken : is_none (taker (n + 1) drains) ≡ false = taken_within (n + 1) drains some earlier in
          let left : count - (n + 1 - counted drains) ≡ count - (n - counted drains) = omega arith in
          rw (same, taken) (ap (λ k. with_taker s ww wr (taker (n + 1) drains) ∷ marked line key k hs) left)
    ]

-- how many stores of a line there are, with one more
more_on : (s : OwnStore) (seen : List OwnStore) → length (filter (is_on (line_of s.addr)) (seen ++ s ∷ [])) ≡ length (filter (is_on (line_of s.addr)) seen) + 1
more_on s seen =
    let here : (line_of s.addr == line_of s.addr) ≡ true = eq-eqb (line_of s.addr) (line_of s.addr) refl in
    rw (filter-append (is_on (line_of s.addr)) seen (s ∷ []), here) (length-append (filter (is_on (line_of s.addr)) seen) (s ∷ []))

same_on : (line : ℕ) (s : OwnStore) (seen : List OwnStore) → is_on line s ≡ false → length (filter (is_on line) (seen ++ s ∷ [])) ≡ length (filter (is_on line) seen)
same_on line s seen off = rw (filter-append (is_on line) seen (s ∷ []), off, append-nil (filter (is_on line) seen)) refl

-- the drains of a line with one more, and those of another line
pub more_drains : (all : List Action) (line : ℕ) (key : Key) (count : ℕ) → drains_on line (all ++ Drained key line count ∷ []) ≡ drains_on line all ++ (key, count) ∷ []
more_drains all line key count =
    let here : (line == line) ≡ true = eq-eqb line line refl in
    drains_on-append line all (Drained key line count ∷ []) ∙ (rw here refl)

pub same_drains : (all : List Action) (line on : ℕ) (key : Key) (count : ℕ) → (line == on) ≡ false → drains_on line (all ++ Drained key on count ∷ []) ≡ drains_on line all
same_drains all line on key count off =
    let other : (on == line) ≡ false = ne_eqb on line (λ e. eqb-false line on off (sym e)) in
    drains_on-append line all (Drained key on count ∷ []) ∙ (rw (other, append-nil (drains_on line all)) refl)

marks_here : (all : List Action) (s : OwnStore) (key : Key) (count : ℕ) (seen : List OwnStore) (ww wr : ℕ) (hs others : List Held)
    → others ≡ marked (line_of s.addr) key (count - (length (filter (is_on (line_of s.addr)) (seen ++ s ∷ [])) - counted (drains_on (line_of s.addr) all))) hs
    → with_taker s ww wr (taker (length (filter (is_on (line_of s.addr)) seen) + 1) (drains_on (line_of s.addr) (all ++ Drained key (line_of s.addr) count ∷ []))) ∷ others
    ≡ marked (line_of s.addr) key (count - (length (filter (is_on (line_of s.addr)) seen) - counted (drains_on (line_of s.addr) all))) (with_taker s ww wr (taker (length (filter (is_on (line_of s.addr)) seen) + 1) (drains_on (line_of s.addr) all)) ∷ hs)
marks_here all s key count seen ww wr hs others rest =
    let line : ℕ = line_of s.addr in
    let n : ℕ = length (filter (is_on (line_of s.addr)) seen) in
    let drains : List (Key × ℕ) = drains_on (line_of s.addr) all in
    let first : ℕ → Held = λ k. with_taker s ww wr (taker k drains) in
    ap (λ d. with_taker s ww wr (taker (n + 1) d) ∷ others) (more_drains all line key count)
    ∙ ap (λ l. with_taker s ww wr (taker (n + 1) (drains ++ (key, count) ∷ [])) ∷ l) (rest ∙ ap (λ k. marked line key (count - (k - counted drains)) hs) (more_on s seen))
    ∙ marked-next s ww wr n drains key count hs

marks_elsewhere : (all : List Action) (line : ℕ) (s : OwnStore) (key : Key) (count : ℕ) (seen : List OwnStore) (ww wr : ℕ) (hs others : List Held)
    → is_on line s ≡ false
    → others ≡ marked line key (count - (length (filter (is_on line) (seen ++ s ∷ [])) - counted (drains_on line all))) hs
    → with_taker s ww wr (taker (length (filter (is_on (line_of s.addr)) seen) + 1) (drains_on (line_of s.addr) (all ++ Drained key line count ∷ []))) ∷ others
    ≡ marked line key (count - (length (filter (is_on line) seen) - counted (drains_on line all))) (with_taker s ww wr (taker (length (filter (is_on (line_of s.addr)) seen) + 1) (drains_on (line_of s.addr) all)) ∷ hs)
marks_elsewhere all line s key count seen ww wr hs others off rest =
    let n : ℕ = length (filter (is_on (line_of s.addr)) seen) in
    let drains : List (Key × ℕ) = drains_on (line_of s.addr) all in
    let not_here : is_waiting_on line (with_taker s ww wr (taker (n + 1) drains)) ≡ false = and_right (is_none (taker (n + 1) drains)) (is_on line s) off in
    rw (same_drains all (line_of s.addr) line key count off, not_here)
    (ap (λ l. with_taker s ww wr (taker (n + 1) drains) ∷ l) (rest ∙ ap (λ k. marked line key (count - (k - counted (drains_on line all))) hs) (same_on line s seen off)))

-- the stores with a further drain are those before, of which it has taken the first that wait on its line
pub held_from-drained : (all : List Action) (line : ℕ) (key : Key) (count : ℕ) (seen : List OwnStore) (ww wr : ℕ) (xs : List Action)
    → held_from (all ++ Drained key line count ∷ []) seen ww wr xs ≡ marked line key (count - (length (filter (is_on line) seen) - counted (drains_on line all))) (held_from all seen ww wr xs)
held_from-drained all line key count seen ww wr [] = refl
held_from-drained all line key count seen ww wr (Stored s ∷ xs) =
    elim (cases_Bool (is_on line s)) [
      | inl on ↦
          let here : line_of s.addr ≡ line = eqb-true (line_of s.addr) line on in
          let Marks : ℕ → Type 0 = λ l. held_from (all ++ Drained key l count ∷ []) seen ww wr (Stored s ∷ xs) ≡ marked l key (count - (length (filter (is_on l) seen) - counted (drains_on l all))) (held_from all seen ww wr (Stored s ∷ xs)) in
          subst Marks here (marks_here all s key count seen ww wr (held_from all (seen ++ s ∷ []) ww wr xs) (held_from (all ++ Drained key (line_of s.addr) count ∷ []) (seen ++ s ∷ []) ww wr xs) (held_from-drained all (line_of s.addr) key count (seen ++ s ∷ []) ww wr xs))
      | inr off ↦ marks_elsewhere all line s key count seen ww wr (held_from all (seen ++ s ∷ []) ww wr xs) (held_from (all ++ Drained key line count ∷ []) (seen ++ s ∷ []) ww wr xs) off (held_from-drained all line key count (seen ++ s ∷ []) ww wr xs)
    ]
held_from-drained all line key count seen ww wr (Fenced fence_ww fence_wr fence_rr ∷ xs) = held_from-drained all line key count seen (raised ww fence_ww) (raised wr fence_wr) xs
held_from-drained all line key count seen ww wr (Drained other on some ∷ xs) = held_from-drained all line key count seen ww wr xs
held_from-drained all line key count seen ww wr (Loaded ask ∷ xs) = held_from-drained all line key count seen ww wr xs
held_from-drained all line key count seen ww wr (Atomic other addr width reads acquires ∷ xs) = held_from-drained all line key count seen ww wr xs

waiting_here : (s : OwnStore) (ww wr n : ℕ) (drains : List (Key × ℕ)) (hs : List Held) (rest : List OwnStore)
    → length (filter (is_waiting_on (line_of s.addr)) hs) + (n + 1 - counted drains) ≡ n + 1 + length (filter (is_on (line_of s.addr)) rest) - counted drains
    → length (filter (is_waiting_on (line_of s.addr)) (with_taker s ww wr (taker (n + 1) drains) ∷ hs)) + (n - counted drains)
    ≡ n + length (filter (is_on (line_of s.addr)) (s ∷ rest)) - counted drains
waiting_here s ww wr n drains hs rest waits =
    let here : (line_of s.addr == line_of s.addr) ≡ true = eq-eqb (line_of s.addr) (line_of s.addr) refl in
    let one_more : length (filter (is_on (line_of s.addr)) (s ∷ rest)) ≡ length (filter (is_on (line_of s.addr)) rest) + 1 = rw here (omega arith) in
    elim (cases_lt (counted drains) (n + 1)) [
      | inl past ↦
          let free : is_waiting_on (line_of s.addr) (with_taker s ww wr (taker (n + 1) drains)) ≡ true = rw (taker_past (n + 1) drains past, here) refl in
          let more : length (filter (is_waiting_on (line_of s.addr)) (with_taker s ww wr (taker (n + 1) drains) ∷ hs)) ≡ length (filter (is_waiting_on (line_of s.addr)) hs) + 1 = rw free (omega arith) in
          omega arith
      | inr earlier ↦
          let some : 0 < n + 1 = omega arith in
          let taken : is_none (taker (n + 1) drains) ≡ false = taken_within (n + 1) drains some earlier in
          let same : length (filter (is_waiting_on (line_of s.addr)) (with_taker s ww wr (taker (n + 1) drains) ∷ hs)) ≡ length (filter (is_waiting_on (line_of s.addr)) hs) = rw taken refl in
          omega arith
    ]

-- how many wait on a line: the stores there but for those that the drains count
pub waiting_from : (all : List Action) (line : ℕ) (seen : List OwnStore) (ww wr : ℕ) (xs : List Action)
    → length (filter (is_waiting_on line) (held_from all seen ww wr xs)) + (length (filter (is_on line) seen) - counted (drains_on line all))
    ≡ length (filter (is_on line) seen) + length (filter (is_on line) (stores_of xs)) - counted (drains_on line all)
waiting_from all line seen ww wr [] = omega arith
waiting_from all line seen ww wr (Stored s ∷ xs) =
    elim (cases_Bool (is_on line s)) [
      | inl on ↦
          let here : line_of s.addr ≡ line = eqb-true (line_of s.addr) line on in
          let Waits : ℕ → Type 0 = λ l. length (filter (is_waiting_on l) (held_from all seen ww wr (Stored s ∷ xs))) + (length (filter (is_on l) seen) - counted (drains_on l all)) ≡ length (filter (is_on l) seen) + length (filter (is_on l) (stores_of (Stored s ∷ xs))) - counted (drains_on l all) in
          subst Waits here (waiting_here s ww wr (length (filter (is_on (line_of s.addr)) seen)) (drains_on (line_of s.addr) all) (held_from all (seen ++ s ∷ []) ww wr xs) (stores_of xs) (rw (more_on s seen) at (waiting_from all (line_of s.addr) (seen ++ s ∷ []) ww wr xs)))
      | inr off ↦
          let n : ℕ = length (filter (is_on (line_of s.addr)) seen) in
          let not_here : is_waiting_on line (with_taker s ww wr (taker (n + 1) (drains_on (line_of s.addr) all))) ≡ false = and_right (is_none (taker (n + 1) (drains_on (line_of s.addr) all))) (is_on line s) off in
          rw (not_here, off) (rw (same_on line s seen off) at (waiting_from all line (seen ++ s ∷ []) ww wr xs))
    ]
waiting_from all line seen ww wr (Fenced fence_ww fence_wr fence_rr ∷ xs) = waiting_from all line seen (raised ww fence_ww) (raised wr fence_wr) xs
waiting_from all line seen ww wr (Drained other on some ∷ xs) = waiting_from all line seen ww wr xs
waiting_from all line seen ww wr (Loaded ask ∷ xs) = waiting_from all line seen ww wr xs
waiting_from all line seen ww wr (Atomic other addr width reads acquires ∷ xs) = waiting_from all line seen ww wr xs
