use Rattle.std.proofs.Common.{◌≡◌, ℕ, zero, suc, ◌+◌, ◌-◌, ◌<◌, ◌≤◌, ◌==◌, ◌&&◌, ◌⊎◌, Bool, true, false, not, if◌then◌else◌, Some, List, [], ◌∷◌, length, filter, map, nat_lt, nat_le, IsTrue, refl, sym, ap, ◌∙◌, inl, inr, arith}
use Rattle.std.specs.List.{list_all, position_or_len}
use Rattle.std.proofs.lemmas.Bool.{cases_Bool, and_parts, and_from, and_left, and_right, eqb-true, eqb-false, ne_eqb, false≢true, not-true, lt-ltb, leb-true}
use Rattle.dt_record.specs.declared.keys.Key.{Key}
use Rattle.dt_record.specs.Memory.{line_of}
use Rattle.dt_record.specs.Actions.{Held, is_on, is_waiting}
use Rattle.dt_stores.specs.Draining.{is_waiting_on}
use Rattle.dt_stores.specs.Indexed.{on_line, places_on, splits, rises}
use Rattle.dt_stores.specs.Late.{is_drained_by}
use Rattle.dt_stores.proofs.DrainLaws.{marked}

-- What stays as it is where a drain takes stores, and what changes.

abbrev with_drain : Key → Held → Held
with_drain key h = record h { drained = Some key }

-- along the stores: each is taken or left
pub walk : (line : ℕ) (key : Key) (P : ℕ → List Held → List Held → Type 0)
    → ((left : ℕ) → P left [] [])
    → ((left : ℕ) (h : Held) (hs ms : List Held) → is_waiting h ≡ true → is_on line h.store ≡ true → P left hs ms → P (suc left) (h ∷ hs) (record h { drained = Some key } ∷ ms))
    → ((left : ℕ) (h : Held) (hs ms : List Held) → ((is_waiting_on line h ≡ false) ⊎ (left ≡ 0)) → P left hs ms → P left (h ∷ hs) (h ∷ ms))
    → (left : ℕ) (held : List Held) → P left held (marked line key left held)
walk line key P none take skip left [] = none left
walk line key P none take skip zero (h ∷ hs) =
    elim (cases_Bool (is_waiting_on line h)) [
      | inl waits ↦ rw waits (skip zero h hs (marked line key zero hs) (inr refl) (walk line key P none take skip zero hs))
      | inr not_here ↦ rw not_here (skip zero h hs (marked line key zero hs) (inl not_here) (walk line key P none take skip zero hs))
    ]
walk line key P none take skip (suc left) (h ∷ hs) =
    let some : nat_lt 0 (suc left) ≡ true = lt-ltb 0 (suc left) (omega arith) in
    let one : suc left - 1 ≡ left = omega arith in
    elim (cases_Bool (is_waiting_on line h)) [
      | inl waits ↦ (let parts = and_parts (is_waiting h) (is_on line h.store) waits in
          rw (waits, some, one) (take left h hs (marked line key left hs) parts.0 parts.1 (walk line key P none take skip left hs)))
      | inr not_here ↦ rw not_here (skip (suc left) h hs (marked line key (suc left) hs) (inl not_here) (walk line key P none take skip (suc left) hs))
    ]

-- a test that does not see a drain with this key
pub record IsBlind (key : Key) (p : Held → Bool) : Type 0 where
  pub blind : (h : Held) → is_waiting h ≡ true → p (record h { drained = Some key }) ≡ p h

pub blind-all : (line : ℕ) (key : Key) (p : Held → Bool) → IsBlind key p → (left : ℕ) (held : List Held) → list_all p (marked line key left held) ≡ list_all p held
blind-all line key p see = walk line key (λ left old new. list_all p new ≡ list_all p old)
    (λ left. refl)
    (λ left h hs ms waits on same. ap (λ b. b && list_all p ms) (see.blind h waits) ∙ ap (λ b. p h && b) same)
    (λ left h hs ms out same. ap (λ b. p h && b) same)

pub blind-first : (line : ℕ) (key : Key) (p : Held → Bool) → IsBlind key p → (left : ℕ) (held : List Held) → position_or_len p (marked line key left held) ≡ position_or_len p held
blind-first line key p see = walk line key (λ left old new. position_or_len p new ≡ position_or_len p old)
    (λ left. refl)
    (λ left h hs ms waits on same. ap (λ b. if not b then 1 + position_or_len p ms else 0) (see.blind h waits) ∙ ap (λ n. if not (p h) then 1 + n else 0) same)
    (λ left h hs ms out same. ap (λ n. if not (p h) then 1 + n else 0) same)

-- the same of the stores of a line
splits-head : (p : Held → Bool) (x y : Held) (xs ys : List Held) → p x ≡ p y → ((n : ℕ) → splits p n xs ≡ splits p n ys) → (n : ℕ) → splits p n (x ∷ xs) ≡ splits p n (y ∷ ys)
splits-head p x y xs ys same rest zero = ap (λ b. b && splits p zero xs) same ∙ ap (λ b. p y && b) (rest zero)
splits-head p x y xs ys same rest (suc n) = ap (λ b. not b && splits p n xs) same ∙ ap (λ b. not (p y) && b) (rest n)

on_line-head : (p : Held → Bool) (on : ℕ) (x y : Held) (xs ys : List Held) → x.store ≡ y.store → p x ≡ p y
    → ((n : ℕ) → splits p n (on_line on xs) ≡ splits p n (on_line on ys)) → (n : ℕ) → splits p n (on_line on (x ∷ xs)) ≡ splits p n (on_line on (y ∷ ys))
on_line-head p on x y xs ys store same rest n =
    elim (cases_Bool (is_on on y.store)) [
      | inl here ↦ (let also : is_on on x.store ≡ true = ap (is_on on) store ∙ here in rw (here, also) (splits-head p x y (on_line on xs) (on_line on ys) same rest n))
      | inr off ↦ (let also : is_on on x.store ≡ false = ap (is_on on) store ∙ off in rw (off, also) (rest n))
    ]

pub blind-splits : (line : ℕ) (key : Key) (p : Held → Bool) → IsBlind key p → (on left : ℕ) (held : List Held) (n : ℕ)
    → splits p n (on_line on (marked line key left held)) ≡ splits p n (on_line on held)
blind-splits line key p see on = walk line key (λ left old new. (n : ℕ) → splits p n (on_line on new) ≡ splits p n (on_line on old))
    (λ left n. refl)
    (λ left h hs ms waits here same. on_line-head p on (with_drain key h) h ms hs refl (see.blind h waits) same)
    (λ left h hs ms out same. on_line-head p on h h ms hs refl refl same)

-- on other lines nothing changes
elsewhere : (line on : ℕ) (h : Held) → (on == line) ≡ false → is_on line h.store ≡ true → is_on on h.store ≡ false
elsewhere line on h apart here = ne_eqb (line_of h.store.addr) on (λ same. eqb-false on line apart (sym same ∙ eqb-true (line_of h.store.addr) line here))

pub other-splits : (line : ℕ) (key : Key) (p : Held → Bool) (on : ℕ) → (on == line) ≡ false → (left : ℕ) (held : List Held) (n : ℕ)
    → splits p n (on_line on (marked line key left held)) ≡ splits p n (on_line on held)
other-splits line key p on apart = walk line key (λ left old new. (n : ℕ) → splits p n (on_line on new) ≡ splits p n (on_line on old))
    (λ left n. refl)
    (λ left h hs ms waits here same n. let off : is_on on h.store ≡ false = elsewhere line on h apart here in rw off (same n))
    (λ left h hs ms out same. on_line-head p on h h ms hs refl refl same)

-- nor do the numbers of fences, nor the places
pub marked-rises : (line : ℕ) (key : Key) (f : Held → ℕ) → ((h : Held) → f (record h { drained = Some key }) ≡ f h) → (high left : ℕ) (held : List Held) (low : ℕ)
    → rises f low high (marked line key left held) ≡ rises f low high held
marked-rises line key f same high = walk line key (λ left old new. (low : ℕ) → rises f low high new ≡ rises f low high old)
    (λ left low. refl)
    (λ left h hs ms waits on rest low. ap (λ n. nat_le low n && rises f n high ms) (same h) ∙ ap (λ b. nat_le low (f h) && b) (rest (f h)))
    (λ left h hs ms out rest low. ap (λ b. nat_le low (f h) && b) (rest (f h)))

pub marked-places : (line : ℕ) (key : Key) (on left : ℕ) (held : List Held) → places_on on (marked line key left held) ≡ places_on on held
marked-places line key on = walk line key (λ left old new. places_on on new ≡ places_on on old)
    (λ left. refl)
    (λ left h hs ms waits here same. ap (λ (l : List ℕ). if is_on on h.store then 0 ∷ map suc l else map suc l) same)
    (λ left h hs ms out same. ap (λ (l : List ℕ). if is_on on h.store then 0 ∷ map suc l else map suc l) same)

pub marked-length : (line : ℕ) (key : Key) (left : ℕ) (held : List Held) → length (marked line key left held) ≡ length held
marked-length line key = walk line key (λ left old new. length new ≡ length old) (λ left. refl) (λ left h hs ms waits on same. ap suc same) (λ left h hs ms out same. ap suc same)

-- so many more are drained
abbrev MoreDrained : ℕ → ℕ → List Held → List Held → Type 0
MoreDrained line left old new = (n : ℕ) → IsTrue (splits is_waiting n (on_line line old)) → left ≤ length (filter (is_waiting_on line) old)
    → IsTrue (splits is_waiting (n + left) (on_line line new))

drained-here : (line : ℕ) (key : Key) (left : ℕ) (h : Held) (hs ms : List Held) → is_waiting h ≡ true → is_on line h.store ≡ true
    → MoreDrained line left hs ms → MoreDrained line (suc left) (h ∷ hs) (with_drain key h ∷ ms)
drained-here line key left h hs ms waits on rest zero split enough =
    let parts = and_parts (is_waiting h) (splits is_waiting zero (on_line line hs)) (rw on at split) in
    let here : is_waiting_on line h ≡ true = and_from (is_waiting h) (is_on line h.store) waits on in
    let more : suc left ≤ suc (length (filter (is_waiting_on line) hs)) = rw here at enough in
    let sum : 0 + suc left ≡ suc (0 + left) = omega arith in
    rw (on, sum) (rest zero parts.1 (omega arith))
drained-here line key left h hs ms waits on rest (suc n) split enough =
    let parts = and_parts (not (is_waiting h)) (splits is_waiting n (on_line line hs)) (rw on at split) in
    let never : not true ≡ true = rw waits at parts.0 in
    absurd (cc never)

past-one : (line left n : ℕ) (h : Held) (hs ms : List Held) → ((is_waiting_on line h ≡ false) ⊎ (left ≡ 0)) → is_on line h.store ≡ true
    → IsTrue (splits is_waiting n (h ∷ on_line line hs)) → left ≤ length (filter (is_waiting_on line) (h ∷ hs))
    → MoreDrained line left hs ms → IsTrue (splits is_waiting (n + left) (h ∷ on_line line ms))
past-one line left zero h hs ms out on split enough rest =
    let parts = and_parts (is_waiting h) (splits is_waiting zero (on_line line hs)) split in
    elim out [
      | inl not_here ↦ (let never : is_waiting_on line h ≡ true = and_from (is_waiting h) (is_on line h.store) parts.0 on in absurd (false≢true (sym not_here ∙ never)))
      | inr none ↦ (let sum : 0 + left ≡ zero = omega arith in
          let tail : IsTrue (splits is_waiting (0 + left) (on_line line ms)) = rest zero parts.1 (omega arith) in
          rw sum (and_from (is_waiting h) (splits is_waiting zero (on_line line ms)) parts.0 (rw sum at tail)))
    ]
past-one line left (suc n) h hs ms out on split enough rest =
    let parts = and_parts (not (is_waiting h)) (splits is_waiting n (on_line line hs)) split in
    let not_here : is_waiting_on line h ≡ false = and_left (is_waiting h) (is_on line h.store) (not-true (is_waiting h) parts.0) in
    let sum : suc n + left ≡ suc (n + left) = omega arith in
    rw sum (and_from (not (is_waiting h)) (splits is_waiting (n + left) (on_line line ms)) parts.0 (rest n parts.1 (rw not_here at enough)))

drained-past : (line left : ℕ) (h : Held) (hs ms : List Held) → ((is_waiting_on line h ≡ false) ⊎ (left ≡ 0))
    → MoreDrained line left hs ms → MoreDrained line left (h ∷ hs) (h ∷ ms)
drained-past line left h hs ms out rest n split enough =
    elim (cases_Bool (is_on line h.store)) [
      | inl on ↦ rw on (past-one line left n h hs ms out on (rw on at split) enough rest)
      | inr off ↦ (let not_here : is_waiting_on line h ≡ false = and_right (is_waiting h) (is_on line h.store) off in
          rw off (rest n (rw off at split) (rw not_here at enough)))
    ]

pub more-drained : (line : ℕ) (key : Key) (left : ℕ) (held : List Held) (n : ℕ) → IsTrue (splits is_waiting n (on_line line held))
    → left ≤ length (filter (is_waiting_on line) held) → IsTrue (splits is_waiting (n + left) (on_line line (marked line key left held)))
more-drained line key = walk line key (λ left old new. MoreDrained line left old new)
    (λ left n split enough. let none : left ≡ 0 = omega arith in let sum : n + left ≡ n = omega arith in rw sum split)
    (λ left h hs ms waits on rest. drained-here line key left h hs ms waits on rest)
    (λ left h hs ms out rest. drained-past line left h hs ms out rest)

-- the first that waits does not come earlier
pub first-later : (line : ℕ) (key : Key) (left : ℕ) (held : List Held) → position_or_len is_waiting held ≤ position_or_len is_waiting (marked line key left held)
first-later line key = walk line key (λ left old new. position_or_len is_waiting old ≤ position_or_len is_waiting new)
    (λ left. omega arith)
    (λ left h hs ms waits on rest. rw waits (omega arith))
    (λ left h hs ms out rest. elim (cases_Bool (is_waiting h)) [ inl waits ↦ rw waits (omega arith) | inr drained ↦ rw drained (omega (arith, rest)) ])

-- where all drains of the new stores are by a cycle, so is the one that took them
pub drain-by : (line : ℕ) (key : Key) (at left : ℕ) (held : List Held) → 0 < left → 0 < length (filter (is_waiting_on line) held)
    → IsTrue (list_all (is_drained_by at) (marked line key left held)) → key.stamp ≤ at
drain-by line key at = walk line key (λ left old new. 0 < left → 0 < length (filter (is_waiting_on line) old) → IsTrue (list_all (is_drained_by at) new) → key.stamp ≤ at)
    (λ left some waits all. absurd (omega arith))
    (λ left h hs ms waits on rest some here all. leb-true key.stamp at (and_parts (nat_le key.stamp at) (list_all (is_drained_by at) ms) all).0)
    (λ left h hs ms out rest some here all. let tail = (and_parts (is_drained_by at h) (list_all (is_drained_by at) ms) all).1 in
    elim out [
      | inl not_here ↦ rest some (rw not_here at here) tail
      | inr none ↦ absurd (omega arith)
    ])
