use Rattle.std.proofs.Common.{◌≡◌, ℕ, zero, suc, ◌+◌, ◌-◌, ◌<◌, ◌≤◌, Bool, true, false, not, Option, Some, None, List, [], ◌∷◌, length, drop, filter, find, get_or, max, take, slice_get, nat_lt, nat_le, IsTrue, refl, sym, ap, ◌∙◌, inl, inr, arith}
use Rattle.std.specs.List.{position_or_len}
use Rattle.std.specs.List.Sorted.{IsNonDecreasingBy, IsPartitionedBy, IsPartitionPoint}
use Rattle.std.specs.Option.{option_map_or}
use Rattle.std.proofs.lemmas.Bool.{cases_Bool, cases_eq, cases_lt, and_parts, and_from, not-true, not-false, eqb-true, leb-true, lt-ltb, le-ltb, le-leb, lt-leb, false≢true}
use Rattle.std.proofs.lemmas.List.{drop_more}
use Rattle.std.proofs.lemmas.List.Sums.{passes_at_first, fails_before_first, position_or_len_is, prefix_len-le-length}
use Rattle.std.proofs.lemmas.Option.{slice_get-get_or}
use Rattle.dt_record.specs.Actions.{Held, is_on, is_waiting}
use Rattle.dt_stores.specs.declared.late.Late.{Late}
use Rattle.dt_stores.specs.Draining.{is_barring, is_waiting_on, greatest_barrier}
use Rattle.dt_stores.specs.Indexed.{AreAt, splits, rises}
use Rattle.dt_stores.proofs.PlacesOn.{at-length}

-- The first that pass a test, by a step, by halves and behind those that fail.

pub first-within : {X : Type 0} (p : X → Bool) (xs : List X) → position_or_len p xs ≤ length xs
first-within p xs = prefix_len-le-length (λ x. not (p x)) xs

pub first-more : {X : Type 0} (p : X → Bool) (xs : List X) (i : ℕ) (d : X) → i ≤ position_or_len p xs → i < length xs → p (get_or xs i d) ≡ false → i + 1 ≤ position_or_len p xs
first-more p xs i d before within fails =
    elim (cases_eq i (position_or_len p xs)) [
      | inl same ↦ (let in_it : position_or_len p xs < length xs = omega (arith, same) in
          let passes : p (get_or xs i d) ≡ true = ap (λ k. p (get_or xs k d)) same ∙ passes_at_first p xs d in_it in
          absurd (false≢true (sym fails ∙ passes)))
      | inr apart ↦ omega arith
    ]

pub first-here : {X : Type 0} (p : X → Bool) (xs : List X) (i : ℕ) (d : X) → i ≤ position_or_len p xs → p (get_or xs i d) ≡ true → i ≡ position_or_len p xs
first-here p xs i d before passes =
    elim (cases_eq i (position_or_len p xs)) [
      | inl same ↦ same
      | inr apart ↦ absurd (false≢true (sym (fails_before_first p xs i d (omega arith)) ∙ passes))
    ]

pub first-end : {X : Type 0} (p : X → Bool) (xs : List X) (i : ℕ) → i ≤ position_or_len p xs → length xs ≤ i → i ≡ position_or_len p xs
first-end p xs i before past = let within : position_or_len p xs ≤ length xs = first-within p xs in omega arith

-- a search among those behind
pub find-behind : (q p : Held → Bool) → ((h : Held) → p h ≡ false → q h ≡ false) → (n : ℕ) (hs : List Held) → n ≤ position_or_len p hs → find q (drop n hs) ≡ find q hs
find-behind q p weaker zero hs before = refl
find-behind q p weaker (suc n) [] before = refl
find-behind q p weaker (suc n) (h ∷ hs) before =
    elim (cases_Bool (p h)) [
      | inl passes ↦ (let none : suc n ≤ 0 = rw passes at before in absurd (omega arith))
      | inr fails ↦ (let fails_q : q h ≡ false = weaker h fails in
          let rest : suc n ≤ 1 + position_or_len p hs = rw fails at before in
          rw fails_q (find-behind q p weaker n hs (omega arith)))
    ]

pub rises-behind : (f : Held → ℕ) (n low high : ℕ) (hs : List Held) → IsTrue (rises f low high hs) → (from : ℕ) × IsTrue (rises f from high (drop n hs))
rises-behind f zero low high hs rise = (low, rise)
rises-behind f (suc n) low high [] rise = (low, rise)
rises-behind f (suc n) low high (h ∷ hs) rise = rises-behind f n (f h) high hs (and_parts (nat_le low (f h)) (rises f (f h) high hs) rise).1

no-bar-from : (line barrier low high : ℕ) (hs : List Held) → IsTrue (rises (λ h. h.barrier) low high hs) → barrier ≤ low → find (is_barring line barrier) hs ≡ None
no-bar-from line barrier low high [] rise above = refl
no-bar-from line barrier low high (h ∷ hs) rise above =
    let parts = and_parts (nat_le low h.barrier) (rises (λ h. h.barrier) h.barrier high hs) rise in
    let higher : low ≤ h.barrier = leb-true low h.barrier parts.0 in
    let not_below : nat_lt h.barrier barrier ≡ false = le-ltb h.barrier barrier (omega arith) in
    elim (cases_Bool (is_waiting h)) [
      | inl waits ↦ elim (cases_Bool (is_on line h.store)) [
        | inl on ↦ rw (waits, on) (no-bar-from line barrier h.barrier high hs parts.1 (omega arith))
        | inr off ↦ rw (waits, off, not_below) (no-bar-from line barrier h.barrier high hs parts.1 (omega arith))
      ]
      | inr drained ↦ rw drained (no-bar-from line barrier h.barrier high hs parts.1 (omega arith))
    ]

-- a store with as high a number ends the search for one that bars
pub no-bar : (line barrier i : ℕ) (d : Held) (hs : List Held) → i < length hs → (low : ℕ) × (high : ℕ) × IsTrue (rises (λ h. h.barrier) low high (drop i hs))
    → barrier ≤ (get_or hs i d).barrier → find (is_barring line barrier) (drop i hs) ≡ None
no-bar line barrier i d hs within (low, high, rise) above =
    let h : Held = get_or hs i d in
    let here : drop i hs ≡ get_or hs i d ∷ drop (i + 1) hs = drop_more hs i d within in
    let rise_here : IsTrue (rises (λ h. h.barrier) low high (get_or hs i d ∷ drop (i + 1) hs)) = rw here at rise in
    let parts = and_parts (nat_le low (get_or hs i d).barrier) (rises (λ h. h.barrier) (get_or hs i d).barrier high (drop (i + 1) hs)) rise_here in
    let again : nat_le (get_or hs i d).barrier (get_or hs i d).barrier ≡ true = le-leb (get_or hs i d).barrier (get_or hs i d).barrier (omega arith) in
    let from_here : IsTrue (rises (λ h. h.barrier) (get_or hs i d).barrier high (get_or hs i d ∷ drop (i + 1) hs)) = rw again parts.1 in
    ap (find (is_barring line barrier)) here ∙ no-bar-from line barrier (get_or hs i d).barrier high (get_or hs i d ∷ drop (i + 1) hs) from_here above

-- the barrier number of the youngest of some stores, or this number where there are none
abbrev pub youngest_barrier : ℕ → List Held → ℕ
youngest_barrier barrier [] = barrier
youngest_barrier barrier (h ∷ hs) = youngest_barrier h.barrier hs

-- where they rise it is the greatest
youngest_greatest : (low high : ℕ) (hs : List Held) → IsTrue (rises (λ h. h.barrier) low high hs) → youngest_barrier low hs ≡ max low (greatest_barrier hs)
youngest_greatest low high [] rise = omega arith
youngest_greatest low high (h ∷ hs) rise =
    let parts = and_parts (nat_le low h.barrier) (rises (λ h. h.barrier) h.barrier high hs) rise in
    let higher : low ≤ h.barrier = leb-true low h.barrier parts.0 in
    let rest = youngest_greatest h.barrier high hs parts.1 in
    omega arith

rises-lower : (f : Held → ℕ) (low from high : ℕ) (hs : List Held) → low ≤ from → IsTrue (rises f from high hs) → IsTrue (rises f low high hs)
rises-lower f low from high [] below rise = (let bound : from ≤ high = leb-true from high rise in le-leb low high (omega arith))
rises-lower f low from high (h ∷ hs) below rise =
    let parts = and_parts (nat_le from (f h)) (rises f (f h) high hs) rise in
    let higher : from ≤ f h = leb-true from (f h) parts.0 in
    and_from (nat_le low (f h)) (rises f (f h) high hs) (le-leb low (f h) (omega arith)) parts.1

-- what is kept of a rising list rises
rises-filter : (f : Held → ℕ) (p : Held → Bool) (low high : ℕ) (hs : List Held) → IsTrue (rises f low high hs) → IsTrue (rises f low high (filter p hs))
rises-filter f p low high [] rise = rise
rises-filter f p low high (h ∷ hs) rise =
    let parts = and_parts (nat_le low (f h)) (rises f (f h) high hs) rise in
    let rest = rises-filter f p (f h) high hs parts.1 in
    elim (cases_Bool (p h)) [
      | inl kept ↦ rw kept (and_from (nat_le low (f h)) (rises f (f h) high (filter p hs)) parts.0 rest)
      | inr out ↦ rw out (rises-lower f low (f h) high (filter p hs) (leb-true low (f h) parts.0) rest)
    ]

rises-bound : (f : Held → ℕ) (low high : ℕ) (hs : List Held) → IsTrue (rises f low high hs) → low ≤ high
rises-bound f low high [] rise = leb-true low high rise
rises-bound f low high (h ∷ hs) rise =
    let parts = and_parts (nat_le low (f h)) (rises f (f h) high hs) rise in
    let higher : low ≤ f h = leb-true low (f h) parts.0 in
    let rest : f h ≤ high = rises-bound f (f h) high hs parts.1 in
    omega arith

rises-take : (f : Held → ℕ) (n low high : ℕ) (hs : List Held) → IsTrue (rises f low high hs) → IsTrue (rises f low high (take n hs))
rises-take f zero low high hs rise = le-leb low high (rises-bound f low high hs rise)
rises-take f (suc n) low high [] rise = rise
rises-take f (suc n) low high (h ∷ hs) rise =
    let parts = and_parts (nat_le low (f h)) (rises f (f h) high hs) rise in
    and_from (nat_le low (f h)) (rises f (f h) high (take n hs)) parts.0 (rises-take f n (f h) high hs parts.1)

pub taken-rises : (line n high : ℕ) (held : List Held) → IsTrue (rises (λ h. h.barrier) 0 high held)
    → IsTrue (rises (λ h. h.barrier) 0 high (take n (filter (is_waiting_on line) held)))
taken-rises line n high held rise =
    rises-take (λ h. h.barrier) n 0 high (filter (is_waiting_on line) held) (rises-filter (λ h. h.barrier) (is_waiting_on line) 0 high held rise)

-- the youngest of some stores
youngest-at : (held hs : List Held) (places : List ℕ) (place other : ℕ) → AreAt held places hs → Some place ≡ slice_get places (length places - 1)
    → option_map_or (λ h. h.barrier) (slice_get held place) 0 ≡ youngest_barrier other hs
youngest-at held hs [] place other at last = absurd (cc last)
youngest-at held [] (p ∷ places) place other at last = absurd (cc at)
youngest-at held (h ∷ []) (p ∷ []) place other at last =
    let same : place ≡ p = cc last in
    let there : slice_get held p ≡ Some h = cc at in
    ap (λ k. option_map_or (λ (h : Held). h.barrier) (slice_get held k) 0) same ∙ ap (λ (o : Option Held). option_map_or (λ h. h.barrier) o 0) there
youngest-at held (h ∷ g ∷ hs) (p ∷ []) place other at last = absurd (cc at)
youngest-at held (h ∷ []) (p ∷ q ∷ places) place other at last = absurd (cc at)
youngest-at held (h ∷ g ∷ hs) (p ∷ q ∷ places) place other at last =
    let end : length (p ∷ q ∷ places) - 1 ≡ suc (length (q ∷ places) - 1) = omega arith in
    youngest-at held (g ∷ hs) (q ∷ places) place h.barrier (cc at) (last ∙ ap (slice_get (p ∷ q ∷ places)) end)

pub greatest-at : (held hs : List Held) (places : List ℕ) (place high : ℕ) → AreAt held places hs → IsTrue (rises (λ h. h.barrier) 0 high hs)
    → Some place ≡ slice_get places (length places - 1) → option_map_or (λ h. h.barrier) (slice_get held place) 0 ≡ greatest_barrier hs
greatest-at held hs places place high at rise last =
    let greatest = youngest_greatest 0 high hs rise in
    youngest-at held hs places place 0 at last ∙ omega (arith, greatest)

-- of no stores
pub greatest-none : (held hs : List Held) (places : List ℕ) → AreAt held places hs → length places ≡ 0 → 0 ≡ greatest_barrier hs
greatest-none held [] places at none = refl
greatest-none held (h ∷ hs) [] at none = absurd (cc at)
greatest-none held (h ∷ hs) (p ∷ places) at none = absurd (omega arith)

-- by halves
pub from-partition : {X : Type 0} (q p : X → Bool) (xs : List X) (i : ℕ) → ((x : X) → p x ≡ not (q x)) → i ≤ length xs
    → IsPartitionPoint (λ x. q x ≡ true) (λ x. q x ≡ false) xs i → i ≡ position_or_len p xs
from-partition q p [] i opposite within point = omega arith
from-partition q p (x ∷ xs) i opposite within point =
    sym (position_or_len_is p (x ∷ xs) i x within (λ k below. opposite (get_or (x ∷ xs) k x) ∙ ap not (point.0 k x (omega arith) below))
    (λ inside. opposite (get_or (x ∷ xs) i x) ∙ ap not (point.1 i x (omega arith) inside)))

pub all-over : (late : List Late) (at : ℕ) → IsNonDecreasingBy (λ l. l.stamp) late
    → option_map_or (λ l. nat_le l.stamp at) (slice_get late (length late - 1)) true ≡ true → length late ≡ position_or_len (λ l. nat_lt at l.stamp) late
all-over [] at rising over = refl
all-over (l ∷ ls) at rising over =
    let end : length (l ∷ ls) - 1 < length (l ∷ ls) = omega arith in
    let last : slice_get (l ∷ ls) (length (l ∷ ls) - 1) ≡ Some (get_or (l ∷ ls) (length (l ∷ ls) - 1) l) = slice_get-get_or (l ∷ ls) (length (l ∷ ls) - 1) l end in
    let low : (get_or (l ∷ ls) (length (l ∷ ls) - 1) l).stamp ≤ at = leb-true _ at (sym (ap (λ (o : Option Late). option_map_or (λ l. nat_le l.stamp at) o true) last) ∙ over) in
    sym (position_or_len_is (λ (l : Late). nat_lt at l.stamp) (l ∷ ls) (length (l ∷ ls)) l (omega arith)
    (λ k below. let under : (get_or (l ∷ ls) k l).stamp ≤ (get_or (l ∷ ls) (length (l ∷ ls) - 1) l).stamp = rising k (length (l ∷ ls) - 1) l (omega arith) end in
    le-ltb at (get_or (l ∷ ls) k l).stamp (omega arith))
    (λ inside. absurd (omega arith)))

-- those of a line, of which the first fail
pub split-before : (u : Held → Bool) (n : ℕ) (hs : List Held) (k : ℕ) (d : Held) → IsTrue (splits u n hs) → k < n → k < length hs → u (get_or hs k d) ≡ false
split-before u n [] k d split below within = absurd (omega arith)
split-before u zero (h ∷ hs) k d split below within = absurd (omega arith)
split-before u (suc n) (h ∷ hs) zero d split below within = not-true (u h) (and_parts (not (u h)) (splits u n hs) split).0
split-before u (suc n) (h ∷ hs) (suc k) d split below within = split-before u n hs k d (and_parts (not (u h)) (splits u n hs) split).1 (omega arith) (omega arith)

pub split-after : (u : Held → Bool) (n : ℕ) (hs : List Held) (k : ℕ) (d : Held) → IsTrue (splits u n hs) → n ≤ k → k < length hs → u (get_or hs k d) ≡ true
split-after u n [] k d split above within = absurd (omega arith)
split-after u zero (h ∷ hs) zero d split above within = (and_parts (u h) (splits u zero hs) split).0
split-after u zero (h ∷ hs) (suc k) d split above within = split-after u zero hs k d (and_parts (u h) (splits u zero hs) split).1 (omega arith) (omega arith)
split-after u (suc n) (h ∷ hs) zero d split above within = absurd (omega arith)
split-after u (suc n) (h ∷ hs) (suc k) d split above within = split-after u n hs k d (and_parts (not (u h)) (splits u n hs) split).1 (omega arith) (omega arith)

pub split-within : (u : Held → Bool) (n : ℕ) (hs : List Held) → IsTrue (splits u n hs) → n ≤ length hs
split-within u zero hs split = omega arith
split-within u (suc n) [] split = (let none : suc n ≡ 0 = eqb-true (suc n) 0 split in absurd (omega arith))
split-within u (suc n) (h ∷ hs) split = (let rest : n ≤ length hs = split-within u n hs (and_parts (not (u h)) (splits u n hs) split).1 in omega arith)

-- a test of the store at a place
pub test-at : (u : Held → Bool) → List Held → ℕ → Bool
test-at u held place = option_map_or (λ h. not (u h)) (slice_get held place) false

test-is : (u : Held → Bool) (held hs : List Held) (places : List ℕ) (k d : ℕ) (e : Held) → AreAt held places hs → k < length places → test-at u held (get_or places k d) ≡ not (u (get_or hs k e))
unfolding test-at
test-is u held hs [] k d e at within = absurd (omega arith)
test-is u held [] (p ∷ places) k d e at within = absurd (cc at)
test-is u held (h ∷ hs) (p ∷ places) zero d e at within = let there : slice_get held p ≡ Some h = cc at in ap (λ (o : Option Held). option_map_or (λ h. not (u h)) o false) there
test-is u held (h ∷ hs) (p ∷ places) (suc k) d e at within = test-is u held hs places k d e (cc at) (omega arith)

pub after-not : (a b : ℕ) → nat_lt a b ≡ not (nat_le b a)
after-not a b =
    elim (cases_lt a b) [
      | inl below ↦ (let yes_it_is : nat_lt a b ≡ true = lt-ltb a b below in let over : nat_le b a ≡ false = lt-leb b a below in rw (yes_it_is, over) refl)
      | inr above ↦ (let it_is_not : nat_lt a b ≡ false = le-ltb a b above in let under : nat_le b a ≡ true = le-leb b a above in rw (it_is_not, under) refl)
    ]

pub partitioned : (u : Held → Bool) (n : ℕ) (held hs : List Held) (places : List ℕ) → AreAt held places hs → IsTrue (splits u n hs)
    → IsPartitionedBy (λ place. option_map_or (λ h. not (u h)) (slice_get held place) false) places
unfolding test-at
partitioned u n held [] [] at split i j d order within drained = absurd (omega arith)
partitioned u n held (h ∷ hs) [] at split i j d order within drained = absurd (cc at)
partitioned u n held [] (p ∷ places) at split i j d order within drained = absurd (cc at)
partitioned u n held (h ∷ hs) (p ∷ places) at split i j d order within drained =
    let long : length (p ∷ places) ≡ length (h ∷ hs) = at-length held (h ∷ hs) (p ∷ places) at in
    let later : not (u (get_or (h ∷ hs) j h)) ≡ true = sym (test-is u held (h ∷ hs) (p ∷ places) j d h at within) ∙ drained in
    elim (cases_lt j n) [
      | inl below ↦ test-is u held (h ∷ hs) (p ∷ places) i d h at (omega arith) ∙ ap not (split-before u n (h ∷ hs) i h split (omega arith) (omega arith))
      | inr above ↦ (let waits : u (get_or (h ∷ hs) j h) ≡ true = split-after u n (h ∷ hs) j h split above (omega arith) in
          absurd (false≢true (sym (not-true (u (get_or (h ∷ hs) j h)) later) ∙ waits)))
    ]

pub first-among : (u : Held → Bool) (n : ℕ) (held hs : List Held) (places : List ℕ) (i : ℕ) → AreAt held places hs → IsTrue (splits u n hs) → i ≤ length places
    → IsPartitionPoint (λ place. option_map_or (λ h. not (u h)) (slice_get held place) false ≡ true) (λ place. option_map_or (λ h. not (u h)) (slice_get held place) false ≡ false) places i
    → i ≡ position_or_len u hs
unfolding test-at
first-among u n held [] [] i at split within point = omega arith
first-among u n held (h ∷ hs) [] i at split within point = absurd (cc at)
first-among u n held [] (p ∷ places) i at split within point = absurd (cc at)
first-among u n held (h ∷ hs) (p ∷ places) i at split within point =
    let long : length (p ∷ places) ≡ length (h ∷ hs) = at-length held (h ∷ hs) (p ∷ places) at in
    sym (position_or_len_is u (h ∷ hs) i h (omega arith)
    (λ k below. not-true (u (get_or (h ∷ hs) k h)) (sym (test-is u held (h ∷ hs) (p ∷ places) k 0 h at (omega arith)) ∙ point.0 k 0 (omega arith) below))
    (λ inside. not-false (u (get_or (h ∷ hs) i h)) (sym (test-is u held (h ∷ hs) (p ∷ places) i 0 h at (omega arith)) ∙ point.1 i 0 (omega arith) (omega arith))))
