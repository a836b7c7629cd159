use Rattle.std.proofs.Common.{◌≡◌, ℕ, zero, suc, ◌+◌, ◌-◌, ◌<◌, ◌≤◌, ◌==◌, ◌&&◌, ◌||◌, ◌%◌, ◌⊎◌, Bool, true, false, not, if◌then◌else◌, Option, Some, None, option_map, slice_get, get_or, drop, List, [], ◌∷◌, ◌++◌, length, filter, find, reverse, nat_lt, nat_le, IsTrue, refl, sym, ap, ◌∙◌, inl, inr, arith, subst}
use Rattle.std.specs.List.{list_all, take_while, position_or_len}
use Rattle.std.specs.Option.{option_and_then}
use Rattle.std.proofs.lemmas.List.{reverse-append, length-reverse, get_or-reverse, drop_more}
use Rattle.std.proofs.lemmas.Option.{get_or_from_slice_get}
use Rattle.std.proofs.lemmas.List.Folds.{find_at}
use Rattle.std.proofs.lemmas.List.Sums.{take_while-cons}
use Rattle.std.proofs.lemmas.Bool.{cases_Bool, cases_lt, and_parts, and_from, or_cases, not-true, eqb-true, eq-eqb, leb-true, ltb-true, le-ltb, lt-ltb, false≢true}
use Rattle.dt_lists.proofs.Lists.{filter-all, list_all-reverse}
use Rattle.dt_record.specs.declared.accesses.OwnStore.{OwnStore}
use Rattle.dt_record.specs.Memory.{line_of}
use Rattle.dt_record.specs.Lawful.{is_in_ram}
use Rattle.dt_record.specs.Actions.{Held, is_on, is_undrained, store_covers}
use Rattle.dt_stores.specs.declared.answers.Which.{Which}
use Rattle.dt_stores.specs.declared.answers.Which.TheVariants.{All, Line, BeforeWr, BeforeWw}
use Rattle.dt_stores.specs.Indexed.{on_line, splits, rises}
use Rattle.dt_stores.specs.Oldest.{is_asked}
use Rattle.dt_stores.specs.Places.{is_store_place, is_store_width}
use Rattle.dt_stores.proofs.Lists.{filter-reverse}

-- Searches among the stores of a line, and from the first that waits.

-- from the end
ends-so : {X : Type 0} (p : X → Bool) (xs : List X) (x : X) → p x ≡ false → take_while p (xs ++ x ∷ []) ≡ take_while p xs
ends-so p [] x fails = take_while-cons p x [] ∙ (rw fails refl)
ends-so {X} p (y ∷ ys) x fails =
    take_while-cons p y (ys ++ x ∷ []) ∙ ap (λ (l : List X). if p y then y ∷ l else []) (ends-so p ys x fails) ∙ sym (take_while-cons p y ys)

all-pass : {X : Type 0} (p : X → Bool) (xs : List X) → list_all p xs ≡ true → take_while p xs ≡ xs
all-pass p [] all = refl
all-pass {X} p (x ∷ xs) all =
    let parts = and_parts (p x) (list_all p xs) all in
    take_while-cons p x xs ∙ (rw parts.0 (ap (λ (l : List X). x ∷ l) (all-pass p xs parts.1)))

all-from : {X : Type 0} (p : X → Bool) (xs : List X) → IsTrue (splits p zero xs) → list_all p xs ≡ true
all-from p [] split = refl
all-from p (x ∷ xs) split =
    let parts = and_parts (p x) (splits p zero xs) split in
    and_from (p x) (list_all p xs) parts.0 (all-from p xs parts.1)

-- the youngest that pass are those that pass, where the first fail and the others pass
pub youngest-pass : {X : Type 0} (p : X → Bool) (n : ℕ) (xs : List X) → IsTrue (splits p n xs) → take_while p (reverse xs) ≡ reverse (filter p xs)
youngest-pass p n [] split = refl
youngest-pass p zero (x ∷ xs) split =
    let all : list_all p (x ∷ xs) ≡ true = all-from p (x ∷ xs) split in
    all-pass p (reverse (x ∷ xs)) (list_all-reverse p (x ∷ xs) all) ∙ ap reverse (sym (filter-all p (x ∷ xs) all))
youngest-pass p (suc n) (x ∷ xs) split =
    let parts = and_parts (not (p x)) (splits p n xs) split in
    let fails : p x ≡ false = not-true (p x) parts.0 in
    ap (take_while p) (reverse-append (x ∷ []) xs) ∙ ends-so p (reverse xs) x fails ∙ youngest-pass p n xs parts.1 ∙ (rw fails refl)

-- a search looks at those alone that pass
finds-passing : {X : Type 0} (p : X → Bool) (xs : List X) → find p xs ≡ find p (filter p xs)
finds-passing p [] = refl
finds-passing p (x ∷ xs) =
    elim (cases_Bool (p x)) [
      | inl passes ↦ rw passes (rw passes refl)
      | inr fails ↦ rw fails (finds-passing p xs)
    ]

-- a store that covers a byte stands on the byte's line
aligned : (a w : ℕ) (b : ℕ) → ((w ≡ 1) ⊎ ((w ≡ 2) ⊎ ((w ≡ 4) ⊎ (w ≡ 8)))) → a % w ≡ 0 → a ≤ b → b < a + w → a - a % 64 ≡ b - b % 64
aligned a w b width whole low high =
    elim width [
      | inl one ↦ (let whole : a % 1 ≡ 0 = subst (λ (w : ℕ). a % w ≡ 0) one whole in omega arith)
      | inr wider ↦ elim wider [
        | inl two ↦ (let whole : a % 2 ≡ 0 = subst (λ (w : ℕ). a % w ≡ 0) two whole in omega arith)
        | inr wider ↦ elim wider [
          | inl four ↦ (let whole : a % 4 ≡ 0 = subst (λ (w : ℕ). a % w ≡ 0) four whole in omega arith)
          | inr eight ↦ (let whole : a % 8 ≡ 0 = subst (λ (w : ℕ). a % w ≡ 0) eight whole in omega arith)
        ]
      ]
    ]

widths : (w : ℕ) → is_store_width w ≡ true → (w ≡ 1) ⊎ ((w ≡ 2) ⊎ ((w ≡ 4) ⊎ (w ≡ 8)))
widths w fits =
    elim (or_cases (w == 1) ((w == 2) || ((w == 4) || (w == 8))) fits) [
      | inl one ↦ inl (eqb-true w 1 one)
      | inr rest ↦ elim (or_cases (w == 2) ((w == 4) || (w == 8)) rest) [
        | inl two ↦ inr (inl (eqb-true w 2 two))
        | inr rest ↦ elim (or_cases (w == 4) (w == 8) rest) [
          | inl four ↦ inr (inr (inl (eqb-true w 4 four)))
          | inr eight ↦ inr (inr (inr (eqb-true w 8 eight)))
        ]
      ]
    ]

covers-on : (addr : ℕ) (s : OwnStore) → is_store_place s ≡ true → store_covers addr s ≡ true → is_on (line_of addr) s ≡ true
covers-on addr s placed covers =
    let place = and_parts (is_store_width s.width) ((s.addr % s.width == 0) && is_in_ram s.addr) placed in
    let whole = and_parts (s.addr % s.width == 0) (is_in_ram s.addr) place.1 in
    let bounds = and_parts (nat_le s.addr addr) (nat_lt addr (s.addr + s.width)) covers in
    eq-eqb (line_of s.addr) (line_of addr) (aligned s.addr s.width addr (widths s.width place.0) (eqb-true (s.addr % s.width) 0 whole.0) (leb-true s.addr addr bounds.0) (ltb-true addr (s.addr + s.width) bounds.1))

-- so those that cover it are found among the stores of the line
covering : (addr at : ℕ) (held : List Held) → list_all (λ h. is_store_place h.store) held ≡ true
    → filter (λ h. store_covers addr h.store) (filter (is_undrained at) (on_line (line_of addr) held)) ≡ filter (λ h. store_covers addr h.store) (filter (is_undrained at) held)
covering addr at [] placed = refl
covering addr at (h ∷ hs) placed =
    let parts = and_parts (is_store_place h.store) (list_all (λ h. is_store_place h.store) hs) placed in
    let rest = covering addr at hs parts.1 in
    elim (cases_Bool (is_on (line_of addr) h.store)) [
      | inl on ↦ rw on (elim (cases_Bool (is_undrained at h)) [
        | inl waits ↦ rw waits (elim (cases_Bool (store_covers addr h.store)) [
          | inl covers ↦ rw covers (ap (λ (l : List Held). h ∷ l) rest)
          | inr misses ↦ rw misses rest
        ])
        | inr drained ↦ rw drained rest
      ])
      | inr off ↦ (let misses : store_covers addr h.store ≡ false = missed addr h parts.0 off in
          rw off (elim (cases_Bool (is_undrained at h)) [
            | inl waits ↦ rw waits (rw misses rest)
            | inr drained ↦ rw drained rest
          ]))
    ]
  where
    missed : (addr : ℕ) (h : Held) → is_store_place h.store ≡ true → is_on (line_of addr) h.store ≡ false → store_covers addr h.store ≡ false
    missed addr h place off =
        elim (cases_Bool (store_covers addr h.store)) [
          | inl covers ↦ absurd (false≢true (sym off ∙ covers-on addr h.store place covers))
          | inr misses ↦ misses
        ]

pub forwards : (addr at n : ℕ) (held : List Held) → list_all (λ h. is_store_place h.store) held ≡ true → IsTrue (splits (is_undrained at) n (on_line (line_of addr) held))
    → find (λ h. store_covers addr h.store) (take_while (is_undrained at) (reverse (on_line (line_of addr) held)))
    ≡ find (λ h. store_covers addr h.store) (reverse (filter (is_undrained at) held))
forwards addr at n held placed split =
    let covers : Held → Bool = λ h. store_covers addr h.store in
    let among : List Held → Option Held = λ l. find covers (reverse l) in
    let passing : (xs : List Held) → find covers (reverse xs) ≡ find covers (reverse (filter covers xs)) =
    λ xs. finds-passing covers (reverse xs) ∙ ap (find covers) (filter-reverse covers xs) in
    ap (find covers) (youngest-pass (is_undrained at) n (on_line (line_of addr) held) split)
    ∙ passing (filter (is_undrained at) (on_line (line_of addr) held))
    ∙ ap among (covering addr at held placed)
    ∙ sym (passing (filter (is_undrained at) held))

-- the oldest of a line
pub oldest-on : (line at : ℕ) (held : List Held) → find (is_undrained at) (on_line line held) ≡ find (λ h. is_on line h.store) (filter (is_undrained at) held)
oldest-on line at [] = refl
oldest-on line at (h ∷ hs) =
    elim (cases_Bool (is_on line h.store)) [
      | inl on ↦ rw on (elim (cases_Bool (is_undrained at h)) [ inl waits ↦ rw waits (rw on refl) | inr drained ↦ rw drained (oldest-on line at hs) ])
      | inr off ↦ rw off (elim (cases_Bool (is_undrained at h)) [ inl waits ↦ rw waits (rw off (oldest-on line at hs)) | inr drained ↦ rw drained (oldest-on line at hs) ])
    ]

-- a test that fails for all later stores once it fails
pub falls : (Held → Bool) → List Held → Bool
falls a [] = true
falls a (h ∷ hs) = (a h || list_all (λ x. not (a x)) hs) && falls a hs

none-passes : (a u : Held → Bool) (hs : List Held) → list_all (λ x. not (a x)) hs ≡ true → find a (filter u hs) ≡ None
none-passes a u [] none = refl
none-passes a u (h ∷ hs) none =
    let parts = and_parts (not (a h)) (list_all (λ x. not (a x)) hs) none in
    let fails : a h ≡ false = not-true (a h) parts.0 in
    elim (cases_Bool (u h)) [
      | inl in_it ↦ rw in_it (rw fails (none-passes a u hs parts.1))
      | inr out ↦ rw out (none-passes a u hs parts.1)
    ]

if_passes : (Held → Bool) → Held → Option Held
if_passes a h = if a h then Some h else None

-- so the first that passes both is the first that passes the other, if any
oldest-asked : (a u : Held → Bool) (hs : List Held) → falls a hs ≡ true → find a (filter u hs) ≡ option_and_then (if_passes a) (find u hs)
unfolding if_passes falls
oldest-asked a u [] fall = refl
oldest-asked a u (h ∷ hs) fall =
    let parts = and_parts (a h || list_all (λ x. not (a x)) hs) (falls a hs) fall in
    elim (cases_Bool (u h)) [
      | inl in_it ↦ rw in_it (elim (cases_Bool (a h)) [
        | inl passes ↦ rw passes refl
        | inr fails ↦ (let none : list_all (λ x. not (a x)) hs ≡ true = rw fails at parts.0 in rw fails (none-passes a u hs none))
      ])
      | inr out ↦ rw out (oldest-asked a u hs parts.1)
    ]

none-below : (f : Held → ℕ) (limit low high : ℕ) (hs : List Held) → IsTrue (rises f low high hs) → limit ≤ low → list_all (λ x. not (nat_lt (f x) limit)) hs ≡ true
none-below f limit low high [] rise above = refl
none-below f limit low high (h ∷ hs) rise above =
    let parts = and_parts (nat_le low (f h)) (rises f (f h) high hs) rise in
    let higher : low ≤ f h = leb-true low (f h) parts.0 in
    let not_below : nat_lt (f h) limit ≡ false = le-ltb (f h) limit (omega arith) in
    and_from (not (nat_lt (f h) limit)) (list_all (λ x. not (nat_lt (f x) limit)) hs) (ap not not_below) (none-below f limit (f h) high hs parts.1 (omega arith))

falls-rises : (f : Held → ℕ) (limit low high : ℕ) (hs : List Held) → IsTrue (rises f low high hs) → falls (λ h. nat_lt (f h) limit) hs ≡ true
unfolding falls
falls-rises f limit low high [] rise = refl
falls-rises f limit low high (h ∷ hs) rise =
    let parts = and_parts (nat_le low (f h)) (rises f (f h) high hs) rise in
    let later = falls-rises f limit (f h) high hs parts.1 in
    elim (cases_lt (f h) limit) [
      | inl below ↦ (let passes : nat_lt (f h) limit ≡ true = lt-ltb (f h) limit below in rw passes later)
      | inr above ↦ (let fails : nat_lt (f h) limit ≡ false = le-ltb (f h) limit above in
          rw (fails, none-below f limit (f h) high hs parts.1 above) later)
    ]

falls-true : (hs : List Held) → falls (λ h. true) hs ≡ true
unfolding falls
falls-true [] = refl
falls-true (h ∷ hs) = falls-true hs

falls-asked : (ww wr : ℕ) (which : Which) (hs : List Held) → IsTrue (rises (λ h. h.barrier) 0 ww hs) → IsTrue (rises (λ h. h.readers) 0 wr hs)
    → ((line : ℕ) → which ≡ Line line → ⊥) → falls (is_asked ww wr which) hs ≡ true
falls-asked ww wr All hs barriers readers no_line = falls-true hs
falls-asked ww wr (Line line) hs barriers readers no_line = absurd (no_line line refl)
falls-asked ww wr BeforeWr hs barriers readers no_line = falls-rises (λ h. h.readers) wr 0 wr hs readers
falls-asked ww wr BeforeWw hs barriers readers no_line = falls-rises (λ h. h.barrier) ww 0 ww hs barriers

seq-passes : (a : Held → Bool) (o : Option Held) → option_and_then (λ h. if a h then Some h.store.seq else None) o ≡ option_map (λ (h : Held). h.store.seq) (option_and_then (if_passes a) o)
unfolding if_passes falls
seq-passes a None = refl
seq-passes a (Some h) = elim (cases_Bool (a h)) [ inl passes ↦ rw passes refl | inr fails ↦ rw fails refl ]

pub asked-first : (ww wr : ℕ) (which : Which) (at place : ℕ) (hs : List Held) → IsTrue (rises (λ h. h.barrier) 0 ww hs) → IsTrue (rises (λ h. h.readers) 0 wr hs)
    → ((line : ℕ) → which ≡ Line line → ⊥) → place ≡ position_or_len (is_undrained at) hs
    → option_and_then (λ h. if is_asked ww wr which h then Some h.store.seq else None) (slice_get hs place)
    ≡ option_map (λ (h : Held). h.store.seq) (find (is_asked ww wr which) (filter (is_undrained at) hs))
asked-first ww wr which at place hs barriers readers no_line place_is =
    ap (λ p. option_and_then (λ (h : Held). if is_asked ww wr which h then Some h.store.seq else None) (slice_get hs p)) place_is
    ∙ ap (option_and_then (λ (h : Held). if is_asked ww wr which h then Some h.store.seq else None)) (sym (find_at (is_undrained at) hs))
    ∙ seq-passes (is_asked ww wr which) (find (is_undrained at) hs)
    ∙ ap (option_map (λ (h : Held). h.store.seq)) (sym (oldest-asked (is_asked ww wr which) (is_undrained at) hs (falls-asked ww wr which hs barriers readers no_line)))

-- one store after another, from the youngest on
pub record IsYoungest (hs : List Held) (size i : ℕ) (e : Held) : Type 0 where
  pub long : size ≡ length hs
  pub within : i < size
  pub there : Some e ≡ slice_get hs (size - 1 - i)

next-youngest : (hs : List Held) (size i : ℕ) (e : Held) → IsYoungest hs size i e → drop i (reverse hs) ≡ e ∷ drop (i + 1) (reverse hs)
next-youngest hs size i e young =
    let place : ℕ = size - 1 - i in
    let inside : i < length (reverse hs) = omega (arith, length-reverse hs, young.long, young.within) in
    let in_it : size - 1 - i < length hs = omega (arith, young.long, young.within) in
    let same_place : length hs - 1 - i ≡ size - 1 - i = omega (arith, young.long) in
    let found : get_or hs (size - 1 - i) e ≡ e = get_or_from_slice_get hs (size - 1 - i) e e (sym young.there) in
    let read : get_or (reverse hs) i e ≡ e = get_or-reverse hs i e (omega (arith, young.long, young.within)) ∙ ap (λ k. get_or hs k e) same_place ∙ found in
    drop_more (reverse hs) i e inside ∙ ap (λ (h : Held). h ∷ drop (i + 1) (reverse hs)) read

pub youngest : (hs : List Held) (size i : ℕ) (e : Held) → size ≡ length hs → i < size → Some e ≡ slice_get hs (size - 1 - i) → IsYoungest hs size i e
youngest hs size i e long within there = record { long = long; within = within; there = there }

at-next : (c u : Held → Bool) (hs : List Held) (size i : ℕ) (e : Held) → IsYoungest hs size i e
    → find c (take_while u (drop i (reverse hs))) ≡ find c (if u e then e ∷ take_while u (drop (i + 1) (reverse hs)) else [])
at-next c u hs size i e young = ap (λ (l : List Held). find c (take_while u l)) (next-youngest hs size i e young) ∙ ap (find c) (take_while-cons u e (drop (i + 1) (reverse hs)))

pub stops : (c u : Held → Bool) (hs : List Held) (size i : ℕ) (e : Held) → IsYoungest hs size i e → u e ≡ false → find c (take_while u (drop i (reverse hs))) ≡ None
stops c u hs size i e young drained = at-next c u hs size i e young ∙ (rw drained refl)

pub hits : (c u : Held → Bool) (hs : List Held) (size i : ℕ) (e : Held) → IsYoungest hs size i e → u e ≡ true → c e ≡ true → find c (take_while u (drop i (reverse hs))) ≡ Some e
hits c u hs size i e young waits covers = at-next c u hs size i e young ∙ (rw waits (rw covers refl))

pub misses : (c u : Held → Bool) (hs : List Held) (size i : ℕ) (e : Held) → IsYoungest hs size i e → u e ≡ true → c e ≡ false
    → find c (take_while u (drop i (reverse hs))) ≡ find c (take_while u (drop (i + 1) (reverse hs)))
misses c u hs size i e young waits not_it = at-next c u hs size i e young ∙ (rw waits (rw not_it refl))

pub no-youngest : {X : Type 0} (hs : List Held) (size i : ℕ) → size ≡ length hs → i < size → None ≡ slice_get hs (size - 1 - i) → X
no-youngest hs size i long within none =
    let inside : size - 1 - i < length hs = omega arith in
    first_none hs (size - 1 - i) inside none
  where
    first_none : {X : Type 0} (hs : List Held) (k : ℕ) → k < length hs → None ≡ slice_get hs k → X
    first_none [] k inside none = absurd (omega arith)
    first_none (h ∷ hs) zero inside none = absurd (cc none)
    first_none (h ∷ hs) (suc k) inside none = first_none hs k (omega arith) none
